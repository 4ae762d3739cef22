use Rattle.std.proofs.Common.{◌≡◌, drop, map, length}
use Rattle.rw_domain.specs.Operators.{Operators}
use Rattle.rw_machine.specs.Step.{all_written}
use Rattle.rw_machine.specs.Views.{rows_of}
use Rattle.rw_machine.proofs.answers.write_all.Given as goal

abbrev pub invariant-loop-w : goal.invariant-loop-w
invariant-loop-w g l = record {
  rest : (ops : Operators g.row.D-Word.Denot g.row.D-Byte.Denot) → all_written ops (map (λ w. (w.0, w.1.items)) (drop l.w-index l.writes)) (rows_of l.memory) ≡ all_written ops (map (λ w. (w.0, w.1.items)) l.writes) (rows_of l.initial.memory);
  lengths : map length (rows_of l.memory) ≡ map length (rows_of l.initial.memory);
  undefined : l.memory.undefined ≡ l.initial.memory.undefined;
}
