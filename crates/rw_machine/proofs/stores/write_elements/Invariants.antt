use Rattle.std.proofs.Common.{◌≡◌, ◌-◌, map, length}
use Rattle.rw_machine.specs.Running as Runs
use Rattle.rw_machine.specs.Views.{rows_of}
use Rattle.rw_machine.proofs.stores.write_elements.Given as goal

abbrev pub invariant-loop-i : goal.invariant-loop-i
invariant-loop-i g l =
    let ops = g.D.Domain.over (g.D.Domain.placed l.domain) in
    record {
      rest : Runs.elements_written ops l.fn.step (l.count - l.i) (rows_of l.memory) l.source l.target ≡ Runs.elements_written ops l.fn.step l.fn.count (rows_of l.initial.memory) l.fn.source l.fn.target;
      lengths : map length (rows_of l.memory) ≡ map length (rows_of l.initial.memory);
      undefined : l.memory.undefined ≡ l.initial.memory.undefined;
    }
