use Rattle.std.proofs.Common.{◌≡◌, drop}
use Rattle.rw_machine.specs.Step.{all_put}
use Rattle.rw_machine.specs.Views.{registers_of}
use Rattle.rw_machine.proofs.answers.put_words.Given as goal

abbrev pub invariant-loop-i : goal.invariant-loop-i
invariant-loop-i g l =
    let ops = g.D.Domain.over (g.D.Domain.placed l.domain) in
    all_put ops (drop l.i l.lost) (drop l.i l.words) (registers_of l.registers) ≡ all_put ops l.lost l.words (registers_of l.initial.registers)
