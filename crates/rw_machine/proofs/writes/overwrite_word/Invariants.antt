use Rattle.std.proofs.Common.{◌≡◌, take}
use Rattle.rw_domain.specs.Eight.{eight_of}
use Rattle.rw_machine.specs.Running.{row_written}
use Rattle.rw_machine.proofs.writes.overwrite_word.Given as goal

abbrev pub invariant-loop-i : goal.invariant-loop-i
invariant-loop-i g l = l.row ≡ row_written l.initial.row l.offset (take l.i (eight_of l.bytes))
