use Rattle.std.proofs.Common.{◌≡◌}
use Rattle.rw_machine.specs.Rows.{front_replaced}
use Rattle.rw_machine.proofs.writes.replace_front.Given as goal

abbrev pub invariant-loop-i : goal.invariant-loop-i
invariant-loop-i g l = l.row ≡ front_replaced l.initial.row l.i l.b
