use Rattle.std.proofs.Common.{◌≡◌}
use Rattle.rw_tables.proofs.Walk.{jumps_before}
use Rattle.rw_tables.proofs.jump.jumps_of.Given as goal

abbrev pub invariant-loop-number : goal.invariant-loop-number
invariant-loop-number l = l.jumps.items ≡ jumps_before l.functions l.number
