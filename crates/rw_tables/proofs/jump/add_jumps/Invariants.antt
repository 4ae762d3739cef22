use Rattle.std.proofs.Common.{◌-◌}
use Rattle.rw_tables.proofs.Walk.{IsAt}
use Rattle.rw_tables.proofs.jump.add_jumps.Given as goal

abbrev pub decreases-loop-at : goal.decreases-loop-at
decreases-loop-at l = l.span.end - l.at

abbrev pub invariant-loop-at : goal.invariant-loop-at
invariant-loop-at l = IsAt l.functions l.number l.initial.jumps.items l.at l.seen l.jumps.items
