use Rattle.std.proofs.Common.{◌-◌, length}
use Rattle.rw_live.proofs.Pushing.{Pushed}
use Rattle.rw_live.proofs.graph.push_jumps.Given as goal

abbrev pub invariant-jumps : goal.invariant-jumps
invariant-jumps l = Pushed l.jumps l.from l.to l.at l.initial.work.items l.work.items

abbrev pub decreases-jumps : goal.decreases-jumps
decreases-jumps l = length l.jumps - l.at
