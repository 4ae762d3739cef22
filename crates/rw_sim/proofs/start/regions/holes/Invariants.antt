use Rattle.std.proofs.Common.{◌≡◌, take}
use Rattle.std.specs.List.{filter_map}
use Rattle.rw_sim.proofs.Holes.{hole_for}
use Rattle.rw_sim.proofs.start.regions.holes.Given as goal

abbrev pub invariant-loop-copy : goal.invariant-loop-copy
invariant-loop-copy l = l.holes.items ≡ filter_map (hole_for l.picture) (take l.copy-index l.copy-items)
