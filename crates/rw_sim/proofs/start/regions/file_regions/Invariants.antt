use Rattle.std.proofs.Common.{◌≡◌, ◌++◌, map, take}
use Rattle.rw_code.specs.Ground.{copied_region, kept_region}
use Rattle.rw_sim.proofs.start.regions.file_regions.Given as goal

abbrev pub invariant-loop-section : goal.invariant-loop-section
invariant-loop-section l = l.regions.items ≡ map kept_region (take l.section-index l.section-items)

abbrev pub invariant-loop-copy : goal.invariant-loop-copy
invariant-loop-copy l = l.regions.items ≡ l.initial.regions.items ++ map copied_region (take l.copy-index l.copy-items)
