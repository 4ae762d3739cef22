use Rattle.std.proofs.Common.{◌≡◌, false, take}
use Rattle.std.specs.List.{list_any}
use Rattle.rw_domain.specs.NumberPlaces.{touches}
use Rattle.rw_domain.proofs.holes.is_free.Given as goal

abbrev pub invariant-loop-hole : goal.invariant-loop-hole
invariant-loop-hole l = list_any (touches l.region l.start l.end) (take l.hole-index l.list) ≡ false
