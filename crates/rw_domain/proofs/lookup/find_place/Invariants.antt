use Rattle.rw_base.proofs.First.{CleanBelow}
use Rattle.rw_domain.specs.NumberPlaces.{place_at}
use Rattle.rw_domain.proofs.lookup.find_place.Given as goal

abbrev pub invariant-loop-number : goal.invariant-loop-number
invariant-loop-number l = CleanBelow (place_at l.regions l.bases l.holes l.address l.len) l.number
