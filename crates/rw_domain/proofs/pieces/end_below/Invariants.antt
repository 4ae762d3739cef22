use Rattle.std.proofs.Common.{ℕ, ◌+◌, ◌^◌, ◌<◌, ◌≡◌}
use Rattle.std.specs.Prelude.{slice_get, slice_index, Some}
use Rattle.rw_domain.specs.declared.place.Region.{Region}
use Rattle.rw_domain.proofs.pieces.end_below.Given as goal

abbrev pub invariant-loop-number : goal.invariant-loop-number
invariant-loop-number l = (r : ℕ) (region : Region) → r < l.number → slice_get l.regions r ≡ Some region → slice_index l.bases r + region.size < 2 ^ 64
