-- Ranges of addresses that belong to one region each, in order, so that a look-up can halve them.
use Rattle.std.specs.Prelude.{ℕ, ◌+◌, ◌-◌, ◌^◌, ◌<◌, ◌≤◌, ◌≡◌, true, List, slice_get, slice_index, Some}
use Rattle.std.specs.List.{All, AllPairs, Contains}
use Rattle.rw_domain.specs.declared.pieces.Piece.{Piece}
use Rattle.rw_domain.specs.declared.place.Region.{Region}
use Rattle.rw_domain.specs.declared.place.Hole.{Hole}
use Rattle.rw_domain.specs.NumberPlaces.{is_inside}

-- addresses inside a region, of which there is one at least
pub record IsPiece (regions : List Region) (bases : List ℕ) (holes : List Hole) (p : Piece) : Type 0 where
  pub region : Region
  pub at : slice_get regions p.region ≡ Some region
  pub low : slice_index bases p.region ≤ p.start
  pub some : p.start < p.end
  pub inside : is_inside holes region p.region (p.start - slice_index bases p.region) (p.end - slice_index bases p.region) ≡ true

-- one of the pieces has all these addresses, for a region
pub record Holds (pieces : List Piece) (r start end : ℕ) : Type 0 where
  pub piece : Piece
  pub among : Contains pieces piece
  pub is : piece.region ≡ r
  pub low : piece.start ≤ start
  pub high : end ≤ piece.end

-- a range that isn't empty lies in one of the pieces, where it is inside a region
abbrev pub HoldsRange : List Region → List ℕ → List Hole → List Piece → ℕ → ℕ → ℕ → Type 0
HoldsRange regions bases holes pieces r start end =
    (region : Region) → slice_get regions r ≡ Some region → start < end → is_inside holes region r start end ≡ true → Holds pieces r (slice_index bases r + start) (slice_index bases r + end)

pub record AreCut (regions : List Region) (bases : List ℕ) (holes : List Hole) (pieces : List Piece) : Type 0 where
  pub sound : All (IsPiece regions bases holes) pieces
  pub whole : (r start end : ℕ) → HoldsRange regions bases holes pieces r start end

-- by ascending address, and none goes on where the next has begun
pub record AreOrdered (regions : List Region) (bases : List ℕ) (holes : List Hole) (pieces : List Piece) : Type 0 where
  pub cut : AreCut regions bases holes pieces
  pub ascend : AllPairs (λ p q. p.end ≤ q.start) pieces

-- that they are so, and not which piece has which range: a fact that a struct can keep
abbrev pub Ordered : List Region → List ℕ → List Hole → List Piece → Type 0
Ordered regions bases holes pieces = ∥ AreOrdered regions bases holes pieces ∥₁

-- each region ends below 2 ^ 64
abbrev pub EndBelow : List Region → List ℕ → Type 0
EndBelow regions bases = (r : ℕ) (region : Region) → slice_get regions r ≡ Some region → slice_index bases r + region.size < 2 ^ 64
