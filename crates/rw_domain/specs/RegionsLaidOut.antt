-- Where regions lie.
use Rattle.std.specs.Prelude.{◌≡◌, ◌⊎◌, ℕ, ◌+◌, ◌%◌, ◌^◌, ◌<◌, ◌≤◌, true, List, length, slice_get, Some, max, min}
use Rattle.std.specs.Int.{IsPowerOfTwo}
use Rattle.rw_words.specs.declared.atom.Cell.{Cell}
use Rattle.rw_words.specs.Addresses.{Addresses, CellStands}
use Rattle.rw_domain.specs.declared.place.Region.{Region}
use Rattle.rw_domain.specs.declared.place.Hole.{Hole}
use Rattle.rw_domain.specs.Placed.{Placed}
use Rattle.rw_domain.specs.NumberPlaces.{is_byte_of, is_writable, base_of}

-- a cell stands for a byte, which is a number below 256
abbrev pub ByteStands : Addresses → Cell → ℕ → Type 0
ByteStands l c b = CellStands l c b × (b < 256)

-- two ranges share no byte: the first end isn't above the last start
abbrev pub Apart : ℕ → ℕ → ℕ → ℕ → Type 0
Apart a n b m = min (a + n) (b + m) ≤ max a b

-- A region is at 4,096 or above, at a multiple of its alignment, which is a power of two (0 counts as 1), and ends at or
-- below 2 ^ 47.
pub record IsPlacedAt (base : ℕ) (region : Region) : Type 0 where
  pub least : 4096 ≤ base
  pub most : base + region.size ≤ 2 ^ 47
  pub power : (region.align ≡ 0) ⊎ IsPowerOfTwo region.align
  pub aligned : base % max 1 region.align ≡ 0

-- each region is at its base, and no two share a byte that isn't in a hole
pub record ArePlaced (regions : List Region) (holes : List Hole) (base : ℕ → ℕ) : Type 0 where
  pub each : (r : ℕ) (region : Region) → slice_get regions r ≡ Some region → IsPlacedAt (base r) region
  pub apart : (r s o p : ℕ) → is_byte_of regions holes r o ≡ true → is_byte_of regions holes s p ≡ true → base r + o ≡ base s + p → r ≡ s

-- The regions of a domain of words lie at these addresses among those of a domain of numbers. There each may be larger,
-- have fewer holes and have another alignment.
pub record RegionsAreLaidOut (l : Addresses) (words numbers : Placed) : Type 0 where
  pub placed : (r : ℕ) (region : Region) → slice_get words.regions r ≡ Some region → IsPlacedAt (l.region r) region
  pub bases : (r : ℕ) → r < length words.regions → base_of numbers r ≡ l.region r
  -- each byte of a region is one of the region with this number among the numbers, and of no other there
  pub bytes : (r o : ℕ) → is_byte_of words.regions words.holes r o ≡ true → is_byte_of numbers.regions numbers.holes r o ≡ true
  pub apart : (r s o p : ℕ) → is_byte_of words.regions words.holes r o ≡ true → is_byte_of numbers.regions numbers.holes s p ≡ true → l.region r + o ≡ base_of numbers s + p → r ≡ s
  pub writable : (r : ℕ) → is_writable words.regions r ≡ true → is_writable numbers.regions r ≡ true
  -- both have the canary in one region
  pub canary : numbers.canary ≡ words.canary
  pub has_canary : words.canary < length words.regions
