-- The places of the bytes that pass a test.
use Rattle.std.specs.Prelude.{◌≡◌, ℕ, ◌<◌, List, length, slice_index, Bool, true, Option, Some, None, if◌then◌else◌}
use Rattle.std.specs.List.Sorted.{IsNonDecreasing}

-- a place, where its byte passes
abbrev pub place_where : (ℕ → Bool) → List ℕ → ℕ → Option ℕ
place_where test bytes place = if test (slice_index bytes place) then Some place else None

-- the places among the first n whose bytes pass, ascending
pub record ArePlacesBelow (test : ℕ → Bool) (n : ℕ) (bytes places : List ℕ) : Type 0 where
  pub ascending : IsNonDecreasing places
  pub passes : (k : ℕ) → k < length places → (slice_index places k < n) × (test (slice_index bytes (slice_index places k)) ≡ true)
  pub each : (i : ℕ) → i < n → test (slice_index bytes i) ≡ true → (k : ℕ) × (k < length places) × (slice_index places k ≡ i)

-- the places of all bytes that pass
abbrev pub ArePlaces : (ℕ → Bool) → List ℕ → List ℕ → Type 0
ArePlaces test bytes = ArePlacesBelow test (length bytes) bytes
