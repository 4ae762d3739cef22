-- What regions that are laid out have, and where they are.
use Rattle.std.proofs.Common.{◌≡◌, ℕ, ◌+◌, ◌<◌, List, length, Some, None, true, refl, sym, ap, ◌∙◌}
use Rattle.std.specs.Prelude.{slice_get, slice_index}
use Rattle.std.proofs.lemmas.Option.{slice_get_within}
use Rattle.rw_words.specs.Addresses.{Addresses}
use Rattle.rw_domain.specs.declared.place.Region.{Region}
use Rattle.rw_domain.specs.declared.place.Hole.{Hole}
use Rattle.rw_domain.specs.Placed.{Placed}
use Rattle.rw_domain.specs.NumberPlaces.{is_byte_of, is_writable, base_of}
use Rattle.rw_domain.specs.RegionsLaidOut.{IsPlacedAt, ArePlaced, RegionsAreLaidOut}
use Rattle.rw_domain.proofs.RegionBytes.{IsByte, byte-of}

-- two regions of the words share no byte
pub words-apart : (l : Addresses) (words numbers : Placed) → RegionsAreLaidOut l words numbers → (r s o p : ℕ) → is_byte_of words.regions words.holes r o ≡ true → is_byte_of words.regions words.holes s p ≡ true → l.region r + o ≡ l.region s + p → r ≡ s
words-apart l words numbers laid r s o p g h e =
    let other : IsByte words.regions words.holes s p = byte-of words.regions words.holes s p h in
    let base : base_of numbers s ≡ l.region s = laid.bases s (slice_get_within words.regions s other.region other.at) in
    laid.apart r s o p g (laid.bytes s p h) (e ∙ ap (λ z. z + p) (sym base))

-- The regions of the words are laid out where those of the numbers are placed, each of which has the bytes of one of the
-- words, and may be written where that may.
pub placed-laid : (l : Addresses) (words numbers : Placed) → ArePlaced numbers.regions numbers.holes l.region
    → ((r : ℕ) (region : Region) → slice_get words.regions r ≡ Some region → IsPlacedAt (l.region r) region)
    → ((r : ℕ) → r < length words.regions → base_of numbers r ≡ l.region r) → ((s : ℕ) → s < length numbers.regions → base_of numbers s ≡ l.region s)
    → ((r o : ℕ) → is_byte_of words.regions words.holes r o ≡ true → is_byte_of numbers.regions numbers.holes r o ≡ true)
    → ((r : ℕ) → is_writable words.regions r ≡ true → is_writable numbers.regions r ≡ true)
    → numbers.canary ≡ words.canary → words.canary < length words.regions → RegionsAreLaidOut l words numbers
placed-laid l words numbers h placed bases all_bases bytes writable canary has_canary = record {
  placed = placed;
  bases = bases;
  bytes = bytes;
  apart = λ r s o p g k e.
      let other : IsByte numbers.regions numbers.holes s p = byte-of numbers.regions numbers.holes s p k in
      let base : base_of numbers s ≡ l.region s = all_bases s (slice_get_within numbers.regions s other.region other.at) in
      h.apart r s o p (bytes r o g) k (e ∙ ap (λ z. z + p) base);
  writable = writable;
  canary = canary;
  has_canary = has_canary;
}

-- regions that are the same over words and over numbers are laid out where they are placed
pub same-laid : (l : Addresses) (regions : List Region) (holes : List Hole) (bases : List ℕ) (canary : ℕ) → ArePlaced regions holes l.region → ((r : ℕ) → r < length regions → slice_index bases r ≡ l.region r) → canary < length regions
    → RegionsAreLaidOut l (record { regions = regions; bases = None; holes = holes; canary = canary }) (record { regions = regions; bases = Some bases; holes = holes; canary = canary })
same-laid l regions holes bases canary h at within = record {
  placed = h.each;
  bases = at;
  bytes = λ r o g. g;
  apart = λ r s o p g k e.
      let other : IsByte regions holes s p = byte-of regions holes s p k in
      let base : slice_index bases s ≡ l.region s = at s (slice_get_within regions s other.region other.at) in
      h.apart r s o p g k (e ∙ ap (λ z. z + p) base);
  writable = λ r g. g;
  canary = refl;
  has_canary = within;
}
