-- The places of the bytes that pass a test: one byte more, and the first of them from a place on.
use Rattle.std.proofs.Common.{◌≡◌, ℕ, ◌+◌, ◌-◌, ◌<◌, ◌≤◌, Bool, true, false, not, List, [], ◌∷◌, ◌++◌, length, get_or, drop, slice_index, slice_range, Option, Some, None, is_some, refl, sym, ap, ◌∙◌, arith, inl, inr, length-append, length-take, length-drop}
use Rattle.std.specs.List.{list_all}
use Rattle.std.proofs.lemmas.Bool.{cases_lt, cases_Bool, false≢true}
use Rattle.std.proofs.lemmas.List.{get_or_append_left, get_or_push, get_or_default}
use Rattle.std.proofs.lemmas.List.Edits.{get_or-between}
use Rattle.std.proofs.lemmas.List.Folds.{list_all_at}
use Rattle.std.proofs.lemmas.List.Sums.{list_all-from_AllPass}
use Rattle.std.proofs.lemmas.List.Sorted.{IsNonDecreasingBy-push}
use Rattle.std.proofs.lemmas.Bool.Decides.{nat_tests}
use Rattle.rw_base.specs.Rules.{first_from}
use Rattle.rw_base.proofs.First.{none_ahead, some_ahead, first_from-some, first_from-none}
use Rattle.rw_base.specs.Places.{ArePlaces, ArePlacesBelow, place_where}

pub places-none : (test : ℕ → Bool) (bytes : List ℕ) → ArePlacesBelow test 0 bytes []
places-none test bytes = record {
  ascending = λ i j d low high. absurd (omega arith);
  passes = λ k high. absurd (omega arith);
  each = λ i high is. absurd (omega arith);
}

pub places-other : (test : ℕ → Bool) (n : ℕ) (bytes places : List ℕ) → ArePlacesBelow test n bytes places → test (slice_index bytes n) ≡ false → ArePlacesBelow test (n + 1) bytes places
places-other test n bytes places h other = record {
  ascending = h.ascending;
  passes = λ k high. (omega (arith, (h.passes k high).0), (h.passes k high).1);
  each = λ i high is.
      elim (cases_lt i n) [ inl below ↦ h.each i below is | inr above ↦ absurd (false≢true (sym other ∙ (let e : n ≡ i = omega arith in ap (λ x. test (slice_index bytes x)) e ∙ is))) ];
}

pub places-push : (test : ℕ → Bool) (n : ℕ) (bytes places : List ℕ) → ArePlacesBelow test n bytes places → test (slice_index bytes n) ≡ true → ArePlacesBelow test (n + 1) bytes (places ++ n ∷ [])
places-push test n bytes places h here =
    let len : length (places ++ n ∷ []) ≡ length places + 1 = length-append places (n ∷ []) in
    record {
      ascending = IsNonDecreasingBy-push (λ x. x) places n h.ascending (λ d some. let below : get_or places (length places - 1) 0 < n = (h.passes (length places - 1) (omega arith)).0 in let same : get_or places (length places - 1) d ≡ get_or places (length places - 1) 0 = get_or_default places (length places - 1) d 0 (omega arith) in omega arith);
      passes = λ k high.
          elim (cases_lt k (length places)) [
            | inl below ↦ rw (get_or_append_left places (n ∷ []) 0 k below) (omega (arith, (h.passes k below).0), (h.passes k below).1)
            | inr above ↦ rw (get_or_push places n 0 k (omega (arith, len))) (omega arith, here)
          ];
      each = λ i high is.
          elim (cases_lt i n) [
            | inl below ↦ let old = h.each i below is in (old.0, omega (arith, len, old.1), get_or_append_left places (n ∷ []) 0 old.0 old.1 ∙ old.2)
            | inr above ↦ (length places, omega (arith, len), get_or_push places n 0 (length places) refl ∙ omega arith)
          ];
    }

-- how many places come before one
pub record CountsBefore (places : List ℕ) (at j : ℕ) : Type 0 where
  pub before : (k : ℕ) → k < j → slice_index places k < at
  pub after : (k : ℕ) → j ≤ k → k < length places → at ≤ slice_index places k

-- where the places below j are before `at`, and the others aren't
not_before : (test : ℕ → Bool) (bytes places : List ℕ) (at j i : ℕ) → ArePlaces test bytes places → CountsBefore places at j → at ≤ i → i < length bytes → (j < length places → i < slice_index places j) → test (slice_index bytes i) ≡ false
not_before test bytes places at j i h count low high ahead =
    elim (cases_Bool (test (slice_index bytes i))) as (λ _. test (slice_index bytes i) ≡ false) [
      | inl is ↦
          let w = h.each i high is in
          absurd (elim (cases_lt w.0 j) [
            | inl early ↦ omega (arith, count.before w.0 early, w.2)
            | inr late ↦ omega (arith, ahead (omega (arith, w.1)), h.ascending j w.0 0 late w.1, w.2)
          ])
      | inr other ↦ other
    ]

pub first_place-some : (test : ℕ → Bool) (bytes places : List ℕ) (at end j : ℕ) → ArePlaces test bytes places → CountsBefore places at j → end ≤ length bytes → j < length places → slice_index places j < end → first_from (place_where test bytes) at (end - at) ≡ Some (slice_index places j)
first_place-some test bytes places at end j h count within inside found =
    let z : ℕ = slice_index places j in
    let low : at ≤ slice_index places j = count.after j (omega arith) inside in
    some_ahead (place_where test bytes) at (end - at) (slice_index places j) _ low (omega arith)
    (λ i from to. let other : test (slice_index bytes i) ≡ false = not_before test bytes places at j i h count from (omega arith) (λ _. to) in rw other refl)
    (let is : test (slice_index bytes (slice_index places j)) ≡ true = (h.passes j inside).1 in rw is refl)

pub first_place-none : (test : ℕ → Bool) (bytes places : List ℕ) (at end j : ℕ) → ArePlaces test bytes places → CountsBefore places at j → end ≤ length bytes → (j < length places → end ≤ slice_index places j) → first_from (place_where test bytes) at (end - at) ≡ None
first_place-none test bytes places at end j h count within past =
    none_ahead (place_where test bytes) at (end - at)
    (λ i from to. let other : test (slice_index bytes i) ≡ false = not_before test bytes places at j i h count from (omega arith) (λ inside. omega (arith, past inside)) in rw other refl)

-- a range of bytes, by what is found in it
read_range : (bytes : List ℕ) (at end k d : ℕ) → at + k < end → end ≤ length bytes → get_or (slice_range bytes at end) k d ≡ slice_index bytes (at + k)
read_range bytes at end k d inside within = get_or-between bytes at end k d inside ∙ get_or_default bytes (at + k) d 0 (omega arith)

length_range : (bytes : List ℕ) (at end : ℕ) → end ≤ length bytes → length (slice_range bytes at end) ≡ end - at
length_range bytes at end within = omega (arith, length-take (end - at) (drop at bytes), length-drop at bytes)

place_where-fails : (test : ℕ → Bool) (bytes : List ℕ) (i : ℕ) → place_where (λ b. not (test b)) bytes i ≡ None → test (slice_index bytes i) ≡ true
place_where-fails test bytes i none = grind (arith, nat_tests)

place_where-passes : (test : ℕ → Bool) (bytes : List ℕ) (i place : ℕ) → place_where (λ b. not (test b)) bytes i ≡ Some place → test (slice_index bytes i) ≡ false
place_where-passes test bytes i place some = grind (arith, nat_tests)

all_pass : (test : ℕ → Bool) (bytes : List ℕ) (at end : ℕ) → end ≤ length bytes → first_from (place_where (λ b. not (test b)) bytes) at (end - at) ≡ None → list_all test (slice_range bytes at end) ≡ true
all_pass test bytes at end within none =
    list_all-from_AllPass test (slice_range bytes at end) (λ k d inside.
    let bound : k < end - at = omega (arith, length_range bytes at end within) in
    ap test (read_range bytes at end k d (omega arith) within)
    ∙ place_where-fails test bytes (at + k) (first_from-none (place_where (λ b. not (test b)) bytes) at (end - at) none (at + k) (omega arith) (omega arith)))

one_fails : (test : ℕ → Bool) (bytes : List ℕ) (at end place : ℕ) → end ≤ length bytes → first_from (place_where (λ b. not (test b)) bytes) at (end - at) ≡ Some place → list_all test (slice_range bytes at end) ≡ false
one_fails test bytes at end place within some =
    let w = first_from-some (place_where (λ b. not (test b)) bytes) at (end - at) place some in
    let back : at + (w.0 - at) ≡ w.0 = omega (arith, w.1) in
    list_all_at test (slice_range bytes at end) (w.0 - at) 0 (omega (arith, w.1, w.2, length_range bytes at end within))
    (ap test (read_range bytes at end (w.0 - at) 0 (omega (arith, w.1, w.2)) within ∙ ap (λ i. slice_index bytes i) back) ∙ place_where-passes test bytes w.0 place w.3)

-- no byte of a range fails a test exactly where all pass it
pub none_fails : (test : ℕ → Bool) (bytes : List ℕ) (at end : ℕ) (found : Option ℕ) (none : Bool) → end ≤ length bytes → found ≡ first_from (place_where (λ b. not (test b)) bytes) at (end - at) → is_some found ≡ not none → none ≡ list_all test (slice_range bytes at end)
none_fails test bytes at end None true within is said = sym (all_pass test bytes at end within (sym is))
none_fails test bytes at end None false within is said = cc
none_fails test bytes at end (Some place) true within is said = cc
none_fails test bytes at end (Some place) false within is said = sym (one_fails test bytes at end place within (sym is))
