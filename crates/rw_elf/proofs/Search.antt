-- Ranges of addresses that ascend without an overlap: an address lies in the last one that begins at or below it, if in any.
use Rattle.std.proofs.Common.{◌≡◌, ℕ, ◌-◌, ◌<◌, ◌≤◌, Bool, true, false, ◌&&◌, cond, nat_le, nat_lt, List, [], ◌∷◌, length, get_or, slice_get, Option, Some, None, All, refl, ap, ◌∙◌, arith, inl, inr}
use Rattle.std.specs.List.{AllPairs, find, position, position_or_len}
use Rattle.std.specs.List.Sorted.{IsNonDecreasingBy}
use Rattle.std.proofs.lemmas.Bool.{cases_lt, cases_eq}
use Rattle.std.proofs.lemmas.Bool.Decides.{nat_tests}
use Rattle.std.proofs.lemmas.List.Sums.{fails_before_first, position_or_len_is}
use Rattle.std.proofs.lemmas.Option.{slice_get-get_or, slice_get_past}
use Rattle.std.proofs.lemmas.List.Folds.{find_at}
use Rattle.std.proofs.lemmas.List.Quantifiers.{position-Some}
use Rattle.rw_elf.specs.Ranges.{CountsUpTo}

-- the first place that passes, and none
pub at_length : (n m : ℕ) → n ≡ m → ◌≡◌ {A = Option ℕ} (cond (nat_lt n m) (Some n) None) None
at_length n m same = grind (arith, nat_tests)

pub at_place : (n m k : ℕ) → n ≡ k → k < m → ◌≡◌ {A = Option ℕ} (cond (nat_lt n m) (Some n) None) (Some k)
at_place n m k same within = grind (arith, nat_tests)

pub position-none : {X : Type 0} (p : X → Bool) (xs : List X) → ((k : ℕ) (d : X) → k < length xs → p (get_or xs k d) ≡ false) → position p xs ≡ None
position-none p [] h = refl
position-none p (x ∷ xs) h =
    at_length (position_or_len p (x ∷ xs)) (length (x ∷ xs)) (position_or_len_is p (x ∷ xs) (length (x ∷ xs)) x (omega arith) (λ k low. h k x low) (λ past. absurd (omega arith)))

pub position-at : {X : Type 0} (p : X → Bool) (xs : List X) (i : ℕ) (d : X) → i < length xs → p (get_or xs i d) ≡ true → ((k : ℕ) → k < i → p (get_or xs k d) ≡ false) → position p xs ≡ Some i
position-at p xs i d within here before =
    at_place (position_or_len p xs) (length xs) i (position_or_len_is p xs i d (omega arith) before (λ _. here)) within

past-place : (n m : ℕ) → ◌≡◌ {A = Option ℕ} (cond (nat_lt n m) (Some n) None) None → m ≤ n
past-place n m h =
    elim (cases_lt n m) [
      | inl low ↦ let test : nat_lt n m ≡ true = grind (arith, nat_tests) in let gone : ◌≡◌ {A = Option ℕ} (Some n) None = simp test at h in absurd (cc)
      | inr high ↦ high
    ]

here-place : (n m k : ℕ) → ◌≡◌ {A = Option ℕ} (cond (nat_lt n m) (Some n) None) (Some k) → n ≡ k
here-place n m k h =
    elim (cases_lt n m) [
      | inl low ↦ let test : nat_lt n m ≡ true = grind (arith, nat_tests) in let same : ◌≡◌ {A = Option ℕ} (Some n) (Some k) = simp test at h in cc
      | inr high ↦ let test : nat_lt n m ≡ false = grind (arith, nat_tests) in let gone : ◌≡◌ {A = Option ℕ} None (Some k) = simp test at h in absurd (cc)
    ]

-- where no place passes, none does
pub position-never : {X : Type 0} (p : X → Bool) (xs : List X) (k : ℕ) (d : X) → position p xs ≡ None → k < length xs → p (get_or xs k d) ≡ false
position-never p xs k d none within = fails_before_first p xs k d (omega (arith, within, past-place (position_or_len p xs) (length xs) none))

-- the item at the place that is found
pub find-at : {X : Type 0} (p : X → Bool) (xs : List X) (n : ℕ) (d : X) → position p xs ≡ Some n → find p xs ≡ Some (get_or xs n d)
find-at p xs n d found =
    find_at p xs ∙ ap (slice_get xs) (here-place (position_or_len p xs) (length xs) n found) ∙ slice_get-get_or xs n d (position-Some p xs n d found).0

pub find-none : {X : Type 0} (p : X → Bool) (xs : List X) → position p xs ≡ None → find p xs ≡ None
find-none p xs none = find_at p xs ∙ slice_get_past xs (position_or_len p xs) (past-place (position_or_len p xs) (length xs) none)

outside_above : (s e a : ℕ) → a < s → (nat_le s a && nat_lt a e) ≡ false
outside_above s e a h = grind (arith, nat_tests)

outside_below : (s e a : ℕ) → e ≤ a → (nat_le s a && nat_lt a e) ≡ false
outside_below s e a h = grind (arith, nat_tests)

inside : (s e a : ℕ) → s ≤ a → a < e → (nat_le s a && nat_lt a e) ≡ true
inside s e a low high = grind (arith, nat_tests)

module _ {X : Type 0} (start end : X → ℕ) (xs : List X) (apart : AllPairs (λ x y. end x ≤ start y) xs) where
  -- they ascend
  pub ascending : All (λ x. start x < end x) xs → IsNonDecreasingBy start xs
  ascending some i j d low within =
      elim (cases_eq i j) [
        | inl same ↦ let e : start (get_or xs i d) ≡ start (get_or xs j d) = ap (λ k. start (get_or xs k d)) same in omega arith
        | inr other ↦ let far = apart i j d (omega arith) within in let one = some i d (omega arith) in omega (arith, far, one)
      ]

  module _ (a n : ℕ) (count : CountsUpTo start xs a n) where
    above : (k : ℕ) (d : X) → n ≤ k → k < length xs → (nat_le (start (get_or xs k d)) a && nat_lt a (end (get_or xs k d))) ≡ false
    above k d high within = outside_above _ _ a (count.above k (get_or xs k d) high (slice_get-get_or xs k d within))

    -- none begins at or below the address
    pub search-none : n ≡ 0 → position (λ x. nat_le (start x) a && nat_lt a (end x)) xs ≡ None
    search-none none = position-none _ xs (λ k d within. above k d (omega arith) within)

    -- those before the last that does end at or below it
    before : (k : ℕ) (d : X) → k < n - 1 → (nat_le (start (get_or xs k d)) a && nat_lt a (end (get_or xs k d))) ≡ false
    before k d low =
        let bound = count.within in
        let far = apart k (n - 1) d low (omega (arith, bound)) in
        let last = count.below (n - 1) (get_or xs (n - 1) d) (omega arith) (slice_get-get_or xs (n - 1) d (omega (arith, bound))) in
        outside_below _ _ a (omega (arith, far, last))

    -- the last one that does has it
    pub search-last : (d : X) → 0 < n → a < end (get_or xs (n - 1) d) → position (λ x. nat_le (start x) a && nat_lt a (end x)) xs ≡ Some (n - 1)
    search-last d some high =
        let bound = count.within in
        let low = count.below (n - 1) (get_or xs (n - 1) d) (omega arith) (slice_get-get_or xs (n - 1) d (omega (arith, bound))) in
        position-at _ xs (n - 1) d (omega (arith, bound)) (inside _ _ a low high) (λ k lower. before k d lower)

    -- or it doesn't, and none has it
    pub search-past : (d : X) → 0 < n → end (get_or xs (n - 1) d) ≤ a → position (λ x. nat_le (start x) a && nat_lt a (end x)) xs ≡ None
    search-past d some past = position-none _ xs outside
      where
        outside : (k : ℕ) (e : X) → k < length xs → (nat_le (start (get_or xs k e)) a && nat_lt a (end (get_or xs k e))) ≡ false
        outside k e within =
            elim (cases_lt k (n - 1)) [
              | inl low ↦ before k e low
              | inr high ↦
                  elim (cases_lt k n) [
                    | inl here ↦
                        let same : end (get_or xs k e) ≡ end (get_or xs (n - 1) d) = ap (λ j. end (get_or xs j e)) (let q : k ≡ n - 1 = omega arith in q) ∙ ap end (Rattle.std.proofs.lemmas.List.get_or_default xs (n - 1) e d (omega arith)) in
                        outside_below _ _ a (omega (arith, same))
                    | inr beyond ↦ above k e beyond within
                  ]
            ]
