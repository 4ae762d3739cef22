-- Numbers of points, among offsets that ascend.
use Rattle.std.proofs.Common.{◌≡◌, ◌≢◌, ℕ, ◌+◌, ◌-◌, ◌<◌, ◌≤◌, Bool, true, false, cond, nat_lt, ◌==◌, List, [], ◌∷◌, ◌++◌, length, get_or, Option, Some, None, Contains, refl, sym, ap, subst, ◌∙◌, arith, inl, inr, length-append}
use Rattle.std.specs.Prelude.{slice_get}
use Rattle.std.specs.List.{AllPairs, position, position_or_len}
use Rattle.std.specs.List.Sorted.{IsNonDecreasingBy}
use Rattle.std.proofs.lemmas.Bool.{cases_eq, cases_lt, eqb-true}
use Rattle.std.proofs.lemmas.Bool.Decides.{nat_tests}
use Rattle.std.proofs.lemmas.List.Elements.{All-nil, All-push, All-weaker, Contains-push, Contains-append_left}
use Rattle.std.proofs.lemmas.List.Quantifiers.{all_pairs_push}
use Rattle.std.proofs.lemmas.List.Sums.{position_or_len_is, passes_at_first}
use Rattle.std.proofs.lemmas.Option.{slice_get_within, slice_get-get_or, get_or_from_slice_get}
use Rattle.rw_funcs.specs.Points.{Point, is_point}
use Rattle.rw_live.specs.Nodes.{AreOffsets, CountsBelow, number_of}
use Rattle.rw_live.proofs.NodeLaws.{some_same}

-- ---- the first place that passes

at_length : (n m : ℕ) → n ≡ m → ◌≡◌ {A = Option ℕ} (cond (nat_lt n m) (Some n) None) None
at_length n m same = grind (arith, nat_tests)

at_place : (n m k : ℕ) → n ≡ k → k < m → ◌≡◌ {A = Option ℕ} (cond (nat_lt n m) (Some n) None) (Some k)
at_place n m k same within = grind (arith, nat_tests)

from_place : (n m k : ℕ) → ◌≡◌ {A = Option ℕ} (cond (nat_lt n m) (Some n) None) (Some k) → (n ≡ k) × (n < m)
from_place n m k h = by (nat_lt n m) refl h
  where
    by : (t : Bool) → nat_lt n m ≡ t → ◌≡◌ {A = Option ℕ} (cond t (Some n) None) (Some k) → (n ≡ k) × (n < m)
    by true e g = (some_same g, grind (arith, nat_tests))
    by false e g = cc

position-none : (p : ℕ → Bool) (xs : List ℕ) → ((k : ℕ) → k < length xs → p (get_or xs k 0) ≡ false) → position p xs ≡ None
position-none p xs h = at_length (position_or_len p xs) (length xs) (position_or_len_is p xs (length xs) 0 (omega arith) (λ k low. h k low) (λ past. absurd (omega arith)))

position-at : (p : ℕ → Bool) (xs : List ℕ) (i : ℕ) → i < length xs → p (get_or xs i 0) ≡ true → ((k : ℕ) → k < i → p (get_or xs k 0) ≡ false) → position p xs ≡ Some i
position-at p xs i within here before = at_place (position_or_len p xs) (length xs) i (position_or_len_is p xs i 0 (omega arith) before (λ _. here)) within

position-some : (p : ℕ → Bool) (xs : List ℕ) (i : ℕ) → position p xs ≡ Some i → (x : ℕ) × (slice_get xs i ≡ Some x) × (p x ≡ true)
position-some p xs i h =
    let found = from_place (position_or_len p xs) (length xs) i h in
    let passes = passes_at_first p xs 0 found.1 in
    let within : i < length xs = subst (λ k. k < length xs) found.0 found.1 in
    (get_or xs i 0, slice_get-get_or xs i 0 within, subst (λ k. p (get_or xs k 0) ≡ true) found.0 passes)

-- ---- numbers

module _ (start : ℕ) (offsets : List ℕ) where
  -- the point with a number is at the address
  pub number-found : (a k : ℕ) → number_of start offsets a ≡ Some k → (o : ℕ) × (slice_get offsets k ≡ Some o) × (start + o ≡ a)
  number-found a k h =
      let found = position-some (λ o. start + o == a) offsets k h in
      (found.0, found.1, eqb-true (start + found.0) a found.2)

  pub number-within : (a k : ℕ) → number_of start offsets a ≡ Some k → k < length offsets
  number-within a k h = let found = number-found a k h in slice_get_within offsets k found.0 found.1

  other : (o a : ℕ) → start + o ≢ a → (start + o == a) ≡ false
  other o a apart = grind (arith, nat_tests, apart)

  same : (o a : ℕ) → start + o ≡ a → (start + o == a) ≡ true
  same o a e = grind (arith, nat_tests, e)

  -- no point has an address before the start
  pub number-low : (a : ℕ) → a < start → number_of start offsets a ≡ None
  number-low a low = position-none (λ o. start + o == a) offsets (λ k within. other (get_or offsets k 0) a (λ e. omega (arith, e, low)))

  module _ (ascend : AllPairs (λ x y. x < y) offsets) where
    pub not-falling : IsNonDecreasingBy (λ o. o) offsets
    not-falling i j d low within =
        elim (cases_eq i j) [
          | inl e ↦ (let q : get_or offsets i d ≡ get_or offsets j d = ap (λ k. get_or offsets k d) e in omega (arith, q))
          | inr o ↦ (let lt = ascend i j d (omega (arith, low, o)) within in omega (arith, lt))
        ]

    -- the number of the address of the point with a number
    pub number-at : (a k o : ℕ) → slice_get offsets k ≡ Some o → start + o ≡ a → number_of start offsets a ≡ Some k
    number-at a k o e place =
        let within = slice_get_within offsets k o e in
        let here : get_or offsets k 0 ≡ o = get_or_from_slice_get offsets k o 0 e in
        position-at (λ x. start + x == a) offsets k within (same (get_or offsets k 0) a (ap (λ x. start + x) here ∙ place))
        (λ j low. let lt = ascend j k 0 low within in other (get_or offsets j 0) a (λ q. omega (arith, q, lt, here, place)))

    module _ (a n : ℕ) (low : start ≤ a) (counts : CountsBelow offsets (a - start) n) where
      -- a search that counts those below an address finds its point, or there is none
      pub search-past : length offsets ≤ n → number_of start offsets a ≡ None
      search-past past =
          position-none (λ o. start + o == a) offsets
          (λ k within. let lt = counts.below k (get_or offsets k 0) (omega (arith, past, within)) (slice_get-get_or offsets k 0 within) in other (get_or offsets k 0) a (λ e. omega (arith, e, lt)))

      pub search-other : (o : ℕ) → slice_get offsets n ≡ Some o → o ≢ a - start → number_of start offsets a ≡ None
      search-other o e apart =
          let here : get_or offsets n 0 ≡ o = get_or_from_slice_get offsets n o 0 e in
          let least = counts.above n o (omega arith) e in
          position-none (λ x. start + x == a) offsets
          (λ k within. elim (cases_lt k n) [
            | inl less ↦ (let lt = counts.below k (get_or offsets k 0) less (slice_get-get_or offsets k 0 within) in other (get_or offsets k 0) a (λ q. omega (arith, q, lt)))
            | inr more ↦ (let up = not-falling n k 0 (omega (arith, more)) within in other (get_or offsets k 0) a (λ q. apart (omega (arith, q, up, here, least, low))))
          ])

-- ---- the offsets of more and more bytes

pub no-offsets : (points : List Point) (start : ℕ) → AreOffsets points start 0 []
no-offsets points start = record {
  ascend = λ i j d low within. absurd (omega arith);
  below = All-nil (λ o. o < 0);
  are_points = All-nil (λ o. is_point points (start + o) ≡ true);
  all_there = λ o low is. absurd (omega arith);
  few = omega arith;
}

module _ (points : List Point) (start size : ℕ) (offsets : List ℕ) (are : AreOffsets points start size offsets) where
  pub one-offset : is_point points (start + size) ≡ true → AreOffsets points start (size + 1) (offsets ++ size ∷ [])
  one-offset is = record {
    ascend = all_pairs_push (λ x y. x < y) offsets size are.ascend (λ k d within. are.below k d within);
    below = All-push (λ o. o < size + 1) offsets size (All-weaker (λ o. o < size) (λ o. o < size + 1) (λ o lt. omega (arith, lt)) offsets are.below) (omega arith);
    are_points = All-push (λ o. is_point points (start + o) ≡ true) offsets size are.are_points is;
    all_there = λ o low there. elim (cases_eq o size) [
      | inl e ↦ subst (λ x. Contains (offsets ++ size ∷ []) x) (sym e) (Contains-push offsets size)
      | inr q ↦ Contains-append_left offsets (size ∷ []) o (are.all_there o (omega (arith, low, q)) there)
    ];
    few = let count = length-append offsets (size ∷ []) in let few = are.few in omega (arith, count, few);
  }

  pub no-offset : is_point points (start + size) ≡ false → AreOffsets points start (size + 1) offsets
  no-offset none = record {
    ascend = are.ascend;
    below = All-weaker (λ o. o < size) (λ o. o < size + 1) (λ o lt. omega (arith, lt)) offsets are.below;
    are_points = are.are_points;
    all_there = λ o low there. elim (cases_eq o size) [
      | inl e ↦ (let is : is_point points (start + size) ≡ true = subst (λ x. is_point points (start + x) ≡ true) e there in let both : true ≡ false = sym is ∙ none in absurd (cc))
      | inr q ↦ are.all_there o (omega (arith, low, q)) there
    ];
    few = let few = are.few in omega (arith, few);
  }
