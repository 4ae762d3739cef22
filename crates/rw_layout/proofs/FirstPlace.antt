-- The first place of a list that passes a test.
use Rattle.std.proofs.Common.{◌≡◌, ℕ, zero, suc, ◌+◌, ◌<◌, Bool, true, false, cond, nat_lt, List, [], ◌∷◌, Some, None, length, refl, sym, ap, subst, arith}
use Rattle.std.specs.Prelude.{slice_get, position, not}
use Rattle.std.specs.List.{position_or_len}
use Rattle.std.proofs.lemmas.Bool.{ltb-true, ltb-false}
use Rattle.std.proofs.lemmas.Option.{slice_get_within}

module _ {A : Type 0} (p : A → Bool) where
  place-is : (y : A) (ys : List A) (t : Bool) → p y ≡ t → position_or_len p (y ∷ ys) ≡ cond (not t) (1 + position_or_len p ys) 0
  place-is y ys t e = ap (λ t. cond (not t) (1 + position_or_len p ys) 0) e

  place-before : (xs : List A) (j : ℕ) (x : A) → j < position_or_len p xs → slice_get xs j ≡ Some x → p x ≡ false
  place-before [] j x h e = cc
  place-before (y ∷ ys) zero x h e = by_test (p y) refl
    where
      by_test : (t : Bool) → p y ≡ t → p x ≡ false
      by_test true f = let none = place-is y ys true f in absurd (omega (arith, h, none))
      by_test false f = let same : y ≡ x = cc in subst (λ z. p z ≡ false) same f
  place-before (y ∷ ys) (suc j) x h e = by_test (λ k. place-before ys j x k e) (p y) refl
    where
      by_test : (j < position_or_len p ys → p x ≡ false) → (t : Bool) → p y ≡ t → p x ≡ false
      by_test rest true f = let none = place-is y ys true f in absurd (omega (arith, h, none))
      by_test rest false f = let more = place-is y ys false f in rest (omega (arith, h, more))

  place-at : (xs : List A) (k : ℕ) → k ≡ position_or_len p xs → k < length xs → (x : A) × (slice_get xs k ≡ Some x) × (p x ≡ true)
  place-at [] k e h = absurd (omega (arith, h))
  place-at (y ∷ ys) k e h = by_test (λ n. place-at ys n) (p y) refl k e h
    where
      by_test : ((n : ℕ) → n ≡ position_or_len p ys → n < length ys → (x : A) × (slice_get ys n ≡ Some x) × (p x ≡ true)) → (t : Bool) → p y ≡ t
          → (k : ℕ) → k ≡ position_or_len p (y ∷ ys) → k < length (y ∷ ys) → (x : A) × (slice_get (y ∷ ys) k ≡ Some x) × (p x ≡ true)
      by_test rest true f zero e h = (y, refl, f)
      by_test rest true f (suc k) e h = let none = place-is y ys true f in absurd (omega (arith, e, none))
      by_test rest false f zero e h = let more = place-is y ys false f in absurd (omega (arith, e, more))
      by_test rest false f (suc k) e h = let more = place-is y ys false f in rest k (omega (arith, e, more)) (omega (arith, h))

  some-place : (t : Bool) (n i : ℕ) → cond t (Some n) None ≡ Some i → (t ≡ true) × (n ≡ i)
  some-place true n i e = (refl, cc)
  some-place false n i e = cc

  no-place : (t : Bool) (n : ℕ) → cond t (Some n) None ≡ None → t ≡ false
  no-place true n e = cc
  no-place false n e = refl

  pub position-at : (xs : List A) (i : ℕ) → position p xs ≡ Some i → (x : A) × (slice_get xs i ≡ Some x) × (p x ≡ true) × ((j : ℕ) (y : A) → j < i → slice_get xs j ≡ Some y → p y ≡ false)
  position-at xs i e =
      let both = some-place (nat_lt (position_or_len p xs) (length xs)) (position_or_len p xs) i e in
      let within = ltb-true (position_or_len p xs) (length xs) both.0 in
      let at = place-at xs i (sym both.1) (omega (arith, within, both.1)) in
      (at.0, at.1, at.2, λ j y h f. place-before xs j y (omega (arith, h, both.1)) f)

  pub position-none : (xs : List A) → position p xs ≡ None → (j : ℕ) (y : A) → slice_get xs j ≡ Some y → p y ≡ false
  position-none xs e j y f =
      let past = ltb-false (position_or_len p xs) (length xs) (no-place (nat_lt (position_or_len p xs) (length xs)) (position_or_len p xs) e) in
      let within = slice_get_within xs j y f in
      place-before xs j y (omega (arith, past, within)) f
