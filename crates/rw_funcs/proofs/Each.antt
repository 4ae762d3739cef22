-- The first finding over lists, one after another, where the finding at an item doesn't depend on its place.
use Rattle.std.proofs.Common.{◌≡◌, ℕ, suc, zero, ◌+◌, ◌<◌, ◌≤◌, List, [], ◌∷◌, ◌++◌, length, drop, get_or, Option, Some, None, refl, sym, ap, ◌∙◌, arith}
use Rattle.std.specs.List.{flat_map}
use Rattle.std.specs.Option.{option_or}
use Rattle.rw_base.specs.declared.fault.Fault.{Fault}
use Rattle.rw_base.specs.Rules.{Rule, each_of, first_from, first_of}

from_next : {A : Type 0} (f g : ℕ → Option A) → ((k : ℕ) → f (suc k) ≡ g k) → (i n : ℕ) → first_from f (suc i) n ≡ first_from g i n
unfolding first_from
from_next f g same i zero = refl
from_next f g same i (suc n) = ap (λ o. option_or o (first_from f (suc (suc i)) n)) (same i) ∙ ap (option_or (g i)) (from_next f g same (suc i) n)

or_or : {A : Type 0} (a b c : Option A) → option_or a (option_or b c) ≡ option_or (option_or a b) c
or_or None b c = refl
or_or (Some x) b c = refl

module _ {B : Type 0} (h : B → Option Fault) where
  -- the finding at each item
  abbrev pub each_item : List B → Rule
  each_item ys = each_of ys (λ k y. h y)

  -- of an item and others
  pub each-next : (y : B) (ys : List B) → first_of (each_item (y ∷ ys)) ≡ option_or (h y) (first_of (each_item ys))
  unfolding first_from
  each-next y ys = ap (option_or (h y)) (from_next _ _ (λ k. refl) 0 (length ys))

  -- of items and others
  pub each-append : (ys zs : List B) → first_of (each_item (ys ++ zs)) ≡ option_or (first_of (each_item ys)) (first_of (each_item zs))
  unfolding first_from
  each-append [] zs = refl
  each-append (y ∷ ys) zs =
      each-next y (ys ++ zs) ∙ ap (option_or (h y)) (each-append ys zs)
      ∙ or_or (h y) (first_of (each_item ys)) (first_of (each_item zs))
      ∙ ap (λ o. option_or o (first_of (each_item zs))) (sym (each-next y ys))

  pub each-nothing : (ys : List B) → ys ≡ [] → first_of (each_item ys) ≡ None
  unfolding first_from
  each-nothing ys none = ap (λ zs. first_of (each_item zs)) none

  module _ {A : Type 0} (g : A → List B) where
    -- of the items that some others give, from a place on
    abbrev pub first_ahead : List A → ℕ → Option Fault
    first_ahead xs i = first_of (each_item (flat_map g (drop i xs)))

    pub ahead-next : (xs : List A) (i : ℕ) (d : A) → i < length xs → first_ahead xs i ≡ option_or (first_of (each_item (g (get_or xs i d)))) (first_ahead xs (i + 1))
    ahead-next [] i d within = absurd (omega arith)
    ahead-next (x ∷ xs) zero d within = each-append (g x) (flat_map g xs)
    ahead-next (x ∷ xs) (suc i) d within =
        let same : suc i + 1 ≡ suc (i + 1) = omega arith in
        ahead-next xs i d (omega arith) ∙ ap (λ n. option_or (first_of (each_item (g (get_or xs i d)))) (first_ahead (x ∷ xs) n)) (sym same)

    pub ahead-end : (xs : List A) (i : ℕ) → length xs ≤ i → first_ahead xs i ≡ None
    unfolding first_from
    ahead-end [] zero past = refl
    ahead-end [] (suc i) past = refl
    ahead-end (x ∷ xs) zero past = absurd (omega arith)
    ahead-end (x ∷ xs) (suc i) past = ahead-end xs i (omega arith)
