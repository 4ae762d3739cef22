-- The numbers of names, and the map that finds them.
use Rattle.std.proofs.Common.{◌≡◌, ℕ, suc, ◌+◌, ◌≤◌, ◌<◌, Bool, true, false, cond, ltb, not, ◌||◌, eqb, Some, None, List, [], ◌∷◌, ◌++◌, length, get_or, refl, sym, ap, subst, ◌∙◌, arith, Vec, inl, inr}
use Rattle.std.specs.List.{list_any, position_or_len, position, slice_get}
use Rattle.std.specs.Map.{lookup, AreApart, KeepsOthers}
use Rattle.std.specs.Str.{bytes_eq}
use Rattle.std.specs.Cmp.Lexicographic.{bytes_decides, nat_list_eq_equiv}
use Rattle.std.proofs.lemmas.Bool.{false≢true, cases_Bool}
use Rattle.std.proofs.lemmas.List.{map-append, length-append}
use Rattle.std.proofs.lemmas.List.Folds.{position_or_len_push}
use Rattle.std.proofs.lemmas.List.Sums.{position_or_len_is}
use Rattle.std.proofs.lemmas.Map.Keys.{IsDistinct-push, apart_from_distinct}
use Rattle.std.proofs.lemmas.Map.Made.{AllPairs-from_IsDistinct, IsDistinct-from_AllPairs}
use Rattle.std.proofs.lemmas.Option.{get_or_from_slice_get, slice_get_within, cond_some}
use Rattle.rw_base.proofs.Options.{cond_none}
use Rattle.asm_items.specs.Names.{name_texts, IsNumbered, AreDistinct}

one-more : (t : Bool) (a : Bool) (n m : ℕ) → a ≡ ltb n m → (t || a) ≡ ltb (cond (not t) (1 + n) 0) (suc m)
one-more true a n m h = grind (arith, h)
one-more false a n m h = grind (arith, h)

later : (t : Bool) (a : Bool) (k n : ℕ) → (a ≡ false → k ≡ n) → (t || a) ≡ false → cond (not t) (1 + k) 0 ≡ suc n
later true a k n h e = absurd (false≢true (sym e))
later false a k n h e = grind (arith, h e)

bounded : (t : Bool) (k n : ℕ) → k ≤ n → cond (not t) (1 + k) 0 ≤ suc n
bounded true k n h = omega arith
bounded false k n h = omega arith

module _ {X : Type 0} (p : X → Bool) where
  pub any-place : (xs : List X) → list_any p xs ≡ ltb (position_or_len p xs) (length xs)
  any-place [] = refl
  any-place (x ∷ xs) = one-more (p x) _ _ _ (any-place xs)

  -- where no name is equal, the next number is the length
  pub place-none : (xs : List X) → list_any p xs ≡ false → position_or_len p xs ≡ length xs
  place-none [] e = refl
  place-none (x ∷ xs) e = later (p x) (list_any p xs) _ _ (place-none xs) e

  pub place-le : (xs : List X) → position_or_len p xs ≤ length xs
  place-le [] = omega arith
  place-le (x ∷ xs) = bounded (p x) _ _ (place-le xs)

  pub absent : (xs : List X) → position p xs ≡ None → list_any p xs ≡ false
  absent xs e = any-place xs ∙ cond_none _ _ e

  pub present : (xs : List X) (i : ℕ) → position p xs ≡ Some i → (list_any p xs ≡ true) × (position_or_len p xs ≡ i)
  present xs i e = let both = cond_some _ _ _ e in (any-place xs ∙ both.0, both.1)

same-place : (n m k l : ℕ) → n ≤ m → k ≡ cond (eqb n m) (m + 1) n → l ≡ m + 1 → cond (ltb k l) (Some k) None ≡ cond (ltb n m) (Some n) None
same-place n m k l h e f = elim (cases_Bool (eqb n m)) [
  | inl y ↦ grind (arith, h, e, f, y)
  | inr x ↦ grind (arith, h, e, f, x)
]

last-place : (n m k l : ℕ) → n ≡ m → k ≡ cond (eqb n m) (m + 0) n → l ≡ m + 1 → cond (ltb k l) (Some k) None ≡ Some m
last-place n m k l h e f = grind (arith, h, e, f)

module _ {X : Type 0} (p : X → Bool) (xs : List X) (x : X) where
  push-place : (t : Bool) → p x ≡ t → position_or_len p (xs ++ x ∷ []) ≡ cond (eqb (position_or_len p xs) (length xs)) (length xs + cond t 0 1) (position_or_len p xs)
  push-place t e = position_or_len_push p xs x ∙ ap (λ t. cond (eqb (position_or_len p xs) (length xs)) (length xs + cond t 0 1) (position_or_len p xs)) e

  -- a name put last changes no number of another
  pub position-other : p x ≡ false → position p (xs ++ x ∷ []) ≡ position p xs
  position-other e = same-place _ _ _ _ (place-le p xs) (push-place false e) (length-append xs (x ∷ []))

  -- and has the next number itself
  pub position-last : list_any p xs ≡ false → p x ≡ true → position p (xs ++ x ∷ []) ≡ Some (length xs)
  position-last h e = last-place _ _ _ _ (place-none p xs h) (push-place true e) (length-append xs (x ∷ []))

module _ {A : Type 0} where
  -- the test by which the map finds these bytes
  abbrev pub is_spelled : List ℕ → Vec ℕ A → Bool
  is_spelled name key = bytes_eq name key.items

  apart : (bs cs : List ℕ) → bytes_eq bs cs ≡ false → AreApart (is_spelled bs) (is_spelled cs)
  apart bs cs n key y = nat_list_eq_equiv.symm cs key.items ∙ sym (nat_list_eq_equiv.congr bs key.items cs y) ∙ n

  module _ (key : Vec ℕ A) (old new : List (Vec ℕ A × ℕ)) where
    others : KeepsOthers (λ x y. bytes_eq x.items y.items) (is_spelled key.items) old new → (name : List ℕ) → bytes_eq key.items name ≡ false → lookup (is_spelled name) new ≡ lookup (is_spelled name) old
    unfolding KeepsOthers
    others h name n = h (is_spelled name) (λ x y. nat_list_eq_equiv.congr name x.items y.items) (apart key.items name n)

    -- one more name, with the next number
    pub numbered-more : (names : List (List ℕ)) (n : ℕ) → KeepsOthers (λ x y. bytes_eq x.items y.items) (is_spelled key.items) old new → lookup (is_spelled key.items) new ≡ Some n
        → IsNumbered old names → list_any (bytes_eq key.items) names ≡ false → n ≡ length names → IsNumbered new (names ++ key.items ∷ [])
    numbered-more names n keeps here known absent e name = elim (cases_Bool (bytes_eq key.items name)) [
      | inl y ↦ subst (λ l. lookup (is_spelled l) new ≡ position (bytes_eq l) (names ++ key.items ∷ [])) ((bytes_decides key.items name).0 y)
          (here ∙ ap Some e ∙ sym (position-last (bytes_eq key.items) names key.items absent (nat_list_eq_equiv.refl key.items)))
      | inr x ↦ others keeps name x ∙ known name ∙ sym (position-other (bytes_eq name) names key.items (nat_list_eq_equiv.symm name key.items ∙ x))
    ]

    pub texts-more : (names : List (Vec ℕ A)) → name_texts (names ++ key ∷ []) ≡ name_texts names ++ key.items ∷ []
    texts-more names = map-append (λ (x : Vec ℕ A). x.items) names (key ∷ [])

-- one more name, which none is equal to, keeps the names distinct
pub distinct-more : (names : List (List ℕ)) (name : List ℕ) → AreDistinct names → list_any (bytes_eq name) names ≡ false → AreDistinct (names ++ name ∷ [])
distinct-more names name distinct absent =
    AllPairs-from_IsDistinct bytes_decides (names ++ name ∷ []) (IsDistinct-push nat_list_eq_equiv names name (IsDistinct-from_AllPairs bytes_decides names distinct) absent)

-- in distinct names, the number of a name is the place where it stands
pub own-number : (names : List (List ℕ)) (i : ℕ) (name : List ℕ) → AreDistinct names → slice_get names i ≡ Some name → position (bytes_eq name) names ≡ Some i
own-number names i name distinct here =
    let within : i < length names = slice_get_within names i name here in
    let own : (d : List ℕ) → get_or names i d ≡ name = λ d. get_or_from_slice_get names i name d here in
    let apart : (k : ℕ) → k < i → bytes_eq name (get_or names k []) ≡ false =
    λ k before. nat_list_eq_equiv.symm name (get_or names k []) ∙ ap (bytes_eq (get_or names k [])) (sym (own [])) ∙ apart_from_distinct bytes_eq names k i [] (IsDistinct-from_AllPairs bytes_decides names distinct) before within in
    let place : position_or_len (bytes_eq name) names ≡ i =
    position_or_len_is (bytes_eq name) names i [] (omega arith) apart (λ h. ap (bytes_eq name) (own []) ∙ nat_list_eq_equiv.refl name) in
    subst (λ k. cond (ltb k (length names)) (Some k) None ≡ Some i) (sym place) (grind (arith, within))
