-- Items of lists: where they stand, and what passes a test.
use Rattle.std.proofs.Common.{◌≡◌, ℕ, ◌+◌, ◌<◌, zero, suc, Bool, true, false, ◌||◌, List, [], ◌∷◌, ◌++◌, length, take, drop, slice_get, slice_set, bytes_eq, Some, Contains, refl, sym, ap, subst, ◌∙◌, arith}
use Rattle.std.specs.List.{list_all, list_any, range_with_len}
use Rattle.std.proofs.Math.Bool.{or-false, or_assoc}
use Rattle.std.proofs.lemmas.List.{take_more}
use Rattle.std.proofs.lemmas.Bool.{and_from, and_parts}
use Rattle.std.proofs.lemmas.Option.{slice_get_within, get_or_from_slice_get}
use Rattle.std.proofs.lemmas.List.Folds.{list_all-append}
use Rattle.std.proofs.lemmas.List.Sums.{AllPass-from_list_all}
use Rattle.std.proofs.lemmas.Slice.Eq.{bytes_eq-Decides}

-- ---- places

-- the items up to one are those before it, and it
pub take_next : {A : Type 0} (xs : List A) (i : ℕ) (x : A) → slice_get xs i ≡ Some x → take (i + 1) xs ≡ take i xs ++ x ∷ []
take_next xs i x e = take_more xs i x (slice_get_within xs i x e) ∙ ap (λ y. take i xs ++ y ∷ []) (get_or_from_slice_get xs i x x e)

-- from an item on there is this item, and those behind it
pub drop_next : {A : Type 0} (xs : List A) (i : ℕ) (x : A) → slice_get xs i ≡ Some x → drop i xs ≡ x ∷ drop (suc i) xs
drop_next [] i x e = cc
drop_next (y ∷ ys) zero x e = cc
drop_next (y ∷ ys) (suc i) x e = drop_next ys i x e

pub slice_get-append_left : {A : Type 0} (xs ys : List A) (i : ℕ) (x : A) → slice_get xs i ≡ Some x → slice_get (xs ++ ys) i ≡ Some x
slice_get-append_left [] ys i x e = cc
slice_get-append_left (y ∷ xs) ys zero x e = e
slice_get-append_left (y ∷ xs) ys (suc i) x e = slice_get-append_left xs ys i x e

pub slice_get-append_right : {A : Type 0} (xs ys : List A) (i : ℕ) → slice_get (xs ++ ys) (length xs + i) ≡ slice_get ys i
slice_get-append_right [] ys i = ap (slice_get ys) (omega arith)
slice_get-append_right (x ∷ xs) ys i =
    let same : suc (length xs) + i ≡ suc (length xs + i) = omega arith in
    ap (slice_get (x ∷ (xs ++ ys))) same ∙ slice_get-append_right xs ys i

pub slice_get-set : {A : Type 0} (xs : List A) (i : ℕ) (x : A) → i < length xs → slice_get (slice_set xs i x) i ≡ Some x
slice_get-set [] i x h = absurd (omega (arith, h))
slice_get-set (y ∷ ys) zero x h = refl
slice_get-set (y ∷ ys) (suc i) x h = slice_get-set ys i x (omega (arith, h))

pub Contains-cons : {A : Type 0} (y x : A) (xs : List A) → Contains xs x → Contains (y ∷ xs) x
Contains-cons y x xs at = let low = at.1 in (suc at.0, omega (arith, low), at.2)

-- ---- tests

pub list_any-contains : {A : Type 0} (p : A → Bool) (xs : List A) → list_any p xs ≡ true → (x : A) × Contains xs x × (p x ≡ true)
list_any-contains {A = A} p [] h = absurd (cc)
list_any-contains {A = A} p (x ∷ xs) h = by_test (p x) refl (list_any-contains p xs) h
  where
    by_test : (t : Bool) → p x ≡ t → (list_any p xs ≡ true → (y : A) × Contains xs y × (p y ≡ true)) → (t || list_any p xs) ≡ true → (y : A) × Contains (x ∷ xs) y × (p y ≡ true)
    by_test true is rest g = (x, (0, omega arith, refl), is)
    by_test false is rest g = let found = rest g in (found.0, Contains-cons x found.0 xs found.1, found.2)

-- one number more
pub list_any-range_more : (p : ℕ → Bool) (a n : ℕ) → list_any p (range_with_len a (suc n)) ≡ (list_any p (range_with_len a n) || p (a + n))
list_any-range_more p a zero = or-false (p a) ∙ ap p (let e : a ≡ a + 0 = omega arith in e)
list_any-range_more p a (suc n) =
    let e : a + 1 + n ≡ a + suc n = omega arith in
    ap (λ b. p a || b) (list_any-range_more p (a + 1) n ∙ ap (λ m. list_any p (range_with_len (a + 1) n) || p m) e) ∙ sym (or_assoc (p a) (list_any p (range_with_len (a + 1) n)) (p (a + suc n)))

pub list_all-append_true : {A : Type 0} (p : A → Bool) (xs ys : List A) → list_all p xs ≡ true → list_all p ys ≡ true → list_all p (xs ++ ys) ≡ true
list_all-append_true p xs ys a b = list_all-append p xs ys ∙ and_from (list_all p xs) (list_all p ys) a b

-- what passes a test passes a wider one
pub list_all-wider : {A : Type 0} (p q : A → Bool) → ((x : A) → p x ≡ true → q x ≡ true) → (xs : List A) → list_all p xs ≡ true → list_all q xs ≡ true
list_all-wider p q wider [] h = refl
list_all-wider p q wider (x ∷ xs) h =
    let both = and_parts (p x) (list_all p xs) h in and_from (q x) (list_all q xs) (wider x both.0) (list_all-wider p q wider xs both.1)

pub list_all-contains : {A : Type 0} (p : A → Bool) (xs : List A) (x : A) → list_all p xs ≡ true → Contains xs x → p x ≡ true
list_all-contains p xs x h at = subst (λ z. p z ≡ true) at.2 (AllPass-from_list_all p xs h at.0 x at.1)

pub bytes_eq-same : (bytes : List ℕ) → bytes_eq bytes bytes ≡ true
bytes_eq-same bytes = (bytes_eq-Decides bytes bytes).1 refl
