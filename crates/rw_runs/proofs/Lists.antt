-- What stands behind the first elements of a list.
use Rattle.std.proofs.Common.{◌≡◌, ℕ, zero, suc, List, [], ◌∷◌, ◌++◌, length, take, drop, Some, refl, ap}
use Rattle.std.specs.Prelude.{slice_get}

pub get-front : {A : Type 0} (i : ℕ) (xs ys : List A) (y : A) → drop i xs ≡ y ∷ ys → slice_get xs i ≡ Some y
get-front zero [] ys y e = cc
get-front zero (x ∷ xs) ys y e = cc
get-front (suc i) [] ys y e = cc
get-front (suc i) (x ∷ xs) ys y e = get-front i xs ys y e

pub behind-front : {A : Type 0} (i : ℕ) (xs ys : List A) (y : A) → drop i xs ≡ y ∷ ys → drop (suc i) xs ≡ ys
behind-front zero [] ys y e = cc
behind-front zero (x ∷ xs) ys y e = cc
behind-front (suc i) [] ys y e = cc
behind-front (suc i) (x ∷ xs) ys y e = behind-front i xs ys y e

pub length-one-more : {A : Type 0} (xs : List A) (y : A) → length (xs ++ y ∷ []) ≡ suc (length xs)
length-one-more [] y = refl
length-one-more (x ∷ xs) y = ap suc (length-one-more xs y)

-- a front, and the element behind it
pub front-taken : {A : Type 0} (xs ys : List A) → take (length xs) (xs ++ ys) ≡ xs
front-taken [] ys = refl
front-taken (x ∷ xs) ys = ap (λ zs. x ∷ zs) (front-taken xs ys)

pub got-behind : {A : Type 0} (xs ys : List A) (y : A) → slice_get (xs ++ ys) (length xs) ≡ Some y → ys ≡ y ∷ drop 1 ys
got-behind [] [] y e = cc
got-behind [] (z ∷ ys) y e = cc
got-behind (x ∷ xs) ys y e = got-behind xs ys y e
