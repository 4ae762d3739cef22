-- Numbers of a list, and points of two lists.
use Rattle.std.proofs.Common.{◌≡◌, ℕ, Bool, true, false, ◌||◌, ◌==◌, List, [], ◌∷◌, ◌++◌, refl, arith}
use Rattle.std.specs.List.{Contains}
use Rattle.std.proofs.lemmas.Bool.{eqb-true, eq-eqb}
use Rattle.std.proofs.lemmas.List.Folds.{list_any_at}
use Rattle.rw_base.proofs.Lists.{Contains-cons}
use Rattle.rw_funcs.specs.Points.{Point, is_one_of, is_point}

pub contains-one_of : (numbers : List ℕ) (n : ℕ) → Contains numbers n → is_one_of numbers n ≡ true
contains-one_of numbers n h = list_any_at (λ m. m == n) numbers h.0 n h.1 (eq-eqb _ n h.2)

pub one_of-contains : (numbers : List ℕ) (n : ℕ) → is_one_of numbers n ≡ true → Contains numbers n
one_of-contains [] n h = cc
one_of-contains (m ∷ ms) n h = by_test (m == n) refl h (one_of-contains ms n)
  where
    by_test : (t : Bool) → (m == n) ≡ t → (t || is_one_of ms n) ≡ true → (is_one_of ms n ≡ true → Contains ms n) → Contains (m ∷ ms) n
    by_test true e g rest = (0, omega arith, eqb-true m n e)
    by_test false e g rest = Contains-cons m n ms (rest g)

pub is_point-append : (xs ys : List Point) (a : ℕ) → is_point (xs ++ ys) a ≡ (is_point xs a || is_point ys a)
is_point-append [] ys a = refl
is_point-append (x ∷ xs) ys a = by_test (x.place == a) (is_point-append xs ys a)
  where
    by_test : (t : Bool) → is_point (xs ++ ys) a ≡ (is_point xs a || is_point ys a) → (t || is_point (xs ++ ys) a) ≡ ((t || is_point xs a) || is_point ys a)
    by_test true rest = refl
    by_test false rest = rest
