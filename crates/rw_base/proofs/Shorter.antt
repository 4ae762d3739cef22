-- What is left of a list is no longer than the list.
use Rattle.std.proofs.Common.{◌≤◌, suc, Bool, true, false, cond, List, [], ◌∷◌, filter, length, arith}
use Rattle.std.specs.List.{dedup, dedup_from}
use Rattle.std.proofs.lemmas.List.Sums.{count_by-le-length, length-filter}

pub length-filter-le : {A : Type 0} (p : A → Bool) (xs : List A) → length (filter p xs) ≤ length xs
length-filter-le p xs = omega (arith, length-filter p xs, count_by-le-length p xs)

length-dedup_from-le : {A : Type 0} (same : A → A → Bool) (x : A) (xs : List A) → length (dedup_from same x xs) ≤ suc (length xs)
length-dedup_from-le same x [] = omega arith
length-dedup_from-le same x (y ∷ ys) = by_test (same y x) (length-dedup_from-le same x ys) (length-dedup_from-le same y ys)
  where
    by_test : (t : Bool) → length (dedup_from same x ys) ≤ suc (length ys) → length (dedup_from same y ys) ≤ suc (length ys) → length (cond t (dedup_from same x ys) (x ∷ dedup_from same y ys)) ≤ suc (suc (length ys))
    by_test true a b = omega (arith, a)
    by_test false a b = omega (arith, b)

pub length-dedup-le : {A : Type 0} (same : A → A → Bool) (xs : List A) → length (dedup same xs) ≤ length xs
length-dedup-le same [] = omega arith
length-dedup-le same (x ∷ xs) = length-dedup_from-le same x xs
