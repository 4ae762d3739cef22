-- The number of a leader, by halving.
use Rattle.std.proofs.Common.{◌≡◌, ℕ, zero, suc, ◌<◌, ◌≤◌, ◌==◌, List, [], ◌∷◌, length, get_or, Some, None, Ok, Err, refl, sym, ap, ◌∙◌, arith, inl, inr}
use Rattle.std.specs.Prelude.{position}
use Rattle.std.specs.List.Sorted.{IsStrictlyIncreasing, IsBinarySearchResult}
use Rattle.std.specs.Ordering.{nat_cmp}
use Rattle.std.proofs.lemmas.Bool.{cases_eq, cases_lt}
use Rattle.std.proofs.lemmas.List.Kept.{AllPairs-from_increasing}
use Rattle.std.proofs.lemmas.List.Sorted.{searched}
use Rattle.rw_elf.proofs.Search.{position-at, position-none}
use Rattle.rw_tables.proofs.KnownFacts.{same-on, same-off}

not-falling : (xs : List ℕ) → IsStrictlyIncreasing xs → (i j : ℕ) → i ≤ j → j < length xs → get_or xs i 0 ≤ get_or xs j 0
not-falling xs ascend i j le low =
    elim (cases_eq i j) [
      | inl same ↦ let e : get_or xs i 0 ≡ get_or xs j 0 = ap (λ n. get_or xs n 0) same in omega (arith, e)
      | inr other ↦ let less = AllPairs-from_increasing xs ascend i j 0 (omega (arith, le, other)) low in omega (arith, less)
    ]

pub other-default : (xs : List ℕ) (k d : ℕ) → k < length xs → get_or xs k d ≡ get_or xs k 0
other-default [] k d h = absurd (omega (arith, h))
other-default (x ∷ xs) zero d h = refl
other-default (x ∷ xs) (suc k) d h = other-default xs k d (omega (arith, h))

pub number-found : (xs : List ℕ) (c n : ℕ) → IsStrictlyIncreasing xs → IsBinarySearchResult (λ y. nat_cmp y c) xs (Ok n) → position (λ x. x == c) xs ≡ Some n
number-found xs c n ascend h =
    let found = searched xs c (Ok n) h (not-falling xs ascend) in
    position-at (λ x. x == c) xs n 0 found.0 (same-on (get_or xs n 0) c found.1)
    (λ k low. same-off (get_or xs k 0) c (λ e. let less = AllPairs-from_increasing xs ascend k n 0 low found.0 in let here = found.1 in omega (arith, less, here, e)))

pub number-none : (xs : List ℕ) (c n : ℕ) → IsStrictlyIncreasing xs → IsBinarySearchResult (λ y. nat_cmp y c) xs (Err n) → position (λ x. x == c) xs ≡ None
number-none xs c n ascend h =
    let found = searched xs c (Err n) h (not-falling xs ascend) in
    position-none (λ x. x == c) xs
    (λ k d within.
    same-off (get_or xs k d) c
    (λ e.
    let here = sym (other-default xs k d within) ∙ e in
    elim (cases_lt k n) [ inl low ↦ let less = found.1 k low in absurd (omega (arith, less, here)) | inr high ↦ let more = found.2 k high within in absurd (omega (arith, more, here)) ]))
