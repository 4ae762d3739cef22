-- The number of the leader at an address, where one near it is known.
use Rattle.std.proofs.Common.{◌≡◌, ℕ, ◌<◌, ◌≤◌, ◌==◌, List, length, get_or, nat_lt, true, Some, None, sym, ap, ◌∙◌, arith, inl, inr}
use Rattle.std.specs.Prelude.{position}
use Rattle.std.specs.List.Sorted.{IsStrictlyIncreasing}
use Rattle.std.proofs.lemmas.Bool.{cases_eq, cases_lt}
use Rattle.std.proofs.lemmas.Bool.Decides.{nat_tests}
use Rattle.std.proofs.lemmas.List.Kept.{AllPairs-from_increasing}
use Rattle.rw_elf.proofs.Search.{position-at, position-none}
use Rattle.rw_probe.proofs.Numbering.{other-default}
use Rattle.rw_tables.proofs.KnownFacts.{same-on, same-off}

module _ (xs : List ℕ) (ascend : IsStrictlyIncreasing xs) (n x a : ℕ) (within : n < length xs) (at : x ≡ get_or xs n x) where
  here : (d : ℕ) → get_or xs n d ≡ x
  here d = other-default xs n d within ∙ sym (other-default xs n x within) ∙ sym at

  pub below : nat_lt x a ≡ true → (k d : ℕ) → k ≤ n → k < length xs → get_or xs k d < a
  below test k d le inside =
      let low : x < a = grind (arith, nat_tests) in
      let this = here d in
      elim (cases_eq k n) [
        | inl same ↦ let e : get_or xs k d ≡ get_or xs n d = ap (λ i. get_or xs i d) same in omega (arith, e, this, low)
        | inr other ↦ let less = AllPairs-from_increasing xs ascend k n d (omega (arith, le, other)) within in omega (arith, less, this, low)
      ]

  pub above : nat_lt a x ≡ true → (k d : ℕ) → n ≤ k → k < length xs → a < get_or xs k d
  above test k d le inside =
      let high : a < x = grind (arith, nat_tests) in
      let this = here d in
      elim (cases_eq n k) [
        | inl same ↦ let e : get_or xs n d ≡ get_or xs k d = ap (λ i. get_or xs i d) same in omega (arith, e, this, high)
        | inr other ↦ let less = AllPairs-from_increasing xs ascend n k d (omega (arith, le, other)) inside in omega (arith, less, this, high)
      ]

  pub number-is : (x == a) ≡ true → position (λ leader. leader == a) xs ≡ Some n
  number-is test =
      let same : x ≡ a = grind (arith, nat_tests) in
      position-at (λ leader. leader == a) xs n x within (same-on (get_or xs n x) a (sym at ∙ same))
      (λ k low. same-off (get_or xs k x) a (λ e. let less = AllPairs-from_increasing xs ascend k n x low within in let this = here x in omega (arith, less, this, same, e)))

-- none is at an address that lies between them
pub none-there : (xs : List ℕ) (n a : ℕ) → ((k d : ℕ) → k < n → k < length xs → get_or xs k d < a) → ((k d : ℕ) → n ≤ k → k < length xs → a < get_or xs k d) → position (λ leader. leader == a) xs ≡ None
none-there xs n a before behind =
    position-none (λ leader. leader == a) xs
    (λ k d inside.
    same-off (get_or xs k d) a
    (λ e. elim (cases_lt k n) [ inl low ↦ let less = before k d low inside in absurd (omega (arith, less, e)) | inr high ↦ let more = behind k d high inside in absurd (omega (arith, more, e)) ]))
