-- Numbers by their comparison.
use Rattle.std.proofs.Common.{◌≡◌, ℕ, ◌<◌, ◌≤◌, ◌==◌, Bool, true, false, nat_lt, cond, sym, ap, ◌∙◌, arith, inl, inr}
use Rattle.std.specs.Ordering.{is_lt, nat_cmp}
use Rattle.std.specs.declared.cmp.Ordering.TheVariants.{Less, Equal, Greater}
use Rattle.std.proofs.lemmas.Bool.{cases_lt}
use Rattle.std.proofs.lemmas.Bool.Decides.{nat_tests}

pub than-less : (a b : ℕ) → a < b → nat_cmp a b ≡ Less
than-less a b low = let on : nat_lt a b ≡ true = grind (arith, nat_tests) in ap (λ t. cond t Less (cond (a == b) Equal Greater)) on

not-less : (t : Bool) → cond t Equal Greater ≡ Less → ⊥
not-less true h = absurd (cc)
not-less false h = absurd (cc)

pub less-than : (a b : ℕ) → nat_cmp a b ≡ Less → a < b
less-than a b h =
    elim (cases_lt a b) [
      | inl low ↦ low
      | inr high ↦
          let off : nat_lt a b ≡ false = grind (arith, nat_tests) in
          absurd (not-less (a == b) (sym (ap (λ t. cond t Less (cond (a == b) Equal Greater)) off) ∙ h))
    ]

pub at-most : (a b : ℕ) → is_lt (nat_cmp a b) ≡ false → b ≤ a
at-most a b h =
    elim (cases_lt a b) [
      | inl low ↦ let on = ap is_lt (than-less a b low) in absurd (cc)
      | inr high ↦ high
    ]
