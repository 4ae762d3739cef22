-- The lines of instructions: as they are listed one after another, and the one that is found at an address.
use Rattle.std.proofs.Common.{◌≡◌, ◌≢◌, ℕ, ◌+◌, ◌<◌, ◌≤◌, Bool, true, false, List, [], ◌∷◌, ◌++◌, Some, None, ◌⊎◌, Contains, cond, length, refl, sym, ap, subst, ◌∙◌, arith, inl, inr}
use Rattle.std.specs.Prelude.{◌==◌, slice_get, slice_index}
use Rattle.std.specs.List.{find, position_or_len}
use Rattle.std.specs.List.Sorted.{IsNonDecreasingBy, IsPermutation}
use Rattle.std.proofs.lemmas.Bool.{cases_eq, cases_lt, eqb-true, ne_eqb, eq-eqb}
use Rattle.std.proofs.lemmas.List.Elements.{Contains-append_left, Contains-push, Contains-push_cases}
use Rattle.std.proofs.lemmas.List.Folds.{find_at}
use Rattle.std.proofs.lemmas.List.Sorted.{Contains-permutation, IsPermutation-sym}
use Rattle.std.proofs.lemmas.List.Sums.{fails_before_first, position_or_len_is}
use Rattle.std.proofs.lemmas.Option.{same_Some, slice_get_past, slice_get-get_or, slice_get_within, get_or_from_slice_get}
use Rattle.x86_insn.specs.declared.instruction.Insn.{Insn}
use Rattle.asm_items.specs.declared.item.Item.{Item}
use Rattle.asm_items.specs.declared.item.Item.TheVariants.{Ins}
use Rattle.asm_items.specs.declared.item.Sym.{Sym}
use Rattle.asm_items.specs.Lines.{Items}
use Rattle.rw_layout.specs.Places.{AreInsns, IsInsn, insn_at, is_insn}

-- ---- the lines, one after another

pub no-insns : (items : Items) → AreInsns [] items 0
no-insns items = record { each = λ q h. absurd (let low = h.1 in omega (arith, low)); every = λ q h i. absurd (omega (arith, h)) }

insn-line : (item : Item (List ℕ)) → is_insn item ≡ true → (i : Insn (Sym (List ℕ))) × (item ≡ Ins i)
insn-line (Ins i) e = (i, refl)
insn-line _ e = cc

insn-test : (item : Item (List ℕ)) (i : Insn (Sym (List ℕ))) → item ≡ Ins i → is_insn item ≡ true
insn-test item i e = ap is_insn e

module _ (lines : List ℕ) (items : Items) (n : ℕ) (are : AreInsns lines items n) (item : Item (List ℕ)) (here : slice_get items n ≡ Some item) where
  pub one-insn : is_insn item ≡ true → AreInsns (lines ++ n ∷ []) items (n + 1)
  one-insn e = record { each = λ q h. each q (Contains-push_cases lines n q h); every = every }
    where
      this : IsInsn items n
      this = let is = insn-line item e in (is.0, here ∙ ap Some is.1)

      each : (q : ℕ) → (Contains lines q) ⊎ (n ≡ q) → IsInsn items q
      each q (inl h) = are.each q h
      each q (inr same) = subst (IsInsn items) same this

      every : (q : ℕ) → q < n + 1 → IsInsn items q → Contains (lines ++ n ∷ []) q
      every q h is = elim (cases_eq q n) [
        | inl same ↦ subst (Contains (lines ++ n ∷ [])) (sym same) (Contains-push lines n)
        | inr other ↦ Contains-append_left lines (n ∷ []) q (are.every q (omega (arith, h, other)) is)
      ]

  pub other-line : is_insn item ≡ false → AreInsns lines items (n + 1)
  other-line e = record { each = are.each; every = every }
    where
      every : (q : ℕ) → q < n + 1 → IsInsn items q → Contains lines q
      every q h is = elim (cases_eq q n) [
        | inl same ↦ (let at : Some item ≡ Some (Ins is.0) = sym here ∙ ap (slice_get items) (sym same) ∙ is.1 in let yes = ap is_insn (same_Some item (Ins is.0) at) in absurd (cc))
        | inr other ↦ are.every q (omega (arith, h, other)) is
      ]

pub moved-insns : (lines moved : List ℕ) (items : Items) (n : ℕ) → IsPermutation lines moved → AreInsns lines items n → AreInsns moved items n
moved-insns lines moved items n same are = record {
  each = λ q h. are.each q (Contains-permutation moved lines q (IsPermutation-sym lines moved same) h);
  every = λ q h is. Contains-permutation lines moved q same (are.every q h is);
}

-- ---- the line at an address

module _ (lines addresses : List ℕ) (address : ℕ) where
  abbrev has : ℕ → Bool
  has q = slice_index addresses q == address

  none-has : ((k : ℕ) → k < length lines → slice_index addresses (slice_index lines k) ≢ address) → insn_at lines addresses address ≡ None
  none-has none =
      let past : position_or_len has lines ≡ length lines = position_or_len_is has lines (length lines) 0 (omega arith) (λ k h. ne_eqb _ address (none k h)) (λ h. absurd (omega (arith, h))) in
      find_at has lines ∙ slice_get_past lines (position_or_len has lines) (omega (arith, past))

  module _ (ascend : IsNonDecreasingBy (λ q. slice_index addresses q) lines) (n : ℕ)
      (below : (k : ℕ) → k < n → slice_index addresses (slice_index lines k) < address)
      (above : (k : ℕ) → n ≤ k → k < length lines → address ≤ slice_index addresses (slice_index lines k)) where
    pub insn-past : length lines ≤ n → insn_at lines addresses address ≡ None
    insn-past past = none-has (λ k h same. (let low = below k (omega (arith, h, past)) in omega (arith, low, same)))

    pub insn-here : n < length lines → slice_index addresses (slice_index lines n) ≡ address → insn_at lines addresses address ≡ Some (slice_index lines n)
    insn-here within e =
        let first : position_or_len has lines ≡ n = position_or_len_is has lines n 0 (omega (arith, within)) (λ k h. ne_eqb _ address (λ same. (let low = below k h in omega (arith, low, same)))) (λ h. eq-eqb _ address e) in
        find_at has lines ∙ ap (slice_get lines) first ∙ slice_get-get_or lines n 0 within

    pub insn-other : n < length lines → slice_index addresses (slice_index lines n) ≢ address → insn_at lines addresses address ≡ None
    insn-other within other = none-has never
      where
        never : (k : ℕ) → k < length lines → slice_index addresses (slice_index lines k) ≢ address
        never k h same = elim (cases_lt k n) as (λ _. ⊥) [
          | inl low ↦ (let less = below k low in omega (arith, less, same))
          | inr high ↦ (let least = above n (omega arith) within in let up = ascend n k 0 high h in other (omega (arith, least, up, same)))
        ]

find-passes : (p : ℕ → Bool) (xs : List ℕ) (x : ℕ) → find p xs ≡ Some x → p x ≡ true
find-passes p [] x e = cc
find-passes p (y ∷ ys) x e = by_test (λ f. find-passes p ys x f) (p y) refl e
  where
    by_test : (find p ys ≡ Some x → p x ≡ true) → (t : Bool) → p y ≡ t → cond t (Some y) (find p ys) ≡ Some x → p x ≡ true
    by_test rec true f g = let same : y ≡ x = cc in ap p (sym same) ∙ f
    by_test rec false f g = rec g

-- what is found is one of the lines, and has the address
pub found-one : (lines addresses : List ℕ) (address q : ℕ) → insn_at lines addresses address ≡ Some q → Contains lines q × (slice_index addresses q ≡ address)
found-one lines addresses address q e =
    let place : ℕ = position_or_len (has lines addresses address) lines in
    let at : slice_get lines (position_or_len (has lines addresses address) lines) ≡ Some q = sym (find_at (has lines addresses address) lines) ∙ e in
    ((place, slice_get_within lines place q at, get_or_from_slice_get lines place q q at), eqb-true (slice_index addresses q) address (find-passes (has lines addresses address) lines q e))

-- where one of the lines has the address, one is found
pub found-some : (lines addresses : List ℕ) (address q : ℕ) → Contains lines q → slice_index addresses q ≡ address → (p : ℕ) × (insn_at lines addresses address ≡ Some p)
found-some lines addresses address q there e = elim (cases_lt (position_or_len (has lines addresses address) lines) (length lines)) as (λ _. (p : ℕ) × (insn_at lines addresses address ≡ Some p)) [
  | inl low ↦ (
    slice_index lines (position_or_len (has lines addresses address) lines),
    find_at (has lines addresses address) lines ∙ slice_get-get_or lines (position_or_len (has lines addresses address) lines) 0 low,
  )
  | inr high ↦
      (let fails = fails_before_first (has lines addresses address) lines there.0 q (let within = there.1 in omega (arith, within, high)) in
      let yes = ap (has lines addresses address) there.2 ∙ eq-eqb (slice_index addresses q) address e in
      absurd (cc))
]
