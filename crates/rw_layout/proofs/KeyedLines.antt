-- Lines with their keys: as they are listed one after another, and the one that is found by a key.
use Rattle.std.proofs.Common.{◌≡◌, ℕ, zero, suc, ◌+◌, ◌<◌, ◌≤◌, Bool, true, false, List, [], ◌∷◌, ◌++◌, Some, None, ◌⊎◌, Contains, length, get_or, refl, sym, ap, subst, ◌∙◌, arith, inl, inr}
use Rattle.std.specs.Prelude.{option_and_then, slice_get}
use Rattle.std.specs.Cmp.{IsStrictWeakOrder}
use Rattle.std.specs.List.Sorted.{IsPartitionedBy, IsPermutation}
use Rattle.std.specs.Map.{lookup}
use Rattle.std.proofs.lemmas.Bool.{cases_eq, cases_lt}
use Rattle.std.proofs.lemmas.Bool.Decides.{nat_tests}
use Rattle.std.proofs.lemmas.Cmp.{nat_cmp_total, on_total, then_total}
use Rattle.std.proofs.lemmas.List.Elements.{Contains-append_left, Contains-push, Contains-push_cases}
use Rattle.std.proofs.lemmas.List.Sorted.{Contains-permutation, IsPermutation-sym, ranks_by, sorted_far}
use Rattle.std.proofs.lemmas.Map.Entries.{lookup_head, lookup_tail, place_from_lookup}
use Rattle.std.proofs.lemmas.Option.{same_Some, slice_get_within, get_or_from_slice_get}
use Rattle.asm_items.specs.declared.item.Item.{Item}
use Rattle.asm_items.specs.declared.item.NameId.{NameId}
use Rattle.rw_layout.specs.Checks.{Nowhere}
use Rattle.rw_layout.specs.Keys.{AreKeyed, AreLines, Ascend, Key, KeyAt, KeyTwice, comes_before, is_key, key_of}
use Rattle.rw_layout.proofs.KeyFacts.{own-key, same-key}

-- ---- the lines, one after another

pub no-lines : (items : List (Item NameId)) → AreLines [] items 0
no-lines items = record { each = λ line h. absurd (let low = h.1 in omega (arith, low)); every = λ key p h at. absurd (omega (arith, h)) }

some-key : (a b : Key) → Some a ≡ Some b → a ≡ b
some-key a b e = cc

module _ (lines : List (Key × ℕ)) (items : List (Item NameId)) (n : ℕ) (are : AreLines lines items n) where
  pub one-line : (key : Key) → KeyAt items n key → AreLines (lines ++ (key, n) ∷ []) items (n + 1)
  one-line key here = record { each = λ line h. each line (Contains-push_cases lines (key, n) line h); every = every }
    where
      each : (line : Key × ℕ) → (Contains lines line) ⊎ ((key, n) ≡ line) → (line.1 < n + 1) × KeyAt items line.1 line.0
      each line (inl h) = let old = are.each line h in (omega (arith, old.0), old.1)
      each line (inr same) = subst (λ (l : Key × ℕ). (l.1 < n + 1) × KeyAt items l.1 l.0) same (omega arith, here)

      every : (other : Key) (p : ℕ) → p < n + 1 → KeyAt items p other → Contains (lines ++ (key, n) ∷ []) (other, p)
      every other p h at = elim (cases_eq p n) [
        | inl same ↦
            let one : key ≡ other = some-key key other (sym here ∙ subst (λ q. KeyAt items q other) same at) in
            subst (λ (k : Key). Contains (lines ++ (key, n) ∷ []) (k, p)) one
            (subst (λ q. Contains (lines ++ (key, n) ∷ []) (key, q)) (sym same) (Contains-push lines (key, n)))
        | inr apart ↦ Contains-append_left lines ((key, n) ∷ []) (other, p) (are.every other p (omega (arith, h, apart)) at)
      ]

  pub other-line : option_and_then key_of (slice_get items n) ≡ None → AreLines lines items (n + 1)
  other-line none = record { each = λ line h. (let old = are.each line h in (omega (arith, old.0), old.1)); every = every }
    where
      every : (key : Key) (p : ℕ) → p < n + 1 → KeyAt items p key → Contains lines (key, p)
      every key p h at = elim (cases_eq p n) [
        | inl same ↦ (let here = subst (λ q. KeyAt items q key) same at in absurd (cc))
        | inr apart ↦ are.every key p (omega (arith, h, apart)) at
      ]

pub moved-lines : (lines moved : List (Key × ℕ)) (items : List (Item NameId)) (n : ℕ) → IsPermutation lines moved → AreLines lines items n → AreLines moved items n
moved-lines lines moved items n same are = record {
  each = λ line h. are.each line (Contains-permutation moved lines line (IsPermutation-sym lines moved same) h);
  every = λ key p h at. Contains-permutation lines moved (key, p) same (are.every key p h at);
}

-- ---- what is looked up

none-passes : (test : Key → Bool) (lines : List (Key × ℕ)) → ((k : ℕ) (line : Key × ℕ) → slice_get lines k ≡ Some line → test line.0 ≡ false) → lookup test lines ≡ None
none-passes test [] fails = refl
none-passes test (x ∷ xs) fails = lookup_tail test x xs (fails 0 x refl) ∙ none-passes test xs (λ k line e. fails (suc k) line e)

first-passes : (test : Key → Bool) (lines : List (Key × ℕ)) (n : ℕ) (line : Key × ℕ) → ((k : ℕ) (x : Key × ℕ) → k < n → slice_get lines k ≡ Some x → test x.0 ≡ false)
    → slice_get lines n ≡ Some line → test line.0 ≡ true → lookup test lines ≡ Some line.1
first-passes test [] n line fails e h = cc
first-passes test (x ∷ xs) zero line fails e h =
    let same : x ≡ line = same_Some x line e in
    lookup_head test x xs (ap (λ (l : Key × ℕ). test l.0) same ∙ h) ∙ ap (λ (l : Key × ℕ). Some l.1) same
first-passes test (x ∷ xs) (suc n) line fails e h =
    lookup_tail test x xs (fails 0 x (omega arith) refl) ∙ first-passes test xs n line (λ k y low f. fails (suc k) y (omega (arith, low)) f) e h

found-some : (lines : List (Key × ℕ)) (key : Key) (p : ℕ) → Contains lines (key, p) → (q : ℕ) × (lookup (is_key key) lines ≡ Some q)
found-some [] key p there = absurd (let within = there.1 in omega (arith, within))
found-some (x ∷ xs) key p there = by_test (λ h. found-some xs key p h) (is_key key x.0) refl (there.0) refl
  where
    by_test : (Contains xs (key, p) → (q : ℕ) × (lookup (is_key key) xs ≡ Some q)) → (t : Bool) → is_key key x.0 ≡ t → (i : ℕ) → there.0 ≡ i → (q : ℕ) × (lookup (is_key key) (x ∷ xs) ≡ Some q)
    by_test rec true e i at = (x.1, lookup_head (is_key key) x xs e)
    by_test rec false e zero at =
        let same : x ≡ (key, p) = subst (λ i. get_or (x ∷ xs) i (key, p) ≡ (key, p)) at there.2 in
        let yes : is_key key x.0 ≡ true = subst (λ (l : Key × ℕ). is_key key l.0 ≡ true) (sym same) (own-key key) in
        absurd (cc)
    by_test rec false e (suc i) at =
        let within = there.1 in
        let rest = rec (i, omega (arith, within, at), subst (λ i. get_or (x ∷ xs) i (key, p) ≡ (key, p)) at there.2) in
        (rest.0, lookup_tail (is_key key) x xs e ∙ rest.1)

-- where no line has a key twice, each key of the lines is looked up
module _ (lines : List (Key × ℕ)) (items : List (Item NameId)) (n : ℕ) (are : AreLines lines items n) (once : Nowhere (KeyTwice items)) where
  only-line : (key : Key) (p : ℕ) → lookup (is_key key) lines ≡ Some p → (p < n) × KeyAt items p key
  only-line key p e =
      let at = place_from_lookup (is_key key) lines p e in
      let there : Contains lines (at.1, p) = (at.0, slice_get_within lines at.0 (at.1, p) at.2, get_or_from_slice_get lines at.0 (at.1, p) (at.1, p) at.2) in
      let one = are.each (at.1, p) there in
      (one.0, subst (λ k. KeyAt items p k) (sym (same-key key at.1 at.3)) one.1)

  one-place : (key : Key) (p q : ℕ) → KeyAt items p key → KeyAt items q key → p ≡ q
  one-place key p q h k = elim (cases_lt p q) as (λ _. p ≡ q) [
    | inl low ↦ absurd (once q (p, key, low, h, k))
    | inr high ↦ (elim (cases_lt q p) as (λ _. p ≡ q) [
      | inl low ↦ absurd (once p (q, key, low, k, h))
      | inr same ↦ omega (arith, high, same)
    ])
  ]

  pub are-keyed : AreKeyed lines items n
  are-keyed = record { only = only-line; every = every }
    where
      every : (key : Key) (p : ℕ) → p < n → KeyAt items p key → lookup (is_key key) lines ≡ Some p
      every key p h at =
          let some = found-some lines key p (are.every key p h at) in
          some.1 ∙ ap Some (one-place key some.0 p (only-line key some.0 some.1).1 at)

-- ---- lines by ascending key

key-order : IsStrictWeakOrder (λ (a b : Key × ℕ). comes_before a.0 b.0)
key-order = ranks_by (then_total (on_total (λ (k : Key). k.0) nat_cmp_total) (on_total (λ (k : Key). k.1) nat_cmp_total)) (λ (line : Key × ℕ). line.0)

before-later : (a b key : Key) → comes_before b a ≡ false → comes_before b key ≡ true → comes_before a key ≡ true
before-later a b key up before = grind (arith, nat_tests)

pub partitioned : (lines : List (Key × ℕ)) → Ascend lines → (key : Key) → IsPartitionedBy (λ (line : Key × ℕ). comes_before line.0 key) lines
partitioned lines ascend key i j d low within before =
    before-later (get_or lines i d).0 (get_or lines j d).0 key (sorted_far (λ (a b : Key × ℕ). comes_before a.0 b.0) key-order lines ascend i j d low within) before

before-other : (a key : Key) → comes_before a key ≡ true → is_key key a ≡ false
before-other a key before = grind (arith, nat_tests)

-- a key that doesn't come before is another, where it is behind another that doesn't
behind-other : (a b key : Key) → comes_before b a ≡ false → comes_before a key ≡ false → is_key a key ≡ false → is_key key b ≡ false
behind-other a b key up behind other = grind (arith, nat_tests)

key-turned : (a b : Key) → is_key a b ≡ true → is_key b a ≡ true
key-turned a b h = subst (λ c. is_key c a ≡ true) (same-key a b h) (own-key a)

module _ (lines : List (Key × ℕ)) (ascend : Ascend lines) (key : Key) (n : ℕ) (before : (k : ℕ) (line : Key × ℕ) → k < n → slice_get lines k ≡ Some line → comes_before line.0 key ≡ true)
    (behind : (k : ℕ) (line : Key × ℕ) → n ≤ k → slice_get lines k ≡ Some line → comes_before line.0 key ≡ false) where
  pub line-past : length lines ≤ n → lookup (is_key key) lines ≡ None
  line-past past = none-passes (is_key key) lines (λ k line e. (let within = slice_get_within lines k line e in before-other line.0 key (before k line (omega (arith, within, past)) e)))

  module _ (line : Key × ℕ) (here : slice_get lines n ≡ Some line) where
    pub line-here : is_key line.0 key ≡ true → lookup (is_key key) lines ≡ Some line.1
    line-here same = first-passes (is_key key) lines n line (λ k x low e. before-other x.0 key (before k x low e)) here (key-turned line.0 key same)

    pub line-other : is_key line.0 key ≡ false → lookup (is_key key) lines ≡ None
    line-other other = none-passes (is_key key) lines fails
      where
        fails : (k : ℕ) (x : Key × ℕ) → slice_get lines k ≡ Some x → is_key key x.0 ≡ false
        fails k x e = elim (cases_lt k n) [
          | inl low ↦ before-other x.0 key (before k x low e)
          | inr high ↦
              let within = slice_get_within lines k x e in
              let far = sorted_far (λ (a b : Key × ℕ). comes_before a.0 b.0) key-order lines ascend n k line high within in
              let up : comes_before x.0 line.0 ≡ false = subst (λ (l : Key × ℕ). comes_before l.0 line.0 ≡ false) (get_or_from_slice_get lines k x line e)
              (subst (λ (l : Key × ℕ). comes_before (get_or lines k line).0 l.0 ≡ false) (get_or_from_slice_get lines n line line here) far) in
              behind-other line.0 x.0 key up (behind n line (omega arith) here) other
        ]
