-- A layout that passes these tests is one: for the layouts of worked texts, by computing.
use Rattle.std.proofs.Common.{◌≡◌, ◌≢◌, inl, inr, ℕ, zero, suc, ◌+◌, ◌-◌, ◌%◌, ◌^◌, List, [], ◌∷◌, ◌++◌, drop, Option, Some, None, Bool, true, false, not, ◌==◌, ◌&&◌, nat_le, nat_lt, refl, sym, subst, arith}
use Rattle.std.specs.Prelude.{slice_get, ◌||◌, is_none, max}
use Rattle.std.specs.List.{list_all}
use Rattle.std.specs.Str.{bytes_eq}
use Rattle.std.proofs.lemmas.Bool.{eqb-true, eqb-false, ne_eqb, leb-true, ltb-true, and_parts, not-true}
use Rattle.std.proofs.lemmas.List.Sums.{sum_by-cons}
use Rattle.std.proofs.lemmas.Slice.Eq.{bytes_eq-Decides}
use Rattle.rw_base.proofs.Lists.{list_all-contains}
use Rattle.rw_base.proofs.Bools.{or_other}
use Rattle.x86_insn.specs.declared.instruction.Insn.{Insn}
use Rattle.x86_insn.specs.References.{reference_of}
use Rattle.asm_items.specs.declared.item.Item.{Item}
use Rattle.asm_items.specs.declared.item.Item.TheVariants.{Label, Ins, LongDiff}
use Rattle.asm_items.specs.declared.item.Label as label_type
use Rattle.asm_items.specs.declared.item.Label.TheVariants as label
use Rattle.asm_items.specs.declared.item.Sym.{Sym}
use Rattle.asm_items.specs.Lines.{Items, DataSection, sections_of, line_size, size_of, copies_of, is_copied, copies_number}
use Rattle.asm_items.specs.Layout.{Layout, Extent, symbol_at, distance, printed_insn, next_place, AreDisjoint, IsInReach, IsOutside, IsOwnName, IsLayout}

-- ---- lists

-- a test of each element with its place, counted from k on
abbrev pub all_from : {A : Type 0} → (ℕ → A → Bool) → ℕ → List A → Bool
all_from test k [] = true
all_from test k (x ∷ xs) = test k x && all_from test (suc k) xs

test_from : {A : Type 0} (test : ℕ → A → Bool) (xs : List A) (k q n : ℕ) (x : A) → all_from test k xs ≡ true → slice_get xs q ≡ Some x → n ≡ k + q → test n x ≡ true
test_from test [] k q n x h e is = cc
test_from test (y ∷ ys) k zero n x h e is =
    let first : test k y ≡ true = (and_parts (test k y) (all_from test (suc k) ys) h).0 in
    let same : y ≡ x = cc in
    let here : n ≡ k = omega (arith, is) in
    subst (λ z. test z x ≡ true) (sym here) (subst (λ z. test k z ≡ true) same first)
test_from test (y ∷ ys) k (suc q) n x h e is = test_from test ys (suc k) q n x (and_parts (test k y) (all_from test (suc k) ys) h).1 e (omega (arith, is))

pub test-at : {A : Type 0} (test : ℕ → A → Bool) (xs : List A) → all_from test 0 xs ≡ true → (q : ℕ) (x : A) → slice_get xs q ≡ Some x → test q x ≡ true
test-at test xs h q x e = test_from test xs 0 q q x h e (omega arith)

-- ---- ranges

abbrev is_apart : (a n b m : ℕ) → Bool
is_apart a n b m = nat_le (a + n) b || (nat_le (b + m) a || (n == 0 || m == 0))

by_ends : (s t u v : Bool) (a n b m : ℕ) → nat_le (a + n) b ≡ s → nat_le (b + m) a ≡ t → (n == 0) ≡ u → (m == 0) ≡ v → (s || (t || (u || v))) ≡ true → AreDisjoint a n b m
by_ends true t u v a n b m e f g k h o p low high same = let end = leb-true (a + n) b e in omega (arith, end, low, same)
by_ends false true u v a n b m e f g k h o p low high same = let end = leb-true (b + m) a f in omega (arith, end, high, same)
by_ends false false true v a n b m e f g k h o p low high same = let none = eqb-true n 0 g in omega (arith, none, low)
by_ends false false false true a n b m e f g k h o p low high same = let none = eqb-true m 0 k in omega (arith, none, high)
by_ends false false false false a n b m e f g k h o p low high same = cc

apart : (a n b m : ℕ) → is_apart a n b m ≡ true → AreDisjoint a n b m
apart a n b m h = by_ends (nat_le (a + n) b) (nat_le (b + m) a) (n == 0) (m == 0) a n b m refl refl refl refl h

abbrev is_near : (to from : ℕ) → Bool
is_near to from = nat_lt (distance to from) (2 ^ 31) || nat_le (2 ^ 64 - 2 ^ 31) (distance to from)

near : (to from : ℕ) → is_near to from ≡ true → IsInReach to from
near to from h = by_sign (nat_lt (distance to from) (2 ^ 31)) refl
  where
    by_sign : (t : Bool) → nat_lt (distance to from) (2 ^ 31) ≡ t → IsInReach to from
    by_sign true e = inl (ltb-true (distance to from) (2 ^ 31) e)
    by_sign false e = inr (leb-true (2 ^ 64 - 2 ^ 31) (distance to from) (or_other (nat_lt (distance to from) (2 ^ 31)) _ e h))

-- ---- the tests

module _ (items : Items) (regions : List Extent) (names : List (List ℕ)) (layout : Layout) where
  abbrev ItemTest : Type 0
  ItemTest = ℕ → Item (List ℕ) → Bool

  abbrev is_region_at : ℕ → Extent → Bool
  is_region_at r a = nat_le 4096 (layout.region r) && (nat_le (layout.region r + a.size) (2 ^ 47) && layout.region r % max 1 a.align == 0)

  abbrev are_apart : ℕ → Extent → Bool
  are_apart r a = all_from (λ s b. (r == s) || is_apart (layout.region r) a.size (layout.region s) b.size) 0 regions

  abbrev is_insn_at : ItemTest
  is_insn_at q (Ins i) = nat_le 1 (layout.size q) && (nat_le (layout.size q) 15 && (nat_le 4096 (layout.insn q) && nat_le (layout.insn q + layout.size q) (2 ^ 47)))
  is_insn_at q _ = true

  abbrev follows : ItemTest
  follows q (Ins i) = is_none (printed_insn (drop (suc q) items)) || (layout.insn (next_place items (suc q)) == layout.insn q + layout.size q)
  follows q _ = true

  -- a range that no instruction shares a byte with, but the one at a place
  abbrev misses : ℕ → ℕ → Option ℕ → ItemTest
  misses a n (Some q) p (Ins j) = (q == p) || is_apart a n (layout.insn p) (layout.size p)
  misses a n None p (Ins j) = is_apart a n (layout.insn p) (layout.size p)
  misses a n o p _ = true

  abbrev misses_others : ItemTest
  misses_others q (Ins i) = all_from (misses (layout.insn q) (layout.size q) (Some q)) 0 items
  misses_others q _ = true

  abbrev misses_insns : ℕ → Extent → Bool
  misses_insns r a = all_from (misses (layout.region r) a.size None) 0 items

  abbrev is_labelled : ItemTest
  is_labelled q (Label l) = is_none (printed_insn (drop q items)) || (layout.label l == layout.insn (next_place items q))
  is_labelled q _ = true

  abbrev is_label_at : ℕ → Item (List ℕ) → Bool
  is_label_at address (Label l) = layout.label l == address
  is_label_at address _ = true

  abbrev are_labelled : ℕ → Items → Bool
  are_labelled address [] = true
  are_labelled address (line ∷ lines) = is_label_at address line && are_labelled (address + line_size line) lines

  abbrev is_section : ℕ → DataSection → Bool
  is_section k s = are_labelled (layout.region k) s.lines

  abbrev is_copy : ℕ → List ℕ × ℕ → Bool
  is_copy k copy = layout.name copy.0 == layout.region (copies_number items + k)

  abbrev is_outside : ℕ → Bool
  is_outside address = nat_lt address (2 ^ 64) && (all_from (λ r a. is_apart address 1 (layout.region r) a.size) 0 regions && all_from (misses address 1 None) 0 items)

  abbrev is_name : List ℕ → Bool
  is_name name = is_copied items name || (is_outside (layout.name name) && not (layout.name name == layout.finish))

  abbrev is_other : List ℕ → List ℕ → Bool
  is_other name other = is_copied items other || (bytes_eq name other || not (layout.name name == layout.name other))

  abbrev are_others : List ℕ → Bool
  are_others name = is_copied items name || list_all (is_other name) names

  abbrev reaches : ℕ → Option (Sym (List ℕ)) → Bool
  reaches q None = true
  reaches q (Some r) = is_near (symbol_at items layout r) (layout.insn q + layout.size q)

  abbrev is_in_reach : ItemTest
  is_in_reach q (Ins i) = reaches q (reference_of i)
  is_in_reach q (LongDiff code table) = is_near (layout.label (label.Code code)) (layout.label (label.Table table))
  is_in_reach q _ = true

  -- all of them
  abbrev pub passes : Bool
  passes =
      all_from is_region_at 0 regions && (all_from are_apart 0 regions && (all_from is_insn_at 0 items && (all_from follows 0 items && (all_from misses_others 0 items
      && (all_from misses_insns 0 regions && (all_from is_labelled 0 items && (all_from is_section 0 (sections_of items) && (all_from is_copy 0 (copies_of items)
      && (list_all is_name names && (list_all are_others names && (is_outside layout.finish && all_from is_in_reach 0 items)))))))))))

  record Passes : Type 0 where
    regions_at : all_from is_region_at 0 regions ≡ true
    regions_apart : all_from are_apart 0 regions ≡ true
    insns_at : all_from is_insn_at 0 items ≡ true
    insns_follow : all_from follows 0 items ≡ true
    insns_apart : all_from misses_others 0 items ≡ true
    outside : all_from misses_insns 0 regions ≡ true
    labelled : all_from is_labelled 0 items ≡ true
    sections : all_from is_section 0 (sections_of items) ≡ true
    copies : all_from is_copy 0 (copies_of items) ≡ true
    are_names : list_all is_name names ≡ true
    names_apart : list_all are_others names ≡ true
    finish : is_outside layout.finish ≡ true
    reach : all_from is_in_reach 0 items ≡ true

  one-by-one : passes ≡ true → Passes
  one-by-one h =
      let a = and_parts (all_from is_region_at 0 regions) _ h in
      let b = and_parts (all_from are_apart 0 regions) _ a.1 in
      let c = and_parts (all_from is_insn_at 0 items) _ b.1 in
      let d = and_parts (all_from follows 0 items) _ c.1 in
      let e = and_parts (all_from misses_others 0 items) _ d.1 in
      let f = and_parts (all_from misses_insns 0 regions) _ e.1 in
      let g = and_parts (all_from is_labelled 0 items) _ f.1 in
      let i = and_parts (all_from is_section 0 (sections_of items)) _ g.1 in
      let j = and_parts (all_from is_copy 0 (copies_of items)) _ i.1 in
      let k = and_parts (list_all is_name names) _ j.1 in
      let l = and_parts (list_all are_others names) _ k.1 in
      let m = and_parts (is_outside layout.finish) _ l.1 in
      record { regions_at = a.0; regions_apart = b.0; insns_at = c.0; insns_follow = d.0; insns_apart = e.0; outside = f.0; labelled = g.0; sections = i.0; copies = j.0; are_names = k.0; names_apart = l.0; finish = m.0; reach = m.1 }

  misses-at : (a n p : ℕ) (j : Insn (Sym (List ℕ))) → all_from (misses a n None) 0 items ≡ true → slice_get items p ≡ Some (Ins j) → AreDisjoint a n (layout.insn p) (layout.size p)
  misses-at a n p j h e = apart a n (layout.insn p) (layout.size p) (test-at (misses a n None) items h p (Ins j) e)

  outside-at : (address : ℕ) → is_outside address ≡ true → IsOutside items regions layout address
  outside-at address h =
      let first = and_parts (nat_lt address (2 ^ 64)) _ h in
      let rest = and_parts (all_from (λ r a. is_apart address 1 (layout.region r) a.size) 0 regions) _ first.1 in
      record {
        fits = ltb-true address (2 ^ 64) first.0;
        off_regions = λ r a e. apart address 1 (layout.region r) a.size (test-at (λ r a. is_apart address 1 (layout.region r) a.size) regions rest.0 r a e);
        off_insns = λ q i e. misses-at address 1 q i rest.1 e;
      }

  labels-at : (address : ℕ) (lines before after : Items) (l : label_type.Label) → are_labelled address lines ≡ true → lines ≡ before ++ Label l ∷ after → layout.label l ≡ address + size_of before
  labels-at address lines before after l h e = by_line before address (subst (λ xs. are_labelled address xs ≡ true) e h)
    where
      by_line : (before : Items) (address : ℕ) → are_labelled address (before ++ Label l ∷ after) ≡ true → layout.label l ≡ address + size_of before
      by_line [] address h = let here = eqb-true (layout.label l) address (and_parts (layout.label l == address) _ h).0 in omega (arith, here)
      by_line (line ∷ before) address h =
          let rest = by_line before (address + line_size line) (and_parts (is_label_at address line) _ h).1 in
          let sum : size_of (line ∷ before) ≡ line_size line + size_of before = sum_by-cons line_size line before in omega (arith, rest, sum)

  module _ (h : Passes) where
    name-parts : (name : List ℕ) → IsOwnName items names name → IsOutside items regions layout (layout.name name) × (layout.name name ≢ layout.finish)
    name-parts name own =
        let all = or_other (is_copied items name) _ own.1 (list_all-contains is_name names name h.are_names own.0) in
        let parts = and_parts (is_outside (layout.name name)) _ all in
        (outside-at (layout.name name) parts.0, eqb-false (layout.name name) layout.finish (not-true _ parts.1))

    other-parts : (name other : List ℕ) → IsOwnName items names name → IsOwnName items names other → name ≢ other → layout.name name ≢ layout.name other
    other-parts name other own own_too apart_names =
        let all = or_other (is_copied items name) _ own.1 (list_all-contains are_others names name h.names_apart own.0) in
        let one = or_other (is_copied items other) _ own_too.1 (list_all-contains (is_other name) names other all own_too.0) in
        by_equal (bytes_eq name other) refl one
      where
        by_equal : (t : Bool) → bytes_eq name other ≡ t → (t || not (layout.name name == layout.name other)) ≡ true → layout.name name ≢ layout.name other
        by_equal true e g = absurd (apart_names ((bytes_eq-Decides name other).0 e))
        by_equal false e g = eqb-false (layout.name name) (layout.name other) (not-true _ g)

    laid : IsLayout items regions names layout
    laid = record {
      regions_laid = record {
        least = λ r a e. leb-true 4096 (layout.region r) (and_parts (nat_le 4096 (layout.region r)) _ (test-at is_region_at regions h.regions_at r a e)).0;
        most = λ r a e. leb-true (layout.region r + a.size) (2 ^ 47)
            (and_parts (nat_le (layout.region r + a.size) (2 ^ 47)) _ (and_parts (nat_le 4096 (layout.region r)) _ (test-at is_region_at regions h.regions_at r a e)).1).0;
        aligned = λ r a e. eqb-true (layout.region r % max 1 a.align) 0
            (and_parts (nat_le (layout.region r + a.size) (2 ^ 47)) _ (and_parts (nat_le 4096 (layout.region r)) _ (test-at is_region_at regions h.regions_at r a e)).1).1;
        apart = λ r s a b other e f. apart (layout.region r) a.size (layout.region s) b.size
            (or_other (r == s) _ (ne_eqb r s other) (test-at (λ s b. (r == s) || is_apart (layout.region r) a.size (layout.region s) b.size) regions (test-at are_apart regions h.regions_apart r a e) s b f));
      };
      insns_laid = record {
        sizes = λ q i e. (
            let x = and_parts (nat_le 1 (layout.size q)) _ (test-at is_insn_at items h.insns_at q (Ins i) e) in
            let y = and_parts (nat_le (layout.size q) 15) _ x.1 in (leb-true 1 (layout.size q) x.0, leb-true (layout.size q) 15 y.0));
        bounds = λ q i e. (
            let x = and_parts (nat_le 1 (layout.size q)) _ (test-at is_insn_at items h.insns_at q (Ins i) e) in
            let y = and_parts (nat_le (layout.size q) 15) _ x.1 in
            let z = and_parts (nat_le 4096 (layout.insn q)) _ y.1 in (leb-true 4096 (layout.insn q) z.0, leb-true (layout.insn q + layout.size q) (2 ^ 47) z.1));
        consecutive = λ q i j e f. eqb-true _ _ (subst (λ o. (is_none o || (layout.insn (next_place items (suc q)) == layout.insn q + layout.size q)) ≡ true) f (test-at follows items h.insns_follow q (Ins i) e));
        apart = λ q p i j other e f. apart (layout.insn q) (layout.size q) (layout.insn p) (layout.size p)
            (or_other (q == p) _ (ne_eqb q p other) (test-at (misses (layout.insn q) (layout.size q) (Some q)) items (test-at misses_others items h.insns_apart q (Ins i) e) p (Ins j) f));
      };
      apart = λ r q a i e f. misses-at (layout.region r) a.size q i (test-at misses_insns regions h.outside r a e) f;
      labels = λ q l i e f. eqb-true _ _ (subst (λ o. (is_none o || (layout.label l == layout.insn (next_place items q))) ≡ true) f (test-at is_labelled items h.labelled q (Label l) e));
      data_labels = λ k s before after l e f. labels-at (layout.region k) s.lines before after l (test-at is_section (sections_of items) h.sections k s e) f;
      copies = λ k copy e. eqb-true _ _ (test-at is_copy (copies_of items) h.copies k copy e);
      names_outside = λ name own. (name-parts name own).0;
      names_apart = other-parts;
      finish_outside = outside-at layout.finish h.finish;
      finish_apart = λ name own. (name-parts name own).1;
      reach = λ q i r e f. near _ _ (subst (λ o. reaches q o ≡ true) f (test-at is_in_reach items h.reach q (Ins i) e));
      table_reach = λ q code table e. near _ _ (test-at is_in_reach items h.reach q (LongDiff code table) e);
    }

  pub laid-by-tests : passes ≡ true → IsLayout items regions names layout
  laid-by-tests h = laid (one-by-one h)
