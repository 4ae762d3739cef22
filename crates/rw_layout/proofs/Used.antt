-- What lines use is known exactly where it is defined.
use Rattle.std.proofs.Common.{◌≡◌, ℕ, zero, suc, ◌+◌, ◌<◌, Bool, true, false, List, [], ◌∷◌, Option, Some, None, map, length, get_or, refl, sym, ap, subst, ◌∙◌, arith, inl, inr, ◌⊎◌, ◌||◌, ◌&&◌, All}
use Rattle.std.specs.Prelude.{slice_get, option_and_then, option_map, is_some, not, position, Contains, ◌==◌}
use Rattle.std.specs.Map.{lookup}
use Rattle.std.specs.List.{list_any, list_all}
use Rattle.std.specs.Str.{bytes_eq}
use Rattle.std.proofs.lemmas.Bool.{and_parts, eqb-true, eq-eqb}
use Rattle.std.proofs.lemmas.Bool.Decides.{nat_tests}
use Rattle.rw_layout.specs.Uses.{is_counts_line}
use Rattle.std.proofs.lemmas.Option.{slice_get_within, slice_get-get_or, get_or_from_slice_get}
use Rattle.std.proofs.lemmas.Slice.Eq.{bytes_eq-Decides}
use Rattle.x86_insn.specs.declared.instruction.Insn.{Insn}
use Rattle.x86_insn.specs.Fields.{fits_fields}
use Rattle.x86_insn.specs.References.{reference_of, references_of, map_references}
use Rattle.x86_insn.specs.WellFormed.{is_instruction}
use Rattle.x86_insn.proofs.Referring.{reference_mapped}
use Rattle.rw_base.specs.Name.{is_import_name}
use Rattle.asm_items.specs.declared.item.Item.{Item}
use Rattle.asm_items.specs.declared.item.Item.TheVariants.{Copy, Label, Ins, Quad, LongDiff, Name}
use Rattle.asm_items.specs.declared.item.Label as label_type
use Rattle.asm_items.specs.declared.item.Label.TheVariants as label
use Rattle.asm_items.specs.declared.item.NameId.{NameId}
use Rattle.asm_items.specs.declared.item.Sym.{Sym}
use Rattle.asm_items.specs.declared.item.Sym.TheVariants as syms
use Rattle.asm_items.specs.Formed.{is_item, is_sym, is_word, AreItems}
use Rattle.asm_items.specs.Named.{name_of, named, map_sym}
use Rattle.asm_items.specs.Names.{AreDistinct}
use Rattle.asm_items.specs.Lines.{Items, copies_of, is_copied}
use Rattle.rw_layout.specs.Order.{counts_name}
use Rattle.rw_layout.specs.Checks.{IsDefined, UsesDefined, UsesUndefined, IsFirstAt, Nowhere}
use Rattle.rw_layout.specs.Keys.{Key, label_key, key_of, is_key, AreKeyed, has_entry, is_known, is_known_or_none, uses_known, Tells}
use Rattle.rw_layout.proofs.Defined.{named-line, one-label, not-copy, one-number, import-within, copy-import, some-key, keyed-item}
use Rattle.rw_layout.proofs.Lines.{shown-at, item-formed}
use Rattle.rw_layout.proofs.FirstPlace.{position-at, position-none}
use Rattle.x86_insn.proofs.Listed.{to_list, listed-references}

-- ---- copies

pub copied-line : (items : Items) (name : List ℕ) → is_copied items name ≡ true → (p : ℕ) × (size : ℕ) × (slice_get items p ≡ Some (Copy name size))
copied-line [] name h = cc
copied-line (Copy other size ∷ items) name h = by_test (copied-line items name) (bytes_eq other name) refl h
  where
    by_test : (is_copied items name ≡ true → (p : ℕ) × (size : ℕ) × (slice_get items p ≡ Some (Copy name size)))
        → (t : Bool) → bytes_eq other name ≡ t → (t || list_any (λ copy. bytes_eq copy.0 name) (copies_of items)) ≡ true
        → (p : ℕ) × (n : ℕ) × (slice_get (Copy other size ∷ items) p ≡ Some (Copy name n))
    by_test later true e h = (0, size, ap (λ x. Some (Copy x size)) ((bytes_eq-Decides other name).0 e))
    by_test later false e h = let at = later h in (suc at.0, at.1, at.2)
copied-line (_ ∷ items) name h = let at = copied-line items name h in (suc at.0, at.1, at.2)

or-right : (a b : Bool) → b ≡ true → (a || b) ≡ true
or-right true b e = refl
or-right false b e = e

pub line-copied : (items : Items) (name : List ℕ) (p size : ℕ) → slice_get items p ≡ Some (Copy name size) → is_copied items name ≡ true
line-copied [] name p size e = cc
line-copied (Copy other n ∷ items) name zero size e =
    let same : other ≡ name = cc in
    ap (λ t. t || is_copied items name) ((bytes_eq-Decides other name).1 same)
line-copied (_ ∷ items) name zero size e = cc
line-copied (Copy other n ∷ items) name (suc p) size e = or-right (bytes_eq other name) (is_copied items name) (line-copied items name p size e)
line-copied (_ ∷ items) name (suc p) size e = line-copied items name p size e

-- ---- tests of facts

tells-both : {A B : Type 0} (a b : Bool) → Tells a A → Tells b B → Tells (a && b) (A × B)
tells-both true true s t = (λ e. (s.0 refl, t.0 refl), λ e h. cc)
tells-both true false s t = (λ e. cc, λ e h. t.1 refl h.1)
tells-both false b s t = (λ e. cc, λ e h. s.1 refl h.0)

tells-either : {A B : Type 0} (a b : Bool) → Tells a A → Tells b B → Tells (a || b) (B ⊎ A)
tells-either true b s t = (λ e. inr (s.0 refl), λ e h. cc)
tells-either false true s t = (λ e. inl (t.0 refl), λ e h. cc)
tells-either false false s t = (λ e. cc, λ e h. elim h as (λ _. ⊥) [ inl x ↦ t.1 refl x | inr x ↦ s.1 refl x ])

tells-equal : (a b : ℕ) → Tells (a == b) (a ≡ b)
tells-equal a b = (eqb-true a b, λ e h. (let yes = eq-eqb a b h in cc))

pub contains-at : (items : Items) (p : ℕ) (item : Item (List ℕ)) → slice_get items p ≡ Some item → Contains items item
contains-at items p item e = (p, slice_get_within items p item e, get_or_from_slice_get items p item item e)

pub at-contained : (items : Items) (item : Item (List ℕ)) (at : Contains items item) → slice_get items at.0 ≡ Some item
at-contained items item at = slice_get-get_or items at.0 item at.1 ∙ ap Some at.2

pub label-shown : (names : List (List ℕ)) (item : Item NameId) (l : label_type.Label) → named names item ≡ Label l → item ≡ Label l
label-shown names (Label m) l e = let same : m ≡ l = cc in ap Label same
label-shown names _ l e = cc

copy-shown : (names : List (List ℕ)) (item : Item NameId) (name : List ℕ) (size : ℕ) → named names item ≡ Copy name size → (id : NameId) × (item ≡ Copy id size) × (name_of names id ≡ name)
copy-shown names (Copy id n) name size e = let same : n ≡ size = cc in (id, ap (Copy id) same, cc)
copy-shown names _ name size e = cc

-- ---- the name of the counters

pub counts-line : (item : Item (List ℕ)) → is_counts_line item ≡ true → item ≡ Name counts_name
counts-line (Name name) h = ap Name ((bytes_eq-Decides name counts_name).0 h)
counts-line _ h = cc

pub no-counts-more : (items : Items) (i : ℕ) (item : Item (List ℕ)) → slice_get items i ≡ Some item → is_counts_line item ≡ false
    → ((q : ℕ) → q < i → slice_get items q ≡ Some (Name counts_name) → ⊥) → (q : ℕ) → q < i + 1 → slice_get items q ≡ Some (Name counts_name) → ⊥
no-counts-more items i item e other before q less f = by_place (q == i) refl
  where
    by_place : (t : Bool) → (q == i) ≡ t → ⊥
    by_place true g =
        let here : slice_get items i ≡ Some (Name counts_name) = subst (λ k. slice_get items k ≡ Some (Name counts_name)) (eqb-true q i g) f in
        let same : item ≡ Name counts_name = some_is item (Name counts_name) (sym e ∙ here) in
        let yes : is_counts_line item ≡ true = ap is_counts_line same ∙ (bytes_eq-Decides counts_name counts_name).1 refl in cc
      where
        some_is : (a b : Item (List ℕ)) → Some a ≡ Some b → a ≡ b
        some_is a b e = cc
    by_place false g = before q (grind (arith, nat_tests, g, less)) f

-- ---- entries

there : (o : Option ℕ) → is_some o ≡ true → (p : ℕ) × (o ≡ Some p)
there (Some p) h = (p, refl)
there None h = cc

label-with-key : (item : Item NameId) (l : label_type.Label) → key_of item ≡ Some (label_key l) → item ≡ Label l
label-with-key (Label m) l e = ap Label (one-label m l (some-key (label_key m) (label_key l) e))
label-with-key (Copy id size) l e = absurd (not-copy l id.0 (sym (some-key (4, id.0) (label_key l) e)))
label-with-key _ l e = cc

copy-with-key : (item : Item NameId) (n : ℕ) → key_of item ≡ Some (4, n) → (id : NameId) × (size : ℕ) × (item ≡ Copy id size) × (id.0 ≡ n)
copy-with-key (Label m) n e = absurd (not-copy m n (some-key (label_key m) (4, n) e))
copy-with-key (Copy id size) n e = (id, size, refl, ap (λ (k : Key). k.1) (some-key (4, id.0) (4, n) e))
copy-with-key _ n e = cc

module _ (names : List (List ℕ)) (items : List (Item NameId)) (entries : List (Key × ℕ)) (keyed : AreKeyed entries items (length items)) where
  abbrev lines : Items
  lines = map (named names) items

  has-line : (key : Key) → has_entry entries key ≡ true → (p : ℕ) × (item : Item NameId) × (slice_get items p ≡ Some item) × (key_of item ≡ Some key)
  has-line key h =
      let at = there (lookup (is_key key) entries) h in
      let line = keyed-item items at.0 key (keyed.only key at.0 at.1).1 in
      (at.0, line.0, line.1, line.2)

  entry-of : (key : Key) (p : ℕ) (item : Item NameId) → slice_get items p ≡ Some item → key_of item ≡ Some key → has_entry entries key ≡ true
  entry-of key p item e h = ap is_some (keyed.every key p (slice_get_within items p item e) (ap (option_and_then key_of) e ∙ h))

  pub label-known : (l : label_type.Label) → Tells (has_entry entries (label_key l)) (Contains lines (Label l))
  label-known l = (yes, no)
    where
      yes : has_entry entries (label_key l) ≡ true → Contains lines (Label l)
      yes h =
          let at = has-line (label_key l) h in
          contains-at lines at.0 (Label l) (shown-at names items at.0 at.1 at.2 ∙ ap (λ x. Some (named names x)) (label-with-key at.1 l at.3))

      no : has_entry entries (label_key l) ≡ false → Contains lines (Label l) → ⊥
      no h at =
          let line = named-line names items at.0 (Label l) (at-contained lines (Label l) at) in
          let found = entry-of (label_key l) at.0 line.0 line.1 (ap key_of (label-shown names line.0 l line.2)) in cc

  module _ (formed : AreItems lines) (distinct : AreDistinct names) where
    formed-at : (p : ℕ) (item : Item NameId) → slice_get items p ≡ Some item → is_item (named names item) ≡ true
    formed-at p item e = item-formed lines p (named names item) formed (shown-at names items p item e)

    copy-known : (id : NameId) → id.0 < length names → Tells (has_entry entries (4, id.0)) (is_copied lines (name_of names id) ≡ true)
    copy-known id within = (yes, no)
      where
        yes : has_entry entries (4, id.0) ≡ true → is_copied lines (name_of names id) ≡ true
        yes h =
            let at = has-line (4, id.0) h in
            let copy = copy-with-key at.1 id.0 at.3 in
            line-copied lines (name_of names id) at.0 copy.1 (
            shown-at names items at.0 at.1 at.2 ∙ ap (λ x. Some (named names x)) copy.2 ∙ ap (λ n. Some (Copy (get_or names n []) copy.1)) copy.3)

        no : has_entry entries (4, id.0) ≡ false → is_copied lines (name_of names id) ≡ true → ⊥
        no h copied =
            let at = copied-line lines (name_of names id) copied in
            let line = named-line names items at.0 (Copy (name_of names id) at.1) at.2 in
            let copy = copy-shown names line.0 (name_of names id) at.1 line.2 in
            let good : is_item (named names (Copy copy.0 at.1)) ≡ true = subst (λ x. is_item (named names x) ≡ true) copy.1 (formed-at at.0 line.0 line.1) in
            let same = one-number names distinct copy.0 id (copy-import names copy.0 at.1 good) within copy.2 in
            let found = entry-of (4, id.0) at.0 line.0 line.1 (ap key_of copy.1 ∙ ap (λ (n : ℕ). Some (4, n)) same) in cc

    module _ (counters : Bool) (counted : Tells counters (Contains lines (Name counts_name))) where
      sym-known : (s : Sym NameId) → is_sym (map_sym (name_of names) s) ≡ true → Tells (is_known entries counters s) (IsDefined lines (map_sym (name_of names) s))
      sym-known (syms.Code a) h = label-known (label.Code a)
      sym-known (syms.Section n o) h = label-known (label.Section n)
      sym-known (syms.Named id o) h =
          let within = import-within names id (and_parts (is_import_name (name_of names id)) (is_word o) h).0 in
          tells-either (o == 0) (has_entry entries (4, id.0)) (tells-equal o 0) (copy-known id within)
      sym-known (syms.Counter k) h = counted

      -- ---- lines

      all-nil : (P : Sym (List ℕ) → Type 0) → All P []
      all-nil P = λ k d h. absurd (omega (arith, h))

      tells-one : (b : Bool) (s : Sym (List ℕ)) → Tells b (IsDefined lines s) → Tells b (All (IsDefined lines) (s ∷ []))
      tells-one b s t = (λ e. all_one (t.0 e), λ e all. t.1 e (all 0 s (omega arith)))
        where
          all_one : IsDefined lines s → All (IsDefined lines) (s ∷ [])
          all_one h zero d within = h
          all_one h (suc k) d within = absurd (omega (arith, within))

      tells-none : Tells true (All (IsDefined lines) [])
      tells-none = (λ e. all-nil (IsDefined lines), λ e h. cc)

      insn-known : (i : Insn (Sym NameId)) (o : Option (Sym NameId)) → reference_of i ≡ o → is_item (named names (Ins i)) ≡ true
          → Tells (is_known_or_none entries counters o) (UsesDefined lines (named names (Ins i)))
      insn-known i None e h =
          let j : Insn (Sym (List ℕ)) = map_references (map_sym (name_of names)) i in
          let parts = and_parts (is_instruction j && list_all is_sym (references_of j)) (fits_fields j) h in
          let good = and_parts (is_instruction j) (list_all is_sym (references_of j)) parts.0 in
          let none : references_of j ≡ [] = listed-references j good.0 ∙ ap to_list (reference_mapped (map_sym (name_of names)) i ∙ ap (option_map (map_sym (name_of names))) e) in
          subst (λ rs. Tells true (All (IsDefined lines) rs)) (sym none) tells-none
      insn-known i (Some s) e h =
          let j : Insn (Sym (List ℕ)) = map_references (map_sym (name_of names)) i in
          let t : Sym (List ℕ) = map_sym (name_of names) s in
          let parts = and_parts (is_instruction j && list_all is_sym (references_of j)) (fits_fields j) h in
          let good = and_parts (is_instruction j) (list_all is_sym (references_of j)) parts.0 in
          let one : references_of j ≡ t ∷ [] = listed-references j good.0 ∙ ap to_list (reference_mapped (map_sym (name_of names)) i ∙ ap (option_map (map_sym (name_of names))) e) in
          let fine : is_sym t ≡ true = (and_parts (is_sym t) true (subst (λ rs. list_all is_sym rs ≡ true) one good.1)).0 in
          subst (λ rs. Tells (is_known entries counters s) (All (IsDefined lines) rs)) (sym one) (tells-one (is_known entries counters s) t (sym-known s fine))

      line-known : (item : Item NameId) → is_item (named names item) ≡ true → Tells (uses_known entries counters item) (UsesDefined lines (named names item))
      line-known (Ins i) h = insn-known i (reference_of i) refl h
      line-known (Quad s) h = tells-one (is_known entries counters s) (map_sym (name_of names) s) (sym-known s h)
      line-known (LongDiff code table) h = tells-both (has_entry entries (0, code)) (has_entry entries (3, table)) (label-known (label.Code code)) (label-known (label.Table table))
      line-known _ h = tells-none

      abbrev is_unknown : Item NameId → Bool
      is_unknown item = not (uses_known entries counters item)

      not-true : (b : Bool) → not b ≡ true → b ≡ false
      not-true true h = cc
      not-true false h = refl

      not-false : (b : Bool) → not b ≡ false → b ≡ true
      not-false true h = refl
      not-false false h = cc

      known-before : (q : ℕ) → ((x : Item NameId) → slice_get items q ≡ Some x → is_unknown x ≡ false) → UsesUndefined lines q → ⊥
      known-before q known uses =
          let line = named-line names items q uses.0 uses.1 in
          let yes = not-false (uses_known entries counters line.0) (known line.0 line.1) in
          uses.2 (subst (UsesDefined lines) line.2 ((line-known line.0 (formed-at q line.0 line.1)).0 yes))

      pub first-undefined : (p : ℕ) → position is_unknown items ≡ Some p → IsFirstAt (UsesUndefined lines) p
      first-undefined p e =
          let at = position-at is_unknown items p e in
          let line = at.0 in
          record {
            here = (named names line, shown-at names items p line at.1, (line-known line (formed-at p line at.1)).1 (not-true (uses_known entries counters line) at.2));
            before = λ q less. known-before q (λ x f. at.3 q x less f);
          }

      pub none-undefined : position is_unknown items ≡ None → Nowhere (UsesUndefined lines)
      none-undefined e q = known-before q (λ x f. position-none is_unknown items e q x f)
