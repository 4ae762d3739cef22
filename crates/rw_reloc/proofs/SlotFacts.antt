-- What the rules on entries leave of each slot.
use Rattle.std.proofs.Common.{◌≡◌, ℕ, ◌<◌, Bool, true, false, not, ◌&&◌, ◌||◌, ◌==◌, List, length, get_or, slice_get, Some, None, Contains, refl, sym, ap, ◌∙◌, subst, arith, inl, inr}
use Rattle.std.proofs.lemmas.Bool.{cases_Bool}
use Rattle.std.proofs.lemmas.Bool.Decides.{nat_tests}
use Rattle.std.proofs.lemmas.List.{get_or-map, length-map}
use Rattle.std.specs.Option.{option_map_or, option_and_then}
use Rattle.std.proofs.Math.Bool.{or-true}
use Rattle.rw_base.specs.Rules.{first}
use Rattle.rw_base.proofs.First.{first_none}
use Rattle.rw_elf.specs.declared.symbol.Symbol.{Symbol}
use Rattle.rw_elf.specs.Symbols.{dynamic_symbols}
use Rattle.rw_reloc.specs.declared.entry.Entry.{Entry}
use Rattle.rw_reloc.specs.declared.slot.Slot.{Slot}
use Rattle.rw_reloc.specs.declared.slot.Target.{Target}
use Rattle.rw_reloc.specs.declared.slot.Target.TheVariants.{To, Import, Copy}
use Rattle.rw_reloc.specs.Entries.{entries, null_entry}
use Rattle.rw_base.specs.Name.{is_import_name}
use Rattle.rw_elf.specs.Name.{name_bytes}
use Rattle.rw_reloc.specs.Relocations.{entry_fault, is_copied, is_held, is_imported, name_fault, relocation_rules, symbol_passes}
use Rattle.rw_reloc.specs.Slots.{is_kept_at, slot_at, slot_of, slots_of}
use Rattle.rw_reloc.specs.Targets.{is_copy, is_relative, is_undefined, symbol_of, symbol_target, target_of, target_size}
use Rattle.rw_reloc.proofs.Apart.{clean_entries, entry_clean, good_place, name_clean, place_some, slots_apart}
use Rattle.rw_reloc.proofs.Search.{slot_at-is}

pub one_at : (bytes : List ℕ) (s : Slot) → first (relocation_rules bytes) ≡ None → Contains (slots_of bytes) s → slot_at (slots_of bytes) s.address ≡ Some s
one_at bytes s clean here = slot_at-is (slots_of bytes) s.address s (slots_apart bytes (clean_entries bytes clean)) here refl

-- the entry of a slot
record IsOf (bytes : List ℕ) (s : Slot) : Type 0 where
  pub entry : Entry
  pub slot : slot_of bytes entry ≡ s
  pub clean : entry_fault bytes entry ≡ None

entry_of : (bytes : List ℕ) (s : Slot) → first (relocation_rules bytes) ≡ None → Contains (slots_of bytes) s → IsOf bytes s
unfolding slots_of
entry_of bytes s clean here =
    let within : here.0 < length (entries bytes) = omega (arith, here.1, length-map (entries bytes) (slot_of bytes)) in
    record {
      entry = get_or (entries bytes) here.0 null_entry;
      slot = sym (get_or-map (slot_of bytes) (entries bytes) here.0 null_entry s within) ∙ here.2;
      clean = first_none _ _ (entry_clean bytes (clean_entries bytes clean) here.0 null_entry within);
    }

both : (a b c : Bool) → (a && (b && c)) ≡ true → (b ≡ true) × (c ≡ true)
both true true true h = (refl, refl)
both true true false h = absurd (cc)
both true false c h = absurd (cc)
both false b c h = absurd (cc)

held_entry : (bytes : List ℕ) (e : Entry) → entry_fault bytes e ≡ None → is_held bytes (slot_of bytes e) ≡ true
unfolding slot_of
held_entry bytes e clean = (both _ _ _ (good_place bytes e clean)).0

pub held : (bytes : List ℕ) (s : Slot) → first (relocation_rules bytes) ≡ None → Contains (slots_of bytes) s → is_held bytes s ≡ true
held bytes s clean here =
    let o = entry_of bytes s clean here in
    subst (λ t. is_held bytes t ≡ true) o.slot (held_entry bytes o.entry o.clean)

-- the symbol of an entry that imports or copies
symbol-passes : (bytes : List ℕ) (e : Entry) (y : Symbol) (test : Symbol → Bool) → symbol_of bytes e ≡ Some y → test y ≡ true → symbol_passes bytes e.symbol test ≡ true
unfolding symbol_of
symbol-passes bytes e y test is passes =
    elim (cases_Bool (is_relative e || e.symbol == 0)) [
      | inl left ↦ let gone : None ≡ Some y = simp left at is in absurd (cc)
      | inr right ↦
          let at : slice_get (dynamic_symbols bytes) e.symbol ≡ Some y = simp right at is in
          ap (λ o. option_map_or test o false) at ∙ passes
    ]

named : (bytes : List ℕ) (e : Entry) (y : Symbol) → entry_fault bytes e ≡ None → symbol_of bytes e ≡ Some y → (is_undefined y || is_copy e) ≡ true → is_import_name (name_bytes bytes y.name) ≡ true
named bytes e y clean is free =
    let none : name_fault bytes e y ≡ None = sym (ap (option_and_then (name_fault bytes e)) is) ∙ name_clean bytes e clean in
    grind (arith, nat_tests)

-- the symbol of an entry by its target
import-parts : (e : Entry) (y : Symbol) (number : ℕ) → symbol_target e y ≡ Import number → (is_undefined y ≡ true) × (e.symbol ≡ number)
import-parts e y number target =
    elim (cases_Bool (is_copy e)) [
      | inl copied ↦ let own : Copy e.symbol y.size ≡ Import number = simp copied at target in absurd (cc)
      | inr other ↦
          elim (cases_Bool (is_undefined y)) [
            | inl undefined ↦ let own : Import e.symbol ≡ Import number = simp (other, undefined) at target in (undefined, cc)
            | inr defined ↦
                elim (cases_Bool (e.kind == 1)) [
                  | inl sum ↦ absurd (import-to number _ (sym (simp (other, defined, sum) at target)))
                  | inr value ↦ absurd (import-to number _ (sym (simp (other, defined, value) at target)))
                ]
          ]
    ]
  where
    import-to : (number a : ℕ) → Import number ≡ To a → ⊥
    import-to number a h = cc

copy-parts : (e : Entry) (y : Symbol) (number size : ℕ) → symbol_target e y ≡ Copy number size → (is_copy e ≡ true) × (e.symbol ≡ number) × (y.size ≡ size)
copy-parts e y number size target =
    elim (cases_Bool (is_copy e)) [
      | inl copied ↦ let own : Copy e.symbol y.size ≡ Copy number size = simp copied at target in (copied, cc, cc)
      | inr other ↦
          elim (cases_Bool (is_undefined y)) [
            | inl undefined ↦ let own : Import e.symbol ≡ Copy number size = simp (other, undefined) at target in absurd (cc)
            | inr defined ↦
                elim (cases_Bool (e.kind == 1)) [
                  | inl sum ↦ absurd (copy-to number size _ (sym (simp (other, defined, sum) at target)))
                  | inr value ↦ absurd (copy-to number size _ (sym (simp (other, defined, value) at target)))
                ]
          ]
    ]
  where
    copy-to : (number size a : ℕ) → Copy number size ≡ To a → ⊥
    copy-to number size a h = cc

own_target : (bytes : List ℕ) (e : Entry) (y : Symbol) (t : Target) → symbol_of bytes e ≡ Some y → target_of bytes e ≡ t → symbol_target e y ≡ t
unfolding target_of
own_target bytes e y t is target = sym (ap (λ o. option_map_or (symbol_target e) o (To e.addend)) is) ∙ target

no_target : (bytes : List ℕ) (e : Entry) (t : Target) → symbol_of bytes e ≡ None → target_of bytes e ≡ t → To e.addend ≡ t
unfolding target_of
no_target bytes e t is target = sym (ap (λ o. option_map_or (symbol_target e) o (To e.addend)) is) ∙ target

import_entry : (bytes : List ℕ) (e : Entry) (number : ℕ) → entry_fault bytes e ≡ None → target_of bytes e ≡ Import number → symbol_passes bytes number (is_imported bytes) ≡ true
import_entry bytes e number clean target =
    (elim (symbol_of bytes e) as (λ o. symbol_of bytes e ≡ o → symbol_passes bytes number (is_imported bytes) ≡ true) [
      | None ↦ λ is. let own = no_target bytes e (Import number) is target in absurd (cc)
      | Some y ↦ λ is.
          let parts = import-parts e y number (own_target bytes e y (Import number) is target) in
          let name = named bytes e y clean is (ap (λ b. b || is_copy e) parts.0) in
          subst (λ n. symbol_passes bytes n (is_imported bytes) ≡ true) parts.1 (symbol-passes bytes e y (is_imported bytes) is (ap (λ b. b && is_import_name (name_bytes bytes y.name)) parts.0 ∙ name))
    ]) refl

copy_entry : (bytes : List ℕ) (e : Entry) (number size : ℕ) → entry_fault bytes e ≡ None → target_of bytes e ≡ Copy number size → (is_copy e ≡ true) × (symbol_passes bytes number (is_copied bytes size) ≡ true)
copy_entry bytes e number size clean target =
    (elim (symbol_of bytes e) as (λ o. symbol_of bytes e ≡ o → (is_copy e ≡ true) × (symbol_passes bytes number (is_copied bytes size) ≡ true)) [
      | None ↦ λ is. let own = no_target bytes e (Copy number size) is target in absurd (cc)
      | Some y ↦ λ is.
          let parts = copy-parts e y number size (own_target bytes e y (Copy number size) is target) in
          let free : (is_undefined y || is_copy e) ≡ true = rw parts.0 (or-true (is_undefined y)) in
          let name = named bytes e y clean is free in
          let same : (y.size == size) ≡ true = let level = parts.2 in grind (arith, nat_tests) in
          (parts.0, subst (λ n. symbol_passes bytes n (is_copied bytes size) ≡ true) parts.1 (symbol-passes bytes e y (is_copied bytes size) is (ap (λ b. b && is_import_name (name_bytes bytes y.name)) same ∙ name)))
    ]) refl

slot-target : (bytes : List ℕ) (e : Entry) → (slot_of bytes e).target ≡ target_of bytes e
unfolding slot_of
slot-target bytes e = refl

slot-kept : (bytes : List ℕ) (e : Entry) → (slot_of bytes e).kept ≡ is_kept_at bytes e.offset
unfolding slot_of
slot-kept bytes e = refl

kept_entry : (bytes : List ℕ) (e : Entry) → (slot_of bytes e).kept ≡ is_kept_at bytes (slot_of bytes e).address
unfolding slot_of
kept_entry bytes e = refl

pub kept_told : (bytes : List ℕ) (s : Slot) → first (relocation_rules bytes) ≡ None → Contains (slots_of bytes) s → s.kept ≡ is_kept_at bytes s.address
kept_told bytes s clean here =
    let o = entry_of bytes s clean here in
    subst (λ t. t.kept ≡ is_kept_at bytes t.address) o.slot (kept_entry bytes o.entry)

its_target : (bytes : List ℕ) (s : Slot) (o : IsOf bytes s) (t : Target) → s.target ≡ t → target_of bytes o.entry ≡ t
its_target bytes s o t is = sym (slot-target bytes o.entry) ∙ ap (λ x. x.target) o.slot ∙ is

pub import_named : (bytes : List ℕ) (s : Slot) (number : ℕ) → first (relocation_rules bytes) ≡ None → Contains (slots_of bytes) s → s.target ≡ Import number → symbol_passes bytes number (is_imported bytes) ≡ true
import_named bytes s number clean here target =
    let o = entry_of bytes s clean here in
    import_entry bytes o.entry number o.clean (its_target bytes s o (Import number) target)

pub copy_named : (bytes : List ℕ) (s : Slot) (number size : ℕ) → first (relocation_rules bytes) ≡ None → Contains (slots_of bytes) s → s.target ≡ Copy number size → symbol_passes bytes number (is_copied bytes size) ≡ true
copy_named bytes s number size clean here target =
    let o = entry_of bytes s clean here in
    (copy_entry bytes o.entry number size o.clean (its_target bytes s o (Copy number size) target)).1

pub copy_some : (bytes : List ℕ) (s : Slot) (number size : ℕ) → first (relocation_rules bytes) ≡ None → Contains (slots_of bytes) s → s.target ≡ Copy number size → 0 < size
copy_some bytes s number size clean here target =
    let o = entry_of bytes s clean here in
    subst (λ t. 0 < target_size t) (its_target bytes s o (Copy number size) target) (place_some bytes o.entry o.clean)

pub copy_kept : (bytes : List ℕ) (s : Slot) (number size : ℕ) → first (relocation_rules bytes) ≡ None → Contains (slots_of bytes) s → s.target ≡ Copy number size → s.kept ≡ true
copy_kept bytes s number size clean here target =
    let o = entry_of bytes s clean here in
    let copied = (copy_entry bytes o.entry number size o.clean (its_target bytes s o (Copy number size) target)).0 in
    let kept : (not (is_copy o.entry) || is_kept_at bytes o.entry.offset) ≡ true = (both _ _ _ (good_place bytes o.entry o.clean)).1 in
    sym (ap (λ x. x.kept) o.slot) ∙ slot-kept bytes o.entry ∙ (simp copied at kept)
