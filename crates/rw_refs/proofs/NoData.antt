-- A file without kept sections and without slots: nothing but a point has a reference.
use Rattle.std.proofs.Common.{◌≡◌, ℕ, ◌+◌, ◌-◌, length, Bool, true, false, not, cond, List, [], Option, Some, None, refl, sym, ap, ◌∙◌}
use Rattle.std.specs.List.{filter, position}
use Rattle.std.specs.Option.{is_some, option_and_then, option_map, option_or}
use Rattle.rw_base.specs.declared.fault.Fault.{Fault}
use Rattle.rw_base.specs.declared.fault.Fault.TheVariants.{BadTarget, BadReference}
use Rattle.rw_base.specs.Rules.{when}
use Rattle.x86_insn.specs.declared.instruction.Insn.{Insn}
use Rattle.rw_words.specs.declared.atom.Atom.{Atom}
use Rattle.rw_words.specs.declared.atom.Atom.TheVariants.{Code, Import, Ptr}
use Rattle.rw_elf.specs.declared.section.Section.{Section}
use Rattle.rw_elf.specs.Places.{ends_at, kept_around, kept_ending, section_around, spans}
use Rattle.rw_elf.specs.Tables.{is_named, kept_sections}
use Rattle.rw_reloc.specs.declared.slot.Slot.{Slot}
use Rattle.rw_reloc.specs.Slots.{copies_of, copy_around, is_copy_slot, slot_at, slots_of, takes}
use Rattle.rw_funcs.specs.Points.{is_point, file_points}
use Rattle.rw_refs.specs.Stubs.{bytes_on, import_at, import_of, place_through, stub_at, stub_in, stub_sections}
use Rattle.rw_refs.specs.References.{copy_at, end_at, inside_at, offset_in, point_at, reference_at, start_at, starts_at, target_at}
use Rattle.rw_refs.specs.CodeReferences.{is_direct, naming_fault}

module _ (bytes : List ℕ) (kept : kept_sections bytes ≡ []) (slots : slots_of bytes ≡ []) (a : ℕ) where
  no-import : (b : ℕ) → import_at bytes b ≡ None
  unfolding slot_at
  no-import b = ap (λ l. option_and_then (λ s. import_of s.kind s.target) (slot_at l b)) slots

  no-stub : stub_at bytes a ≡ None
  unfolding stub_at
  no-stub = by_section (section_around bytes a)
    where
      by_place : (o : Option ℕ) → option_and_then (import_at bytes) o ≡ None
      by_place None = refl
      by_place (Some b) = no-import b

      by_name : (t : Bool) (o : Option ℕ) → cond t (option_and_then (import_at bytes) o) None ≡ None
      by_name true o = by_place o
      by_name false o = refl

      by_section : (o : Option Section) → option_and_then (stub_in bytes a) o ≡ None
      by_section None = refl
      by_section (Some s) = by_name (is_named bytes stub_sections s) (place_through a (bytes_on bytes a s))

  no-copy : copy_at bytes a ≡ None
  unfolding copies_of copy_around
  no-copy = ap (λ l. option_map (λ k. Ptr (length (kept_sections bytes) + k) (offset_in (filter is_copy_slot l) (λ (s : Slot). a - s.address) k)) (position (takes a) (filter is_copy_slot l))) slots

  no-start : start_at bytes a ≡ None
  no-start = ap (λ l. option_map (λ k. Ptr k 0) (position (starts_at a) l)) kept

  no-inside : inside_at bytes a ≡ None
  unfolding kept_around
  no-inside = ap (λ l. option_map (λ k. Ptr k (offset_in l (λ (s : Section). a - s.addr) k)) (position (spans a) l)) kept

  no-end : end_at bytes a ≡ None
  unfolding kept_ending
  no-end = ap (λ l. option_map (λ k. Ptr k (offset_in l (λ (s : Section). s.size) k)) (position (ends_at a) l)) kept

  or-none : (o : Option Atom) → option_or o None ≡ o
  or-none None = refl
  or-none (Some x) = refl

  pub target-point : target_at bytes a ≡ point_at bytes a
  unfolding target_at
  target-point = ap (λ o. option_or (point_at bytes a) (option_or (option_map Import o) None)) no-stub ∙ or-none (point_at bytes a)

  pub reference-point : reference_at bytes a ≡ point_at bytes a
  unfolding reference_at target_at
  reference-point =
      ap (λ o. option_or o (option_or (start_at bytes a) (option_or (inside_at bytes a) (option_or (end_at bytes a) (target_at bytes a))))) no-copy
      ∙ ap (λ o. option_or o (option_or (inside_at bytes a) (option_or (end_at bytes a) (target_at bytes a)))) no-start
      ∙ ap (λ o. option_or o (option_or (end_at bytes a) (target_at bytes a))) no-inside
      ∙ ap (λ o. option_or o (target_at bytes a)) no-end
      ∙ target-point

-- what a point names without a fault is then a point
test-true : (t : Bool) (fault : Fault) → when (not t) fault ≡ None → t ≡ true
test-true true fault h = refl
test-true false fault h = absurd (cc)

point-some : (t : Bool) (a : ℕ) → is_some (cond t (Some (Code a)) None) ≡ true → t ≡ true
point-some true a h = refl
point-some false a h = absurd (cc)

pub names-point : (bytes : List ℕ) → kept_sections bytes ≡ [] → slots_of bytes ≡ [] → (a : ℕ) (i : Insn ℕ) (named : ℕ) → naming_fault bytes a i named ≡ None → is_point (file_points bytes) named ≡ true
names-point bytes kept slots a i named none = by_kind (is_direct i) none
  where
    by_kind : (t : Bool) → cond t (when (not (is_some (target_at bytes named))) (BadTarget a)) (when (not (is_some (reference_at bytes named))) (BadReference a)) ≡ None → is_point (file_points bytes) named ≡ true
    by_kind true h = point-some (is_point (file_points bytes) named) named (ap is_some (sym (target-point bytes kept slots named)) ∙ test-true (is_some (target_at bytes named)) (BadTarget a) h)
    by_kind false h = point-some (is_point (file_points bytes) named) named (ap is_some (sym (reference-point bytes kept slots named)) ∙ test-true (is_some (reference_at bytes named)) (BadReference a) h)
