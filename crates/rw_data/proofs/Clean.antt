-- A file has no first fault where no phase finds any, and then no phase finds any.
use Rattle.std.proofs.Common.{◌≡◌, ℕ, ◌+◌, ◌<◌, ◌≤◌, ◌^◌, true, List, ◌++◌, filter, length, Option, Some, None, Contains, refl, sym, ◌∙◌, arith}
use Rattle.std.specs.Option.{option_or}
use Rattle.std.proofs.lemmas.Bool.Decides.{nat_tests}
use Rattle.rw_base.specs.Rules.{first}
use Rattle.rw_base.proofs.First.{first_append}
use Rattle.rw_base.specs.declared.fault.Fault.{Fault}
use Rattle.rw_elf.specs.declared.section.Section.{Section}
use Rattle.rw_elf.specs.Section.{sections}
use Rattle.rw_elf.specs.Sections.{has_bytes, is_placed}
use Rattle.rw_elf.specs.Places.{Covers, covers, section_around}
use Rattle.rw_elf.specs.Tables.{elf_rules, is_kept, kept_sections}
use Rattle.std.proofs.lemmas.Option.{get_or_from_slice_get, slice_get_within}
use Rattle.rw_elf.proofs.Around.{covers-parts, filter_contains, filter_tests, placed_from}
use Rattle.rw_elf.proofs.Clean.{clean_around, clean_stored}
use Rattle.rw_elf.proofs.Limits.{placed_below}
use Rattle.rw_reloc.specs.Relocations.{relocation_rules}
use Rattle.rw_funcs.specs.Functions.{function_rules}
use Rattle.rw_funcs.specs.Points.{point_rules}
use Rattle.rw_tables.specs.Tables.{table_rules}
use Rattle.rw_refs.specs.CodeReferences.{code_rules}
use Rattle.rw_refs.specs.DataTargets.{slot_rules}
use Rattle.rw_data.specs.FirstFault.{first_fault}

pub record IsClean (file : List ℕ) : Type 0 where
  pub elf : first (elf_rules file) ≡ None
  pub relocations : first (relocation_rules file) ≡ None
  pub functions : first (function_rules file) ≡ None
  pub points : first (point_rules file) ≡ None
  pub tables : first (table_rules file) ≡ None
  pub references : first (code_rules file) ≡ None
  pub slots : first (slot_rules file) ≡ None

both_none : (a b : Option Fault) → option_or a b ≡ None → (a ≡ None) × (b ≡ None)
both_none None b h = (refl, h)
both_none (Some x) b h = absurd (cc)

pub each_clean : (file : List ℕ) → first_fault file ≡ None → IsClean file
each_clean file h =
    let elf = elf_rules file in
    let relocations = relocation_rules file in
    let functions = function_rules file in
    let points = point_rules file in
    let tables = table_rules file in
    let references = code_rules file in
    let slots = slot_rules file in
    let six = both_none (first (elf ++ relocations ++ functions ++ points ++ tables ++ references)) (first slots) (sym (first_append (elf ++ relocations ++ functions ++ points ++ tables ++ references) slots) ∙ h) in
    let five = both_none (first (elf ++ relocations ++ functions ++ points ++ tables)) (first references) (sym (first_append (elf ++ relocations ++ functions ++ points ++ tables) references) ∙ six.0) in
    let four = both_none (first (elf ++ relocations ++ functions ++ points)) (first tables) (sym (first_append (elf ++ relocations ++ functions ++ points) tables) ∙ five.0) in
    let three = both_none (first (elf ++ relocations ++ functions)) (first points) (sym (first_append (elf ++ relocations ++ functions) points) ∙ four.0) in
    let two = both_none (first (elf ++ relocations)) (first functions) (sym (first_append (elf ++ relocations) functions) ∙ three.0) in
    let one = both_none (first elf) (first relocations) (sym (first_append elf relocations) ∙ two.0) in
    record { elf = one.0; relocations = one.1; functions = two.1; points = three.1; tables = four.1; references = five.1; slots = six.1 }

-- ---- a kept section

pub record IsKept (bytes : List ℕ) (s : Section) : Type 0 where
  pub listed : Contains (sections bytes) s
  pub placed : is_placed s ≡ true
  pub some : 0 < s.size
  pub low : s.addr + s.size ≤ 2 ^ 47
  pub stored : has_bytes s ≡ true → s.offset + s.size ≤ length bytes

placed-some : (s : Section) → is_placed s ≡ true → 0 < s.size
placed-some s placed = grind (arith, nat_tests)

pub is-kept : (bytes : List ℕ) (s : Section) → first (elf_rules bytes) ≡ None → Contains (kept_sections bytes) s → IsKept bytes s
unfolding kept_sections
is-kept bytes s clean here =
    let from = placed_from bytes s (filter_contains (is_kept bytes) _ s here) in
    record {
      listed = from.0;
      placed = from.1;
      some = placed-some s from.1;
      low = placed_below bytes s clean from.0 from.1;
      stored = λ has. clean_stored bytes s clean from.0 from.1 has;
    }

covers-whole : (a : ℕ) (s : Section) → is_placed s ≡ true → Covers a s → covers a s ≡ true
covers-whole a s placed on = grind (arith, nat_tests)

-- the section around its addresses
pub kept-around : (bytes : List ℕ) (s : Section) (a : ℕ) → first (elf_rules bytes) ≡ None → Contains (kept_sections bytes) s → Covers a s → section_around bytes a ≡ Some s
kept-around bytes s a clean here on =
    let kept = is-kept bytes s clean here in
    clean_around bytes a s clean kept.listed (covers-whole a s kept.placed on)

-- what an address belongs to is a section that covers it
pub around-covers : (bytes : List ℕ) (a : ℕ) (s : Section) → section_around bytes a ≡ Some s → Contains (sections bytes) s × (is_placed s ≡ true) × Covers a s
unfolding section_around
around-covers bytes a s is =
    let first : Contains (filter (covers a) (sections bytes)) s = (0, slice_get_within _ 0 s is, get_or_from_slice_get _ 0 s s is) in
    let parts = covers-parts a s (filter_tests (covers a) (sections bytes) s first) in
    (filter_contains (covers a) (sections bytes) s first, parts.0, parts.1)

-- two sections that share an address are one
pub one-section : (bytes : List ℕ) (a : ℕ) (s u : Section) → first (elf_rules bytes) ≡ None → Contains (kept_sections bytes) s → Covers a s → Contains (sections bytes) u → is_placed u ≡ true → Covers a u → u ≡ s
one-section bytes a s u clean here on listed placed on_u =
    let one = kept-around bytes s a clean here on in
    let other = clean_around bytes a u clean listed (covers-whole a u placed on_u) in
    let same : Some u ≡ Some s = sym other ∙ one in
    cc
