-- What the rules leave of each jump table and of each slot.
use Rattle.std.proofs.Common.{◌≡◌, ℕ, ◌+◌, ◌<◌, ◌≤◌, Bool, true, false, not, ◌||◌, ◌==◌, nat_le, nat_lt, List, Option, Some, None, Contains, refl, subst, arith}
use Rattle.std.specs.Option.{option_map_or}
use Rattle.std.proofs.lemmas.Bool.{and_parts}
use Rattle.std.proofs.lemmas.Bool.Decides.{nat_tests}
use Rattle.rw_elf.specs.declared.section.Section.{Section}
use Rattle.rw_elf.specs.Places.{Covers, section_around}
use Rattle.rw_elf.specs.Sections.{has_bytes, is_writable}
use Rattle.rw_elf.specs.Tables.{kept_sections}
use Rattle.rw_reloc.specs.declared.slot.Slot.{Slot}
use Rattle.rw_reloc.specs.Relocations.{holds as slot_holds}
use Rattle.rw_reloc.specs.Slots.{slots_of}
use Rattle.rw_reloc.specs.Targets.{target_size}
use Rattle.rw_reloc.proofs.SlotFacts.{held}
use Rattle.rw_tables.specs.declared.table.Table.{Table}
use Rattle.rw_tables.specs.Tables.{end_of, holds, tables_of}
use Rattle.rw_tables.proofs.GoodTables.{table-good}
use Rattle.rw_tables.proofs.TableFacts.{some-item}
use Rattle.rw_data.proofs.Clean.{IsClean, around-covers, is-kept, one-section}

-- ---- tables

held-parts : (t : Table) (s : Section) → holds t s ≡ true → (is_writable s ≡ false) × Covers t.base s × (end_of t ≤ s.addr + s.size)
held-parts t s h =
    let parts = and_parts (not (is_writable s)) _ h in
    let three = and_parts (nat_le s.addr t.base) _ parts.1 in
    let two = and_parts (nat_lt t.base (s.addr + s.size)) (nat_le (end_of t) (s.addr + s.size)) three.1 in
    let low = three.0 in
    let mid = two.0 in
    let high = two.1 in
    (off (is_writable s) parts.0, (le t _ _ low, lt t _ _ mid), le t _ _ high)
  where
    off : (b : Bool) → not b ≡ true → b ≡ false
    off true g = absurd (cc)
    off false g = refl

    le : (u : Table) (m n : ℕ) → nat_le m n ≡ true → m ≤ n
    le u m n g = grind (arith, nat_tests)

    lt : (u : Table) (m n : ℕ) → nat_lt m n ≡ true → m < n
    lt u m n g = grind (arith, nat_tests)

-- a table with an address in a kept section lies in it, and it isn't written
pub table-in : (bytes : List ℕ) (s : Section) (t : Table) (a : ℕ) → IsClean bytes → Contains (kept_sections bytes) s → Covers a s → Contains (tables_of bytes) t → t.base ≤ a → a < end_of t → (is_writable s ≡ false) × Covers t.base s × (end_of t ≤ s.addr + s.size)
table-in bytes s t a clean here on listed low high =
    let good = table-good bytes t clean.tables listed in
    let u = some-item (holds t) (kept_sections bytes) good.constant in
    let parts = held-parts t u.0 u.2 in
    let kept = is-kept bytes u.0 clean.elf u.1 in
    let on_base = parts.1 in
    let start = on_base.0 in
    let end = parts.2 in
    let same : u.0 ≡ s = one-section bytes a s u.0 clean.elf here on kept.listed kept.placed (omega (arith, start, low), omega (arith, end, high)) in
    subst (λ v. (is_writable v ≡ false) × Covers t.base v × (end_of t ≤ v.addr + v.size)) same parts

-- ---- slots

slot-parts : (bytes : List ℕ) (t : Slot) (o : Option Section) → option_map_or (slot_holds t.address (target_size t.target) (t.kind == 5)) o false ≡ true → (u : Section) × (o ≡ Some u) × (is_writable u ≡ true) × (t.address + target_size t.target ≤ u.addr + u.size) × ((t.kind == 5 || has_bytes u) ≡ true)
slot-parts bytes t None h = absurd (cc)
slot-parts bytes t (Some u) h =
    let parts = and_parts (is_writable u) _ h in
    let two = and_parts (nat_le (t.address + target_size t.target) (u.addr + u.size)) _ parts.1 in
    (u, refl, parts.0, le _ _ two.0, two.1)
  where
    le : (m n : ℕ) → nat_le m n ≡ true → m ≤ n
    le m n g = grind (arith, nat_tests)

-- a slot with an address in a kept section lies in it, and it may be written; one in which no symbol is copied has bytes in
-- the file
pub slot-in : (bytes : List ℕ) (s : Section) (t : Slot) (a : ℕ) → IsClean bytes → Contains (kept_sections bytes) s → Covers a s → Contains (slots_of bytes) t → t.address ≤ a → a < t.address + target_size t.target → (is_writable s ≡ true) × Covers t.address s × (t.address + target_size t.target ≤ s.addr + s.size) × ((t.kind == 5 || has_bytes s) ≡ true)
slot-in bytes s t a clean here on listed low high =
    let parts = slot-parts bytes t (section_around bytes t.address) (held bytes t clean.relocations listed) in
    let u = parts.0 in
    let around = around-covers bytes t.address u parts.1 in
    let start = around.2.0 in
    let end = parts.3 in
    let same : u ≡ s = one-section bytes a s u clean.elf here on around.0 around.1 (omega (arith, start, low), omega (arith, end, high)) in
    subst (λ v. (is_writable v ≡ true) × Covers t.address v × (t.address + target_size t.target ≤ v.addr + v.size) × ((t.kind == 5 || has_bytes v) ≡ true)) same (parts.2, around.2, parts.3, parts.4)

-- the kept section in which a table lies
pub table-section : (bytes : List ℕ) (t : Table) → IsClean bytes → Contains (tables_of bytes) t → (s : Section) × Contains (kept_sections bytes) s × Covers t.base s
table-section bytes t clean listed =
    let u = some-item (holds t) (kept_sections bytes) (table-good bytes t clean.tables listed).constant in
    (u.0, u.1, (held-parts t u.0 u.2).1)
