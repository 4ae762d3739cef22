-- Relocation entries (gABI, "Relocation").
use Rattle.std.specs.Prelude.{◌≡◌, Contains, ℕ, ◌+◌, ◌*◌, ◌/◌, ◌%◌, ◌^◌, List, [], map, filter, Bool, not, ◌&&◌, ◌==◌, if◌then◌else◌}
use Rattle.std.specs.List.{range_with_len, flat_map}
use Rattle.std.specs.Ordering.{is_lt, nat_cmp, ordering_then}
use Rattle.rw_base.specs.Order.{ordered}
use Rattle.rw_elf.specs.declared.section.Section.{Section}
use Rattle.rw_elf.specs.Number.{number}
use Rattle.rw_elf.specs.Section.{sections}
use Rattle.rw_elf.specs.Sections.{is_placed}
use Rattle.rw_reloc.specs.declared.entry.Entry.{Entry}
use Rattle.rw_reloc.specs.Relr.{is_relr, relative_entries}

-- the entry at an index of a table: r_offset at 0, r_info at 8 (the symbol in the high 32 bits, the type in the low 32),
-- r_addend at 16
unfoldable pub entry_at : List ℕ → Section → ℕ → Entry
entry_at bytes table k = let at = table.offset + 24 * k in record {
  offset = number bytes at 8;
  kind = number bytes (at + 8) 8 % 2 ^ 32;
  symbol = number bytes (at + 8) 8 / 2 ^ 32;
  addend = number bytes (at + 16) 8;
  table = table.index;
  index = k;
}

-- it is a table of entries that is loaded: SHT_RELA is 4
abbrev pub has_entries : Section → Bool
has_entries s = is_placed s && s.kind == 4

-- R_X86_64_NONE, which is 0, has no effect
abbrev pub has_effect : Entry → Bool
has_effect e = not (e.kind == 0)

-- the entries of a table that have an effect, by index
unfoldable pub entries_in : List ℕ → Section → List Entry
entries_in bytes table = filter has_effect (map (entry_at bytes table) (range_with_len 0 (table.size / 24)))

-- the entries of a section, which has none if it is no table of either form
abbrev pub entries_of : List ℕ → Section → List Entry
entries_of bytes s = if has_entries s then entries_in bytes s else if is_relr s then relative_entries bytes s else []

-- by r_offset, then by the index of the table, then by the index in it
abbrev pub comes_before : Entry → Entry → Bool
comes_before a b =
    is_lt (ordering_then (ordering_then (nat_cmp a.offset b.offset) (nat_cmp a.table b.table)) (nat_cmp a.index b.index))

abbrev pub by_offset : List Entry → List Entry
by_offset = ordered comes_before

-- entries of one list that stand at the same index of the same table are the same
abbrev pub HaveTheirIndex : List Entry → Type 0
HaveTheirIndex list = (a b : Entry) → Contains list a → Contains list b → a.table ≡ b.table → a.index ≡ b.index → a ≡ b

-- the entries of a file that have an effect, in their order
unfoldable pub entries : List ℕ → List Entry
entries bytes = by_offset (flat_map (entries_of bytes) (sections bytes))

-- an entry whose fields are all 0
abbrev pub null_entry : Entry
null_entry = record { offset = 0; kind = 0; symbol = 0; addend = 0; table = 0; index = 0 }
