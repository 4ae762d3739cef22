-- First contents: what the bytes of a kept section are before the program runs, wherever the file is loaded. They are cells,
-- since the place decides the bytes of slots.
use Rattle.std.specs.Prelude.{ℕ, ◌+◌, ◌-◌, ◌%◌, List, find, Bool, ◌&&◌, nat_le, nat_lt, Option, Some, None, option_map, option_and_then, slice_get, slice_index, unwrap_or, if◌then◌else◌}
use Rattle.std.specs.Option.{option_map_or, option_or}
use Rattle.rw_words.specs.declared.atom.Atom.{Atom}
use Rattle.rw_words.specs.declared.atom.Atom.TheVariants as atom
use Rattle.rw_words.specs.declared.atom.Cell.{Cell}
use Rattle.rw_words.specs.declared.atom.Cell.TheVariants.{Num, Part, Undef}
use Rattle.rw_elf.specs.declared.section.Section.{Section}
use Rattle.rw_elf.specs.Sections.{has_bytes}
use Rattle.rw_elf.specs.Tables.{kept_sections}
use Rattle.rw_reloc.specs.declared.slot.Slot.{Slot}
use Rattle.rw_reloc.specs.declared.slot.Target.{Target}
use Rattle.rw_reloc.specs.declared.slot.Target.TheVariants as target
use Rattle.rw_reloc.specs.Slots.{slot_around, slots_of}
use Rattle.rw_tables.specs.declared.table.Table.{Table}
use Rattle.rw_tables.specs.Tables.{end_of, entry_at, tables_of}
use Rattle.rw_refs.specs.References.{reference_at}

-- ---- bytes

-- the byte of the section at an address: that of the file, or 0 where the section has none there
abbrev pub byte_in : List ℕ → Section → ℕ → ℕ
byte_in bytes s a = if has_bytes s then slice_index bytes (s.offset + (a - s.addr)) else 0

-- ---- slots

-- what a slot holds the address of: the reference of an address, or an import; where a symbol is copied it holds no address
abbrev pub atom_in : List ℕ → Target → Option Atom
atom_in bytes (target.To a) = reference_at bytes a
atom_in bytes (target.Import number) = Some (atom.Import number)
atom_in bytes (target.Copy number size) = None

abbrev pub slot_cell : List ℕ → ℕ → Slot → Option Cell
slot_cell bytes a s = option_map (λ atom. Part atom (a - s.address)) (atom_in bytes s.target)

-- a byte of a slot
abbrev pub slot_cell_at : List ℕ → ℕ → Option Cell
slot_cell_at bytes a = option_and_then (slot_cell bytes a) (slot_around (slots_of bytes) a)

-- ---- words of jump tables

-- the distance of a point from a place in data
abbrev pub distance_from : ℕ → Atom → Option Atom
distance_from c (atom.Ptr r o) = Some (atom.Diff c r o)
distance_from c _ = None

-- what the table word at an address is: the distance of its point from the base of its table
abbrev pub distance_at : List ℕ → ℕ → Option Atom
distance_at bytes a = option_and_then (λ e. option_and_then (distance_from e.0) (reference_at bytes e.1)) (entry_at bytes a)

-- the table that an address belongs to; tables don't overlap, so there is one at most
abbrev pub has_address : ℕ → Table → Bool
has_address a t = nat_le t.base a && nat_lt a (end_of t)

unfoldable pub table_around : List ℕ → ℕ → Option Table
table_around bytes a = find (has_address a) (tables_of bytes)

-- which byte of its word the byte at an address is: words have 4 bytes
abbrev pub byte_of_word : ℕ → Table → ℕ
byte_of_word a t = (a - t.base) % 4

abbrev pub word_cell : List ℕ → ℕ → Table → Option Cell
word_cell bytes a t = option_map (λ atom. Part atom (byte_of_word a t)) (distance_at bytes (a - byte_of_word a t))

-- a byte of a table word
abbrev pub word_cell_at : List ℕ → ℕ → Option Cell
word_cell_at bytes a = option_and_then (word_cell bytes a) (table_around bytes a)

-- ---- all

-- at an address of a kept section: a byte of a slot, or else of a table word, or else the byte of the file; so the bytes
-- under a copied symbol are those of the file
unfoldable pub cell_at : List ℕ → Section → ℕ → Cell
cell_at bytes s a = unwrap_or (option_or (slot_cell_at bytes a) (word_cell_at bytes a)) (Num (byte_in bytes s a))

-- at an offset of the kept section with a number
unfoldable pub first_cell : List ℕ → ℕ → ℕ → Cell
first_cell bytes region offset = option_map_or (λ s. cell_at bytes s (s.addr + offset)) (slice_get (kept_sections bytes) region) Undef
