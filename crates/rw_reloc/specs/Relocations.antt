-- The rules of the phase relocations.
use Rattle.std.specs.Prelude.{◌≡◌, ℕ, ◌+◌, ◌-◌, ◌%◌, List, [], ◌∷◌, Bool, false, not, ◌&&◌, ◌||◌, ◌==◌, nat_lt, nat_le, Option, None, slice_get, option_and_then, if◌then◌else◌}
use Rattle.std.specs.Option.{option_map_or}
use Rattle.rw_base.specs.declared.fault.Fault.{Fault}
use Rattle.rw_base.specs.declared.fault.Fault.TheVariants.{BadHeader, BadString, UnknownReloc, BadRelocPlace}
use Rattle.rw_base.specs.Rules.{Rule, first, first_of, each_of, when, first_some}
use Rattle.rw_elf.specs.declared.section.Section.{Section}
use Rattle.rw_elf.specs.declared.symbol.Symbol.{Symbol}
use Rattle.rw_elf.specs.Number.{number}
use Rattle.rw_elf.specs.Places.{section_around}
use Rattle.rw_elf.specs.Section.{sections, header_at}
use Rattle.rw_elf.specs.Sections.{is_allocated, is_writable, has_bytes}
use Rattle.rw_elf.specs.Symbols.{dynamic_symbols, is_of_kind}
use Rattle.rw_reloc.specs.declared.entry.Entry.{Entry}
use Rattle.rw_reloc.specs.declared.slot.Slot.{Slot}
use Rattle.rw_reloc.specs.Entries.{entries}
use Rattle.rw_reloc.specs.Relr.{is_relr, number_faults}
use Rattle.rw_base.specs.Name.{is_import_name}
use Rattle.rw_elf.specs.Name.{name_bytes}
use Rattle.rw_elf.specs.Tables.{elf_rules}
use Rattle.rw_reloc.specs.Slots.{copies_of, is_kept_at, slots_of}
use Rattle.rw_reloc.specs.Targets.{is_relative, is_copy, symbol_of, is_undefined, place_size, target_size}

-- a table has entries of this many bytes, by its sh_entsize and its sh_size
abbrev pub size_fault : List ℕ → Section → ℕ → Option Fault
size_fault bytes s size = first_some (
    when (not (number bytes (header_at bytes s.index + 56) 8 == size)) (BadHeader (header_at bytes s.index + 56))
    ∷ when (not (s.size % size == 0)) (BadHeader (header_at bytes s.index + 32))
    ∷ [])

-- a loaded table of type SHT_REL (9) may not have entries; one of type SHT_RELA (4) has entries of 24 bytes, and one of type
-- SHT_RELR (19) numbers of 8 bytes, none of which is bad
unfoldable pub table_fault : List ℕ → Section → Option Fault
table_fault bytes s = first_some (
    when (is_of_kind 9 s && nat_lt 0 s.size) (UnknownReloc s.addr 0)
    ∷ (if is_of_kind 4 s then size_fault bytes s 24 else None)
    ∷ (if is_of_kind 19 s then size_fault bytes s 8 else None)
    ∷ (if is_relr s then first_of (number_faults bytes s) else None)
    ∷ [])

-- only allocated sections count
abbrev pub table_finding : List ℕ → ℕ → Section → Option Fault
table_finding bytes k s = if is_allocated s then table_fault bytes s else None

abbrev pub is_known : ℕ → Bool
is_known kind = kind == 1 || kind == 5 || kind == 6 || kind == 7 || kind == 8

-- the section with this index links to the DYNSYM, of which there is one at most: SHT_DYNSYM is 11
abbrev pub links_to_symbols : List Section → Section → Bool
links_to_symbols list s = option_map_or (is_of_kind 11) (slice_get list s.link) false

abbrev pub has_symbols : List Section → ℕ → Bool
has_symbols list index = option_map_or (links_to_symbols list) (slice_get list index) false

-- STT_TLS is 6 and STT_GNU_IFUNC is 10
abbrev pub is_plain : Symbol → Bool
is_plain s = not (s.sort == 6 || s.sort == 10)

-- the table of the entry links to the DYNSYM, which has its symbol
abbrev pub has_symbol : List ℕ → Entry → Bool
has_symbol bytes e = has_symbols (sections bytes) e.table && option_map_or is_plain (symbol_of bytes e) false

-- an imported address may not be moved
abbrev pub moves_import : List ℕ → Entry → Bool
moves_import bytes e = e.kind == 1 && (option_map_or is_undefined (symbol_of bytes e) false && not (e.addend == 0))

-- what is imported or copied has an import name
abbrev pub name_fault : List ℕ → Entry → Symbol → Option Fault
name_fault bytes e s =
    when ((is_undefined s || is_copy e) && not (is_import_name (name_bytes bytes s.name))) (BadString s.name.at)

-- the section may be written, has the whole place, and has bytes in the file unless a symbol is copied to it
abbrev pub holds : ℕ → ℕ → Bool → Section → Bool
holds a n copied s = is_writable s && (nat_le (a + n) (s.addr + s.size) && (copied || has_bytes s))

-- the place isn't empty, and lies in a section that may be written; what is copied goes to a kept section, anything else
-- to one with bytes in the file
abbrev pub is_good_place : List ℕ → Entry → Bool
is_good_place bytes e =
    nat_lt 0 (place_size bytes e)
    && (option_map_or (holds e.offset (place_size bytes e) (is_copy e)) (section_around bytes e.offset) false
    && (not (is_copy e) || is_kept_at bytes e.offset))

-- what an entry breaks by itself
unfoldable pub entry_fault : List ℕ → Entry → Option Fault
entry_fault bytes e = first_some (
    when (not (is_known e.kind)) (UnknownReloc e.offset e.kind)
    ∷ when (not (is_relative e || has_symbol bytes e)) (UnknownReloc e.offset e.kind)
    ∷ when (moves_import bytes e) (UnknownReloc e.offset e.kind)
    ∷ option_and_then (name_fault bytes e) (symbol_of bytes e)
    ∷ when (not (is_good_place bytes e)) (BadRelocPlace e.offset)
    ∷ [])

-- the place of an entry ends above an address
abbrev pub reaches : List ℕ → ℕ → Entry → Bool
reaches bytes a e = nat_lt a (e.offset + place_size bytes e)

-- the place overlaps the one before it
abbrev pub overlaps : List ℕ → List Entry → ℕ → Entry → Bool
overlaps bytes list k e = nat_lt 0 k && option_map_or (reaches bytes e.offset) (slice_get list (k - 1)) false

abbrev pub entry_finding : List ℕ → List Entry → ℕ → Entry → Option Fault
entry_finding bytes list k e =
    first_some (entry_fault bytes e ∷ when (overlaps bytes list k e) (BadRelocPlace e.offset) ∷ [])

-- what a relocation table breaks as a whole, by index
unfoldable pub table_faults : List ℕ → Rule
table_faults bytes = each_of (sections bytes) (table_finding bytes)

-- what the entries break, in their order
unfoldable pub entry_faults : List ℕ → Rule
entry_faults bytes = each_of (entries bytes) (entry_finding bytes (entries bytes))

-- the rules of the phase relocations
unfoldable pub relocation_rules : List ℕ → List Rule
relocation_rules bytes = table_faults bytes ∷ entry_faults bytes ∷ []

-- what the rules leave of a slot: its place lies in a section that may be written
abbrev pub is_held : List ℕ → Slot → Bool
is_held bytes s = option_map_or (holds s.address (target_size s.target) (s.kind == 5)) (section_around bytes s.address) false

-- a dynamic symbol is imported, or copied with this size, under an import name
abbrev pub is_imported : List ℕ → Symbol → Bool
is_imported bytes s = is_undefined s && is_import_name (name_bytes bytes s.name)

abbrev pub is_copied : List ℕ → ℕ → Symbol → Bool
is_copied bytes size s = s.size == size && is_import_name (name_bytes bytes s.name)

-- the dynamic symbol with a number passes a test
abbrev pub symbol_passes : List ℕ → ℕ → (Symbol → Bool) → Bool
symbol_passes bytes number test = option_map_or test (slice_get (dynamic_symbols bytes) number) false

-- the file has no fault in its tables and relocations, and these are its slots and its copies
pub record AreSlotsOf (bytes : List ℕ) (slots copied : List Slot) : Type 0 where
  pub clean_file : first (elf_rules bytes) ≡ None
  pub clean : first (relocation_rules bytes) ≡ None
  pub list : slots ≡ slots_of bytes
  pub copies : copied ≡ copies_of bytes
