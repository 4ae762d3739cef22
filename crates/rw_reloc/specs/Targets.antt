-- What an entry puts at its place (psABI, "Relocation Types"). R_X86_64_64 is 1, R_X86_64_COPY 5, R_X86_64_GLOB_DAT 6,
-- R_X86_64_JUMP_SLOT 7 and R_X86_64_RELATIVE 8.
use Rattle.std.specs.Prelude.{ℕ, ◌+◌, ◌%◌, ◌^◌, List, Bool, ◌||◌, ◌==◌, Option, None, slice_get, if◌then◌else◌}
use Rattle.std.specs.Option.{option_map_or}
use Rattle.rw_elf.specs.declared.symbol.Symbol.{Symbol}
use Rattle.rw_elf.specs.Symbols.{dynamic_symbols}
use Rattle.rw_reloc.specs.declared.entry.Entry.{Entry}
use Rattle.rw_reloc.specs.declared.slot.Target.{Target}
use Rattle.rw_reloc.specs.declared.slot.Target.TheVariants.{To, Import, Copy}

abbrev pub is_relative : Entry → Bool
is_relative e = e.kind == 8

abbrev pub is_copy : Entry → Bool
is_copy e = e.kind == 5

-- the symbol of an entry in the DYNSYM; one of type RELATIVE has none, and symbol 0 is none
unfoldable pub symbol_of : List ℕ → Entry → Option Symbol
symbol_of bytes e = if is_relative e || e.symbol == 0 then None else slice_get (dynamic_symbols bytes) e.symbol

-- no section of the file defines the symbol: SHN_UNDEF is 0
abbrev pub is_undefined : Symbol → Bool
is_undefined s = s.section == 0

-- what an entry with this symbol puts at its place
abbrev pub symbol_target : Entry → Symbol → Target
symbol_target e s =
    if is_copy e then Copy e.symbol s.size
    else if is_undefined s then Import e.symbol
    else if e.kind == 1 then To ((s.value + e.addend) % 2 ^ 64)
    else To s.value

unfoldable pub target_of : List ℕ → Entry → Target
target_of bytes e = option_map_or (symbol_target e) (symbol_of bytes e) (To e.addend)

-- how many bytes it takes: 8, or those of the copied symbol
abbrev pub target_size : Target → ℕ
target_size (Copy symbol size) = size
target_size _ = 8

-- the size of the place of an entry
abbrev pub place_size : List ℕ → Entry → ℕ
place_size bytes e = target_size (target_of bytes e)
