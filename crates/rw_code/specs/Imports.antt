-- The imported symbols of a file, and which of them are copied into it.
use Rattle.std.specs.Prelude.{ℕ, List, [], length, filter, position, Bool, false, not, ◌&&◌, nat_lt, Option, is_some, slice_get}
use Rattle.std.specs.List.{range_with_len}
use Rattle.std.specs.Option.{option_map_or}
use Rattle.std.specs.Str.{bytes_eq}
use Rattle.rw_elf.specs.Name.{name_bytes}
use Rattle.rw_elf.specs.Symbols.{dynamic_symbols}
use Rattle.rw_reloc.specs.declared.slot.Target.{Target}
use Rattle.rw_reloc.specs.declared.slot.Target.TheVariants.{Copy}
use Rattle.rw_reloc.specs.Slots.{copies_of}
use Rattle.rw_reloc.specs.Targets.{is_undefined}

-- the name of a symbol of the DYNSYM, by its number
abbrev pub import_name : List ℕ → ℕ → List ℕ
import_name file i = option_map_or (λ s. name_bytes file s.name) (slice_get (dynamic_symbols file) i) []

-- a symbol that the file leaves undefined; symbol 0 is none (gABI, "Symbol Table")
abbrev pub is_import : List ℕ → ℕ → Bool
is_import file i = nat_lt 0 i && option_map_or is_undefined (slice_get (dynamic_symbols file) i) false

abbrev pub imports_of : List ℕ → List ℕ
imports_of file = filter (is_import file) (range_with_len 0 (length (dynamic_symbols file)))

-- two numbers of one name
abbrev pub have_one_name : List ℕ → ℕ → ℕ → Bool
have_one_name file i j = bytes_eq (import_name file i) (import_name file j)

-- ---- symbols that are copied into the file

-- the name of what is copied to a place
abbrev pub target_name : List ℕ → Target → List ℕ
target_name file (Copy i size) = import_name file i
target_name file _ = []

-- the number of the copy of a name; of several the one at the least address
abbrev pub copy_of : List ℕ → List ℕ → Option ℕ
copy_of file name = position (λ s. bytes_eq (target_name file s.target) name) (copies_of file)

abbrev pub is_copied : List ℕ → ℕ → Bool
is_copied file i = is_some (copy_of file (import_name file i))

-- an imported symbol whose name isn't copied: it lies outside the file
abbrev pub is_outside : List ℕ → ℕ → Bool
is_outside file i = is_import file i && not (is_copied file i)
