-- The place for the file that imports is a placing, and what a start takes of it fits.
use Rattle.std.proofs.Common.{◌≡◌, ℕ, ◌+◌, List, [], ◌∷◌, map, length, Bool, true, false, refl, sym, ap, ◌∙◌}
use Rattle.std.specs.Prelude.{codes}
use Rattle.std.specs.List.{list_all}
use Rattle.std.specs.Option.{option_map_or}
use Rattle.rw_words.specs.declared.atom.Atom.{Atom}
use Rattle.rw_words.specs.declared.atom.Cell.{Cell}
use Rattle.rw_words.specs.declared.atom.Cell.TheVariants.{Num, Part, Undef}
use Rattle.rw_domain.specs.LaidOut.{KnownCells}
use Rattle.rw_elf.specs.declared.section.Section.{Section}
use Rattle.rw_elf.specs.declared.symbol.Symbol.{Symbol}
use Rattle.rw_elf.specs.Symbols.{dynamic_symbols}
use Rattle.rw_reloc.specs.declared.slot.Slot.{Slot}
use Rattle.rw_reloc.specs.Slots.{copies_of}
use Rattle.rw_code.specs.Known.{has_address}
use Rattle.rw_code.specs.File.{labels_of}
use Rattle.rw_code.specs.Fits.{FitsFile}
use Rattle.rw_code.specs.Placing.{IsPlacing, name_address}
use Rattle.rw_code.specs.Example.{exit_start}
use Rattle.rw_code.specs.ImportExample.{import_contents, import_file, import_ground, import_placing, import_regions}
use Rattle.rw_code.proofs.Example.{tested-all}
use Rattle.rw_code.proofs.KnownTables.{KnownTables, copy_in, regions-are}
use Rattle.rw_code.proofs.PlacedByTests.{placed-by-tests}
use Rattle.rw_code.proofs.ImportFile.{bss, copies-are, dynamic-are, import_copies, import_dynamic_symbols, import_sections, kept-are, sections-are}

-- ---- what a start takes of it

abbrev pub import_tables : KnownTables import_file
import_tables = record { all = import_sections; kept = bss ∷ []; copies = import_copies; symbols = import_dynamic_symbols; sections_are = sections-are; kept_are = kept-are; copies_are = copies-are; symbols_are = dynamic-are }

-- a cell that is a number or undefined
abbrev is_plain : Cell → Bool
is_plain (Num b) = true
is_plain (Part a i) = false
is_plain Undef = true

plain-known : (known : Atom → Bool) (cells : List Cell) → list_all is_plain cells ≡ true → KnownCells known cells
plain-known known [] h = tt
plain-known known (Num b ∷ cells) h = (tt, plain-known known cells h)
plain-known known (Part a i ∷ cells) h = cc
plain-known known (Undef ∷ cells) h = (tt, plain-known known cells h)

pub fits-file : FitsFile import_file import_ground
fits-file = record {
  is_ground = refl;
  sizes = sym (ap (λ regions. map (λ r. r.size) regions) (regions-are import_file import_tables import_contents));
  atoms = tested-all (list_all is_plain) (KnownCells (has_address (labels_of import_file import_ground))) (plain-known (has_address (labels_of import_file import_ground))) import_contents refl;
  met = λ c r o h. cc;
  short = λ c r o h. cc;
}

-- ---- where it lies

pub is-placing : IsPlacing import_file import_ground exit_start import_placing
is-placing = placed-by-tests import_file import_tables import_contents exit_start import_placing refl

-- a copied name has the address of its first copy
abbrev address_in : List Section → List Symbol → List Slot → List ℕ → ℕ
address_in kept symbols copies name = option_map_or (λ k. import_regions (length kept + k)) (copy_in import_file symbols copies name) 0x9000

pub first-copy : name_address import_file import_placing (codes "x") ≡ 0x14008
first-copy =
    ap (λ kept. address_in kept (dynamic_symbols import_file) (copies_of import_file) (codes "x")) kept-are
    ∙ ap (λ symbols. address_in (bss ∷ []) symbols (copies_of import_file) (codes "x")) dynamic-are
    ∙ ap (λ copies. address_in (bss ∷ []) import_dynamic_symbols copies (codes "x")) copies-are
