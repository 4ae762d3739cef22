-- The symbolic program of a file whose tables, slots, points and functions are known.
use Rattle.std.proofs.Common.{◌≡◌, ℕ, ◌+◌, ◌-◌, List, [], ◌∷◌, length, map, Option, Some, None, Bool, refl, ap, ◌∙◌}
use Rattle.std.specs.Prelude.{filter, option_map, option_and_then, position, slice_get, if◌then◌else◌}
use Rattle.rw_base.specs.Rules.{first_some}
use Rattle.rw_words.specs.declared.atom.Atom.{Atom}
use Rattle.rw_words.specs.declared.atom.Atom.TheVariants as atom
use Rattle.rw_words.specs.declared.atom.Cell.{Cell}
use Rattle.rw_elf.specs.declared.section.Section.{Section}
use Rattle.rw_elf.specs.declared.symbol.Symbol.{Symbol}
use Rattle.rw_elf.specs.Places.{covers, ends_at, kept_around, kept_ending, section_around, spans}
use Rattle.rw_elf.specs.Section.{sections}
use Rattle.rw_elf.specs.Symbols.{dynamic_symbols}
use Rattle.rw_elf.specs.Tables.{is_named, kept_sections}
use Rattle.rw_reloc.specs.declared.slot.Slot.{Slot}
use Rattle.rw_reloc.specs.Slots as slots
use Rattle.rw_reloc.specs.Slots.{copies_of, copy_around, slot_at, slots_of, takes}
use Rattle.rw_funcs.specs.declared.function.Function.{Function}
use Rattle.rw_funcs.specs.Functions.{function_at, functions_of, kept_functions}
use Rattle.rw_funcs.specs.Points.{Point, file_points, is_point}
use Rattle.rw_refs.specs.References.{offset_in, reference_at, starts_at, target_at}
use Rattle.rw_refs.specs.Stubs.{bytes_on, import_of, place_through, stub_at, stub_sections}
use Rattle.rw_machine.specs.Program.{Program}
use Rattle.rw_code.specs.declared.point.FilePoint.{FilePoint}
use Rattle.rw_code.specs.File.{symbolic_of, symbolic}
use Rattle.rw_code.proofs.KnownTables.{KnownTables, copied_in}

-- what an address stands for, by kept sections, copies, points and stubs
abbrev point_in : List Point → ℕ → Option Atom
point_in points a = if is_point points a then Some (atom.Code a) else None

abbrev reference_in : (ℕ → Option ℕ) → List Section → List Slot → List Point → ℕ → Option Atom
reference_in stub kept copies points a = first_some (
    option_map (λ k. atom.Ptr (length kept + k) (offset_in copies (λ s. a - s.address) k)) (position (takes a) copies)
    ∷ option_map (λ k. atom.Ptr k 0) (position (starts_at a) kept)
    ∷ option_map (λ k. atom.Ptr k (offset_in kept (λ s. a - s.addr) k)) (position (spans a) kept)
    ∷ option_map (λ k. atom.Ptr k (offset_in kept (λ s. s.size) k)) (position (ends_at a) kept)
    ∷ point_in points a ∷ option_map atom.Import (stub a) ∷ [])

abbrev refers_in : (ℕ → Option ℕ) → List Section → List Slot → List Point → ℕ → Bool → Option Atom
refers_in stub kept copies points a direct =
    if direct then first_some (point_in points a ∷ option_map atom.Import (stub a) ∷ []) else reference_in stub kept copies points a

-- the import of the stub at an address, by slots and sections
abbrev stub_in : List ℕ → List Slot → ℕ → Section → Option ℕ
stub_in file list a s =
    if is_named file stub_sections s
    then option_and_then (λ b. option_and_then (λ (slot : Slot). import_of slot.kind slot.target) (slice_get (filter (slots.starts_at b) list) 0)) (place_through a (bytes_on file a s))
    else None

abbrev stub_by : List ℕ → List Slot → List Section → ℕ → Option ℕ
stub_by file list all a = option_and_then (stub_in file list a) (slice_get (filter (covers a) all) 0)

abbrev program_of : List ℕ → List Symbol → List Slot → List Section → List Section → List Slot → List Point → List Function → Program FilePoint ℕ (List Cell)
program_of file dynamic list all kept copies points functions = symbolic_of points functions (refers_in (stub_by file list all) kept copies points) (copied_in file dynamic copies)

by-lists : (file : List ℕ) → symbolic file ≡ program_of file (dynamic_symbols file) (slots_of file) (sections file) (kept_sections file) (copies_of file) (file_points file) (functions_of file)
unfolding reference_at target_at copy_around kept_around kept_ending stub_at section_around slot_at
by-lists file = refl

module _ (file : List ℕ) (tables : KnownTables file) (list : List Slot) (points : List Point) (functions : List Symbol) where
  abbrev pub known_program : Program FilePoint ℕ (List Cell)
  known_program = program_of file tables.symbols list tables.all tables.kept tables.copies points (map function_at functions)

  pub program-is : slots_of file ≡ list → file_points file ≡ points → kept_functions file ≡ functions → symbolic file ≡ known_program
  program-is slots-are points-are functions-are =
      by-lists file
      ∙ ap (λ dynamic. program_of file dynamic (slots_of file) (sections file) (kept_sections file) (copies_of file) (file_points file) (functions_of file)) tables.symbols_are
      ∙ ap (λ slots. program_of file tables.symbols slots (sections file) (kept_sections file) (copies_of file) (file_points file) (functions_of file)) slots-are
      ∙ ap (λ all. program_of file tables.symbols list all (kept_sections file) (copies_of file) (file_points file) (functions_of file)) tables.sections_are
      ∙ ap (λ kept. program_of file tables.symbols list tables.all kept (copies_of file) (file_points file) (functions_of file)) tables.kept_are
      ∙ ap (λ copies. program_of file tables.symbols list tables.all tables.kept copies (file_points file) (functions_of file)) tables.copies_are
      ∙ ap (λ ps. program_of file tables.symbols list tables.all tables.kept tables.copies ps (functions_of file)) points-are
      ∙ ap (λ fs. program_of file tables.symbols list tables.all tables.kept tables.copies points (map function_at fs)) functions-are
