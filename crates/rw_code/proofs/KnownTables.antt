-- What a start takes of a file whose sections, copies and imported symbols are known: for worked files.
use Rattle.std.proofs.Common.{◌≡◌, ℕ, List, [], ◌++◌, Option, Bool, false, ◌&&◌, nat_lt, map, ap, ◌∙◌}
use Rattle.std.specs.Prelude.{slice_get, is_some, not, position, option_map}
use Rattle.std.specs.List.{filter_map}
use Rattle.std.specs.Option.{option_and_then, option_map_or}
use Rattle.std.specs.Str.{bytes_eq}
use Rattle.rw_words.specs.declared.atom.Cell.{Cell}
use Rattle.rw_domain.specs.declared.place.Region.{Region}
use Rattle.rw_domain.specs.declared.place.Hole.{Hole}
use Rattle.rw_elf.specs.declared.section.Section.{Section}
use Rattle.rw_elf.specs.declared.symbol.Symbol.{Symbol}
use Rattle.rw_elf.specs.Name.{name_bytes}
use Rattle.rw_elf.specs.Places.{kept_around, spans}
use Rattle.rw_elf.specs.Section.{sections}
use Rattle.rw_elf.specs.Symbols.{dynamic_symbols}
use Rattle.rw_elf.specs.Tables.{kept_sections}
use Rattle.rw_reloc.specs.declared.slot.Slot.{Slot}
use Rattle.rw_reloc.specs.declared.slot.Target.{Target}
use Rattle.rw_reloc.specs.declared.slot.Target.TheVariants.{Copy}
use Rattle.rw_reloc.specs.Slots.{copies_of}
use Rattle.rw_reloc.specs.Targets.{is_undefined}
use Rattle.rw_funcs.specs.Functions.{entry_of, is_hosted}
use Rattle.rw_code.specs.Ground.{Ground, copied_region, ground_of, hole_from, kept_region}

-- what its tables hold
pub record KnownTables (file : List ℕ) : Type 0 where
  pub all : List Section
  pub kept : List Section
  pub copies : List Slot
  pub symbols : List Symbol
  pub sections_are : sections file ≡ all
  pub kept_are : kept_sections file ≡ kept
  pub copies_are : copies_of file ≡ copies
  pub symbols_are : dynamic_symbols file ≡ symbols

-- ---- imported symbols and their names, by lists of symbols and copies

abbrev pub import_in : List Symbol → ℕ → Bool
import_in symbols i = nat_lt 0 i && option_map_or is_undefined (slice_get symbols i) false

abbrev pub name_in : List ℕ → List Symbol → ℕ → List ℕ
name_in file symbols i = option_map_or (λ s. name_bytes file s.name) (slice_get symbols i) []

abbrev copied_name : List ℕ → List Symbol → Target → List ℕ
copied_name file symbols (Copy i size) = name_in file symbols i
copied_name file symbols _ = []

abbrev pub copy_in : List ℕ → List Symbol → List Slot → List ℕ → Option ℕ
copy_in file symbols copies name = position (λ s. bytes_eq (copied_name file symbols s.target) name) copies

abbrev pub copied_in : List ℕ → List Symbol → List Slot → ℕ → Bool
copied_in file symbols copies i = is_some (copy_in file symbols copies (name_in file symbols i))

abbrev pub outside_in : List ℕ → List Symbol → List Slot → ℕ → Bool
outside_in file symbols copies i = import_in symbols i && not (copied_in file symbols copies i)

-- ---- the ground

abbrev holes_in : List Section → List Slot → List Hole
holes_in kept copies = filter_map (λ c. option_and_then (λ k. option_map (λ s. hole_from c k s.addr) (slice_get kept k)) (position (spans c.address) kept)) copies

module _ (file : List ℕ) (tables : KnownTables file) where
  abbrev pub file_regions : List Region
  file_regions = map kept_region tables.kept ++ map copied_region tables.copies

  abbrev pub file_places : List ℕ
  file_places = map (λ s. s.addr) tables.kept ++ map (λ s. s.address) tables.copies

  abbrev pub file_holes : List Hole
  file_holes = holes_in tables.kept tables.copies

  pub regions-are : (contents : List (List Cell)) → (ground_of file contents).regions ≡ file_regions
  regions-are contents =
      ap (λ kept. map kept_region kept ++ map copied_region (copies_of file)) tables.kept_are
      ∙ ap (λ copies. map kept_region tables.kept ++ map copied_region copies) tables.copies_are

  pub places-are : (contents : List (List Cell)) → (ground_of file contents).places ≡ file_places
  places-are contents =
      ap (λ kept. map (λ s. s.addr) kept ++ map (λ s. s.address) (copies_of file)) tables.kept_are
      ∙ ap (λ copies. map (λ s. s.addr) tables.kept ++ map (λ s. s.address) copies) tables.copies_are

  pub holes-are : (contents : List (List Cell)) → (ground_of file contents).holes ≡ file_holes
  unfolding kept_around
  holes-are contents = ap (λ kept. holes_in kept (copies_of file)) tables.kept_are ∙ ap (holes_in tables.kept) tables.copies_are

  -- its ground, where this is what its regions hold at first
  abbrev pub known_ground : List (List Cell) → Bool → ℕ → Ground
  known_ground cells hosted entry =
      record { regions = file_regions; places = file_places; contents = cells; holes = file_holes; counters = 0; hosted = hosted; entry = entry }

  pub ground-is : (contents cells : List (List Cell)) (hosted : Bool) (entry : ℕ) → contents ≡ cells → is_hosted file ≡ hosted → entry_of file ≡ entry → ground_of file contents ≡ known_ground cells hosted entry
  ground-is contents cells hosted entry e f g =
      ap (λ regions. record (ground_of file contents) { regions = regions }) (regions-are contents)
      ∙ ap (λ places. record (ground_of file contents) { regions = file_regions; places = places }) (places-are contents)
      ∙ ap (λ holes. record (ground_of file contents) { regions = file_regions; places = file_places; holes = holes }) (holes-are contents)
      ∙ ap (λ c. record (ground_of file c) { regions = file_regions; places = file_places; holes = file_holes }) e
      ∙ ap (λ h. known_ground cells h (entry_of file)) f ∙ ap (known_ground cells hosted) g
