-- What the start of a program needs of its file.
use Rattle.std.specs.Prelude.{ℕ, ◌+◌, ◌-◌, ◌%◌, ◌==◌, List, [], ◌∷◌, ◌++◌, Bool, true, false, not, flat_map, map, slice_get, Option, option_map, option_and_then, if◌then◌else◌}
use Rattle.std.specs.List.{filter_map}
use Rattle.rw_words.specs.declared.atom.Atom.{Atom}
use Rattle.rw_words.specs.declared.atom.Atom.TheVariants.{Diff}
use Rattle.rw_words.specs.declared.atom.Cell.{Cell}
use Rattle.rw_words.specs.declared.atom.Cell.TheVariants.{Part}
use Rattle.rw_domain.specs.declared.place.Region.{Region}
use Rattle.rw_domain.specs.declared.place.Hole.{Hole}
use Rattle.rw_elf.specs.declared.section.Section.{Section}
use Rattle.rw_elf.specs.Places.{kept_around}
use Rattle.rw_elf.specs.Sections.{has_bytes, is_writable}
use Rattle.rw_elf.specs.Tables.{kept_sections}
use Rattle.rw_reloc.specs.declared.slot.Slot.{Slot}
use Rattle.rw_reloc.specs.Slots.{copies_of}
use Rattle.rw_reloc.specs.Targets.{target_size}
use Rattle.rw_funcs.specs.Functions.{entry_of, is_hosted}

-- The regions of the file: its kept sections by ascending address, and then the symbols that are copied into it, by
-- ascending address. A section has its size, its alignment and whether it may be written, and starts as zeros where the file
-- has no bytes for it. A copy may be written; over words its alignment is the greatest power of two up to 16 that divides
-- its address.
pub record Ground : Type 0 where
  pub regions : List Region
  -- the address of each in the file
  pub places : List ℕ
  -- what each holds at first: a copy, and the bytes of a section that belong to a copy, are undefined
  pub contents : List (List Cell)
  -- the bytes of sections that belong to copies
  pub holes : List Hole
  -- how many bytes of counters there are: in a file none
  pub counters : ℕ
  -- a C library starts the program
  pub hosted : Bool
  pub entry : ℕ

-- the addresses of kept sections and of copies
abbrev pub places_of : List ℕ → List ℕ
places_of file = map (λ s. s.addr) (kept_sections file) ++ map (λ s. s.address) (copies_of file)

-- ---- the ground of a file, by what its regions hold at first

abbrev pub kept_region : Section → Region
kept_region s = record { size = s.size; align = s.align; writable = is_writable s; zero = not (has_bytes s) }

-- the greatest power of two up to 16 that divides an address
abbrev pub copy_alignment : ℕ → ℕ
copy_alignment a = if a % 16 == 0 then 16 else if a % 8 == 0 then 8 else if a % 4 == 0 then 4 else if a % 2 == 0 then 2 else 1

abbrev pub copied_region : Slot → Region
copied_region c = record { size = target_size c.target; align = copy_alignment c.address; writable = true; zero = false }

-- the bytes of a copy in the section with a number, which begins at an address
abbrev pub hole_from : Slot → ℕ → ℕ → Hole
hole_from c k start = record { region = k; start = c.address - start; end = c.address - start + target_size c.target }

abbrev pub hole_in : List ℕ → Slot → ℕ → Option Hole
hole_in file c k = option_map (λ s. hole_from c k s.addr) (slice_get (kept_sections file) k)

abbrev pub holes_of : List ℕ → List Hole
holes_of file = filter_map (λ c. option_and_then (hole_in file c) (kept_around file c.address)) (copies_of file)

abbrev pub ground_of : List ℕ → List (List Cell) → Ground
ground_of file contents = record {
  regions = map kept_region (kept_sections file) ++ map copied_region (copies_of file);
  places = places_of file;
  contents = contents;
  holes = holes_of file;
  counters = 0;
  hosted = is_hosted file;
  entry = entry_of file;
}

-- ---- the distances of instructions from jump tables, which the words of these tables hold

abbrev pub distance_in : Cell → List Atom
distance_in (Part (Diff c r o) i) = Diff c r o ∷ []
distance_in _ = []

abbrev pub distances_of : Ground → List Atom
distances_of file_ground = flat_map (flat_map distance_in) file_ground.contents

-- ---- files of code alone

abbrev pub code_ground : List ℕ → Ground
code_ground file = record { regions = []; places = []; contents = []; holes = []; counters = 0; hosted = is_hosted file; entry = entry_of file }
