-- What a start takes of a file without data.
use Rattle.std.proofs.Common.{◌≡◌, ℕ, List, [], ◌++◌, map, Bool, false, ap, ◌∙◌}
use Rattle.std.specs.List.{filter_map}
use Rattle.std.specs.Option.{option_and_then}
use Rattle.rw_elf.specs.declared.section.Section.{Section}
use Rattle.rw_elf.specs.Places.{kept_around}
use Rattle.rw_elf.specs.Tables.{kept_sections}
use Rattle.rw_reloc.specs.declared.slot.Slot.{Slot}
use Rattle.rw_reloc.specs.Slots.{copies_of}
use Rattle.rw_funcs.specs.Functions.{entry_of, is_hosted}
use Rattle.rw_data.specs.Regions.{copy_cells, start_cells, start_contents}
use Rattle.rw_code.specs.Ground.{Ground, copied_region, ground_of, hole_in, kept_region}
use Rattle.rw_code.specs.Start.{counters_number}

-- the ground of code that is entered at an address
abbrev pub ground_at : ℕ → Ground
ground_at entry = record { regions = []; places = []; contents = []; holes = []; counters = 0; hosted = false; entry = entry }

module _ (file : List ℕ) (entry : ℕ) (kept-are : kept_sections file ≡ []) (copies-are : copies_of file ≡ []) (not-hosted : is_hosted file ≡ false) (entry-is : entry_of file ≡ entry) where
  abbrev ground_by : List Section → List Slot → Bool → ℕ → Ground
  ground_by kept copies hosted from = record {
    regions = map kept_region kept ++ map copied_region copies;
    places = map (λ s. s.addr) kept ++ map (λ s. s.address) copies;
    contents = map (start_cells file) kept ++ map copy_cells copies;
    holes = filter_map (λ c. option_and_then (hole_in file c) (kept_around file c.address)) copies;
    counters = 0;
    hosted = hosted;
    entry = from;
  }

  pub ground-is : ground_of file (start_contents file) ≡ ground_at entry
  ground-is =
      ap (λ kept. ground_by kept (copies_of file) (is_hosted file) (entry_of file)) kept-are ∙ ap (λ copies. ground_by [] copies (is_hosted file) (entry_of file)) copies-are
      ∙ ap (λ hosted. ground_by [] [] hosted (entry_of file)) not-hosted ∙ ap (ground_by [] [] false) entry-is

  -- it has no region before the counters
  pub counters-first : counters_number (ground_of file (start_contents file)) ≡ 0
  counters-first = ap counters_number ground-is
