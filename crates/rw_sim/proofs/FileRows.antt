-- The regions of a file, and what they hold before and after its first contents are written.
use Rattle.std.proofs.Common.{◌≡◌, ◌≤◌, ◌<◌, ◌^◌, ℕ, suc, zero, ◌+◌, ◌-◌, List, [], ◌∷◌, ◌++◌, length, map, take, drop, set, get_or, replicate, slice_get, Some, None, Contains, cond, refl, sym, ◌∙◌, ap, subst, arith, length-append, append_assoc}
use Rattle.std.proofs.Math.Seq.{drop-append_seam}
use Rattle.std.proofs.lemmas.List.{get_or_append_left, length-map, map-append, get_or-map}
use Rattle.std.proofs.lemmas.List.FromFn.{get_or-map-range_with_len, length-map-range_with_len}
use Rattle.std.proofs.lemmas.Option.{slice_get-get_or, slice_get_within, get_or_from_slice_get, slice_get-map}
use Rattle.std.specs.Prelude.{is_some}
use Rattle.std.specs.Option.{option_map_or}
use Rattle.rw_words.specs.declared.atom.Cell.{Cell}
use Rattle.rw_words.specs.declared.atom.Cell.TheVariants.{Num, Undef}
use Rattle.rw_elf.specs.declared.section.Section.{Section}
use Rattle.rw_elf.specs.Tables.{kept_sections}
use Rattle.rw_reloc.specs.declared.slot.Slot.{Slot}
use Rattle.rw_reloc.specs.Slots.{copies_of, copy_around}
use Rattle.rw_domain.specs.declared.place.Region.{Region}
use Rattle.rw_domain.specs.declared.place.Place.{Place}
use Rattle.rw_domain.specs.Operators.{IsInside}
use Rattle.rw_domain.specs.Placed.{Placed}
use Rattle.rw_domain.specs.Symbols.{symbols_over}
use Rattle.rw_machine.specs.Step.{filling}
use Rattle.rw_machine.specs.Views.{HasRange, IsLaidOut}
use Rattle.rw_machine.proofs.RowLemmas.{first-laid}
use Rattle.rw_code.specs.Ground.{Ground, copied_region, kept_region}
use Rattle.rw_code.specs.Start.{Start, regions_of, start_regions, words_placed}
use Rattle.rw_data.specs.FirstCells.{cell_at, first_cell}
use Rattle.rw_data.specs.Regions.{copy_cells, start_cell, start_cells, start_contents}
use Rattle.rw_sim.specs.Start.{blank, file_ground, loaded_rows}

module _ (file : List ℕ) where
  pub start-length : (s : Section) → length (start_cells file s) ≡ s.size
  unfolding start_cells
  start-length s = length-map-range_with_len (start_cell file s) s.addr s.size

  -- a byte that isn't under a copy
  pub plain-cell : (region offset : ℕ) (s : Section) → slice_get (kept_sections file) region ≡ Some s → copy_around file (s.addr + offset) ≡ None → first_cell file region offset ≡ start_cell file s (s.addr + offset)
  unfolding first_cell
  plain-cell region offset s got none =
      ap (λ o. option_map_or (λ t. cell_at file t (t.addr + offset)) o Undef) got ∙ ap (λ o. cond (is_some o) Undef (cell_at file s (s.addr + offset))) (sym none)

  pub start-cell-at : (s : Section) (o : ℕ) → o < s.size → slice_get (start_cells file s) o ≡ Some (start_cell file s (s.addr + o))
  unfolding start_cells
  start-cell-at s o low =
      let long = length-map-range_with_len (start_cell file s) s.addr s.size in
      slice_get-get_or (start_cells file s) o Undef (omega (arith, low, long)) ∙ ap Some (get_or-map-range_with_len (start_cell file s) s.addr s.size o (s.addr + o) Undef low refl)

  -- there are contents for each region
  pub regions-count : length (file_ground file).regions ≡ length (kept_sections file) + length (copies_of file)
  regions-count =
      length-append (map kept_region (kept_sections file)) (map copied_region (copies_of file))
      ∙ ap (λ n. n + length (map copied_region (copies_of file))) (length-map (kept_sections file) kept_region)
      ∙ ap (λ n. length (kept_sections file) + n) (length-map (copies_of file) copied_region)

  pub contents-count : length (file_ground file).contents ≡ length (file_ground file).regions
  contents-count =
      length-append (map (start_cells file) (kept_sections file)) (map copy_cells (copies_of file))
      ∙ ap (λ n. n + length (map copy_cells (copies_of file))) (length-map (kept_sections file) (start_cells file))
      ∙ ap (λ n. length (kept_sections file) + n) (length-map (copies_of file) copy_cells)
      ∙ sym regions-count

  module _ (start : Start) where
    placed : Placed
    placed = words_placed (file_ground file) start

    abbrev filled : Region → List Cell
    filled region = replicate region.size (filling (symbols_over (words_placed (file_ground file) start)) region)

    -- before anything is written, each region has a row as long as it
    pub blank-laid : IsLaidOut (regions_of (file_ground file) start) (blank (file_ground file) start).memory
    blank-laid = first-laid (filling (symbols_over (words_placed (file_ground file) start))) (regions_of (file_ground file) start)

    -- a kept section is the region with its number
    pub section-region : (k : ℕ) (s : Section) → slice_get (kept_sections file) k ≡ Some s → slice_get (regions_of (file_ground file) start) k ≡ Some (kept_region s)
    section-region k s got =
        let low : k < length (kept_sections file) = slice_get_within (kept_sections file) k s got in
        let one = length-map (kept_sections file) kept_region in
        let two = length-append (map kept_region (kept_sections file)) (map copied_region (copies_of file)) in
        let three = length-append (file_ground file).regions (start_regions (file_ground file) start) in
        slice_get-get_or (regions_of (file_ground file) start) k (kept_region s) (omega (arith, low, one, two, three))
        ∙ ap Some
        (get_or_append_left (file_ground file).regions (start_regions (file_ground file) start) (kept_region s) k (omega (arith, low, one, two))
        ∙ get_or_append_left (map kept_region (kept_sections file)) (map copied_region (copies_of file)) (kept_region s) k (omega (arith, low, one))
        ∙ get_or-map kept_region (kept_sections file) k s (kept_region s) low
        ∙ ap kept_region (get_or_from_slice_get (kept_sections file) k s s got))

    rows-behind : map filled (map copied_region (copies_of file)) ≡ map copy_cells (copies_of file)
    rows-behind = each (copies_of file)
      where
        each : (cs : List Slot) → map filled (map copied_region cs) ≡ map copy_cells cs
        each [] = refl
        each (c ∷ cs) = ap (λ rows. copy_cells c ∷ rows) (each cs)

    -- memory when the first contents of each section are written
    pub sections-written : map (start_cells file) (kept_sections file) ++ drop (length (kept_sections file)) (blank (file_ground file) start).memory ≡ loaded_rows (file_ground file) start
    sections-written =
        ap (λ rows. map (start_cells file) (kept_sections file) ++ drop (length (kept_sections file)) rows) cut
        ∙ ap (λ rows. map (start_cells file) (kept_sections file) ++ rows)
        (subst (λ n. drop n (front ++ (map copy_cells (copies_of file) ++ last)) ≡ map copy_cells (copies_of file) ++ last) front-length (drop-append_seam front (map copy_cells (copies_of file) ++ last)))
        ∙ sym (append_assoc (map (start_cells file) (kept_sections file)) (map copy_cells (copies_of file)) last)
      where
        front : List (List Cell)
        front = map filled (map kept_region (kept_sections file))

        last : List (List Cell)
        last = map filled (start_regions (file_ground file) start)

        front-length : length front ≡ length (kept_sections file)
        front-length = length-map (map kept_region (kept_sections file)) filled ∙ length-map (kept_sections file) kept_region

        cut : (blank (file_ground file) start).memory ≡ front ++ (map copy_cells (copies_of file) ++ last)
        cut =
            map-append filled (file_ground file).regions (start_regions (file_ground file) start)
            ∙ ap (λ rows. rows ++ last) (map-append filled (map kept_region (kept_sections file)) (map copied_region (copies_of file)) ∙ ap (λ rows. front ++ rows) rows-behind)
            ∙ append_assoc front (map copy_cells (copies_of file)) last
