-- A machine that starts as the text of a file says starts as the file says, with counters besides that are 0.
use Rattle.std.proofs.Common.{◌≡◌, ℕ, zero, suc, ◌+◌, ◌-◌, ◌*◌, ◌<◌, List, [], ◌∷◌, ◌++◌, length, map, replicate, slice_get, Some, Bool, cond, refl, sym, ap, subst, ◌∙◌, arith, length-append}
use Rattle.std.specs.Prelude.{slice_set}
use Rattle.std.specs.List.{range_with_len}
use Rattle.std.proofs.lemmas.List.{length-map}
use Rattle.rw_base.specs.declared.width.Width.TheVariants.{Q}
use Rattle.asm_items.specs.Lines.{DataSection, sections_of, copies_of, counters_size}
use Rattle.asm_items.specs.Layout.{Layout, section_bytes}
use Rattle.rw_words.specs.declared.atom.Atom.TheVariants.{Ptr}
use Rattle.rw_words.specs.declared.atom.Cell.{Cell}
use Rattle.rw_words.specs.declared.atom.Cell.TheVariants.{Num, Undef}
use Rattle.rw_words.specs.Addresses.{Addresses, CellsStand}
use Rattle.rw_words.specs.Words.{number_cells, atom_cells, undefined_cells}
use Rattle.rw_domain.specs.Placed.{Placed}
use Rattle.rw_domain.specs.Stands.{Both, FlagsStand}
use Rattle.rw_domain.specs.RegionsLaidOut.{ByteStands}
use Rattle.rw_elf.specs.Tables.{kept_sections}
use Rattle.rw_reloc.specs.declared.slot.Slot.{Slot}
use Rattle.rw_reloc.specs.Slots as slots
use Rattle.rw_reloc.specs.Targets.{target_size}
use Rattle.rw_funcs.specs.Functions.{is_hosted}
use Rattle.rw_machine.specs.Step.{Machine}
use Rattle.rw_machine.specs.Stands.{RowsStand, Spare}
use Rattle.rw_probe.specs.Forgetting.{counter_bytes}
use Rattle.rw_code.specs.Ground.{Ground, kept_region, copied_region, ground_of}
use Rattle.rw_code.specs.Start.{Start, counters_number, words_start, all_words, word_count, texts_offset, pointers, text_cells, zero_words, first_size, first_offset, hosted_offset, hosted_stack, environment_offset, first_registers, first_rows, numbers_placed}
use Rattle.rw_code.specs.Mirrors.{Begins}
use Rattle.rw_code.specs.Printed.{start_of, is_hosted_text, text_ground, PrintedBegins}
use Rattle.rw_data.specs.Regions.{start_cells, copy_cells, start_contents}
use Rattle.rw_data.proofs.Clean.{IsClean}
use Rattle.rw_out.specs.Items.{Probes, section_number, items_with}
use Rattle.rw_out.specs.Simulates.{text_addresses}
use Rattle.rw_out.proofs.TextLines.{sections-are, copies-are, counters-are, text_section, text_copy}
use Rattle.rw_out.proofs.TextHosted.{hosted-is}
use Rattle.rw_out.proofs.TextLaid.{joined, numbered, map-map, kept-are, regions-count}

-- ---- registers and rows by whether a C library starts the program, and how many regions the file has

abbrev registers_by : Start → Bool → ℕ → List (List Cell)
registers_by start hosted n =
    cond hosted
    (replicate 2 (undefined_cells Q) ++ atom_cells (Ptr (n + 2) (environment_offset start)) ∷ undefined_cells Q ∷ atom_cells (Ptr (n + 1) (hosted_offset start))
    ∷ undefined_cells Q ∷ atom_cells (Ptr (n + 2) 0) ∷ number_cells Q (word_count start) ∷ replicate 8 (undefined_cells Q))
    (replicate 4 (undefined_cells Q) ++ atom_cells (Ptr (n + 1) (first_offset start)) ∷ replicate 11 (undefined_cells Q))

abbrev pointers_by : Start → ℕ → List Cell
pointers_by start n = pointers (n + 2) (texts_offset start) (all_words start)

abbrev rows_by : Start → Bool → ℕ → List (List Cell)
rows_by start hosted n =
    cond hosted (hosted_stack start)
    (replicate (first_offset start) Undef ++ number_cells Q (word_count start) ++ pointers_by start n ++ zero_words 4 ++ replicate (start.stack - (first_offset start + first_size start)) Undef)
    ∷ (pointers_by start n ++ zero_words 2 ++ text_cells (all_words start)) ∷ map Num start.canary ∷ []

-- ---- cells that say less

module _ (l : Addresses) where
  -- each byte for which the second stands is one for which the first does
  abbrev Weaker : Cell → Cell → Type 0
  Weaker c d = (b : ℕ) → ByteStands l d b → ByteStands l c b

  weaker-row : (xs ys : List Cell) (bytes : List ℕ) → Both Weaker xs ys → Both (ByteStands l) ys bytes → Both (ByteStands l) xs bytes
  weaker-row [] [] [] h k = k
  weaker-row [] [] (b ∷ bytes) h k = absurd k
  weaker-row [] (y ∷ ys) bytes h k = absurd h
  weaker-row (x ∷ xs) [] bytes h k = absurd h
  weaker-row (x ∷ xs) (y ∷ ys) [] h k = absurd k
  weaker-row (x ∷ xs) (y ∷ ys) (b ∷ bytes) h k = (h.0 b k.0, weaker-row xs ys bytes h.1 k.1)

  weaker-rows : (xs ys : List (List Cell)) (rows : List (List ℕ)) → Both (Both Weaker) xs ys → Both (Both (ByteStands l)) ys rows → Both (Both (ByteStands l)) xs rows
  weaker-rows [] [] [] h k = k
  weaker-rows [] [] (r ∷ rows) h k = absurd k
  weaker-rows [] (y ∷ ys) rows h k = absurd h
  weaker-rows (x ∷ xs) [] rows h k = absurd h
  weaker-rows (x ∷ xs) (y ∷ ys) [] h k = absurd k
  weaker-rows (x ∷ xs) (y ∷ ys) (r ∷ rows) h k = (weaker-row x y r h.0 k.0, weaker-rows xs ys rows h.1 k.1)

  same-row : (xs : List Cell) → Both Weaker xs xs
  same-row [] = tt
  same-row (x ∷ xs) = ((λ b h. h), same-row xs)

  same-rows : (xs : List (List Cell)) → Both (Both Weaker) xs xs
  same-rows [] = tt
  same-rows (x ∷ xs) = (same-row x, same-rows xs)

  -- what stands for bytes says no more than they do
  number-row : (xs : List Cell) (bytes : List ℕ) → Both (ByteStands l) xs bytes → Both Weaker xs (map Num bytes)
  number-row [] [] h = tt
  number-row [] (b ∷ bytes) h = absurd h
  number-row (x ∷ xs) [] h = absurd h
  number-row (x ∷ xs) (b ∷ bytes) h = ((λ c k. subst (ByteStands l x) (sym k.0) h.0), number-row xs bytes h.1)

-- ---- a row among others

module _ {E F : Type 0} (R : E → F → Type 0) (x : E) (ys : List E) where
  row-at : (xs : List E) (rows : List F) → Both R (xs ++ x ∷ ys) rows → (row : F) × (slice_get rows (length xs) ≡ Some row) × R x row
  row-at [] [] h = absurd h
  row-at [] (r ∷ rows) h = (r, refl, h.0)
  row-at (u ∷ xs) [] h = absurd h
  row-at (u ∷ xs) (r ∷ rows) h = row-at xs rows h.1

  row-changed : (z : E) (row : F) → R z row → (xs : List E) (rows : List F) → Both R (xs ++ x ∷ ys) rows → Both R (xs ++ z ∷ ys) (slice_set rows (length xs) row)
  row-changed z row k [] [] h = absurd h
  row-changed z row k [] (r ∷ rows) h = (k, h.1)
  row-changed z row k (u ∷ xs) [] h = absurd h
  row-changed z row k (u ∷ xs) (r ∷ rows) h = (h.0, row-changed z row k xs rows h.1)

-- zeros stand for zeros alone
zeros-are : (l : Addresses) (n : ℕ) (row : List ℕ) → Both (ByteStands l) (replicate n (Num 0)) row → row ≡ replicate n 0
zeros-are l zero [] h = refl
zeros-are l zero (b ∷ row) h = absurd h
zeros-are l (suc n) [] h = absurd h
zeros-are l (suc n) (b ∷ row) h = ap (λ c. c ∷ row) h.0.0 ∙ ap (λ bytes. 0 ∷ bytes) (zeros-are l n row h.1)

-- counters that are 0 have zero bytes
zero-bytes : (n : ℕ) → replicate (8 * n) 0 ≡ counter_bytes (replicate n 0)
zero-bytes zero = refl
zero-bytes (suc n) =
    let more : 8 * suc n ≡ suc (suc (suc (suc (suc (suc (suc (suc (8 * n)))))))) = omega arith in
    ap (λ m. replicate m 0) more ∙ ap (λ bytes. 0 ∷ 0 ∷ 0 ∷ 0 ∷ 0 ∷ 0 ∷ 0 ∷ 0 ∷ bytes) (zero-bytes n)

-- setting a row to what it is changes nothing
set-same : {A : Type 0} (rows : List A) (i : ℕ) (row : A) → slice_get rows i ≡ Some row → slice_set rows i row ≡ rows
set-same [] i row e = refl
set-same (r ∷ rows) zero row e = let same : r ≡ row = cc in ap (λ z. z ∷ rows) (sym same)
set-same (r ∷ rows) (suc i) row e = ap (λ z. r ∷ z) (set-same rows i row e)

-- A machine over numbers starts as the file says, and has bytes in a spare region besides.
pub record BeginsBeside {P : Type 0} (l : Addresses) (file_ground : Ground) (start : Start) (spare : Spare ℕ) (laid : Placed) (first : P) (machine : Machine Placed ℕ ℕ P) : Type 0 where
  pub registers : Both (CellsStand l) (words_start file_ground start).registers machine.registers
  pub flags : FlagsStand (words_start file_ground start).flags machine.flags
  pub memory : RowsStand (ByteStands l) spare (words_start file_ground start).memory machine.memory
  pub placed : machine.placed ≡ laid
  pub point : machine.point ≡ first

-- with no bytes there it starts as the file says
pub begins-alone : {P : Type 0} (l : Addresses) (file_ground : Ground) (start : Start) (region : ℕ) (laid : Placed) (first : P) (machine : Machine Placed ℕ ℕ P)
    → BeginsBeside l file_ground start (Some (region, [])) laid first machine → Begins l file_ground start laid first machine
begins-alone l file_ground start region laid first machine h = record {
  registers = h.registers;
  flags = h.flags;
  memory = subst (Both (Both (ByteStands l)) (words_start file_ground start).memory) (set-same machine.memory region [] h.memory.kept) h.memory.bytes;
  placed = h.placed;
  point = h.point;
}

-- ---- the start

module _ (file : List ℕ) (probes : Probes) (clean : IsClean file) (layout : Layout)
    (rows : (n : ℕ) → n < length (kept_sections file) → Both (ByteStands (text_addresses file layout)) (start_cells file (section_number file n)) (section_bytes (items_with file probes) layout (text_section file n))) (start : Start) where
  abbrev l : Addresses
  l = text_addresses file layout

  abbrev file_ground : Ground
  file_ground = ground_of file (start_contents file)

  abbrev shown : Ground
  shown = text_ground (items_with file probes) layout

  abbrev Less : List (List Cell) → List (List Cell) → Type 0
  Less xs ys = Both (Both (Weaker (text_addresses file layout))) xs ys

  abbrev section_row : DataSection → List Cell
  section_row section = map Num (section_bytes (items_with file probes) layout section)

  sections-less : Less (map (start_cells file) (kept_sections file)) (map section_row (sections_of (items_with file probes)))
  sections-less =
      let n = length (kept_sections file) in
      subst (λ xs. Less xs (map section_row (sections_of (items_with file probes)))) (sym (ap (map (start_cells file)) (kept-are file) ∙ map-map (start_cells file) (section_number file) (range_with_len 0 n)))
      (subst (Less (map (λ k. start_cells file (section_number file k)) (range_with_len 0 n))) (sym (ap (map section_row) (sections-are file probes) ∙ map-map section_row (text_section file) (range_with_len 0 n)))
      (numbered (Both (Weaker (text_addresses file layout))) (λ k. start_cells file (section_number file k)) (λ k. section_row (text_section file k)) 0 n
      (λ k low high. number-row (text_addresses file layout) (start_cells file (section_number file k)) (section_bytes (items_with file probes) layout (text_section file k)) (rows k (omega (arith, high))))))

  copies-less : (copies : List Slot) → Less (map copy_cells copies) (map (λ copy. replicate copy.1 Undef) (map (text_copy file) copies))
  copies-less [] = tt
  copies-less (c ∷ copies) = (same-row (text_addresses file layout) (replicate (target_size c.target) Undef), copies-less copies)

  abbrev text_copies : List (List Cell)
  text_copies = map (λ copy. replicate copy.1 Undef) (copies_of (items_with file probes))

  contents-less : Less (start_contents file) (map section_row (sections_of (items_with file probes)) ++ text_copies)
  contents-less =
      joined (Both (Weaker (text_addresses file layout))) (map (start_cells file) (kept_sections file)) (map section_row (sections_of (items_with file probes))) (map copy_cells (slots.copies_of file)) text_copies sections-less
      (subst (λ cs. Less (map copy_cells (slots.copies_of file)) (map (λ copy. replicate copy.1 Undef) cs)) (sym (copies-are file probes)) (copies-less (slots.copies_of file)))

  -- what both say alike
  hosted : is_hosted_text (items_with file probes) ≡ is_hosted file
  hosted = hosted-is file probes clean

  count : length file_ground.regions ≡ length shown.regions
  count = regions-count file probes clean layout rows start

  registers-same : first_registers shown start ≡ first_registers file_ground start
  registers-same = ap (λ h. registers_by start h (length shown.regions)) hosted ∙ ap (registers_by start (is_hosted file)) (sym count)

  abbrev other_rows : Bool → ℕ → ℕ → List (List Cell)
  other_rows h n counters = replicate counters (Num 0) ∷ rows_by start h n

  others-same : other_rows (is_hosted_text (items_with file probes)) (length shown.regions) (counters_size (items_with file probes)) ≡ other_rows (is_hosted file) (length file_ground.regions) (8 * probes.counters)
  others-same =
      ap (λ h. other_rows h (length shown.regions) (counters_size (items_with file probes))) hosted
      ∙ ap (λ n. other_rows (is_hosted file) n (counters_size (items_with file probes))) (sym count)
      ∙ ap (other_rows (is_hosted file) (length file_ground.regions)) (counters-are file probes)

  -- the rows of the file, but with counters
  abbrev counted_rows : List (List Cell)
  counted_rows = start_contents file ++ other_rows (is_hosted file) (length file_ground.regions) (8 * probes.counters)

  rows-less : Less counted_rows (first_rows shown start)
  rows-less =
      joined (Both (Weaker (text_addresses file layout))) (start_contents file) (map section_row (sections_of (items_with file probes)) ++ text_copies)
      (other_rows (is_hosted file) (length file_ground.regions) (8 * probes.counters)) (other_rows (is_hosted_text (items_with file probes)) (length shown.regions) (counters_size (items_with file probes))) contents-less
      (subst (Less (other_rows (is_hosted file) (length file_ground.regions) (8 * probes.counters))) (sym others-same) (same-rows (text_addresses file layout) (other_rows (is_hosted file) (length file_ground.regions) (8 * probes.counters))))

  -- the counters come behind the contents of the regions of the file
  contents-count : length (start_contents file) ≡ counters_number file_ground
  contents-count =
      let first = length-map (kept_sections file) (start_cells file) in
      let second = length-map (slots.copies_of file) copy_cells in
      let third = length-map (kept_sections file) kept_region in
      let fourth = length-map (slots.copies_of file) copied_region in
      let cells = length-append (map (start_cells file) (kept_sections file)) (map copy_cells (slots.copies_of file)) in
      let regions = length-append (map kept_region (kept_sections file)) (map copied_region (slots.copies_of file)) in
      omega (arith, first, second, third, fourth, cells, regions)

  -- the counters at the start
  abbrev pub counters_spare : Spare ℕ
  counters_spare = Some (counters_number file_ground, counter_bytes (replicate probes.counters 0))

  memory-begins : (rows : List (List ℕ)) → Both (Both (ByteStands l)) (first_rows shown start) rows → RowsStand (ByteStands l) counters_spare (first_rows file_ground start) rows
  memory-begins rows h =
      let all = weaker-rows (text_addresses file layout) counted_rows (first_rows shown start) rows rows-less h in
      let behind = rows_by start (is_hosted file) (length file_ground.regions) in
      let zeros = replicate (8 * probes.counters) (Num 0) in
      let at = row-at (Both (ByteStands (text_addresses file layout))) zeros behind (start_contents file) rows all in
      let changed = row-changed (Both (ByteStands (text_addresses file layout))) zeros behind [] [] tt (start_contents file) rows all in
      let same = zeros-are (text_addresses file layout) (8 * probes.counters) at.0 at.2 ∙ zero-bytes probes.counters in
      record {
        bytes = subst (λ i. Both (Both (ByteStands (text_addresses file layout))) (first_rows file_ground start) (slice_set rows i [])) contents-count changed;
        kept = subst (λ i. slice_get rows i ≡ Some (counter_bytes (replicate probes.counters 0))) contents-count (at.1 ∙ ap Some same);
      }

  pub text-begins : (machine : Machine Placed ℕ ℕ ℕ) → PrintedBegins l (items_with file probes) layout start machine
      → BeginsBeside l file_ground start counters_spare (numbers_placed shown start layout.region) (start_of (items_with file probes)) machine
  text-begins machine begins = record {
    registers = subst (λ xs. Both (CellsStand (text_addresses file layout)) xs machine.registers) registers-same begins.registers;
    flags = begins.flags;
    memory = memory-begins machine.memory begins.memory;
    placed = begins.placed;
    point = begins.point;
  }

  -- a text without counters starts as the file says
  pub text-begins-alone : probes.counters ≡ 0 → (machine : Machine Placed ℕ ℕ ℕ) → PrintedBegins l (items_with file probes) layout start machine
      → Begins l file_ground start (numbers_placed shown start layout.region) (start_of (items_with file probes)) machine
  text-begins-alone none machine begins =
      let beside = text-begins machine begins in
      begins-alone l file_ground start (counters_number file_ground) (numbers_placed shown start layout.region) (start_of (items_with file probes)) machine
      (subst (λ n. BeginsBeside l file_ground start (Some (counters_number file_ground, counter_bytes (replicate n 0))) (numbers_placed shown start layout.region) (start_of (items_with file probes)) machine) none beside)
