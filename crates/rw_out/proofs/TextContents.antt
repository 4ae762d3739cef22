-- The first contents of a file's kept sections stand for the bytes of the lines of its text, wherever that is laid out.
use Rattle.std.proofs.Common.{◌≡◌, ◌⊎◌, inl, inr, ℕ, zero, suc, ◌+◌, ◌-◌, ◌*◌, ◌%◌, ◌^◌, ◌<◌, ◌≤◌, List, [], ◌∷◌, ◌++◌, append_assoc, append-nil, length, length-append, map, take, get_or, All, Option, Some, None, Bool, true, false, ◌==◌, ◌&&◌, ◌||◌, nat_lt, nat_le, refl, sym, ap, subst, ◌∙◌, arith, lit<}
use Rattle.std.specs.Prelude.{Contains, flat_map, filter, replicate, slice_get, slice_index, position, if◌then◌else◌}
use Rattle.std.specs.List.{range_with_len}
use Rattle.std.specs.Option.{is_some, option_and_then, option_map, option_map_or, option_or, unwrap_or}
use Rattle.std.proofs.lemmas.Bool.{cases_lt, ltb-true}
use Rattle.std.proofs.lemmas.Bool.Decides.{nat_tests}
use Rattle.std.proofs.lemmas.Grind.{flat_map-append}
use Rattle.std.proofs.lemmas.List.{length-map, length-replicate}
use Rattle.std.proofs.lemmas.List.Elements.{All-head, All-tail, All-cons, All-nil, All-append, Contains-append_left, Contains-append_right, Contains-get_or}
use Rattle.std.proofs.lemmas.List.Folds.{flat_map-map}
use Rattle.std.proofs.lemmas.List.FromFn.{get_or-map-range_with_len, get_or-range_with_len, length-map-range_with_len, length-range_with_len}
use Rattle.std.proofs.lemmas.List.Quantifiers.{position-Some}
use Rattle.std.proofs.lemmas.List.Sums.{sum_by-append, sum_by-cons}
use Rattle.std.proofs.lemmas.Option.{slice_get-get_or, slice_get-map, slice_get_within}
use Rattle.asm_items.specs.declared.item.Item.{Item}
use Rattle.asm_items.specs.declared.item.Item.TheVariants.{Copy, Comment, Weak, Globl, TextHead, Align, FuncKind, Name, Label, Ins, SectionHead, Bytes, Quad, LongDiff, Zero, CountsHead, Tail}
use Rattle.asm_items.specs.declared.item.Label.TheVariants as label
use Rattle.asm_items.specs.declared.item.Sym.TheVariants as sym
use Rattle.asm_items.specs.Lines.{Items, copies_number, copies_of, line_size, sections_of, size_of}
use Rattle.asm_items.specs.Layout.{Extent, Layout, IsLayout, line_bytes, section_bytes, symbol_at, table_distance}
use Rattle.rw_words.specs.declared.atom.Atom.{Atom}
use Rattle.rw_words.specs.declared.atom.Atom.TheVariants.{Ptr, Code, Import, Diff}
use Rattle.rw_words.specs.declared.atom.Atom.TheVariants as atom
use Rattle.rw_words.specs.declared.atom.Cell.{Cell}
use Rattle.rw_words.specs.declared.atom.Cell.TheVariants.{Num, Undef}
use Rattle.rw_words.specs.Addresses.{Addresses, address_of}
use Rattle.rw_words.specs.Words.{atom_cells}
use Rattle.rw_domain.specs.Stands.{Both}
use Rattle.rw_domain.specs.RegionsLaidOut.{ByteStands}
use Rattle.rw_base.specs.declared.span.Span.{Span}
use Rattle.rw_elf.specs.declared.section.Section.{Section}
use Rattle.rw_elf.specs.declared.symbol.Symbol.{Symbol}
use Rattle.rw_elf.specs.Name.{name_bytes}
use Rattle.rw_elf.specs.Places.{Covers, EndsBefore, bytes_at, bytes_from, bytes_in, kept_around, spans}
use Rattle.rw_elf.specs.Section.{null_section}
use Rattle.rw_elf.specs.Sections.{has_bytes}
use Rattle.rw_elf.specs.Symbols.{dynamic_symbols}
use Rattle.rw_elf.specs.Tables.{kept_sections}
use Rattle.rw_elf.proofs.Around.{contains_filter, filter_contains, filter_tests}
use Rattle.rw_elf.proofs.Clean.{kept_pairs}
use Rattle.rw_elf.proofs.Search.{position-at, position-never}
use Rattle.rw_reloc.specs.declared.slot.Slot.{Slot}
use Rattle.rw_reloc.specs.declared.slot.Target.{Target}
use Rattle.rw_reloc.specs.declared.slot.Target.TheVariants as target
use Rattle.rw_reloc.specs.Slots.{copy_around, is_copy_slot, null_slot, slot_around, slots_of, takes}
use Rattle.rw_reloc.specs.Slots as slots
use Rattle.rw_reloc.specs.Targets.{target_size}
use Rattle.rw_funcs.specs.Functions.{name_of_symbol, section_or, symbol_or}
use Rattle.rw_tables.proofs.Picked.{all-given}
use Rattle.rw_tables.specs.declared.table.Table.{Table}
use Rattle.rw_tables.specs.Tables.{end_of, entry_at, leads, tables_of, word_target}
use Rattle.rw_tables.proofs.GoodTables.{table-good}
use Rattle.rw_tables.proofs.KnownMore.{all-each}
use Rattle.rw_funcs.specs.Points.{file_points, is_point}
use Rattle.rw_refs.specs.References.{copy_at, end_at, import_through, inside_at, offset_in, point_at, reference_at, start_at}
use Rattle.rw_refs.proofs.Data.{start-inside}
use Rattle.rw_data.specs.declared.piece.Piece.{Piece}
use Rattle.rw_data.specs.declared.piece.Piece.TheVariants as piece
use Rattle.rw_data.specs.FirstCells.{atom_in, byte_in, cell_at, slot_cell, slot_cell_at, table_around, word_cell, word_cell_at}
use Rattle.rw_data.specs.Regions.{start_cell, start_cells}
use Rattle.rw_data.specs.Pieces.{begins_in, cells_of, end_of_piece, filled, marks_in, pieces_of, quad_of, quads_in, run, start_of, tables_in, word_cells, words_of}
use Rattle.rw_data.specs.Words.{IsWord}
use Rattle.rw_data.proofs.Around.{slot-around-from, table-around-from, takes-parts}
use Rattle.rw_data.proofs.Clean.{IsClean, is-kept, kept-around}
use Rattle.rw_data.proofs.Contents.{whole-contents}
use Rattle.rw_data.proofs.Filled.{Lie, run-none, run-some}
use Rattle.rw_data.proofs.Good.{slot-in, table-in}
use Rattle.rw_data.proofs.Marks.{begins-covers, covers-begins, marks-lie, quad-parts, table-here, table-mark}
use Rattle.rw_data.proofs.Words.{is-word, word-distance}
use Rattle.rw_code.specs.Ground.{places_of}
use Rattle.rw_code.specs.Imports.{import_name}
use Rattle.rw_code.proofs.Functions.{contains_map}
use Rattle.rw_code.proofs.References.{IsAtomOf, found}
use Rattle.rw_out.specs.Items.{Probes, atom_symbol, byte_line, contents, copy_name, distance_item, dynamic_name, exponent, items_with, line_count, piece_items, section_number, target_name}
use Rattle.rw_out.specs.Simulates.{text_addresses}
use Rattle.rw_out.proofs.TextLines.{copies-are, sections-are, text_copy, text_section}
use Rattle.rw_out.proofs.TextRows.{both-joined, both-length, both-numbered, half-stands, run-lines, run-stands, word-stands}

-- ---- items of lists

module _ {A B : Type 0} (f : A → List B) (x : A) (y : B) (inside : Contains (f x) y) where
  flat-at : (xs : List A) (k : ℕ) → k < length xs → get_or xs k x ≡ x → Contains (flat_map f xs) y
  flat-at [] k low e = absurd (omega (arith, low))
  flat-at (z ∷ zs) zero low e = Contains-append_left (f z) (flat_map f zs) y (subst (λ v. Contains (f v) y) (sym e) inside)
  flat-at (z ∷ zs) (suc k) low e = Contains-append_right (f z) (flat_map f zs) y (flat-at zs k (omega (arith, low)) e)

pub into-flat : {A B : Type 0} (f : A → List B) (xs : List A) (x : A) (y : B) → Contains xs x → Contains (f x) y → Contains (flat_map f xs) y
into-flat f xs x y at inside = flat-at f x y inside xs at.0 at.1 at.2

-- ---- sizes of lines

size-joined : (xs ys : Items) → size_of (xs ++ ys) ≡ size_of xs + size_of ys
size-joined xs ys = sum_by-append line_size xs ys

-- ---- consecutive pieces

abbrev Consecutive : ℕ → ℕ → List Piece → Type 0
Consecutive from to [] = from ≡ to
Consecutive from to (p ∷ ps) = (start_of p ≡ from) × (from ≤ end_of_piece p) × Consecutive (end_of_piece p) to ps

run-then : (from to last : ℕ) (ps : List Piece) → from ≤ to → Consecutive to last ps → Consecutive from last (run from to ++ ps)
run-then from to last ps fits h = by (cases_lt from to)
  where
    by : (from < to) ⊎ (to ≤ from) → Consecutive from last (run from to ++ ps)
    by (inl some) = subst (λ qs. Consecutive from last (qs ++ ps)) (sym (run-some from to some)) (refl, omega (arith, some), h)
    by (inr none) = subst (λ qs. Consecutive from last (qs ++ ps)) (sym (run-none from to none)) (subst (λ a. Consecutive a last ps) (let same : to ≡ from = omega (arith, none, fits) in same) h)

filled-consecutive : (from to : ℕ) (ms : List Piece) → Lie from to ms → Consecutive from to (filled from to ms)
filled-consecutive from to [] h = subst (Consecutive from to) (append-nil (run from to)) (run-then from to to [] h refl)
  where
    append-nil : (ps : List Piece) → ps ++ [] ≡ ps
    append-nil [] = refl
    append-nil (p ∷ ps) = ap (λ qs. p ∷ qs) (append-nil ps)
filled-consecutive from to (p ∷ ps) h =
    let some = h.1 in
    run-then from (start_of p) to (p ∷ filled (end_of_piece p) to ps) h.0 (refl, omega (arith, some), filled-consecutive (end_of_piece p) to ps h.2)

-- a property of the runs and of the marks is one of all
filled-all : (P : Piece → Type 0) (from to : ℕ) (ms : List Piece) → ((a b : ℕ) → from ≤ a → b ≤ to → P (piece.Bytes (record { start = a; end = b }))) → Lie from to ms → All P ms → All P (filled from to ms)
filled-all P from to [] runs h all = by (nat_lt from to)
  where
    by : (t : Bool) → All P (if t then piece.Bytes (record { start = from; end = to }) ∷ [] else [])
    by true = All-cons P (piece.Bytes (record { start = from; end = to })) [] (runs from to (omega arith) (omega arith)) (All-nil P)
    by false = All-nil P
filled-all P from to (p ∷ ps) runs h all =
    let some = h.1 in
    let low = h.0 in
    let fits = ends (end_of_piece p) ps h.2 in
    All-append P (run from (start_of p)) (p ∷ filled (end_of_piece p) to ps) (by (nat_lt from (start_of p)))
    (All-cons P p (filled (end_of_piece p) to ps) (All-head P p ps all)
    (filled-all P (end_of_piece p) to ps (λ a b g k. runs a b (omega (arith, g, some, low)) k) h.2 (All-tail P p ps all)))
  where
    ends : (at : ℕ) (qs : List Piece) → Lie at to qs → at ≤ to
    ends at [] g = g
    ends at (q ∷ qs) g = let rest = ends (end_of_piece q) qs g.2 in let a = g.0 in let b = g.1 in omega (arith, rest, a, b)

    by : (t : Bool) → All P (if t then piece.Bytes (record { start = from; end = start_of p }) ∷ [] else [])
    by true = All-cons P (piece.Bytes (record { start = from; end = start_of p })) [] (runs from (start_of p) (omega arith) (let some = h.1 in let fits = ends (end_of_piece p) ps h.2 in omega (arith, some, fits))) (All-nil P)
    by false = All-nil P

-- ---- what a piece holds

-- an atom whose symbol has its address: of pointers, one into a region of the file
abbrev IsHeld : List ℕ → Atom → Type 0
IsHeld file (Ptr r o) = r < length (places_of file)
IsHeld file (Code a) = Unit {0}
IsHeld file (Import i) = Unit {0}
IsHeld file (atom.Past a) = ⊥
IsHeld file atom.End = ⊥
IsHeld file (Diff c r o) = ⊥

held-atom : (file : List ℕ) (a : ℕ) (x : Atom) → IsAtomOf file a x → IsHeld file x
held-atom file a (Ptr r o) h = slice_get_within (places_of file) r h.place h.is_there
held-atom file a (Code c) h = tt
held-atom file a (Import i) h = tt
held-atom file a (atom.Past s) h = h
held-atom file a atom.End h = h
held-atom file a (Diff c r o) h = h

some-same : {A : Type 0} (x y : A) → ◌≡◌ {A = Option A} (Some x) (Some y) → x ≡ y
some-same x y e = cc

slot-held : (file : List ℕ) (t : Target) (x : Atom) → atom_in file t ≡ Some x → IsHeld file x
slot-held file (target.To a) x e = held-atom file a x (found file a false x e)
slot-held file (target.Import n) x e = subst (IsHeld file) (some-same (Import n) x e) tt
slot-held file (target.Copy n size) x e = cc

abbrev IsGood : List ℕ → Section → Piece → Type 0
IsGood file s (piece.Bytes span) = (s.addr ≤ span.start) × (span.end ≤ s.addr + s.size)
IsGood file s (piece.Quad a x) = IsHeld file x
IsGood file s (piece.Table t) = Contains (tables_of file) t × Covers t.base s

module _ (file : List ℕ) (s : Section) where
  tables-good : (ts : List Table) → ((t : Table) → Contains ts t → Contains (tables_of file) t × Covers t.base s) → All (IsGood file s) (map piece.Table ts)
  tables-good [] each = All-nil (IsGood file s)
  tables-good (t ∷ ts) each =
      All-cons (IsGood file s) (piece.Table t) (map piece.Table ts) (each t (0, omega arith, refl))
      (tables-good ts (λ u at. each u (suc at.0, (let low = at.1 in omega (arith, low)), at.2)))

  marks-good : All (IsGood file s) (marks_in file s)
  unfolding marks_in
  marks-good =
      All-append (IsGood file s) (quads_in file s) (tables_in file s) (all-given (IsGood file s) (quad_of file) (filter (λ t. begins_in s t.address) (slots_of file)) (λ t p listed is.
      let q = quad-parts file t p is in
      subst (IsGood file s) q.piece_is (slot-held file t.target q.atom q.held)))
      (tables-good (filter (λ t. begins_in s t.base) (tables_of file))
      (λ t at. (filter_contains (λ t. begins_in s t.base) (tables_of file) t at, begins-covers s t.base (filter_tests (λ t. begins_in s t.base) (tables_of file) t at))))

-- ---- symbols

places-count : (file : List ℕ) → length (places_of file) ≡ length (kept_sections file) + length (slots.copies_of file)
places-count file =
    length-append (map (λ s. s.addr) (kept_sections file)) (map (λ s. s.address) (slots.copies_of file))
    ∙ ap (λ k. k + length (map (λ s. s.address) (slots.copies_of file))) (length-map (kept_sections file) (λ (s : Section). s.addr))
    ∙ ap (λ k. length (kept_sections file) + k) (length-map (slots.copies_of file) (λ (s : Slot). s.address))

dynamic-same : (file : List ℕ) (i : ℕ) → dynamic_name file i ≡ import_name file i
dynamic-same file i = by (slice_get (dynamic_symbols file) i)
  where
    by : (o : Option Symbol) → name_of_symbol file (symbol_or o) ≡ option_map_or (λ s. name_bytes file s.name) o []
    by None = refl
    by (Some s) = refl

module _ (file : List ℕ) (probes : Probes) (clean : IsClean file) (bytes : All (λ b. b < 256) file) (layout : Layout) (regions : List Extent) (names : List (List ℕ)) (is : IsLayout (items_with file probes) regions names layout) where
  abbrev l : Addresses
  l = text_addresses file layout

  pub section-at : (n : ℕ) → n < length (kept_sections file) → slice_get (sections_of (items_with file probes)) n ≡ Some (text_section file n)
  section-at n within =
      let size = length-map-range_with_len (text_section file) 0 (length (kept_sections file)) in
      ap (λ xs. slice_get xs n) (sections-are file probes)
      ∙ slice_get-get_or (map (text_section file) (range_with_len 0 (length (kept_sections file)))) n (text_section file n) (omega (arith, size, within))
      ∙ ap (λ x. Some x) (get_or-map-range_with_len (text_section file) 0 (length (kept_sections file)) n n (text_section file n) within (omega arith))

  pub section-label : (n : ℕ) → n < length (kept_sections file) → layout.label (label.Section n) ≡ layout.region n
  section-label n within =
      let at = is.data_labels n (text_section file n) (Align (exponent (section_number file n).align) ∷ []) (contents file (section_number file n)) (label.Section n) (section-at n within) refl in
      let none : layout.region n + size_of (Align (exponent (section_number file n).align) ∷ []) ≡ layout.region n = omega arith in
      at ∙ none

  pub copies-count : copies_number (items_with file probes) ≡ length (kept_sections file)
  copies-count = ap length (sections-are file probes) ∙ length-map-range_with_len (text_section file) 0 (length (kept_sections file))

  pub copy-base : (k : ℕ) → k < length (slots.copies_of file) → layout.name (copy_name file k) ≡ layout.region (length (kept_sections file) + k)
  copy-base k within =
      let c = get_or (slots.copies_of file) k null_slot in
      let there = slice_get-get_or (slots.copies_of file) k null_slot within in
      let listed : slice_get (copies_of (items_with file probes)) k ≡ Some (text_copy file c) = ap (λ xs. slice_get xs k) (copies-are file probes) ∙ slice_get-map (text_copy file) (slots.copies_of file) k ∙ ap (option_map (text_copy file)) there in
      ap (λ o. layout.name (option_map_or (λ c. target_name file c.target) o [])) there ∙ is.copies k (text_copy file c) listed ∙ ap (λ m. layout.region (m + k)) copies-count

  -- a symbol has the address of its atom
  pub symbol-stands : (x : Atom) → IsHeld file x → symbol_at (items_with file probes) layout (atom_symbol file x) ≡ address_of l x
  symbol-stands (Ptr r o) h = by (nat_lt r (length (kept_sections file))) refl
    where
      by : (t : Bool) → nat_lt r (length (kept_sections file)) ≡ t → symbol_at (items_with file probes) layout (if t then sym.Section r o else sym.Named (copy_name file (r - length (kept_sections file))) o) ≡ address_of l (Ptr r o)
      by true e = ap (λ a. (a + o) % 2 ^ 64) (section-label r (ltb-true r (length (kept_sections file)) e))
      by false e =
          let past : length (kept_sections file) ≤ r = grind (arith, nat_tests) in
          let size : length (places_of file) ≡ length (kept_sections file) + length (slots.copies_of file) = places-count file in
          let place : length (kept_sections file) + (r - length (kept_sections file)) ≡ r = omega (arith, past) in
          ap (λ a. (a + o) % 2 ^ 64) (copy-base (r - length (kept_sections file)) (omega (arith, past, size, h)) ∙ ap layout.region place)
  symbol-stands (Code c) h = refl
  symbol-stands (Import i) h =
      let none : layout.name (dynamic_name file i) + 0 ≡ layout.name (dynamic_name file i) = omega arith in
      ap (λ a. a % 2 ^ 64) none ∙ ap (λ name. layout.name name % 2 ^ 64) (dynamic-same file i)
  symbol-stands (atom.Past a) h = absurd h
  symbol-stands atom.End h = absurd h
  symbol-stands (Diff c r o) h = absurd h

  -- ---- a section

  module _ (n : ℕ) (within : n < length (kept_sections file)) where
    abbrev s : Section
    s = section_number file n

    listed : Contains (kept_sections file) (section_number file n)
    listed = subst (Contains (kept_sections file)) (sym (ap section_or (slice_get-get_or (kept_sections file) n null_section within))) (Contains-get_or (kept_sections file) n null_section within)

    -- no copy lies in a section that isn't written
    no-copy : (t : Table) → Contains (tables_of file) t → Covers t.base (section_number file n) → copy_at file t.base ≡ None
    unfolding copy_around slots.copies_of
    no-copy t table on = by (position (takes t.base) (filter is_copy_slot (slots_of file))) refl
      where
        by : (o : Option ℕ) → position (takes t.base) (filter is_copy_slot (slots_of file)) ≡ o
            → option_map (λ k. Ptr (length (kept_sections file) + k) (offset_in (filter is_copy_slot (slots_of file)) (λ (c : Slot). t.base - c.address) k)) o ≡ None
        by None e = refl
        by (Some k) e =
            let c = get_or (filter is_copy_slot (slots_of file)) k null_slot in
            let parts = position-Some (takes t.base) (filter is_copy_slot (slots_of file)) k null_slot e in
            let place = takes-parts t.base c parts.1 in
            let from = filter_contains is_copy_slot (slots_of file) c (Contains-get_or (filter is_copy_slot (slots_of file)) k null_slot parts.0) in
            let written = (slot-in file (section_number file n) c t.base clean listed on from place.0 place.1).0 in
            let not = (table-here file (section_number file n) clean listed t (contains_filter (λ u. begins_in (section_number file n) u.base) (tables_of file) t table (covers-begins (section_number file n) t.base on))).0 in
            absurd (let both : true ≡ false = sym written ∙ not in cc)

    covers-spans : (a : ℕ) (u : Section) → Covers a u → spans a u ≡ true
    covers-spans a u on = grind (arith, nat_tests)

    spans-past : (a : ℕ) (u : Section) → u.addr + u.size ≤ a → spans a u ≡ false
    spans-past a u past = grind (arith, nat_tests)

    around-is : (a : ℕ) → Covers a (section_number file n) → kept_around file a ≡ Some n
    unfolding kept_around
    around-is a on =
        let same : section_number file n ≡ get_or (kept_sections file) n null_section = ap section_or (slice_get-get_or (kept_sections file) n null_section within) in
        let here : Covers a (get_or (kept_sections file) n null_section) = subst (Covers a) same on in
        position-at (spans a) (kept_sections file) n null_section within (covers-spans a (get_or (kept_sections file) n null_section) here)
        (λ j low.
        let before : EndsBefore (get_or (kept_sections file) j null_section) (get_or (kept_sections file) n null_section) = kept_pairs file clean.elf j n null_section low within in
        let first = here.0 in
        spans-past a (get_or (kept_sections file) j null_section) (omega (arith, before, first)))

    inside-is : (a : ℕ) → Covers a (section_number file n) → inside_at file a ≡ Some (Ptr n (a - (section_number file n).addr))
    inside-is a on =
        ap (option_map (λ k. Ptr k (offset_in (kept_sections file) (λ (u : Section). a - u.addr) k))) (around-is a on)
        ∙ ap (λ o. Some (Ptr n (option_map_or (λ (u : Section). a - u.addr) o 0))) (slice_get-get_or (kept_sections file) n null_section within)
        ∙ ap (λ (u : Section). Some (Ptr n (a - u.addr))) (sym (ap section_or (slice_get-get_or (kept_sections file) n null_section within)))

    pub base-is : (t : Table) → Contains (tables_of file) t → Covers t.base (section_number file n) → reference_at file t.base ≡ Some (Ptr n (t.base - (section_number file n).addr))
    unfolding reference_at
    base-is t table on =
        let rest : Option Atom = option_or (end_at file t.base) (option_or (point_at file t.base) (option_or (import_through file t.base) None)) in
        ap (λ o. option_or o (option_or (start_at file t.base) (option_or (inside_at file t.base) rest))) (no-copy t table on)
        ∙ by (start_at file t.base) (inside_at file t.base) rest (start-inside file t.base clean.elf) (inside-is t.base on)
      where
        by : (st i rest : Option Atom) → option_or st i ≡ i → i ≡ Some (Ptr n (t.base - (section_number file n).addr)) → option_or st (option_or i rest) ≡ Some (Ptr n (t.base - (section_number file n).addr))
        by None i rest h e = ap (λ o. option_or o rest) e
        by (Some x) i rest h e = h ∙ e

    -- ---- its pieces

    -- the lines before a place of it
    abbrev Splits : Items → Items → Type 0
    Splits before after = (text_section file n).lines ≡ before ++ after

    table-label : (t : Table) (before after : Items) → Splits before (Label (label.Table t.base) ∷ after) → layout.label (label.Table t.base) ≡ layout.region n + size_of before
    table-label t before after e = is.data_labels n (text_section file n) before after (label.Table t.base) (section-at n within) e

    abbrev lines_bytes : Items → List ℕ
    lines_bytes xs = flat_map (line_bytes (items_with file probes) layout) xs

    abbrev Holds : List Cell → Items → Type 0
    Holds cells xs = Both (ByteStands (text_addresses file layout)) cells (flat_map (line_bytes (items_with file probes) layout) xs)

    bytes-stand : (has : has_bytes (section_number file n) ≡ true) (span : Span) → IsGood file (section_number file n) (piece.Bytes span) → span.start ≤ span.end
        → Holds (cells_of file (section_number file n) (piece.Bytes span)) (piece_items file (section_number file n) (piece.Bytes span))
    bytes-stand has span good order =
        let u = section_number file n in
        let low = good.0 in
        let high = good.1 in
        let stored = (is-kept file u clean.elf listed).stored has in
        subst (Both (ByteStands (text_addresses file layout)) (cells_of file u (piece.Bytes span)))
        (sym (flat_map-map (line_bytes (items_with file probes) layout) (byte_line file u span) (range_with_len 0 (line_count span)) ∙ run-lines file u span.start span.end low))
        (run-stands file u (text_addresses file layout) bytes has (span.end - span.start) span.start low (omega (arith, low, high, order, stored)))

    quad-stands : (a : ℕ) (x : Atom) → IsHeld file x → Holds (atom_cells x) (Quad (atom_symbol file x) ∷ [])
    quad-stands a x held = word-stands (text_addresses file layout) x (symbol_at (items_with file probes) layout (atom_symbol file x)) (symbol-stands x held)

    table-word : (t : Table) → Contains (tables_of file) t → Covers t.base (section_number file n) → layout.label (label.Table t.base) ≡ layout.region n + (t.base - (section_number file n).addr)
        → (k : ℕ) → k < t.count → Both (ByteStands (text_addresses file layout)) (word_cells file (t.base + 4 * k)) (line_bytes (items_with file probes) layout (distance_item (entry_at file (t.base + 4 * k))))
    table-word t table on at k low =
        let w = is-word file (section_number file n) t k clean listed on table low in
        let place : Some (Ptr n (t.base - (section_number file n).addr)) ≡ Some (Ptr w.region w.offset) = sym (base-is t table on) ∙ w.base_is in
        let same : Ptr n (t.base - (section_number file n).addr) ≡ Ptr w.region w.offset = some-same (Ptr n (t.base - (section_number file n).addr)) (Ptr w.region w.offset) place in
        let base : layout.label (label.Table t.base) ≡ layout.region w.region + w.offset = at ∙ pointer-sum layout.region n (t.base - (section_number file n).addr) w.region w.offset same in
        subst (λ cells. Both (ByteStands (text_addresses file layout)) cells (line_bytes (items_with file probes) layout (distance_item (entry_at file (t.base + 4 * k)))))
        (sym (ap (λ o. option_map_or (λ x. take 4 (atom_cells x)) o []) (word-distance file t k w)))
        (subst (λ o. Both (ByteStands (text_addresses file layout)) (take 4 (atom_cells (Diff w.point w.region w.offset))) (line_bytes (items_with file probes) layout (distance_item o))) (sym w.leads_to)
        (half-stands (text_addresses file layout) (Diff w.point w.region w.offset) (table_distance layout w.point t.base)
        (ap (λ a. (layout.label (label.Code w.point) % 2 ^ 64 + 2 ^ 64 - a % 2 ^ 64) % 2 ^ 64) base)))
      where
        pointer-sum : (f : ℕ → ℕ) (r o q p : ℕ) → ◌≡◌ {A = Atom} (Ptr r o) (Ptr q p) → f r + o ≡ f q + p
        pointer-sum f r o q p e = let first : r ≡ q = cc in let second : o ≡ p = cc in ap (λ k. f k + o) first ∙ ap (λ k. f q + k) second

    table-stands : (t : Table) → Contains (tables_of file) t → Covers t.base (section_number file n) → layout.label (label.Table t.base) ≡ layout.region n + (t.base - (section_number file n).addr)
        → Holds (cells_of file (section_number file n) (piece.Table t)) (piece_items file (section_number file n) (piece.Table t))
    table-stands t table on at =
        let place : ℕ → ℕ = λ k. t.base + 4 * k in
        let ks = range_with_len 0 t.count in
        let cells = flat_map-map (word_cells file) place ks in
        let lines = flat_map-map (line_bytes (items_with file probes) layout) (λ a. distance_item (entry_at file a)) (words_of t) ∙ flat_map-map (λ a. line_bytes (items_with file probes) layout (distance_item (entry_at file a))) place ks in
        subst (λ xs. Both (ByteStands (text_addresses file layout)) xs (lines_bytes (piece_items file (section_number file n) (piece.Table t)))) (sym cells)
        (subst (Both (ByteStands (text_addresses file layout)) (flat_map (λ k. word_cells file (place k)) ks)) (sym lines)
        (both-numbered (ByteStands (text_addresses file layout)) (λ k. word_cells file (place k)) (λ k. line_bytes (items_with file probes) layout (distance_item (entry_at file (place k)))) 0 t.count
        (λ k low high. table-word t table on at k (omega (arith, high)))))

    -- ---- sizes

    line-length : (item : Item (List ℕ)) → line_size item ≡ length (line_bytes (items_with file probes) layout item)
    line-length (Bytes bytes) = refl
    line-length (Quad sym) = refl
    line-length (LongDiff code table) = refl
    line-length (Zero n) = sym (length-replicate n 0)
    line-length (Copy name size) = refl
    line-length (Comment name) = refl
    line-length (Weak name) = refl
    line-length (Globl name) = refl
    line-length TextHead = refl
    line-length (Align k) = refl
    line-length (FuncKind name) = refl
    line-length (Name name) = refl
    line-length (Label l) = refl
    line-length (Ins i) = refl
    line-length (SectionHead n writable nobits) = refl
    line-length CountsHead = refl
    line-length Tail = refl

    pub lines-length : (xs : Items) → size_of xs ≡ length (flat_map (line_bytes (items_with file probes) layout) xs)
    lines-length [] = refl
    lines-length (x ∷ xs) =
        let rest = lines-length xs in
        let here = line-length x in
        let sum = sum_by-cons line_size x xs in
        let joined = length-append (line_bytes (items_with file probes) layout x) (flat_map (line_bytes (items_with file probes) layout) xs) in
        omega (arith, rest, here, sum, joined)

    words-length : (t : Table) → Contains (tables_of file) t → Covers t.base (section_number file n) → (a c : ℕ) → a + c ≤ t.count → length (flat_map (λ k. word_cells file (t.base + 4 * k)) (range_with_len a c)) ≡ 4 * c
    words-length t table on a zero fits = refl
    words-length t table on a (suc c) fits =
        let w = is-word file (section_number file n) t a clean listed on table (omega (arith, fits)) in
        let four : length (word_cells file (t.base + 4 * a)) ≡ 4 = ap (λ o. length (option_map_or (λ x. take 4 (atom_cells x)) o [])) (word-distance file t a w) in
        let rest = words-length t table on (a + 1) c (omega (arith, fits)) in
        let joined = length-append (word_cells file (t.base + 4 * a)) (flat_map (λ k. word_cells file (t.base + 4 * k)) (range_with_len (a + 1) c)) in
        omega (arith, four, rest, joined)

    cells-length : (p : Piece) → IsGood file (section_number file n) p → length (cells_of file (section_number file n) p) ≡ end_of_piece p - start_of p
    cells-length (piece.Bytes span) good = length-map-range_with_len (λ a. Num (byte_in file (section_number file n) a)) span.start (span.end - span.start)
    cells-length (piece.Quad a x) good = let eight : 8 ≡ a + 8 - a = omega arith in eight
    cells-length (piece.Table t) good =
        let all = words-length t good.0 good.1 0 t.count (omega arith) in
        let size : 4 * t.count ≡ end_of t - t.base = omega arith in
        ap length (flat_map-map (word_cells file) (λ k. t.base + 4 * k) (range_with_len 0 t.count)) ∙ all ∙ size

    -- ---- one piece, and all

    piece-stands : (has : has_bytes (section_number file n) ≡ true) (p : Piece) (before after : Items) → IsGood file (section_number file n) p → start_of p ≤ end_of_piece p
        → Splits before (piece_items file (section_number file n) p ++ after) → size_of before ≡ start_of p - (section_number file n).addr
        → Holds (cells_of file (section_number file n) p) (piece_items file (section_number file n) p)
    piece-stands has (piece.Bytes span) before after good order splits size = bytes-stand has span good order
    piece-stands has (piece.Quad a x) before after good order splits size = quad-stands a x good
    piece-stands has (piece.Table t) before after good order splits size =
        table-stands t good.0 good.1 (table-label t before (map (λ a. distance_item (entry_at file a)) (words_of t) ++ after) splits ∙ ap (λ k. layout.region n + k) size)

    pieces-stand : (has : has_bytes (section_number file n) ≡ true) (ps : List Piece) (from to : ℕ) (before : Items) → Consecutive from to ps → All (IsGood file (section_number file n)) ps
        → Splits before (flat_map (piece_items file (section_number file n)) ps) → size_of before ≡ from - (section_number file n).addr → (section_number file n).addr ≤ from
        → Holds (flat_map (cells_of file (section_number file n)) ps) (flat_map (piece_items file (section_number file n)) ps)
    pieces-stand has [] from to before h good splits size low = tt
    pieces-stand has (p ∷ ps) from to before h good splits size low =
        let u = section_number file n in
        let first = h.0 in
        let order = h.1 in
        let mine = All-head (IsGood file u) p ps good in
        let start : size_of before ≡ start_of p - u.addr = size ∙ ap (λ a. a - u.addr) (sym first) in
        let here = piece-stands has p before (flat_map (piece_items file u) ps) mine (omega (arith, first, order)) splits start in
        let long = lines-length (piece_items file u p) in
        let same = both-length (ByteStands (text_addresses file layout)) (cells_of file u p) (lines_bytes (piece_items file u p)) here in
        let cells = cells-length p mine in
        let joined = size-joined before (piece_items file u p) in
        let rest =
        pieces-stand has ps (end_of_piece p) to (before ++ piece_items file u p) h.2 (All-tail (IsGood file u) p ps good)
        (splits ∙ sym (append_assoc before (piece_items file u p) (flat_map (piece_items file u) ps))) (omega (arith, joined, long, same, cells, size, first, order, low)) (omega (arith, low, order)) in
        subst (Both (ByteStands (text_addresses file layout)) (cells_of file u p ++ flat_map (cells_of file u) ps)) (sym (flat_map-append (line_bytes (items_with file probes) layout) (piece_items file u p) (flat_map (piece_items file u) ps)))
        (both-joined (ByteStands (text_addresses file layout)) (cells_of file u p) (lines_bytes (piece_items file u p)) (flat_map (cells_of file u) ps) (lines_bytes (flat_map (piece_items file u) ps)) here rest)

    -- ---- the section at the start: undefined under copies, and first contents elsewhere

    -- less is known of some cells
    weakened : (f g : ℕ → Cell) (ks : List ℕ) (row : List ℕ) → ((k b : ℕ) → ByteStands (text_addresses file layout) (f k) b → ByteStands (text_addresses file layout) (g k) b)
        → Both (ByteStands (text_addresses file layout)) (map f ks) row → Both (ByteStands (text_addresses file layout)) (map g ks) row
    weakened f g [] [] weaker h = tt
    weakened f g [] (b ∷ row) weaker h = absurd h
    weakened f g (k ∷ ks) [] weaker h = absurd h
    weakened f g (k ∷ ks) (b ∷ row) weaker h = (weaker k b h.0, weakened f g ks row weaker h.1)

    start-weaker : (k b : ℕ) → ByteStands (text_addresses file layout) (cell_at file (section_number file n) k) b → ByteStands (text_addresses file layout) (start_cell file (section_number file n) k) b
    start-weaker k b h = by (is_some (copy_around file k))
      where
        by : (t : Bool) → ByteStands (text_addresses file layout) (if t then Undef else cell_at file (section_number file n) k) b
        by true = (tt, h.1)
        by false = h

    -- where the section has bytes in the file
    stored-rows : (has : has_bytes (section_number file n) ≡ true) → Both (ByteStands (text_addresses file layout)) (map (cell_at file (section_number file n)) (range_with_len (section_number file n).addr (section_number file n).size)) (lines_bytes (contents file (section_number file n)))
    unfolding pieces_of
    stored-rows has =
        let u = section_number file n in
        let lie = marks-lie file u clean listed in
        let good = filled-all (IsGood file u) u.addr (u.addr + u.size) (marks_in file u) (λ a b low high. (low, high)) lie (marks-good file u) in
        let order = filled-consecutive u.addr (u.addr + u.size) (marks_in file u) lie in
        let whole : contents file u ≡ flat_map (piece_items file u) (pieces_of file u) = ap (λ t. if t then flat_map (piece_items file u) (pieces_of file u) else Zero u.size ∷ []) has in
        let none : 0 ≡ u.addr - u.addr = omega arith in
        let opened : size_of (Align (exponent u.align) ∷ Label (label.Section n) ∷ []) ≡ u.addr - u.addr = none in
        subst (λ xs. Both (ByteStands (text_addresses file layout)) (map (cell_at file u) (range_with_len u.addr u.size)) (lines_bytes xs)) (sym whole)
        (subst (λ cells. Both (ByteStands (text_addresses file layout)) cells (lines_bytes (flat_map (piece_items file u) (pieces_of file u)))) (whole-contents file u clean listed)
        (pieces-stand has (pieces_of file u) u.addr (u.addr + u.size) (Align (exponent u.align) ∷ Label (label.Section n) ∷ []) order good
        (ap (λ xs. Align (exponent u.align) ∷ Label (label.Section n) ∷ xs) whole) opened (omega arith)))

    -- where it has none, no slot or table is in it, but for copies
    no-table : (none : has_bytes (section_number file n) ≡ false) (t : Table) → Contains (tables_of file) t → Covers t.base (section_number file n) → ⊥
    no-table none t table on =
        let good = table-good file t clean.tables table in
        let lead : leads file t.base (t.base + 4 * 0) ≡ true = all-each (λ j. leads file t.base (t.base + 4 * j)) t.count good.leading 0 good.some in
        let same : t.base + 4 * 0 ≡ t.base = omega arith in
        let nothing : bytes_at file t.base 4 ≡ None = ap (option_and_then (bytes_in file t.base 4)) (kept-around file (section_number file n) t.base clean.elf listed on) ∙ ap (λ b. if b && nat_le (t.base + 4) ((section_number file n).addr + (section_number file n).size) then Some (bytes_from file (section_number file n) t.base 4) else None) none in
        let fails : leads file t.base (t.base + 4 * 0) ≡ false = ap (leads file t.base) same ∙ ap (λ o. option_map_or (is_point (file_points file)) (option_map (word_target t.base) o) false) nothing in
        absurd (let both : true ≡ false = sym lead ∙ fails in cc)

    takes-it : {a : ℕ} (t : Slot) → t.address ≤ a → a < t.address + target_size t.target → takes a t ≡ true
    takes-it {a} t low high = grind (arith, nat_tests)

    -- a slot with an address that no copy has is none of a copy
    no-copy-there : (a : ℕ) (t : Slot) → Contains (slots_of file) t → takes a t ≡ true → copy_around file a ≡ None → (b : Bool) → (t.kind == 5) ≡ b → (t.kind == 5 || false) ≡ true → ⊥
    unfolding copy_around slots.copies_of
    no-copy-there a t from takes_it free true e h =
        let here = contains_filter is_copy_slot (slots_of file) t from e in
        let off : takes a (get_or (filter is_copy_slot (slots_of file)) here.0 t) ≡ false = position-never (takes a) (filter is_copy_slot (slots_of file)) here.0 t free here.1 in
        absurd (let both : true ≡ false = sym takes_it ∙ ap (takes a) (sym here.2) ∙ off in cc)
    no-copy-there a t from takes_it free false e h = absurd (let both : false ≡ true = sym (ap (λ b. b || false) e) ∙ h in cc)

    empty-cell : (none : has_bytes (section_number file n) ≡ false) (a : ℕ) → Covers a (section_number file n) → ByteStands (text_addresses file layout) (start_cell file (section_number file n) a) 0
    unfolding cell_at copy_around slots.copies_of
    empty-cell none a on = by (copy_around file a) refl
      where
        no-slot : copy_around file a ≡ None → slot_cell_at file a ≡ None
        no-slot free = by-slot (slot_around (slots_of file) a) refl
          where
            by-slot : (o : Option Slot) → slot_around (slots_of file) a ≡ o → option_and_then (slot_cell file a) o ≡ None
            by-slot None e = refl
            by-slot (Some t) e =
                let from = slot-around-from (slots_of file) a t e in
                let kind : (t.kind == 5 || has_bytes (section_number file n)) ≡ true = (slot-in file (section_number file n) t a clean listed on from.0 from.1 from.2).3 in
                absurd (no-copy-there a t from.0 (takes-it t from.1 from.2) free (t.kind == 5) refl (ap (λ b. t.kind == 5 || b) (sym none) ∙ kind))

        no-word : word_cell_at file a ≡ None
        no-word = by-table (table_around file a) refl
          where
            by-table : (o : Option Table) → table_around file a ≡ o → option_and_then (word_cell file a) o ≡ None
            by-table None e = refl
            by-table (Some t) e =
                let from = table-around-from file a t e in
                absurd (no-table none t from.0 (table-in file (section_number file n) t a clean listed on from.0 from.1 from.2).1)

        plain : slot_cell_at file a ≡ None → word_cell_at file a ≡ None → cell_at file (section_number file n) a ≡ Num 0
        plain slot word =
            ap (λ o. unwrap_or (option_or o (word_cell_at file a)) (Num (byte_in file (section_number file n) a))) slot
            ∙ ap (λ o. unwrap_or o (Num (byte_in file (section_number file n) a))) word ∙ ap (λ t. Num (if t then slice_index file ((section_number file n).offset + (a - (section_number file n).addr)) else 0)) none

        by : (o : Option ℕ) → copy_around file a ≡ o → ByteStands (text_addresses file layout) (if is_some o then Undef else cell_at file (section_number file n) a) 0
        by None e = subst (λ c. ByteStands (text_addresses file layout) c 0) (sym (plain (no-slot e) no-word)) (refl, lit< tt)
        by (Some k) e = (tt, lit< tt)

    empty-rows : (none : has_bytes (section_number file n) ≡ false) (a m : ℕ) → (section_number file n).addr ≤ a → a + m ≤ (section_number file n).addr + (section_number file n).size
        → Both (ByteStands (text_addresses file layout)) (map (start_cell file (section_number file n)) (range_with_len a m)) (replicate m 0)
    empty-rows none a zero low high = tt
    empty-rows none a (suc m) low high = (empty-cell none a (low, omega (arith, high)), empty-rows none (a + 1) m (omega (arith, low)) (omega (arith, high)))

    pub section-rows : Both (ByteStands (text_addresses file layout)) (start_cells file (section_number file n)) (section_bytes (items_with file probes) layout (text_section file n))
    unfolding start_cells
    section-rows = by (has_bytes (section_number file n)) refl
      where
        by : (t : Bool) → has_bytes (section_number file n) ≡ t → Both (ByteStands (text_addresses file layout)) (map (start_cell file (section_number file n)) (range_with_len (section_number file n).addr (section_number file n).size)) (lines_bytes (contents file (section_number file n)))
        by true e = weakened (cell_at file (section_number file n)) (start_cell file (section_number file n)) (range_with_len (section_number file n).addr (section_number file n).size) (lines_bytes (contents file (section_number file n))) start-weaker (stored-rows e)
        by false e =
            let whole : contents file (section_number file n) ≡ Zero (section_number file n).size ∷ [] = ap (λ t. if t then flat_map (piece_items file (section_number file n)) (pieces_of file (section_number file n)) else Zero (section_number file n).size ∷ []) e in
            let zeros : lines_bytes (Zero (section_number file n).size ∷ []) ≡ replicate (section_number file n).size 0 = append-nil (replicate (section_number file n).size 0) in
            subst (Both (ByteStands (text_addresses file layout)) (map (start_cell file (section_number file n)) (range_with_len (section_number file n).addr (section_number file n).size))) (sym (ap lines_bytes whole ∙ zeros))
            (empty-rows e (section_number file n).addr (section_number file n).size (omega arith) (omega arith))

    -- ---- the labels of its tables

    piece-size : (has : has_bytes (section_number file n) ≡ true) (p : Piece) (before after : Items) → IsGood file (section_number file n) p → start_of p ≤ end_of_piece p
        → Splits before (piece_items file (section_number file n) p ++ after) → size_of before ≡ start_of p - (section_number file n).addr → size_of (piece_items file (section_number file n) p) ≡ end_of_piece p - start_of p
    piece-size has p before after good order splits size =
        lines-length (piece_items file (section_number file n) p)
        ∙ sym (both-length (ByteStands (text_addresses file layout)) (cells_of file (section_number file n) p) (lines_bytes (piece_items file (section_number file n) p)) (piece-stands has p before after good order splits size))
        ∙ cells-length p good

    labelled-in : (has : has_bytes (section_number file n) ≡ true) (t : Table) (ps : List Piece) (from to : ℕ) (before : Items) → Consecutive from to ps → All (IsGood file (section_number file n)) ps
        → Splits before (flat_map (piece_items file (section_number file n)) ps) → size_of before ≡ from - (section_number file n).addr → (section_number file n).addr ≤ from
        → (k : ℕ) → k < length ps → get_or ps k (piece.Table t) ≡ piece.Table t → layout.label (label.Table t.base) ≡ layout.region n + (t.base - (section_number file n).addr)
    labelled-in has t [] from to before h good splits size low k inside e = absurd (omega (arith, inside))
    labelled-in has t (p ∷ ps) from to before h good splits size low zero inside e =
        let u = section_number file n in
        let start : from ≡ t.base = sym h.0 ∙ ap start_of e in
        let here : Splits before (Label (label.Table t.base) ∷ (map (λ a. distance_item (entry_at file a)) (words_of t) ++ flat_map (piece_items file u) ps)) = splits ∙ ap (λ q. before ++ (piece_items file u q ++ flat_map (piece_items file u) ps)) e in
        table-label t before (map (λ a. distance_item (entry_at file a)) (words_of t) ++ flat_map (piece_items file u) ps) here ∙ ap (λ m. layout.region n + m) (size ∙ ap (λ a. a - u.addr) start)
    labelled-in has t (p ∷ ps) from to before h good splits size low (suc k) inside e =
        let u = section_number file n in
        let first = h.0 in
        let order = h.1 in
        let mine = All-head (IsGood file u) p ps good in
        let start : size_of before ≡ start_of p - u.addr = size ∙ ap (λ a. a - u.addr) (sym first) in
        let long = piece-size has p before (flat_map (piece_items file u) ps) mine (omega (arith, first, order)) splits start in
        let joined = size-joined before (piece_items file u p) in
        labelled-in has t ps (end_of_piece p) to (before ++ piece_items file u p) h.2 (All-tail (IsGood file u) p ps good)
        (splits ∙ sym (append_assoc before (piece_items file u p) (flat_map (piece_items file u) ps))) (omega (arith, joined, long, size, first, order, low)) (omega (arith, low, order)) k (omega (arith, inside)) e

    filled-has : (from to : ℕ) (ms : List Piece) (p : Piece) (k : ℕ) → k < length ms → get_or ms k p ≡ p → Contains (filled from to ms) p
    filled-has from to [] p k low e = absurd (omega (arith, low))
    filled-has from to (q ∷ qs) p zero low e = Contains-append_right (run from (start_of q)) (q ∷ filled (end_of_piece q) to qs) p (0, omega arith, e)
    filled-has from to (q ∷ qs) p (suc k) low e =
        let rest = filled-has (end_of_piece q) to qs p k (omega (arith, low)) e in
        Contains-append_right (run from (start_of q)) (q ∷ filled (end_of_piece q) to qs) p (suc rest.0, (let small = rest.1 in omega (arith, small)), rest.2)

    table-piece : (t : Table) → Contains (tables_of file) t → Covers t.base (section_number file n) → Contains (pieces_of file (section_number file n)) (piece.Table t)
    unfolding pieces_of
    table-piece t table on =
        let u = section_number file n in
        let mark = table-mark file u clean listed t table on in
        filled-has u.addr (u.addr + u.size) (marks_in file u) (piece.Table t) mark.0 mark.1 mark.2

    table-stored : (t : Table) → Contains (tables_of file) t → Covers t.base (section_number file n) → has_bytes (section_number file n) ≡ true
    table-stored t table on = by (has_bytes (section_number file n)) refl
      where
        by : (b : Bool) → has_bytes (section_number file n) ≡ b → b ≡ true
        by true e = refl
        by false e = absurd (no-table e t table on)

    pub table-labelled : (t : Table) → Contains (tables_of file) t → Covers t.base (section_number file n) → layout.label (label.Table t.base) ≡ layout.region n + (t.base - (section_number file n).addr)
    unfolding pieces_of
    table-labelled t table on =
        let u = section_number file n in
        let has = table-stored t table on in
        let lie = marks-lie file u clean listed in
        let good = filled-all (IsGood file u) u.addr (u.addr + u.size) (marks_in file u) (λ a b low high. (low, high)) lie (marks-good file u) in
        let order = filled-consecutive u.addr (u.addr + u.size) (marks_in file u) lie in
        let whole : contents file u ≡ flat_map (piece_items file u) (pieces_of file u) = ap (λ b. if b then flat_map (piece_items file u) (pieces_of file u) else Zero u.size ∷ []) has in
        let none : 0 ≡ u.addr - u.addr = omega arith in
        let at = table-piece t table on in
        labelled-in has t (pieces_of file u) u.addr (u.addr + u.size) (Align (exponent u.align) ∷ Label (label.Section n) ∷ []) order good
        (ap (λ xs. Align (exponent u.align) ∷ Label (label.Section n) ∷ xs) whole) none (omega arith) at.0 at.1 at.2

    -- ---- the lines of their words

    pub word-line : (t : Table) → Contains (tables_of file) t → Covers t.base (section_number file n) → (k : ℕ) → k < t.count → (w : IsWord file t k) → Contains (contents file (section_number file n)) (LongDiff w.point t.base)
    word-line t table on k low w =
        let u = section_number file n in
        let whole : contents file u ≡ flat_map (piece_items file u) (pieces_of file u) = ap (λ b. if b then flat_map (piece_items file u) (pieces_of file u) else Zero u.size ∷ []) (table-stored t table on) in
        let inside : get_or (range_with_len 0 t.count) k k ≡ k = get_or-range_with_len 0 t.count k k low ∙ (let none : 0 + k ≡ k = omega arith in none) in
        let number : Contains (range_with_len 0 t.count) k = (k, (let size = length-range_with_len 0 t.count in omega (arith, size, low)), inside) in
        let word : Contains (words_of t) (t.base + 4 * k) = contains_map (λ j. t.base + 4 * j) (range_with_len 0 t.count) k number in
        let line : Contains (map (λ a. distance_item (entry_at file a)) (words_of t)) (distance_item (entry_at file (t.base + 4 * k))) = contains_map (λ a. distance_item (entry_at file a)) (words_of t) (t.base + 4 * k) word in
        let same : Contains (map (λ a. distance_item (entry_at file a)) (words_of t)) (LongDiff w.point t.base) = subst (λ o. Contains (map (λ a. distance_item (entry_at file a)) (words_of t)) (distance_item o)) w.leads_to line in
        let small = same.1 in
        subst (λ xs. Contains xs (LongDiff w.point t.base)) (sym whole)
        (into-flat (piece_items file u) (pieces_of file u) (piece.Table t) (LongDiff w.point t.base) (table-piece t table on) (suc same.0, omega (arith, small), same.2))
