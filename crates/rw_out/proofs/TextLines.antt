-- What the lines of the text of a file say of its data, whatever probes it has: its sections are the kept sections of the file, its
-- copies the file's copies, and its counters have eight bytes each.
use Rattle.std.proofs.Common.{◌≡◌, ℕ, ◌*◌, List, [], ◌∷◌, ◌++◌, length, map, append_assoc, append-nil, Bool, true, false, not, cond, ◌==◌, ◌&&◌, Option, Some, None, refl, ap, ◌∙◌, arith}
use Rattle.std.specs.Prelude.{flat_map}
use Rattle.std.specs.List.{list_all, range_with_len, take_while}
use Rattle.std.proofs.lemmas.Bool.{and_parts, and_from, eqb-true}
use Rattle.std.proofs.lemmas.List.Folds.{list_all-append}
use Rattle.std.proofs.lemmas.List.Sums.{take_while-cons}
use Rattle.rw_base.specs.declared.span.Span.{Span}
use Rattle.x86_insn.specs.declared.instruction.Insn.{Insn}
use Rattle.asm_items.specs.declared.item.Item.{Item}
use Rattle.asm_items.specs.declared.item.Item.TheVariants.{Copy, Weak, Globl, Align, Name, Label, Ins, SectionHead, Bytes, Quad, LongDiff, Zero, CountsHead, Tail}
use Rattle.asm_items.specs.declared.item.Label.TheVariants as label
use Rattle.asm_items.specs.declared.item.Sym.{Sym}
use Rattle.asm_items.specs.declared.item.Sym.TheVariants as sym
use Rattle.asm_items.specs.Lines.{Items, DataSection, begins_section, lines_from, size_of, sections_of, copies_of, counter_lines, counters_size}
use Rattle.asm_items.proofs.CodeLines.{is_code_line}
use Rattle.rw_elf.specs.declared.section.Section.{Section}
use Rattle.rw_elf.specs.declared.symbol.Symbol.{Symbol}
use Rattle.rw_elf.specs.Sections.{has_bytes, is_writable}
use Rattle.rw_elf.specs.Tables.{kept_sections}
use Rattle.rw_reloc.specs.declared.slot.Slot.{Slot}
use Rattle.rw_reloc.specs.Slots as slots
use Rattle.rw_reloc.specs.Targets.{target_size}
use Rattle.rw_funcs.specs.Functions.{entry_of, kept_functions, name_of_symbol}
use Rattle.rw_funcs.specs.Points.{Point, points_of}
use Rattle.rw_tables.specs.Tables.{entry_at}
use Rattle.rw_probe.specs.declared.form.Probe.{Probe}
use Rattle.rw_probe.specs.Probes.{probe_insns}
use Rattle.rw_probe.specs.ProbedPrograms.{is_endbr64}
use Rattle.rw_data.specs.declared.piece.Piece.{Piece}
use Rattle.rw_data.specs.declared.piece.Piece.TheVariants as piece
use Rattle.rw_data.specs.Pieces.{pieces_of, words_of}
use Rattle.rw_out.specs.Items.{Probes, insn_items, probe_items, point_items, with_symbols, start_name, opening, entry_items, closing, function_items, atom_symbol, exponent, byte_line, line_count, distance_item, piece_items, contents, section_number, section_items, target_name, copy_item, copy_items, data_items, main_items, weakly_used, weak_items, counters_name, last_items, items_with}

-- ---- behind lines of code

sections-behind : (xs ys : Items) → list_all is_code_line xs ≡ true → sections_of (xs ++ ys) ≡ sections_of ys
sections-behind [] ys h = refl
sections-behind (SectionHead n writable nobits ∷ xs) ys h = cc
sections-behind (x ∷ xs) ys h = sections-behind xs ys (and_parts (is_code_line x) (list_all is_code_line xs) h).1

copies-behind : (xs ys : Items) → list_all is_code_line xs ≡ true → copies_of (xs ++ ys) ≡ copies_of ys
copies-behind [] ys h = refl
copies-behind (Copy name size ∷ xs) ys h = cc
copies-behind (x ∷ xs) ys h = copies-behind xs ys (and_parts (is_code_line x) (list_all is_code_line xs) h).1

counters-behind : (xs ys : Items) → list_all is_code_line xs ≡ true → counter_lines (xs ++ ys) ≡ counter_lines ys
counters-behind [] ys h = refl
counters-behind (CountsHead ∷ xs) ys h = cc
counters-behind (x ∷ xs) ys h = counters-behind xs ys (and_parts (is_code_line x) (list_all is_code_line xs) h).1

-- a section ends where the next begins
begins-next : Items → Bool
begins-next [] = true
begins-next (item ∷ items) = begins_section item

lines-end : (xs rest : Items) → list_all (λ item. not (begins_section item)) xs ≡ true → begins-next rest ≡ true → lines_from (xs ++ rest) ≡ xs
unfolding begins-next
lines-end [] [] h begins = refl
lines-end [] (item ∷ rest) h begins =
    take_while-cons (λ item. not (begins_section item)) item rest ∙ ap (λ t. cond (not t) (item ∷ take_while (λ item. not (begins_section item)) rest) []) begins
lines-end (x ∷ xs) rest h begins =
    let parts = and_parts (not (begins_section x)) (list_all (λ item. not (begins_section item)) xs) h in
    take_while-cons (λ item. not (begins_section item)) x (xs ++ rest) ∙ ap (λ t. cond t (x ∷ take_while (λ item. not (begins_section item)) (xs ++ rest)) []) parts.0 ∙ ap (λ lines. x ∷ lines) (lines-end xs rest parts.1 begins)

-- ---- lines of data

-- neither of another section nor of a head
abbrev pub is_data_line : Item (List ℕ) → Bool
is_data_line item = is_code_line item && not (begins_section item)

data-parts : (xs : Items) → list_all is_data_line xs ≡ true → (list_all is_code_line xs ≡ true) × (list_all (λ item. not (begins_section item)) xs ≡ true)
data-parts [] h = (refl, refl)
data-parts (x ∷ xs) h =
    let first = and_parts (is_data_line x) (list_all is_data_line xs) h in
    let here = and_parts (is_code_line x) (not (begins_section x)) first.0 in
    let rest = data-parts xs first.1 in
    (and_from (is_code_line x) (list_all is_code_line xs) here.0 rest.0, and_from (not (begins_section x)) (list_all (λ item. not (begins_section item)) xs) here.1 rest.1)

-- what holds of each kind of line of data holds of all lines of a section
module _ (file : List ℕ) (test : Item (List ℕ) → Bool) (on_bytes : (bytes : List ℕ) → test (Bytes (record { items = bytes })) ≡ true) (on_quad : (sym : Sym (List ℕ)) → test (Quad sym) ≡ true)
    (on_word : (c t : ℕ) → test (LongDiff c t) ≡ true) (on_zero : (n : ℕ) → test (Zero n) ≡ true) (on_table : (t : ℕ) → test (Label (label.Table t)) ≡ true) where
  bytes-pass : (s : Section) (run : Span) (ks : List ℕ) → list_all test (map (byte_line file s run) ks) ≡ true
  bytes-pass s run [] = refl
  bytes-pass s run (k ∷ ks) = and_from (test (byte_line file s run k)) (list_all test (map (byte_line file s run) ks)) (on_bytes _) (bytes-pass s run ks)

  word-passes : (o : Option (ℕ × ℕ)) → test (distance_item o) ≡ true
  word-passes None = on_word 0 0
  word-passes (Some word) = on_word word.0 word.1

  words-pass : (addresses : List ℕ) → list_all test (map (λ a. distance_item (entry_at file a)) addresses) ≡ true
  words-pass [] = refl
  words-pass (a ∷ addresses) = and_from (test (distance_item (entry_at file a))) _ (word-passes (entry_at file a)) (words-pass addresses)

  piece-passes : (s : Section) (p : Piece) → list_all test (piece_items file s p) ≡ true
  piece-passes s (piece.Bytes run) = bytes-pass s run (range_with_len 0 (line_count run))
  piece-passes s (piece.Quad a holds) = and_from (test (Quad (atom_symbol file holds))) true (on_quad (atom_symbol file holds)) refl
  piece-passes s (piece.Table t) = and_from (test (Label (label.Table t.base))) _ (on_table t.base) (words-pass (words_of t))

  pieces-pass : (s : Section) (ps : List Piece) → list_all test (flat_map (piece_items file s) ps) ≡ true
  pieces-pass s [] = refl
  pieces-pass s (p ∷ ps) = list_all-append test (piece_items file s p) (flat_map (piece_items file s) ps) ∙ and_from _ _ (piece-passes s p) (pieces-pass s ps)

  pub contents-pass : (s : Section) → list_all test (contents file s) ≡ true
  contents-pass s = by_kind (has_bytes s)
    where
      by_kind : (t : Bool) → list_all test (cond t (flat_map (piece_items file s) (pieces_of file s)) (Zero s.size ∷ [])) ≡ true
      by_kind true = pieces-pass s (pieces_of file s)
      by_kind false = and_from (test (Zero s.size)) true (on_zero s.size) refl

module _ (file : List ℕ) where
  pub contents-lines : (s : Section) → list_all is_data_line (contents file s) ≡ true
  contents-lines s = contents-pass file is_data_line (λ bytes. refl) (λ sym. refl) (λ c t. refl) (λ n. refl) (λ t. refl) s

  -- ---- the sections

  -- the lines of a section behind its head
  abbrev pub section_lines : ℕ → Items
  section_lines n = Align (exponent (section_number file n).align) ∷ Label (label.Section n) ∷ contents file (section_number file n)

  abbrev pub text_section : ℕ → DataSection
  text_section n = record { writable = is_writable (section_number file n); lines = section_lines n }

  -- ---- the counters and the tail

  -- lines behind the sections: no section and no copy is among them, and they begin with a new section
  counted-sections : (n : ℕ) (t : Bool) → sections_of (cond t [] (CountsHead ∷ Globl counters_name ∷ Align 3 ∷ Name counters_name ∷ Zero (8 * n) ∷ []) ++ Tail ∷ []) ≡ []
  counted-sections n true = refl
  counted-sections n false = refl

  counted-copies : (n : ℕ) (t : Bool) → copies_of (cond t [] (CountsHead ∷ Globl counters_name ∷ Align 3 ∷ Name counters_name ∷ Zero (8 * n) ∷ []) ++ Tail ∷ []) ≡ []
  counted-copies n true = refl
  counted-copies n false = refl

  counted-begins : (n : ℕ) (t : Bool) → begins-next (cond t [] (CountsHead ∷ Globl counters_name ∷ Align 3 ∷ Name counters_name ∷ Zero (8 * n) ∷ []) ++ Tail ∷ []) ≡ true
  unfolding begins-next
  counted-begins n true = refl
  counted-begins n false = refl

  counted-size : (n : ℕ) (t : Bool) → (n == 0) ≡ t → size_of (counter_lines (cond t [] (CountsHead ∷ Globl counters_name ∷ Align 3 ∷ Name counters_name ∷ Zero (8 * n) ∷ []) ++ Tail ∷ [])) ≡ 8 * n
  counted-size n true e = let none : n ≡ 0 = eqb-true n 0 e in omega (arith, none)
  counted-size n false e = omega arith

  module _ (probes : Probes) where
    abbrev pub data_from : List ℕ → Items
    data_from ns = flat_map (section_items file) ns ++ last_items probes

    begun : (ns : List ℕ) → begins-next (data_from ns) ≡ true
    unfolding begins-next
    begun [] = counted-begins probes.counters (probes.counters == 0)
    begun (n ∷ ns) = refl

    sections-from : (ns : List ℕ) → sections_of (data_from ns) ≡ map text_section ns
    sections-from [] = counted-sections probes.counters (probes.counters == 0)
    sections-from (n ∷ ns) =
        let lines = data-parts (section_lines n) (contents-lines (section_number file n)) in
        ap sections_of (append_assoc (section_items file n) (flat_map (section_items file) ns) (last_items probes))
        ∙ ap (λ xs. record { writable = is_writable (section_number file n); lines = xs } ∷ sections_of (section_lines n ++ data_from ns)) (lines-end (section_lines n) (data_from ns) lines.1 (begun ns))
        ∙ ap (λ rest. text_section n ∷ rest) (sections-behind (section_lines n) (data_from ns) lines.0 ∙ sections-from ns)

    copies-none : (ns : List ℕ) → copies_of (data_from ns) ≡ []
    copies-none [] = counted-copies probes.counters (probes.counters == 0)
    copies-none (n ∷ ns) =
        ap copies_of (append_assoc (section_items file n) (flat_map (section_items file) ns) (last_items probes))
        ∙ copies-behind (section_lines n) (data_from ns) (data-parts (section_lines n) (contents-lines (section_number file n))).0 ∙ copies-none ns

    counters-from : (ns : List ℕ) → counter_lines (data_from ns) ≡ counter_lines (last_items probes)
    counters-from [] = refl
    counters-from (n ∷ ns) =
        ap counter_lines (append_assoc (section_items file n) (flat_map (section_items file) ns) (last_items probes))
        ∙ counters-behind (section_lines n) (data_from ns) (data-parts (section_lines n) (contents-lines (section_number file n))).0 ∙ counters-from ns

    -- ---- the functions

    point-code : (p : Point) (rest : Items) → list_all is_code_line rest ≡ true → list_all is_code_line (point_items file probes p ++ rest) ≡ true
    point-code p rest h = by (is_endbr64 p.insn) (probes.at p.place)
      where
        through : (is : List (Insn (Sym (List ℕ)))) (more : Items) → list_all is_code_line more ≡ true → list_all is_code_line (map Ins is ++ more) ≡ true
        through [] more g = g
        through (i ∷ is) more g = through is more g

        by : (t : Bool) (o : Option (ℕ × Probe)) → list_all is_code_line (Label (label.Code p.place) ∷ insn_items t (Ins (with_symbols file p.insn)) (probe_items o) ++ rest) ≡ true
        by true None = h
        by true (Some counted) = through (probe_insns (sym.Counter counted.0) counted.1) rest h
        by false None = h
        by false (Some counted) =
            ap (list_all is_code_line) (append_assoc (map Ins (probe_insns (sym.Counter counted.0) counted.1)) (Ins (with_symbols file p.insn) ∷ []) rest)
            ∙ through (probe_insns (sym.Counter counted.0) counted.1) (Ins (with_symbols file p.insn) ∷ rest) h

    points-code : (ps : List Point) (s : ℕ) (rest : Items) → list_all is_code_line rest ≡ true → list_all is_code_line ((flat_map (point_items file probes) ps ++ closing s) ++ rest) ≡ true
    points-code [] s rest h = h
    points-code (p ∷ ps) s rest h =
        ap (λ xs. list_all is_code_line (xs ++ rest)) (append_assoc (point_items file probes p) (flat_map (point_items file probes) ps) (closing s))
        ∙ ap (list_all is_code_line) (append_assoc (point_items file probes p) (flat_map (point_items file probes) ps ++ closing s) rest)
        ∙ point-code p ((flat_map (point_items file probes) ps ++ closing s) ++ rest) (points-code ps s rest h)

    opened-code : (t : Bool) (name : List ℕ) (ps : List Point) (s : ℕ) (rest : Items) → list_all is_code_line rest ≡ true
        → list_all is_code_line ((((opening name ++ cond t (entry_items (start_name file)) []) ++ flat_map (point_items file probes) ps) ++ closing s) ++ rest) ≡ true
    opened-code true name ps s rest h = points-code ps s rest h
    opened-code false name ps s rest h = points-code ps s rest h

    functions-code : (fs : List Symbol) → list_all is_code_line (flat_map (function_items file probes) fs) ≡ true
    functions-code [] = refl
    functions-code (f ∷ fs) = opened-code (f.value == entry_of file) (name_of_symbol file f) (points_of file f) f.value (flat_map (function_items file probes) fs) (functions-code fs)

  -- ---- what precedes them

  weak-code : (symbols : List Symbol) → list_all is_code_line (map (λ s. Weak (name_of_symbol file s)) symbols) ≡ true
  weak-code [] = refl
  weak-code (s ∷ symbols) = weak-code symbols

  sections-past : (copies : List Slot) (rest : Items) → sections_of (map (copy_item file) copies ++ rest) ≡ sections_of rest
  sections-past [] rest = refl
  sections-past (c ∷ copies) rest = sections-past copies rest

  counters-past : (copies : List Slot) (rest : Items) → counter_lines (map (copy_item file) copies ++ rest) ≡ counter_lines rest
  counters-past [] rest = refl
  counters-past (c ∷ copies) rest = counters-past copies rest

  abbrev pub text_copy : Slot → List ℕ × ℕ
  text_copy c = (target_name file c.target, target_size c.target)

  copies-first : (copies : List Slot) (rest : Items) → copies_of (map (copy_item file) copies ++ rest) ≡ map text_copy copies ++ copies_of rest
  copies-first [] rest = refl
  copies-first (c ∷ copies) rest = ap (λ xs. text_copy c ∷ xs) (copies-first copies rest)

  -- ---- the whole

  abbrev all_sections : List ℕ
  all_sections = range_with_len 0 (length (kept_sections file))

  module _ (probes : Probes) where
    abbrev functions : Items
    functions = flat_map (function_items file probes) (kept_functions file)

    pub items-parts : items_with file probes ≡ map (copy_item file) (slots.copies_of file) ++ (weak_items file probes ++ (functions ++ data_from probes all_sections))
    unfolding items_with copy_items main_items data_items
    items-parts = append_assoc (copy_items file) (weak_items file probes) (main_items file probes)

    weak_lines : list_all is_code_line (weak_items file probes) ≡ true
    unfolding weak_items
    weak_lines = weak-code (weakly_used file probes)

    pub sections-are : sections_of (items_with file probes) ≡ map text_section (range_with_len 0 (length (kept_sections file)))
    sections-are =
        ap sections_of items-parts ∙ sections-past (slots.copies_of file) (weak_items file probes ++ (functions ++ data_from probes all_sections))
        ∙ sections-behind (weak_items file probes) (functions ++ data_from probes all_sections) weak_lines
        ∙ sections-behind functions (data_from probes all_sections) (functions-code probes (kept_functions file)) ∙ sections-from probes all_sections

    pub copies-are : copies_of (items_with file probes) ≡ map text_copy (slots.copies_of file)
    copies-are =
        ap copies_of items-parts ∙ copies-first (slots.copies_of file) (weak_items file probes ++ (functions ++ data_from probes all_sections))
        ∙ ap (λ rest. map text_copy (slots.copies_of file) ++ rest)
        (copies-behind (weak_items file probes) (functions ++ data_from probes all_sections) weak_lines
        ∙ copies-behind functions (data_from probes all_sections) (functions-code probes (kept_functions file)) ∙ copies-none probes all_sections)
        ∙ append-nil (map text_copy (slots.copies_of file))

    pub counters-are : counters_size (items_with file probes) ≡ 8 * probes.counters
    counters-are =
        ap size_of
        (ap counter_lines items-parts ∙ counters-past (slots.copies_of file) (weak_items file probes ++ (functions ++ data_from probes all_sections))
        ∙ counters-behind (weak_items file probes) (functions ++ data_from probes all_sections) weak_lines
        ∙ counters-behind functions (data_from probes all_sections) (functions-code probes (kept_functions file)) ∙ counters-from probes all_sections)
        ∙ counted-size probes.counters (probes.counters == 0) refl
