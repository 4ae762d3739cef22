-- The items of the data of a file, and all its items.
use Rattle.std.proofs.Common.{◌≡◌, inl, inr, ℕ, zero, suc, ◌+◌, ◌-◌, ◌*◌, ◌^◌, ◌<◌, ◌≤◌, min, Bool, true, false, not, cond, ◌&&◌, nat_eq, nat_le, nat_lt, List, [], ◌∷◌, ◌++◌, take, drop, length, map, filter, get_or, Some, refl, sym, ap, subst, ◌∙◌, arith, length-drop, lit≤}
use Rattle.std.specs.Prelude.{flat_map, All}
use Rattle.std.specs.List.{Contains, list_all, range_with_len}
use Rattle.std.specs.Int.Count.{count_trailing_zeros}
use Rattle.std.proofs.lemmas.Bool.{and_from, lt-ltb, le-leb}
use Rattle.std.proofs.lemmas.Bool.Decides.{nat_tests}
use Rattle.std.proofs.lemmas.Grind.{flat_map-append}
use Rattle.std.proofs.lemmas.List.{length-map, length-take}
use Rattle.std.proofs.lemmas.List.FromFn.{length-map-range_with_len}
use Rattle.std.proofs.lemmas.List.Elements.{All-append, All-drop, All-map, All-take, Contains-get_or}
use Rattle.std.proofs.lemmas.List.Sums.{list_all-from_AllPass}
use Rattle.std.specs.List.{list_any}
use Rattle.std.specs.Str.{bytes_eq}
use Rattle.std.specs.Cmp.Lexicographic.{bytes_decides}
use Rattle.std.proofs.Common.{◌||◌}
use Rattle.std.proofs.lemmas.List.Folds.{list_any-append}
use Rattle.std.proofs.lemmas.List.Sorted.{length_permutation}
use Rattle.std.proofs.lemmas.List.FromFn.{length-range_with_len}
use Rattle.rw_base.specs.Name.{is_import_name}
use Rattle.rw_base.proofs.Ordered.{permutation-ordered}
use Rattle.x86_insn.specs.Fields.{fits_fields}
use Rattle.x86_insn.specs.References.{references_of}
use Rattle.x86_insn.specs.WellFormed.{is_instruction}
use Rattle.asm_items.specs.declared.item.Sym.{Sym}
use Rattle.asm_items.specs.declared.item.Sym.TheVariants as syms
use Rattle.rw_elf.specs.declared.symbol.Symbol.{Symbol}
use Rattle.rw_elf.specs.Header.{header_count}
use Rattle.rw_elf.specs.Section.{section_at, sections}
use Rattle.rw_elf.specs.Sections.{by_address, comes_before, is_placed, placed_sections}
use Rattle.rw_elf.specs.Symbols.{dynamic_symbols}
use Rattle.rw_elf.specs.Tables.{is_kept}
use Rattle.rw_base.proofs.Shorter.{length-filter-le}
use Rattle.rw_elf.proofs.Limits.{clean_headers}
use Rattle.rw_reloc.specs.Slots.{copies_of}
use Rattle.rw_reloc.specs.Targets.{is_undefined, target_size}
use Rattle.rw_refs.proofs.Few.{few-regions}
use Rattle.rw_funcs.specs.Functions.{kept_functions, name_of_symbol}
use Rattle.rw_out.specs.Items.{Probes, copy_item, copy_items, counter_items, counters_name, data_items, function_items, is_weak, is_weakly_used, items_with, last_items, main_items, weak_items, weakly_used}
use Rattle.rw_out.specs.Kept.{AreFew}
use Rattle.rw_out.proofs.Few.{dynamic-few}
use Rattle.asm_items.specs.Lines.{names_in, used_names}
use Rattle.rw_out.specs.Uses.{names_used, uses}
use Rattle.rw_out.proofs.Imports.{copy-in, copy-named, copy-some, slot-low}
use Rattle.rw_out.proofs.Whole.{functions-fine}
use Rattle.rw_base.specs.declared.span.Span.{Span}
use Rattle.asm_items.specs.declared.item.Item.{Item}
use Rattle.asm_items.specs.declared.item.Item.TheVariants as items
use Rattle.asm_items.specs.declared.item.Label.TheVariants as label
use Rattle.asm_items.specs.Formed.{AreItems, is_byte, is_item, is_sym, is_word}
use Rattle.x86_decode.proofs.OperandGood.{AreBytes}
use Rattle.rw_elf.specs.declared.section.Section.{Section}
use Rattle.rw_elf.specs.Places.{Covers}
use Rattle.rw_elf.specs.Sections.{has_bytes, is_writable}
use Rattle.rw_elf.specs.Tables.{kept_sections}
use Rattle.rw_elf.proofs.Limits.{clean_size, placed_aligned}
use Rattle.rw_elf.proofs.SectionFacts.{each_made}
use Rattle.rw_reloc.specs.declared.slot.Slot.{Slot}
use Rattle.rw_reloc.specs.Slots.{slots_of}
use Rattle.rw_elf.proofs.Around.{filter_contains, filter_tests}
use Rattle.rw_tables.specs.declared.table.Table.{Table}
use Rattle.rw_tables.specs.Tables.{end_of, entry_at, tables_of}
use Rattle.rw_tables.proofs.Picked.{all-given}
use Rattle.rw_data.specs.declared.piece.Piece.{Piece}
use Rattle.rw_data.specs.declared.piece.Piece.TheVariants as piece
use Rattle.rw_data.specs.Pieces.{begins_in, end_of_piece, filled, marks_in, pieces_of, quad_of, quads_in, run, start_of, tables_in, words_of}
use Rattle.rw_data.specs.Words.{IsWord}
use Rattle.rw_data.proofs.Clean.{IsClean, IsKept, is-kept}
use Rattle.rw_data.proofs.Filled.{Lie, lie-fits}
use Rattle.rw_data.proofs.Marks.{begins-covers, marks-lie, quad-parts, table-here}
use Rattle.rw_data.proofs.Words.{is-word}
use Rattle.rw_out.specs.Items.{atom_symbol, byte_line, contents, distance_item, exponent, line_count, piece_items, section_items, section_number, section_opening}
use Rattle.rw_out.proofs.Imports.{held-shown, point-low}
use Rattle.rw_out.proofs.Rests.{numbered_section}
use Rattle.rw_out.proofs.Whole.{Fine, fine-append, fine-each, fine-item, fine-more, fine-nil}

-- ---- alignments

power-low : (k : ℕ) → k ≤ 16 → nat_le (exponent (2 ^ k)) 16 ≡ true
unfolding count_trailing_zeros
power-low zero h = refl
power-low (suc zero) h = refl
power-low (suc (suc zero)) h = refl
power-low (suc (suc (suc zero))) h = refl
power-low (suc (suc (suc (suc zero)))) h = refl
power-low (suc (suc (suc (suc (suc zero))))) h = refl
power-low (suc (suc (suc (suc (suc (suc zero)))))) h = refl
power-low (suc (suc (suc (suc (suc (suc (suc zero))))))) h = refl
power-low (suc (suc (suc (suc (suc (suc (suc (suc zero)))))))) h = refl
power-low (suc (suc (suc (suc (suc (suc (suc (suc (suc zero))))))))) h = refl
power-low (suc (suc (suc (suc (suc (suc (suc (suc (suc (suc zero)))))))))) h = refl
power-low (suc (suc (suc (suc (suc (suc (suc (suc (suc (suc (suc zero))))))))))) h = refl
power-low (suc (suc (suc (suc (suc (suc (suc (suc (suc (suc (suc (suc zero)))))))))))) h = refl
power-low (suc (suc (suc (suc (suc (suc (suc (suc (suc (suc (suc (suc (suc zero))))))))))))) h = refl
power-low (suc (suc (suc (suc (suc (suc (suc (suc (suc (suc (suc (suc (suc (suc zero)))))))))))))) h = refl
power-low (suc (suc (suc (suc (suc (suc (suc (suc (suc (suc (suc (suc (suc (suc (suc zero))))))))))))))) h = refl
power-low (suc (suc (suc (suc (suc (suc (suc (suc (suc (suc (suc (suc (suc (suc (suc (suc zero)))))))))))))))) h = refl
power-low (suc (suc (suc (suc (suc (suc (suc (suc (suc (suc (suc (suc (suc (suc (suc (suc (suc k))))))))))))))))) h = absurd (omega (arith, h))

-- ---- the contents of a section

-- the items of pieces take no more lines than twice the bytes
abbrev IsFinePiece : List ℕ → Section → Piece → Type 0
IsFinePiece file s p = Fine (piece_items file s p) (2 * (end_of_piece p - start_of p))

module _ (file : List ℕ) (clean : IsClean file) (all : AreBytes file) (s : Section) (here : Contains (kept_sections file) s) where
  kept : IsKept file s
  kept = is-kept file s clean.elf here

  module _ (stored : has_bytes s ≡ true) where
    -- a line of a run of bytes
    line-item : (r : Span) → s.addr ≤ r.start → r.end ≤ s.addr + s.size → (k : ℕ) → k < line_count r → is_item (byte_line file s r k) ≡ true
    line-item r low high k h =
        let a = r.start + 16 * k in
        let n = min 16 (r.end - a) in
        let at = s.offset + (a - s.addr) in
        let inside = kept.stored stored in
        let before : a < r.end = omega (arith, h) in
        let size : length (take (at + n - at) (drop at file)) ≡ n =
        (let cut = length-drop at file in let part = length-take (at + n - at) (drop at file) in omega (arith, cut, part, inside, low, high, before)) in
        let fits = All-take (λ b. b < 256) (at + n - at) (drop at file) (All-drop (λ b. b < 256) at file all) in
        and-three _ _ _
        (le-leb 1 (length (take (at + n - at) (drop at file))) (omega (arith, size, before)))
        (le-leb (length (take (at + n - at) (drop at file))) 16 (omega (arith, size)))
        (list_all-from_AllPass is_byte (take (at + n - at) (drop at file)) (λ i d within. lt-ltb (get_or (take (at + n - at) (drop at file)) i d) 256 (fits i d within)))
      where
        and-three : (a b c : Bool) → a ≡ true → b ≡ true → c ≡ true → (a && b && c) ≡ true
        and-three a b c x y z = and_from (a && b) c (and_from a b x y) z

    run-fine : (from to : ℕ) → s.addr ≤ from → to ≤ s.addr + s.size → Fine (flat_map (piece_items file s) (run from to)) (2 * (to - from))
    run-fine from to low high = by_test (nat_lt from to) refl
      where
        r : Span
        r = record { start = from; end = to }

        lines : Fine (map (byte_line file s (record { start = from; end = to })) (range_with_len 0 (line_count (record { start = from; end = to })))) (to - from)
        lines =
            let count = length-map-range_with_len (byte_line file s r) 0 (line_count r) in
            (each_made (λ x. is_item x ≡ true) (byte_line file s r) (line_count r) (λ k h. line-item r low high k h), omega (arith, count))

        by_test : (t : Bool) → nat_lt from to ≡ t → Fine (flat_map (piece_items file s) (cond t (piece.Bytes (record { start = from; end = to }) ∷ []) [])) (2 * (to - from))
        by_test true e =
            fine-more (map (byte_line file s r) (range_with_len 0 (line_count r)) ++ []) (to - from + 0) (2 * (to - from)) (omega arith)
            (fine-append (map (byte_line file s r) (range_with_len 0 (line_count r))) [] (to - from) 0 lines (fine-nil 0))
        by_test false e = fine-nil (2 * (to - from))

    -- all its pieces
    filled-fine : (from : ℕ) (ms : List Piece) → s.addr ≤ from → Lie from (s.addr + s.size) ms → All (IsFinePiece file s) ms → Fine (flat_map (piece_items file s) (filled from (s.addr + s.size) ms)) (2 * (s.addr + s.size - from))
    filled-fine from [] low lies each = run-fine from (s.addr + s.size) low (omega arith)
    filled-fine from (p ∷ ps) low lies each =
        let to = s.addr + s.size in
        let first = lies.0 in
        let some = lies.1 in
        let rest = lie-fits (end_of_piece p) to ps lies.2 in
        let own : Fine (piece_items file s p) (2 * (end_of_piece p - start_of p)) = each 0 p (omega arith) in
        let later = filled-fine (end_of_piece p) ps (omega (arith, low, first, some)) lies.2 (λ k d within. each (suc k) d (omega (arith, within))) in
        subst (λ xs. Fine xs (2 * (to - from))) (sym (flat_map-append (piece_items file s) (run from (start_of p)) (p ∷ filled (end_of_piece p) to ps)))
        (fine-more (flat_map (piece_items file s) (run from (start_of p)) ++ (piece_items file s p ++ flat_map (piece_items file s) (filled (end_of_piece p) to ps))) (2 * (start_of p - from) + (2 * (end_of_piece p - start_of p) + 2 * (to - end_of_piece p))) (2 * (to - from)) (omega (arith, first, some, rest))
        (fine-append (flat_map (piece_items file s) (run from (start_of p))) (piece_items file s p ++ flat_map (piece_items file s) (filled (end_of_piece p) to ps)) (2 * (start_of p - from)) (2 * (end_of_piece p - start_of p) + 2 * (to - end_of_piece p))
        (run-fine from (start_of p) low (omega (arith, some, rest)))
        (fine-append (piece_items file s p) (flat_map (piece_items file s) (filled (end_of_piece p) to ps)) (2 * (end_of_piece p - start_of p)) (2 * (to - end_of_piece p)) own later)))

  -- ---- its slots and its tables

  quad-fine : (t : Slot) (p : Piece) → Contains (filter (λ t. begins_in s t.address) (slots_of file)) t → quad_of file t ≡ Some p → IsFinePiece file s p
  quad-fine t p listed is =
      let q = quad-parts file t p is in
      let shown = held-shown file clean t (filter_contains (λ t. begins_in s t.address) (slots_of file) t listed) t.target refl q.atom q.held in
      subst (IsFinePiece file s) q.piece_is (fine-more (items.Quad (atom_symbol file q.atom) ∷ []) (0 + 1) (2 * (t.address + 8 - t.address)) (omega arith) (fine-item (items.Quad (atom_symbol file q.atom)) [] 0 shown (fine-nil 0)))

  word-item : (t : Table) → Contains (tables_of file) t → Covers t.base s → end_of t ≤ s.addr + s.size → (k : ℕ) → k < t.count → is_item (distance_item (entry_at file (t.base + 4 * k))) ≡ true
  word-item t listed on high k h =
      let w : IsWord file t k = is-word file s t k clean here on listed h in
      let low = kept.low in
      ap (λ o. is_item (distance_item o)) w.leads_to ∙ and_from _ _ (lt-ltb w.point (2 ^ 64) (point-low file clean w.point w.is_one)) (lt-ltb t.base (2 ^ 64) (omega (arith, high, low)))

  table-fine : (t : Table) → Contains (filter (λ t. begins_in s t.base) (tables_of file)) t → IsFinePiece file s (piece.Table t)
  table-fine t listed =
      let lies = (table-here file s clean here t listed).1 in
      let some = lies.1 in
      let high = lies.2 in
      let low = kept.low in
      let on = begins-covers s t.base (filter_tests (λ t. begins_in s t.base) (tables_of file) t listed) in
      let from = filter_contains (λ t. begins_in s t.base) (tables_of file) t listed in
      let word = λ (a : ℕ). distance_item (entry_at file a) in
      let count = length-map (words_of t) word in
      let words = length-map-range_with_len (λ k. t.base + 4 * k) 0 t.count in
      fine-more (items.Label (label.Table t.base) ∷ map word (words_of t)) (t.count + 1) (2 * (end_of t - t.base)) (omega (arith, some))
      (fine-item (items.Label (label.Table t.base)) (map word (words_of t)) t.count (lt-ltb t.base (2 ^ 64) (omega (arith, some, high, low)))
      (All-map (λ x. is_item x ≡ true) word (words_of t) (each_made (λ a. is_item (distance_item (entry_at file a)) ≡ true) (λ k. t.base + 4 * k) t.count (λ k h. word-item t from on high k h)), omega (arith, count, words)))

  marks-fine : All (IsFinePiece file s) (marks_in file s)
  unfolding marks_in
  marks-fine =
      All-append (IsFinePiece file s) (quads_in file s) (tables_in file s)
      (all-given (IsFinePiece file s) (quad_of file) (filter (λ t. begins_in s t.address) (slots_of file)) quad-fine)
      (All-map (IsFinePiece file s) piece.Table (filter (λ t. begins_in s t.base) (tables_of file)) (λ k d within. table-fine (get_or (filter (λ t. begins_in s t.base) (tables_of file)) k d) (Contains-get_or (filter (λ t. begins_in s t.base) (tables_of file)) k d within)))

  -- ---- its contents, and its opening

  contents-by : (t : Bool) → has_bytes s ≡ t → Fine (cond t (flat_map (piece_items file s) (pieces_of file s)) (items.Zero s.size ∷ [])) 33554432
  unfolding pieces_of
  contents-by true e =
      let inside = kept.stored e in
      let limit = clean_size file clean.elf in
      fine-more (flat_map (piece_items file s) (pieces_of file s)) (2 * (s.addr + s.size - s.addr)) 33554432 (omega (arith, inside, limit)) (filled-fine e s.addr (marks_in file s) (omega arith) (marks-lie file s clean here) marks-fine)
  contents-by false e =
      let some = kept.some in
      let low = kept.low in
      fine-more (items.Zero s.size ∷ []) (0 + 1) 33554432 (lit≤ tt) (fine-item (items.Zero s.size) [] 0 (and_from (nat_le 1 s.size) (is_word s.size) (le-leb 1 s.size some) (lt-ltb s.size (2 ^ 64) (omega (arith, low)))) (fine-nil 0))

  exponent-low : nat_le (exponent s.align) 16 ≡ true
  exponent-low =
      elim (placed_aligned file s clean.elf kept.listed kept.placed).0 [
        | inl none ↦ ap (λ n. nat_le (exponent n) 16) none
        | inr power ↦ ap (λ n. nat_le (exponent n) 16) power.2 ∙ power-low power.0 power.1
      ]

  opening-fine : (n : ℕ) → n < 2 ^ 32 → Fine (section_opening s n) 3
  opening-fine n h =
      fine-item (items.SectionHead n (is_writable s) (not (has_bytes s))) (items.Align (exponent s.align) ∷ items.Label (label.Section n) ∷ []) 2 (lt-ltb n (2 ^ 32) h)
      (fine-item (items.Align (exponent s.align)) (items.Label (label.Section n) ∷ []) 1 exponent-low
      (fine-item (items.Label (label.Section n)) [] 0 (lt-ltb n (2 ^ 32) h) (fine-nil 0)))

  pub section-fine : (n : ℕ) → n < 2 ^ 32 → Fine (section_opening s n ++ contents file s) 33554440
  section-fine n h = fine-more (section_opening s n ++ contents file s) (3 + 33554432) 33554440 (lit≤ tt) (fine-append (section_opening s n) (contents file s) 3 33554432 (opening-fine n h) (contents-by (has_bytes s) refl))

-- ---- the names of items of a text

symbol-named : (y : Sym (List ℕ)) → is_sym y ≡ true → (n : List ℕ) → list_any (bytes_eq n) (names_in y) ≡ true → is_import_name n ≡ true
symbol-named (syms.Code a) h n e = absurd (cc)
symbol-named (syms.Section k o) h n e = absurd (cc)
symbol-named (syms.Named name o) h n e = by_equal (bytes_eq n name) refl e
  where
    first-part : (a b : Bool) → (a && b) ≡ true → a ≡ true
    first-part true b g = refl
    first-part false b g = absurd (cc)

    by_equal : (t : Bool) → bytes_eq n name ≡ t → (t || false) ≡ true → is_import_name n ≡ true
    by_equal true k g = ap is_import_name ((bytes_decides n name).0 k) ∙ first-part (is_import_name name) (is_word o) h
    by_equal false k g = absurd (cc)
symbol-named (syms.Counter k) h n e = absurd (cc)

symbols-named : (ys : List (Sym (List ℕ))) → list_all is_sym ys ≡ true → (n : List ℕ) → list_any (bytes_eq n) (flat_map names_in ys) ≡ true → is_import_name n ≡ true
symbols-named [] h n e = absurd (cc)
symbols-named (y ∷ ys) h n e = by_part (λ g. symbols-named ys (both-parts (is_sym y) (list_all is_sym ys) h).1 n g) (list_any (bytes_eq n) (names_in y)) refl (sym (list_any-append (bytes_eq n) (names_in y) (flat_map names_in ys)) ∙ e)
  where
    both-parts : (a b : Bool) → (a && b) ≡ true → (a ≡ true) × (b ≡ true)
    both-parts true b g = (refl, g)
    both-parts false b g = absurd (cc)

    by_part : (list_any (bytes_eq n) (flat_map names_in ys) ≡ true → is_import_name n ≡ true) → (t : Bool) → list_any (bytes_eq n) (names_in y) ≡ t → (t || list_any (bytes_eq n) (flat_map names_in ys)) ≡ true → is_import_name n ≡ true
    by_part later true k g = symbol-named y (both-parts (is_sym y) (list_all is_sym ys) h).0 n k
    by_part later false k g = later g

item-named : (x : Item (List ℕ)) → is_item x ≡ true → (n : List ℕ) → list_any (bytes_eq n) (names_used x) ≡ true → is_import_name n ≡ true
item-named (items.Ins i) h n e = symbols-named (references_of i) (middle (is_instruction i) (list_all is_sym (references_of i)) (fits_fields i) h) n e
  where
    middle : (a b c : Bool) → (a && b && c) ≡ true → b ≡ true
    middle true true c g = refl
    middle true false c g = absurd (cc)
    middle false b c g = absurd (cc)
item-named (items.Quad y) h n e = symbols-named (y ∷ []) (and_from (is_sym y) true h refl) n e
item-named _ h n e = absurd (cc)

-- ---- weak symbols

weak-few : (file : List ℕ) (probes : Probes) → IsClean file → length (weakly_used file probes) ≤ 16777216
unfolding weakly_used
weak-few file probes clean = let few = dynamic-few file clean in let fits = length-filter-le (is_weakly_used file probes) (dynamic_symbols file) in omega (arith, few, fits)

-- ---- the counters

counter-lines : (n : ℕ) (t : Bool) → nat_eq n 0 ≡ t → n ≤ 16777216 → Fine (cond t [] (items.CountsHead ∷ items.Globl counters_name ∷ items.Align 3 ∷ items.Name counters_name ∷ items.Zero (8 * n) ∷ [])) 5
counter-lines n true e few = fine-nil 5
counter-lines n false e few =
    let some : 1 ≤ n = grind (arith, nat_tests) in
    let zeros = items.Zero (8 * n) ∷ [] in
    let name = items.Name counters_name ∷ zeros in
    let align = items.Align 3 ∷ name in
    fine-item items.CountsHead (items.Globl counters_name ∷ align) 4 refl (fine-item (items.Globl counters_name) align 3 refl (fine-item (items.Align 3) name 2 refl (fine-item (items.Name counters_name) zeros 1 refl
    (fine-item (items.Zero (8 * n)) [] 0 (and_from _ _ (le-leb 1 (8 * n) (omega (arith, some))) (lt-ltb (8 * n) (2 ^ 64) (omega (arith, few)))) (fine-nil 0)))))

last-fine : (probes : Probes) → AreFew probes → Fine (last_items probes) 6
last-fine probes counters = fine-append (counter_items probes.counters) (items.Tail ∷ []) 5 1 (counter-lines probes.counters (nat_eq probes.counters 0) refl counters.counters) (fine-item items.Tail [] 0 refl (fine-nil 0))

-- ---- all the data

module _ (file : List ℕ) (clean : IsClean file) (all : AreBytes file) where
  -- a file has no more kept sections than section headers
  kept-few : length (kept_sections file) ≤ 16777216
  unfolding kept_sections placed_sections
  kept-few =
      let size = clean_size file clean.elf in
      let headers = clean_headers file clean.elf in
      let these = length-map-range_with_len (section_at file) 0 (header_count file) in
      let placed = length-filter-le is_placed (sections file) in
      let sorted = length_permutation (filter is_placed (sections file)) _ (permutation-ordered comes_before (filter is_placed (sections file))) in
      let kept = length-filter-le (is_kept file) (by_address (filter is_placed (sections file))) in
      omega (arith, size, headers, these, placed, sorted, kept)

  in-range : (a n k : ℕ) → Contains (range_with_len a n) k → k < a + n
  in-range a zero k at = let low = at.1 in absurd (omega (arith, low))
  in-range a (suc n) k at = by_place (λ later. in-range (a + 1) n k later) at.0 at.1 at.2
    where
      by_place : (Contains (range_with_len (a + 1) n) k → k < a + 1 + n) → (i : ℕ) → i < length (range_with_len a (suc n)) → get_or (range_with_len a (suc n)) i k ≡ k → k < a + suc n
      by_place ih zero low e = omega (arith, e)
      by_place ih (suc i) low e = let later = ih (i, omega (arith, low), e) in omega (arith, later)

  one-section : (n : ℕ) → Contains (range_with_len 0 (length (kept_sections file))) n → Fine (section_items file n) 33554440
  one-section n at =
      let low = in-range 0 (length (kept_sections file)) n at in
      let count = kept-few in
      section-fine file clean all (section_number file n) (numbered_section file n (omega (arith, low))) n (omega (arith, low, count))

  -- ---- copied symbols

  copy-item : (c : Slot) → Contains (copies_of file) c → is_item (copy_item file c) ≡ true
  copy-item c here =
      let low = slot-low file clean c (copy-in file clean c here) in
      and-three _ _ _ (copy-named file clean c here) (le-leb 1 (target_size c.target) (copy-some file clean c here)) (lt-ltb (target_size c.target) (2 ^ 64) (omega (arith, low)))
    where
      and-three : (a b c : Bool) → a ≡ true → b ≡ true → c ≡ true → (a && b && c) ≡ true
      and-three a b c x y z = and_from (a && b) c (and_from a b x y) z

  pub copies-fine : Fine (copy_items file) (2 ^ 31)
  unfolding copy_items
  copies-fine =
      let few = few-regions file clean.elf clean.relocations in
      let size = length-map (copies_of file) (copy_item file) in
      (All-map (λ x. is_item x ≡ true) (copy_item file) (copies_of file) (λ k d within. copy-item (get_or (copies_of file) k d) (Contains-get_or (copies_of file) k d within)), omega (arith, few, size))

  -- ---- the names of lines

  used-named : (xs : List (Item (List ℕ))) → AreItems xs → (n : List ℕ) → list_any (bytes_eq n) (used_names xs) ≡ true → is_import_name n ≡ true
  used-named [] h n e = absurd (cc)
  used-named (x ∷ xs) h n e = by_part (λ g. used-named xs (λ i d within. h (suc i) d (omega (arith, within))) n g) (list_any (bytes_eq n) (names_used x)) refl (sym (list_any-append (bytes_eq n) (names_used x) (used_names xs)) ∙ e)
    where
      by_part : (list_any (bytes_eq n) (used_names xs) ≡ true → is_import_name n ≡ true) → (t : Bool) → list_any (bytes_eq n) (names_used x) ≡ t → (t || list_any (bytes_eq n) (used_names xs)) ≡ true → is_import_name n ≡ true
      by_part later true k g = item-named x (h 0 x (omega arith)) n k
      by_part later false k g = later g

  -- ---- what depends on probes

  module _ (probes : Probes) (counters : AreFew probes) where
    data-fine : Fine (data_items file probes) (33554440 * 16777216 + 6)
    unfolding data_items
    data-fine =
        let numbers = range_with_len 0 (length (kept_sections file)) in
        let count = kept-few in
        let size = length-range_with_len 0 (length (kept_sections file)) in
        fine-append (flat_map (section_items file) numbers) (last_items probes) (33554440 * 16777216) 6
        (fine-more (flat_map (section_items file) numbers) (33554440 * length numbers) (33554440 * 16777216) (omega (arith, count, size)) (fine-each (section_items file) 33554440 numbers one-section))
        (last-fine probes counters)

    pub main-fine : Fine (main_items file probes) (2 * (33554440 * 16777216) + 1)
    unfolding main_items
    main-fine =
        fine-more (main_items file probes) (150994952 * 699051 + (33554440 * 16777216 + 6)) (2 * (33554440 * 16777216) + 1) (lit≤ tt)
        (fine-append (flat_map (function_items file probes) (kept_functions file)) (data_items file probes) (150994952 * 699051) (33554440 * 16777216 + 6) (functions-fine file clean all probes counters) data-fine)

    weak-item : (s : Symbol) → Contains (weakly_used file probes) s → is_item (items.Weak (name_of_symbol file s)) ≡ true
    unfolding weakly_used
    weak-item s here =
        let passes = filter_tests (is_weakly_used file probes) (dynamic_symbols file) s here in
        used-named (main_items file probes) main-fine.0 (name_of_symbol file s) (last-part (is_undefined s && is_weak s) (uses (main_items file probes) (name_of_symbol file s)) passes)
      where
        last-part : (a b : Bool) → (a && b) ≡ true → b ≡ true
        last-part true b h = h
        last-part false b h = absurd (cc)

    pub weak-fine : Fine (weak_items file probes) 16777216
    unfolding weak_items
    weak-fine =
        let count = weak-few file probes clean in
        let size = length-map (weakly_used file probes) (λ (s : Symbol). items.Weak (name_of_symbol file s)) in
        (All-map (λ x. is_item x ≡ true) (λ (s : Symbol). items.Weak (name_of_symbol file s)) (weakly_used file probes) (λ k d within. weak-item (get_or (weakly_used file probes) k d) (Contains-get_or (weakly_used file probes) k d within)), omega (arith, count, size))

    -- ---- the whole

    pub whole-fine : Fine (items_with file probes) (2 ^ 51 - 2)
    unfolding items_with
    whole-fine =
        fine-more (items_with file probes) (2 ^ 31 + 16777216 + (2 * (33554440 * 16777216) + 1)) (2 ^ 51 - 2) (lit≤ tt)
        (fine-append (copy_items file ++ weak_items file probes) (main_items file probes) (2 ^ 31 + 16777216) (2 * (33554440 * 16777216) + 1) (fine-append (copy_items file) (weak_items file probes) (2 ^ 31) 16777216 copies-fine weak-fine) main-fine)
