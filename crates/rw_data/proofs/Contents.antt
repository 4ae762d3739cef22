-- The cells of the pieces of a kept section are its first contents.
use Rattle.std.proofs.Common.{◌≡◌, ℕ, zero, suc, ◌+◌, ◌*◌, ◌-◌, ◌<◌, ◌≤◌, Bool, true, false, cond, nat_le, List, [], ◌∷◌, ◌++◌, map, filter, take, get_or, slice_get, Option, Some, None, All, Contains, refl, sym, ap, ◌∙◌, subst, arith, inl, inr, true≢false}
use Rattle.std.specs.Prelude.{option_map, option_and_then, unwrap_or}
use Rattle.std.specs.List.{flat_map, range_with_len}
use Rattle.std.specs.Option.{option_map_or, option_or}
use Rattle.std.proofs.lemmas.List.FromFn.{get_or-map-range_with_len, length-map-range_with_len}
use Rattle.std.proofs.lemmas.Option.{slice_get-get_or}
use Rattle.std.proofs.lemmas.List.{map-append}
use Rattle.std.proofs.lemmas.List.Elements.{All-append, All-map, Contains-get_or}
use Rattle.rw_elf.proofs.Around.{filter_contains, filter_tests}
use Rattle.rw_elf.specs.Sections.{is_writable}
use Rattle.rw_words.specs.declared.atom.Atom.{Atom}
use Rattle.rw_words.specs.declared.atom.Atom.TheVariants as atom
use Rattle.rw_words.specs.declared.atom.Cell.{Cell}
use Rattle.rw_words.specs.declared.atom.Cell.TheVariants.{Num, Part, Undef}
use Rattle.rw_words.specs.Words.{atom_cells}
use Rattle.rw_elf.specs.declared.section.Section.{Section}
use Rattle.rw_elf.specs.Places.{Covers}
use Rattle.rw_elf.specs.Tables.{kept_sections}
use Rattle.rw_reloc.specs.declared.slot.Slot.{Slot}
use Rattle.rw_reloc.specs.Slots.{slot_around, slots_of}
use Rattle.rw_reloc.proofs.Apart.{clean_entries, slots_apart}
use Rattle.rw_tables.specs.declared.table.Table.{Table}
use Rattle.rw_tables.specs.Tables.{end_of, tables_of}
use Rattle.rw_tables.proofs.GoodTables.{table-good, tables-follow}
use Rattle.rw_tables.proofs.Picked.{all-given}
use Rattle.rw_data.specs.declared.piece.Piece.TheVariants as piece
use Rattle.rw_data.specs.FirstCells.{atom_in, byte_in, byte_of_word, cell_at, distance_at, first_cell, slot_cell, slot_cell_at, table_around, word_cell, word_cell_at}
use Rattle.rw_data.specs.Words.{IsWord}
use Rattle.rw_data.specs.Pieces.{begins_in, cells_of, filled, marks_in, pieces_from, pieces_of, quad_of, quads_in, start_of, tables_in, word_cells}
use Rattle.rw_data.proofs.Around.{slot-around-from, slot-around-is, table-around-from, table-around-is}
use Rattle.rw_data.proofs.Clean.{IsClean}
use Rattle.rw_data.proofs.Cut.{Avoids, Holds, avoids-it, filled-cells, range-same, range-split}
use Rattle.rw_data.proofs.Filled.{le-on}
use Rattle.rw_data.proofs.Good.{slot-in, table-in}
use Rattle.rw_data.proofs.Marks.{atom-size, begins-covers, marks-lie, quad-mark, quad-parts, table-mark}
use Rattle.rw_data.proofs.Words.{is-word, word-distance}

-- ---- rows

pub row-from : {X : Type 0} (g : ℕ → X) (a n b : ℕ) → map (λ k. g (k - a + b)) (range_with_len a n) ≡ map g (range_with_len b n)
row-from g a zero b = refl
row-from {X = X} g a (suc n) b =
    let first : a - a + b ≡ b = omega arith in
    let same : map (λ k. g (k - a + b)) (range_with_len (a + 1) n) ≡ map (λ k. g (k - (a + 1) + (b + 1))) (range_with_len (a + 1) n) =
    range-same (λ k. g (k - a + b)) (λ k. g (k - (a + 1) + (b + 1))) (a + 1) n (λ k low high. let e : k - a + b ≡ k - (a + 1) + (b + 1) = omega arith in ap g e) in
    ap (λ x. g x ∷ map (λ k. g (k - a + b)) (range_with_len (a + 1) n)) first ∙ ap (λ xs. g b ∷ xs) (same ∙ row-from g (a + 1) n (b + 1))

-- the parts of an atom from its address on
pub atom-row : (x : Atom) (a : ℕ) → map (λ k. Part x (k - a)) (range_with_len a 8) ≡ atom_cells x
atom-row x a = range-same (λ k. Part x (k - a)) (λ k. Part x (k - a + 0)) a 8 (λ k low high. let e : k - a ≡ k - a + 0 = omega arith in ap (Part x) e) ∙ row-from (Part x) a 8 0

pub word-row : (x : Atom) (a : ℕ) → map (λ k. Part x (k - a)) (range_with_len a 4) ≡ take 4 (atom_cells x)
word-row x a = range-same (λ k. Part x (k - a)) (λ k. Part x (k - a + 0)) a 4 (λ k low high. let e : k - a ≡ k - a + 0 = omega arith in ap (Part x) e) ∙ row-from (Part x) a 4 0

-- ---- a cell by what is around its address

by_slot : (bytes : List ℕ) (s : Section) (a : ℕ) (c : Cell) → slot_cell_at bytes a ≡ Some c → cell_at bytes s a ≡ c
unfolding cell_at
by_slot bytes s a c is = ap (λ o. unwrap_or (option_or o (word_cell_at bytes a)) (Num (byte_in bytes s a))) is

by_word : (bytes : List ℕ) (s : Section) (a : ℕ) (c : Cell) → slot_cell_at bytes a ≡ None → word_cell_at bytes a ≡ Some c → cell_at bytes s a ≡ c
unfolding cell_at
by_word bytes s a c none is = ap (λ o. unwrap_or (option_or o (word_cell_at bytes a)) (Num (byte_in bytes s a))) none ∙ ap (λ o. unwrap_or o (Num (byte_in bytes s a))) is

by_byte : (bytes : List ℕ) (s : Section) (a : ℕ) → slot_cell_at bytes a ≡ None → word_cell_at bytes a ≡ None → cell_at bytes s a ≡ Num (byte_in bytes s a)
unfolding cell_at
by_byte bytes s a none no_word = ap (λ o. unwrap_or (option_or o (word_cell_at bytes a)) (Num (byte_in bytes s a))) none ∙ ap (λ o. unwrap_or o (Num (byte_in bytes s a))) no_word

-- a slot with a byte
pub record IsInSlot (bytes : List ℕ) (a : ℕ) : Type 0 where
  pub slot : Slot
  pub listed : Contains (slots_of bytes) slot
  pub atom : Atom
  pub held : atom_in bytes slot.target ≡ Some atom
  pub low : slot.address ≤ a
  pub high : a < slot.address + 8

no-slot : (bytes : List ℕ) (a : ℕ) → (IsInSlot bytes a → ⊥) → slot_cell_at bytes a ≡ None
no-slot bytes a none = by_slot_around (slot_around (slots_of bytes) a) refl
  where
    by_atom : (t : Slot) → slot_around (slots_of bytes) a ≡ Some t → (o : Option Atom) → atom_in bytes t.target ≡ o → option_map (λ atom. Part atom (a - t.address)) o ≡ None
    by_atom t is None held = refl
    by_atom t is (Some x) held =
        let from = slot-around-from (slots_of bytes) a t is in
        let high = from.2 in
        let size = atom-size bytes t.target x held in
        absurd (none (record { slot = t; listed = from.0; atom = x; held = held; low = from.1; high = omega (arith, high, size) }))

    by_slot_around : (o : Option Slot) → slot_around (slots_of bytes) a ≡ o → option_and_then (slot_cell bytes a) o ≡ None
    by_slot_around None is = refl
    by_slot_around (Some t) is = by_atom t is (atom_in bytes t.target) refl

no-word : (bytes : List ℕ) (a : ℕ) → ((t : Table) → Contains (tables_of bytes) t → t.base ≤ a → a < end_of t → ⊥) → word_cell_at bytes a ≡ None
no-word bytes a none = by_table (table_around bytes a) refl
  where
    by_table : (o : Option Table) → table_around bytes a ≡ o → option_and_then (word_cell bytes a) o ≡ None
    by_table None is = refl
    by_table (Some t) is = let from = table-around-from bytes a t is in absurd (none t from.0 from.1 from.2)

-- ---- a kept section

module _ (bytes : List ℕ) (s : Section) (clean : IsClean bytes) (here : Contains (kept_sections bytes) s) where
  -- an address that no slot and no table has is a byte
  between : (a : ℕ) → s.addr ≤ a → a < s.addr + s.size → Avoids a (marks_in bytes s) → cell_at bytes s a ≡ Num (byte_in bytes s a)
  between a low high avoids =
      by_byte bytes s a
      (no-slot bytes a (λ i.
      let first = i.low in
      let last = i.high in
      let size = atom-size bytes i.slot.target i.atom i.held in
      let on = slot-in bytes s i.slot a clean here (low, high) i.listed first (omega (arith, last, size)) in
      elim (avoids-it a (marks_in bytes s) (piece.Quad i.slot.address i.atom) avoids (quad-mark bytes s clean here i.slot i.atom i.listed on.1 i.held)) [
        | inl below ↦ absurd (omega (arith, below, first))
        | inr above ↦ absurd (omega (arith, above, last))
      ]))
      (no-word bytes a (λ t listed first last.
      let on = table-in bytes s t a clean here (low, high) listed first last in
      elim (avoids-it a (marks_in bytes s) (piece.Table t) avoids (table-mark bytes s clean here t listed on.1)) [
        | inl below ↦ absurd (omega (arith, below, first))
        | inr above ↦ absurd (omega (arith, above, last))
      ]))

  -- a slot
  quad-cells : (t : Slot) (x : Atom) → Contains (slots_of bytes) t → atom_in bytes t.target ≡ Some x → Holds bytes s (cell_at bytes s) (piece.Quad t.address x)
  quad-cells t x listed held =
      let size = atom-size bytes t.target x held in
      let eight : 8 ≡ t.address + 8 - t.address = omega arith in
      sym (atom-row x t.address)
      ∙ range-same (λ k. Part x (k - t.address)) (cell_at bytes s) t.address 8 (λ k low high.
      sym (by_slot bytes s k (Part x (k - t.address)) (ap (option_and_then (slot_cell bytes k)) (slot-around-is (slots_of bytes) k t (slots_apart bytes (clean_entries bytes clean.relocations)) listed low (omega (arith, high, size)))
      ∙ ap (option_map (λ atom. Part atom (k - t.address))) held)))
      ∙ ap (λ n. map (cell_at bytes s) (range_with_len t.address n)) eight

  -- a table
  module _ (t : Table) (listed : Contains (tables_of bytes) t) (on : Covers t.base s) where
    its_place : (is_writable s ≡ false) × Covers t.base s × (end_of t ≤ s.addr + s.size)
    its_place = let some = (table-good bytes t clean.tables listed).some in table-in bytes s t t.base clean here on listed (omega arith) (omega (arith, some))

    no-slot-in : (a : ℕ) → t.base ≤ a → a < end_of t → slot_cell_at bytes a ≡ None
    no-slot-in a low high =
        no-slot bytes a (λ i.
        let start = on.0 in
        let end = its_place.2 in
        let first = i.low in
        let last = i.high in
        let size = atom-size bytes i.slot.target i.atom i.held in
        let written = (slot-in bytes s i.slot a clean here (omega (arith, start, low), omega (arith, end, high)) i.listed first (omega (arith, last, size))).0 in
        true≢false (sym written ∙ its_place.0))

    -- a byte of a word
    word-byte : (k a : ℕ) → k < t.count → t.base + 4 * k ≤ a → a < t.base + 4 * k + 4 → (w : IsWord bytes t k) → cell_at bytes s a ≡ Part (atom.Diff w.point w.region w.offset) (a - (t.base + 4 * k))
    word-byte k a within low high w =
        let byte : byte_of_word a t ≡ a - (t.base + 4 * k) = omega arith in
        let start : a - byte_of_word a t ≡ t.base + 4 * k = omega arith in
        by_word bytes s a (Part (atom.Diff w.point w.region w.offset) (a - (t.base + 4 * k))) (no-slot-in a (omega arith) (omega arith))
        (ap (option_and_then (word_cell bytes a)) (table-around-is bytes a t (tables-follow bytes clean.tables) listed (omega arith) (omega arith))
        ∙ ap (λ n. option_map (λ x. Part x (byte_of_word a t)) (distance_at bytes n)) start
        ∙ ap (option_map (λ x. Part x (byte_of_word a t))) (word-distance bytes t k w)
        ∙ ap (λ n. Some (Part (atom.Diff w.point w.region w.offset) n)) byte)

    -- a word
    one-word : (k : ℕ) → k < t.count → word_cells bytes (t.base + 4 * k) ≡ map (cell_at bytes s) (range_with_len (t.base + 4 * k) 4)
    one-word k within =
        let w = is-word bytes s t k clean here on listed within in
        ap (λ o. option_map_or (λ x. take 4 (atom_cells x)) o []) (word-distance bytes t k w)
        ∙ sym (word-row (atom.Diff w.point w.region w.offset) (t.base + 4 * k))
        ∙ range-same (λ a. Part (atom.Diff w.point w.region w.offset) (a - (t.base + 4 * k))) (cell_at bytes s) (t.base + 4 * k) 4 (λ a low high. sym (word-byte k a within low high w))

    -- the words from one on
    some-words : (j n : ℕ) → j + n ≤ t.count → flat_map (word_cells bytes) (map (λ k. t.base + 4 * k) (range_with_len j n)) ≡ map (cell_at bytes s) (range_with_len (t.base + 4 * j) (4 * n))
    some-words j zero within = refl
    some-words j (suc n) within =
        let up : t.base + 4 * (j + 1) ≡ t.base + 4 * j + 4 = omega arith in
        let size : 4 + 4 * n ≡ 4 * suc n = omega arith in
        ap (λ xs. xs ++ flat_map (word_cells bytes) (map (λ k. t.base + 4 * k) (range_with_len (j + 1) n))) (one-word j (omega arith))
        ∙ ap (λ xs. map (cell_at bytes s) (range_with_len (t.base + 4 * j) 4) ++ xs) (some-words (j + 1) n (omega arith) ∙ ap (λ a. map (cell_at bytes s) (range_with_len a (4 * n))) up)
        ∙ sym (ap (λ n. map (cell_at bytes s) (range_with_len (t.base + 4 * j) n)) (sym size)
        ∙ ap (map (cell_at bytes s)) (range-split (t.base + 4 * j) 4 (4 * n))
        ∙ map-append (cell_at bytes s) (range_with_len (t.base + 4 * j) 4) (range_with_len (t.base + 4 * j + 4) (4 * n)))

    table-cells : Holds bytes s (cell_at bytes s) (piece.Table t)
    table-cells =
        let base : t.base + 4 * 0 ≡ t.base = omega arith in
        let size : 4 * t.count ≡ end_of t - t.base = omega arith in
        some-words 0 t.count (omega arith) ∙ ap (λ a. map (cell_at bytes s) (range_with_len a (4 * t.count))) base ∙ ap (λ n. map (cell_at bytes s) (range_with_len t.base n)) size

  -- each of them
  marks-hold : All (Holds bytes s (cell_at bytes s)) (marks_in bytes s)
  unfolding marks_in
  marks-hold =
      All-append (Holds bytes s (cell_at bytes s)) (quads_in bytes s) (tables_in bytes s)
      (all-given (Holds bytes s (cell_at bytes s)) (quad_of bytes) (filter (λ t. begins_in s t.address) (slots_of bytes)) (λ t p listed is.
      let q = quad-parts bytes t p is in
      subst (Holds bytes s (cell_at bytes s)) q.piece_is (quad-cells t q.atom (filter_contains (λ t. begins_in s t.address) (slots_of bytes) t listed) q.held)))
      (All-map (Holds bytes s (cell_at bytes s)) piece.Table (filter (λ t. begins_in s t.base) (tables_of bytes)) (λ k d within.
      let t = get_or (filter (λ t. begins_in s t.base) (tables_of bytes)) k d in
      let listed = Contains-get_or (filter (λ t. begins_in s t.base) (tables_of bytes)) k d within in
      table-cells t (filter_contains (λ t. begins_in s t.base) (tables_of bytes) t listed) (begins-covers s t.base (filter_tests (λ t. begins_in s t.base) (tables_of bytes) t listed))))

  pub whole-contents : flat_map (cells_of bytes s) (pieces_of bytes s) ≡ map (cell_at bytes s) (range_with_len s.addr s.size)
  unfolding pieces_of
  whole-contents =
      let size : s.addr + s.size - s.addr ≡ s.size = omega arith in
      filled-cells bytes s (cell_at bytes s) s.addr (s.addr + s.size) (marks_in bytes s) (marks-lie bytes s clean here) marks-hold between
      ∙ ap (λ n. map (cell_at bytes s) (range_with_len s.addr n)) size

-- ---- by number

pub item-of-map : (f : ℕ → Cell) (a n k : ℕ) → k < n → slice_get (map f (range_with_len a n)) k ≡ Some (f (a + k))
item-of-map f a n k low =
    slice_get-get_or (map f (range_with_len a n)) k (f a) (omega (arith, low, length-map-range_with_len f a n)) ∙ ap Some (get_or-map-range_with_len f a n k (a + k) (f a) low refl)

pub cell-numbered : (bytes : List ℕ) (region offset : ℕ) (s : Section) → slice_get (kept_sections bytes) region ≡ Some s → cell_at bytes s (s.addr + offset) ≡ first_cell bytes region offset
unfolding first_cell
cell-numbered bytes region offset s found = sym (ap (λ o. option_map_or (λ (u : Section). cell_at bytes u (u.addr + offset)) o Undef) found)

-- ---- from the section's start on

filter-all : {X : Type 0} (p : X → Bool) (xs : List X) → All (λ x. p x ≡ true) xs → filter p xs ≡ xs
filter-all p [] all = refl
filter-all p (x ∷ xs) all =
    ap (λ b. cond b (x ∷ filter p xs) (filter p xs)) (all 0 x (omega arith)) ∙ ap (λ ys. x ∷ ys) (filter-all p xs (λ k d within. all (suc k) d (omega arith)))

begins-low : (s : Section) (a b : ℕ) → begins_in s a ≡ true → a ≡ b → nat_le s.addr b ≡ true
begins-low s a b h same = let on = begins-covers s a h in let low = on.0 in le-on s.addr b (omega (arith, low, same))

starts-in : (bytes : List ℕ) (s : Section) → All (λ p. nat_le s.addr (start_of p) ≡ true) (marks_in bytes s)
unfolding marks_in
starts-in bytes s =
    All-append (λ p. nat_le s.addr (start_of p) ≡ true) (quads_in bytes s) (tables_in bytes s)
    (all-given (λ p. nat_le s.addr (start_of p) ≡ true) (quad_of bytes) (filter (λ t. begins_in s t.address) (slots_of bytes)) (λ t p listed is.
    begins-low s t.address (start_of p) (filter_tests (λ t. begins_in s t.address) (slots_of bytes) t listed) (ap start_of (quad-parts bytes t p is).piece_is)))
    (All-map (λ p. nat_le s.addr (start_of p) ≡ true) piece.Table (filter (λ t. begins_in s t.base) (tables_of bytes)) (λ k d within.
    let t = get_or (filter (λ t. begins_in s t.base) (tables_of bytes)) k d in
    begins-low s t.base t.base (filter_tests (λ t. begins_in s t.base) (tables_of bytes) t (Contains-get_or (filter (λ t. begins_in s t.base) (tables_of bytes)) k d within)) refl))

pub all-from_section : (bytes : List ℕ) (s : Section) → pieces_from bytes s s.addr ≡ pieces_of bytes s
unfolding pieces_from pieces_of
all-from_section bytes s = ap (filled s.addr (s.addr + s.size)) (filter-all (λ p. nat_le s.addr (start_of p)) (marks_in bytes s) (starts-in bytes s))
