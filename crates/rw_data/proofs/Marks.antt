-- The slots and tables of a kept section: they lie in it, in their order, and of the ones or of the others there are none.
use Rattle.std.proofs.Common.{◌≡◌, ℕ, ◌+◌, true, false, List, [], ◌∷◌, ◌++◌, filter, Option, Some, None, All, Contains, refl, sym, ap, ◌∙◌, subst, arith, inl, inr}
use Rattle.std.specs.Prelude.{◌⊎◌}
use Rattle.std.specs.List.{AllPairs, filter_map}
use Rattle.std.specs.Option.{option_map}
use Rattle.std.proofs.Common.{true≢false}
use Rattle.std.proofs.lemmas.Bool.Decides.{nat_tests}
use Rattle.std.proofs.lemmas.List.Elements.{All-append, Contains-append_left, Contains-append_right}
use Rattle.std.proofs.lemmas.List.Kept.{AllPairs-filter}
use Rattle.rw_words.specs.declared.atom.Atom.{Atom}
use Rattle.rw_elf.specs.declared.section.Section.{Section}
use Rattle.rw_elf.specs.Places.{Covers}
use Rattle.rw_elf.specs.Sections.{is_writable}
use Rattle.rw_elf.specs.Tables.{kept_sections}
use Rattle.rw_elf.proofs.Around.{contains_filter, filter_contains, filter_tests}
use Rattle.rw_reloc.specs.declared.slot.Slot.{Slot}
use Rattle.rw_reloc.specs.declared.slot.Target.{Target}
use Rattle.rw_reloc.specs.declared.slot.Target.TheVariants as target
use Rattle.rw_reloc.specs.Slots.{EndsBefore, slots_of}
use Rattle.rw_reloc.specs.Targets.{target_size}
use Rattle.rw_reloc.proofs.Apart.{clean_entries, slots_apart}
use Rattle.rw_tables.specs.declared.table.Table.{Table}
use Rattle.rw_tables.specs.Tables.{EndsBefore as TableEndsBefore, end_of, tables_of}
use Rattle.rw_tables.proofs.GoodTables.{table-good, tables-follow}
use Rattle.rw_tables.proofs.Picked.{all-given, given-by, gives-it, map-given, pairs-given}
use Rattle.rw_data.specs.declared.piece.Piece.{Piece}
use Rattle.rw_data.specs.declared.piece.Piece.TheVariants as piece
use Rattle.rw_data.specs.FirstCells.{atom_in}
use Rattle.rw_data.specs.Pieces.{begins_in, end_of_piece, marks_in, quad_of, quads_in, start_of, tables_in}
use Rattle.rw_data.proofs.Clean.{IsClean}
use Rattle.rw_data.proofs.Filled.{Follows, Lie, LiesIn, lie-from}
use Rattle.rw_data.proofs.Good.{slot-in, table-in}

-- ---- slots that hold addresses

pub atom-size : (bytes : List ℕ) (t : Target) (x : Atom) → atom_in bytes t ≡ Some x → target_size t ≡ 8
atom-size bytes (target.To a) x is = refl
atom-size bytes (target.Import n) x is = refl
atom-size bytes (target.Copy n size) x is = absurd (cc)

pub record IsQuad (bytes : List ℕ) (t : Slot) (p : Piece) : Type 0 where
  pub atom : Atom
  pub held : atom_in bytes t.target ≡ Some atom
  pub piece_is : piece.Quad t.address atom ≡ p
  pub size : target_size t.target ≡ 8

pub quad-parts : (bytes : List ℕ) (t : Slot) (p : Piece) → quad_of bytes t ≡ Some p → IsQuad bytes t p
quad-parts bytes t p is = by_atom (atom_in bytes t.target) refl is
  where
    by_atom : (o : Option Atom) → atom_in bytes t.target ≡ o → option_map (λ atom. piece.Quad t.address atom) o ≡ Some p → IsQuad bytes t p
    by_atom None held h = absurd (cc)
    by_atom (Some x) held h = record { atom = x; held = held; piece_is = (let same : piece.Quad t.address x ≡ p = cc in same); size = atom-size bytes t.target x held }

pub quad-is : (bytes : List ℕ) (t : Slot) (x : Atom) → atom_in bytes t.target ≡ Some x → quad_of bytes t ≡ Some (piece.Quad t.address x)
quad-is bytes t x held = ap (option_map (λ atom. piece.Quad t.address atom)) held

pub begins-covers : (s : Section) (a : ℕ) → begins_in s a ≡ true → Covers a s
begins-covers s a h = grind (arith, nat_tests)

pub covers-begins : (s : Section) (a : ℕ) → Covers a s → begins_in s a ≡ true
covers-begins s a on = grind (arith, nat_tests)

module _ (bytes : List ℕ) (s : Section) (clean : IsClean bytes) (here : Contains (kept_sections bytes) s) where
  quads-follow : AllPairs Follows (quads_in bytes s)
  quads-follow =
      pairs-given EndsBefore Follows (quad_of bytes) (λ a b c d before is_c is_d.
      let qa = quad-parts bytes a c is_c in
      let qb = quad-parts bytes b d is_d in
      let far = before.1 in
      let size = qa.size in
      let end : a.address + 8 ≡ end_of_piece c = ap end_of_piece qa.piece_is in
      let start : b.address ≡ start_of d = ap start_of qb.piece_is in
      omega (arith, far, size, end, start))
      (filter (λ t. begins_in s t.address) (slots_of bytes))
      (AllPairs-filter EndsBefore (λ t. begins_in s t.address) (slots_of bytes) (slots_apart bytes (clean_entries bytes clean.relocations)))

  -- a slot of the section
  pub slot-here : (t : Slot) (p : Piece) → Contains (filter (λ t. begins_in s t.address) (slots_of bytes)) t → quad_of bytes t ≡ Some p → (is_writable s ≡ true) × LiesIn s.addr (s.addr + s.size) p
  slot-here t p listed is =
      let q = quad-parts bytes t p is in
      let size = q.size in
      let on = begins-covers s t.address (filter_tests (λ t. begins_in s t.address) (slots_of bytes) t listed) in
      let parts = slot-in bytes s t t.address clean here on (filter_contains (λ t. begins_in s t.address) (slots_of bytes) t listed) (omega arith) (omega (arith, size)) in
      let low = on.0 in
      let high = parts.2 in
      let start : t.address ≡ start_of p = ap start_of q.piece_is in
      let end : t.address + 8 ≡ end_of_piece p = ap end_of_piece q.piece_is in
      (parts.0, (omega (arith, low, start), omega (arith, start, end), omega (arith, high, size, end)))

  quads-lie : All (LiesIn s.addr (s.addr + s.size)) (quads_in bytes s)
  quads-lie = all-given (LiesIn s.addr (s.addr + s.size)) (quad_of bytes) (filter (λ t. begins_in s t.address) (slots_of bytes)) (λ t p listed is. (slot-here t p listed is).1)

  quad-writes : (p : Piece) → Contains (quads_in bytes s) p → is_writable s ≡ true
  quad-writes p at = let g = given-by (quad_of bytes) (filter (λ t. begins_in s t.address) (slots_of bytes)) p at in (slot-here g.item p g.listed g.given).0

  -- ---- tables

  abbrev its_tables : List Table
  its_tables = filter (λ t. begins_in s t.base) (tables_of bytes)

  as-given : tables_in bytes s ≡ filter_map (λ t. Some (piece.Table t)) (filter (λ t. begins_in s t.base) (tables_of bytes))
  as-given = map-given piece.Table (filter (λ t. begins_in s t.base) (tables_of bytes))

  tables-pairs : AllPairs Follows (tables_in bytes s)
  tables-pairs =
      subst (AllPairs Follows) (sym as-given)
      (pairs-given TableEndsBefore Follows (λ t. Some (piece.Table t)) (λ a b c d before is_c is_d.
      let same_a : piece.Table a ≡ c = cc in
      let same_b : piece.Table b ≡ d = cc in
      let end : end_of a ≡ end_of_piece c = ap end_of_piece same_a in
      let start : b.base ≡ start_of d = ap start_of same_b in
      omega (arith, before, end, start))
      (filter (λ t. begins_in s t.base) (tables_of bytes))
      (AllPairs-filter TableEndsBefore (λ t. begins_in s t.base) (tables_of bytes) (tables-follow bytes clean.tables)))

  -- a table of the section
  pub table-here : (t : Table) → Contains (filter (λ t. begins_in s t.base) (tables_of bytes)) t → (is_writable s ≡ false) × LiesIn s.addr (s.addr + s.size) (piece.Table t)
  table-here t listed =
      let on = begins-covers s t.base (filter_tests (λ t. begins_in s t.base) (tables_of bytes) t listed) in
      let from = filter_contains (λ t. begins_in s t.base) (tables_of bytes) t listed in
      let some = (table-good bytes t clean.tables from).some in
      let parts = table-in bytes s t t.base clean here on from (omega arith) (omega (arith, some)) in
      (parts.0, (on.0, omega (arith, some), parts.2))

  tables-lie : All (LiesIn s.addr (s.addr + s.size)) (tables_in bytes s)
  tables-lie =
      subst (All (LiesIn s.addr (s.addr + s.size))) (sym as-given)
      (all-given (LiesIn s.addr (s.addr + s.size)) (λ t. Some (piece.Table t)) (filter (λ t. begins_in s t.base) (tables_of bytes)) (λ t p listed is.
      let same : piece.Table t ≡ p = cc in
      subst (LiesIn s.addr (s.addr + s.size)) same (table-here t listed).1))

  table-reads : (p : Piece) → Contains (tables_in bytes s) p → is_writable s ≡ false
  table-reads p at =
      let g = given-by (λ t. Some (piece.Table t)) (filter (λ t. begins_in s t.base) (tables_of bytes)) p (subst (λ ps. Contains ps p) as-given at) in
      (table-here g.item g.listed).0

  -- ---- both

  first-in : (ps : List Piece) → (ps ≡ []) ⊎ ((p : Piece) × Contains ps p)
  first-in [] = inl refl
  first-in (p ∷ ps) = inr (p, (0, omega arith, refl))

  both-follow : AllPairs Follows (marks_in bytes s)
  unfolding marks_in
  both-follow =
      elim (first-in (quads_in bytes s)) [
        | inl none ↦ subst (λ ps. AllPairs Follows (ps ++ tables_in bytes s)) (sym none) tables-pairs
        | inr q ↦
            elim (first-in (tables_in bytes s)) [
              | inl none ↦ subst (λ ps. AllPairs Follows (quads_in bytes s ++ ps)) (sym none) (subst (AllPairs Follows) (append-nil (quads_in bytes s)) quads-follow)
              | inr t ↦ absurd (true≢false (sym (quad-writes q.0 q.1) ∙ table-reads t.0 t.1))
            ]
      ]
    where
      append-nil : (ps : List Piece) → ps ≡ ps ++ []
      append-nil [] = refl
      append-nil (p ∷ ps) = ap (λ qs. p ∷ qs) (append-nil ps)

  pub marks-lie : Lie s.addr (s.addr + s.size) (marks_in bytes s)
  unfolding marks_in
  marks-lie = lie-from s.addr (s.addr + s.size) (marks_in bytes s) both-follow (All-append (LiesIn s.addr (s.addr + s.size)) (quads_in bytes s) (tables_in bytes s) quads-lie tables-lie) (omega arith)

  -- where they come from
  pub quad-mark : (t : Slot) (x : Atom) → Contains (slots_of bytes) t → Covers t.address s → atom_in bytes t.target ≡ Some x → Contains (marks_in bytes s) (piece.Quad t.address x)
  unfolding marks_in
  quad-mark t x listed on held =
      Contains-append_left (quads_in bytes s) (tables_in bytes s) (piece.Quad t.address x)
      (gives-it (quad_of bytes) (filter (λ t. begins_in s t.address) (slots_of bytes)) t (piece.Quad t.address x) (contains_filter (λ t. begins_in s t.address) (slots_of bytes) t listed (covers-begins s t.address on)) (quad-is bytes t x held))

  pub table-mark : (t : Table) → Contains (tables_of bytes) t → Covers t.base s → Contains (marks_in bytes s) (piece.Table t)
  unfolding marks_in
  table-mark t listed on =
      Contains-append_right (quads_in bytes s) (tables_in bytes s) (piece.Table t)
      (subst (λ ps. Contains ps (piece.Table t)) (sym as-given)
      (gives-it (λ t. Some (piece.Table t)) (filter (λ t. begins_in s t.base) (tables_of bytes)) t (piece.Table t) (contains_filter (λ t. begins_in s t.base) (tables_of bytes) t listed (covers-begins s t.base on)) refl))
