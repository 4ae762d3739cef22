-- A slot of the type of copied symbols has a copied symbol, so a section without bytes in the file is one piece.
use Rattle.std.proofs.Common.{◌≡◌, ℕ, ◌+◌, ◌*◌, ◌%◌, ◌^◌, ◌<◌, nat_le, true≢false, Bool, true, false, not, ◌&&◌, ◌||◌, ◌==◌, cond, List, [], ◌∷◌, ◌++◌, length, filter, get_or, Option, Some, None, Contains, refl, sym, ap, ◌∙◌, subst, arith}
use Rattle.std.specs.Prelude.{option_map, option_and_then}
use Rattle.std.specs.Option.{option_map_or, option_or}
use Rattle.std.proofs.lemmas.Bool.{and_parts}
use Rattle.std.proofs.lemmas.Bool.Decides.{nat_tests}
use Rattle.std.proofs.lemmas.List.{get_or-map, length-map}
use Rattle.rw_base.specs.declared.fault.Fault.{Fault}
use Rattle.rw_base.specs.Rules.{first}
use Rattle.rw_base.proofs.First.{first_none, second_none}
use Rattle.rw_elf.specs.declared.section.Section.{Section}
use Rattle.rw_elf.specs.declared.symbol.Symbol.{Symbol}
use Rattle.rw_reloc.specs.declared.slot.Slot.{Slot}
use Rattle.rw_reloc.specs.declared.slot.Target.{Target}
use Rattle.rw_reloc.specs.declared.slot.Target.TheVariants as target
use Rattle.rw_reloc.specs.Entries.{entries, null_entry}
use Rattle.rw_reloc.specs.Relocations.{entry_fault, has_symbol, is_plain, relocation_rules}
use Rattle.rw_reloc.specs.Slots.{slot_of, slots_of}
use Rattle.rw_reloc.specs.Targets.{is_undefined, symbol_of, target_of}
use Rattle.rw_elf.specs.Places.{bytes_at, bytes_from, bytes_in, section_around, stores}
use Rattle.rw_elf.specs.Sections.{has_bytes}
use Rattle.rw_elf.specs.Tables.{kept_sections}
use Rattle.rw_elf.proofs.Around.{filter_contains, filter_tests}
use Rattle.rw_funcs.specs.Points.{file_points, is_point}
use Rattle.rw_tables.specs.Tables.{leads, tables_of, word_target}
use Rattle.rw_tables.proofs.GoodTables.{table-good}
use Rattle.rw_tables.proofs.KnownMore.{all-each}
use Rattle.rw_tables.proofs.Picked.{given-by, map-given}
use Rattle.rw_data.specs.declared.piece.Piece.{Piece}
use Rattle.rw_data.specs.declared.piece.Piece.TheVariants as piece
use Rattle.rw_data.specs.FirstCells.{atom_in}
use Rattle.rw_data.specs.Pieces.{begins_in, filled, marks_in, pieces_of, quad_of, quads_in, tables_in}
use Rattle.rw_data.proofs.Clean.{IsClean, is-kept, kept-around}
use Rattle.rw_data.proofs.Filled.{run-some}
use Rattle.rw_data.proofs.Good.{slot-in}
use Rattle.rw_data.proofs.Marks.{begins-covers, quad-parts}
use Rattle.rw_reloc.proofs.Apart.{clean_entries, entry_clean}

true-test : (b : Bool) (f : Fault) → cond (not b) (Some f) None ≡ None → b ≡ true
true-test true f h = refl
true-test false f h = absurd (cc)

second-test : (a : Option Fault) (b : Bool) (f : Fault) (rest : Option Fault) → option_or a (option_or (cond (not b) (Some f) None) rest) ≡ None → b ≡ true
second-test a b f rest h = true-test b f (first_none (cond (not b) (Some f) None) rest (second_none a _ h))

other : (a b : Bool) → a ≡ false → (a || b) ≡ true → b ≡ true
other true b off h = absurd (cc)
other false b off h = h

-- the target of an entry of this kind, with this symbol and addend
abbrev target_by : ℕ → ℕ → ℕ → Symbol → Target
target_by kind number addend s =
    cond (kind == 5) (target.Copy number s.size) (cond (is_undefined s) (target.Import number) (cond (kind == 1) (target.To ((s.value + addend) % 2 ^ 64)) (target.To s.value)))

five-not-eight : (kind : ℕ) → kind ≡ 5 → (kind == 8) ≡ false
five-not-eight kind is = ap (λ k. k == 8) is

copy-target : (kind number addend : ℕ) (o : Option Symbol) → kind ≡ 5 → option_map_or is_plain o false ≡ true → (n : ℕ) × (size : ℕ) × (option_map_or (target_by kind number addend) o (target.To addend) ≡ target.Copy n size)
copy-target kind number addend None is plain = absurd (cc)
copy-target kind number addend (Some y) is plain =
    (number, y.size, ap (λ k. cond (k == 5) (target.Copy number y.size) (cond (is_undefined y) (target.Import number) (cond (k == 1) (target.To ((y.value + addend) % 2 ^ 64)) (target.To y.value)))) is)

pub copied : (bytes : List ℕ) (s : Slot) → first (relocation_rules bytes) ≡ None → Contains (slots_of bytes) s → s.kind ≡ 5 → (n : ℕ) × (size : ℕ) × (s.target ≡ target.Copy n size)
unfolding slots_of slot_of entry_fault target_of
copied bytes s clean here kind =
    let within : here.0 < length (entries bytes) = omega (arith, here.1, length-map (entries bytes) (slot_of bytes)) in
    let e = get_or (entries bytes) here.0 null_entry in
    let is : slot_of bytes e ≡ s = sym (get_or-map (slot_of bytes) (entries bytes) here.0 null_entry s within) ∙ here.2 in
    let five : e.kind ≡ 5 = ap (λ (t : Slot). t.kind) is ∙ kind in
    let none = first_none _ _ (entry_clean bytes (clean_entries bytes clean) here.0 null_entry within) in
    let linked = other (e.kind == 8) (has_symbol bytes e) (five-not-eight e.kind five) (second-test _ _ _ _ none) in
    let plain = (and_parts _ (option_map_or is_plain (symbol_of bytes e) false) linked).1 in
    let t = copy-target e.kind e.symbol e.addend (symbol_of bytes e) five plain in
    (t.0, t.1, sym (ap (λ (u : Slot). u.target) is) ∙ t.2)

-- ---- a section without bytes in the file

no-bytes : (bytes : List ℕ) (s : Section) (base a : ℕ) → section_around bytes a ≡ Some s → has_bytes s ≡ false → leads bytes base a ≡ true → ⊥
no-bytes bytes s base a around none leading =
    let stored : stores s a 4 ≡ false = ap (λ b. b && nat_le (a + 4) (s.addr + s.size)) none in
    let word : bytes_at bytes a 4 ≡ None = ap (option_and_then (bytes_in bytes a 4)) around ∙ ap (λ b. cond b (Some (bytes_from bytes s a 4)) None) stored in
    let off : leads bytes base a ≡ false = ap (λ o. option_map_or (is_point (file_points bytes)) (option_map (word_target base) o) false) word in
    true≢false (sym leading ∙ off)

empty : (ps : List Piece) → ((p : Piece) → Contains ps p → ⊥) → ps ≡ []
empty [] none = refl
empty (p ∷ ps) none = absurd (none p (0, omega arith, refl))

module _ (bytes : List ℕ) (s : Section) (clean : IsClean bytes) (here : Contains (kept_sections bytes) s) (none : has_bytes s ≡ false) where
  no-quads : quads_in bytes s ≡ []
  no-quads = empty (quads_in bytes s) (λ p at.
      let g = given-by (quad_of bytes) (filter (λ t. begins_in s t.address) (slots_of bytes)) p at in
      let q = quad-parts bytes g.item p g.given in
      let size = q.size in
      let listed = filter_contains (λ t. begins_in s t.address) (slots_of bytes) g.item g.listed in
      let on = begins-covers s g.item.address (filter_tests (λ t. begins_in s t.address) (slots_of bytes) g.item g.listed) in
      let parts = slot-in bytes s g.item g.item.address clean here on listed (omega arith) (omega (arith, size)) in
      let five = five-is g.item.kind (has_bytes s) none parts.3 in
      let c = copied bytes g.item clean.relocations listed five in
      let held : atom_in bytes (target.Copy c.0 c.1) ≡ Some q.atom = ap (atom_in bytes) (sym c.2) ∙ q.held in
      cc)
    where
      five-is : (kind : ℕ) (b : Bool) → b ≡ false → (kind == 5 || b) ≡ true → kind ≡ 5
      five-is kind true off h = absurd (cc)
      five-is kind false off h = grind (arith, nat_tests)

  no-tables : tables_in bytes s ≡ []
  no-tables = empty (tables_in bytes s) (λ p at.
      let g = given-by (λ t. Some (piece.Table t)) (filter (λ t. begins_in s t.base) (tables_of bytes)) p (subst (λ ps. Contains ps p) (map-given piece.Table (filter (λ t. begins_in s t.base) (tables_of bytes))) at) in
      let listed = filter_contains (λ t. begins_in s t.base) (tables_of bytes) g.item g.listed in
      let on = begins-covers s g.item.base (filter_tests (λ t. begins_in s t.base) (tables_of bytes) g.item g.listed) in
      let good = table-good bytes g.item clean.tables listed in
      let first : g.item.base + 4 * 0 ≡ g.item.base = omega arith in
      let leading = all-each (λ j. leads bytes g.item.base (g.item.base + 4 * j)) g.item.count good.leading 0 good.some in
      no-bytes bytes s g.item.base g.item.base (kept-around bytes s g.item.base clean.elf here on) none (subst (λ a. leads bytes g.item.base a ≡ true) first leading))

  pub one-piece : pieces_of bytes s ≡ piece.Bytes (record { start = s.addr; end = s.addr + s.size }) ∷ []
  unfolding pieces_of marks_in
  one-piece =
      let some = (is-kept bytes s clean.elf here).some in
      ap (λ ps. filled s.addr (s.addr + s.size) (ps ++ tables_in bytes s)) no-quads
      ∙ ap (filled s.addr (s.addr + s.size)) no-tables
      ∙ run-some s.addr (s.addr + s.size) (omega (arith, some))
