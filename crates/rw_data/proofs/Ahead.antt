-- The first slot that holds an address and the first table, of a section from an address on.
use Rattle.std.proofs.Common.{◌≡◌, ℕ, ◌+◌, ◌-◌, ◌<◌, ◌≤◌, Bool, true, false, cond, nat_le, List, length, filter, map, take, drop, get_or, slice_get, Option, Some, None, refl, sym, ap, ◌∙◌, arith, inl, inr}
use Rattle.std.specs.List.{AllPairs, filter_map}
use Rattle.std.proofs.lemmas.Bool.{cases_lt}
use Rattle.std.proofs.lemmas.Bool.Decides.{nat_tests}
use Rattle.std.proofs.lemmas.List.{get_or-drop, get_or-take}
use Rattle.std.proofs.lemmas.Option.{slice_get-get_or}
use Rattle.rw_elf.specs.declared.section.Section.{Section}
use Rattle.rw_reloc.specs.declared.slot.Slot.{Slot}
use Rattle.rw_reloc.specs.Slots.{EndsBefore, null_slot, slots_of}
use Rattle.rw_reloc.proofs.Search.{slots_ascend}
use Rattle.rw_tables.specs.declared.table.Table.{Table}
use Rattle.rw_tables.specs.Tables.{EndsBefore as TableEndsBefore, tables_of}
use Rattle.rw_tables.proofs.Picked.{first-given, map-given, none-given, passed, tested, tests-join}
use Rattle.rw_data.specs.declared.piece.Piece.{Piece}
use Rattle.rw_data.specs.declared.piece.Piece.TheVariants as piece
use Rattle.rw_data.specs.Pieces.{begins_in, first_from, quad_of, quads_in, start_of, tables_in}
use Rattle.rw_data.proofs.Around.{null_table, tables-ascend}
use Rattle.rw_data.proofs.Filled.{le-off, le-on}
use Rattle.rw_data.proofs.Marks.{quad-parts}

-- an item of the last items of a list
pub rest-item : {A : Type 0} (n : ℕ) (xs : List A) (k : ℕ) (d : A) → k < length xs - n → get_or (take (length xs - n) (drop n xs)) k d ≡ get_or xs (n + k) d
rest-item n xs k d within = get_or-take (length xs - n) (drop n xs) k d within ∙ get_or-drop n xs k d

begins-out : (s : Section) (a : ℕ) → s.addr + s.size ≤ a → begins_in s a ≡ false
begins-out s a high = grind (arith, nat_tests)

begins-on : (s : Section) (a : ℕ) → s.addr ≤ a → a < s.addr + s.size → begins_in s a ≡ true
begins-on s a low high = grind (arith, nat_tests)

-- ---- what a test leaves of an item

module _ {X : Type 0} (q : X → Bool) (f : X → Option Piece) (a : ℕ) (x : X) where
  out : q x ≡ false → tested q f (λ p. nat_le a (start_of p)) x ≡ None
  out off = ap (λ b. cond b (passed (λ p. nat_le a (start_of p)) (f x)) None) off

  nothing : f x ≡ None → tested q f (λ p. nat_le a (start_of p)) x ≡ None
  nothing none = ap (λ o. cond (q x) (passed (λ p. nat_le a (start_of p)) o) None) none ∙ either (q x)
    where
      either : (b : Bool) → ◌≡◌ {A = Option Piece} (cond b None None) None
      either true = refl
      either false = refl

  low : ((p : Piece) → f x ≡ Some p → start_of p < a) → tested q f (λ p. nat_le a (start_of p)) x ≡ None
  low below = by_test (q x) (f x) refl
    where
      by_test : (b : Bool) (o : Option Piece) → f x ≡ o → cond b (passed (λ p. nat_le a (start_of p)) o) None ≡ None
      by_test true None is = refl
      by_test true (Some p) is = ap (λ b. cond b (Some p) None) (le-off a (start_of p) (below p is))
      by_test false o is = refl

  here : (p : Piece) → q x ≡ true → f x ≡ Some p → a ≤ start_of p → tested q f (λ p. nat_le a (start_of p)) x ≡ Some p
  here p on is high =
      ap (λ b. cond b (passed (λ p. nat_le a (start_of p)) (f x)) None) on ∙ ap (passed (λ p. nat_le a (start_of p))) is ∙ ap (λ b. cond b (Some p) None) (le-on a (start_of p) high)

-- ---- slots

module _ (bytes : List ℕ) (s : Section) (a : ℕ) (slots : List Slot) (apart : AllPairs EndsBefore slots) (next : ℕ)
    (before : (k : ℕ) (t : Slot) → k < next → slice_get slots k ≡ Some t → t.address < a)
    (after : (k : ℕ) (t : Slot) → next ≤ k → slice_get slots k ≡ Some t → a ≤ t.address)
  where
    abbrev held : Slot → Option Piece
    held = tested (λ t. begins_in s t.address) (quad_of bytes) (λ p. nat_le a (start_of p))

    start-is : (t : Slot) (p : Piece) → quad_of bytes t ≡ Some p → t.address ≡ start_of p
    start-is t p is = ap start_of (quad-parts bytes t p is).piece_is

    low-none : (k : ℕ) → k < next → k < length slots → held (get_or slots k null_slot) ≡ None
    low-none k below within =
        low (λ t. begins_in s t.address) (quad_of bytes) a (get_or slots k null_slot) (λ p is.
        let first = before k (get_or slots k null_slot) below (slice_get-get_or slots k null_slot within) in
        let start = start-is (get_or slots k null_slot) p is in
        omega (arith, first, start))

    -- none up to one behind the section, or up to the end
    pub quads-none : (i : ℕ) → ((j : ℕ) → j < i → quad_of bytes (get_or slots (next + j) null_slot) ≡ None) → (next + i < length slots → s.addr + s.size ≤ (get_or slots (next + i) null_slot).address) → slots ≡ slots_of bytes → None ≡ first_from a (quads_in bytes s)
    quads-none i none past is =
        sym (ap (λ ts. first_from a (filter_map (quad_of bytes) (filter (λ t. begins_in s t.address) ts))) (sym is)
        ∙ ap (λ ps. slice_get ps 0) (tests-join (λ t. begins_in s t.address) (quad_of bytes) (λ p. nat_le a (start_of p)) slots)
        ∙ none-given held slots null_slot (λ k within.
        elim (cases_lt k next) [
          | inl below ↦ low-none k below within
          | inr above ↦
              elim (cases_lt (k - next) i) [
                | inl early ↦
                    let place : next + (k - next) ≡ k = omega arith in
                    nothing (λ t. begins_in s t.address) (quad_of bytes) a (get_or slots k null_slot) (ap (λ j. quad_of bytes (get_or slots j null_slot)) (sym place) ∙ none (k - next) early)
                | inr late ↦
                    let far = past (omega arith) in
                    let up = slots_ascend slots apart (next + i) k null_slot (omega arith) within in
                    out (λ t. begins_in s t.address) (quad_of bytes) a (get_or slots k null_slot) (begins-out s (get_or slots k null_slot).address (omega (arith, far, up)))
              ]
        ]))

    -- the first that holds one
    pub quads-some : (i : ℕ) (p : Piece) → ((j : ℕ) → j < i → quad_of bytes (get_or slots (next + j) null_slot) ≡ None) → next + i < length slots → s.addr ≤ a → (get_or slots (next + i) null_slot).address < s.addr + s.size → quad_of bytes (get_or slots (next + i) null_slot) ≡ Some p → slots ≡ slots_of bytes → Some p ≡ first_from a (quads_in bytes s)
    quads-some i p none within from inside found is =
        let first = after (next + i) (get_or slots (next + i) null_slot) (omega arith) (slice_get-get_or slots (next + i) null_slot within) in
        let start = start-is (get_or slots (next + i) null_slot) p found in
        sym (ap (λ ts. first_from a (filter_map (quad_of bytes) (filter (λ t. begins_in s t.address) ts))) (sym is)
        ∙ ap (λ ps. slice_get ps 0) (tests-join (λ t. begins_in s t.address) (quad_of bytes) (λ p. nat_le a (start_of p)) slots)
        ∙ first-given held slots (next + i) null_slot p within
        (here (λ t. begins_in s t.address) (quad_of bytes) a (get_or slots (next + i) null_slot) p (begins-on s (get_or slots (next + i) null_slot).address (omega (arith, first)) inside) found (omega (arith, first, start)))
        (λ k before_it.
        elim (cases_lt k next) [
          | inl below ↦ low-none k below (omega arith)
          | inr above ↦
              let place : next + (k - next) ≡ k = omega arith in
              nothing (λ t. begins_in s t.address) (quad_of bytes) a (get_or slots k null_slot) (ap (λ j. quad_of bytes (get_or slots j null_slot)) (sym place) ∙ none (k - next) (omega arith))
        ]))

-- ---- tables

module _ (bytes : List ℕ) (s : Section) (a : ℕ) (tables : List Table) (apart : AllPairs TableEndsBefore tables) (next : ℕ)
    (before : (k : ℕ) (t : Table) → k < next → slice_get tables k ≡ Some t → t.base < a)
    (after : (k : ℕ) (t : Table) → next ≤ k → slice_get tables k ≡ Some t → a ≤ t.base)
  where
    abbrev told : Table → Option Piece
    told = tested (λ t. begins_in s t.base) (λ t. Some (piece.Table t)) (λ p. nat_le a (start_of p))

    base-is : (t : Table) (p : Piece) → ◌≡◌ {A = Option Piece} (Some (piece.Table t)) (Some p) → t.base ≡ start_of p
    base-is t p is = let same : piece.Table t ≡ p = cc in ap start_of same

    below-none : (k : ℕ) → k < next → k < length tables → told (get_or tables k null_table) ≡ None
    below-none k below within =
        low (λ t. begins_in s t.base) (λ t. Some (piece.Table t)) a (get_or tables k null_table) (λ p is.
        let first = before k (get_or tables k null_table) below (slice_get-get_or tables k null_table within) in
        let start = base-is (get_or tables k null_table) p is in
        omega (arith, first, start))

    joined : tables ≡ tables_of bytes → first_from a (tables_in bytes s) ≡ slice_get (filter_map told tables) 0
    joined is =
        ap (λ ts. first_from a (map piece.Table (filter (λ t. begins_in s t.base) ts))) (sym is)
        ∙ ap (first_from a) (map-given piece.Table (filter (λ t. begins_in s t.base) tables))
        ∙ ap (λ ps. slice_get ps 0) (tests-join (λ t. begins_in s t.base) (λ t. Some (piece.Table t)) (λ p. nat_le a (start_of p)) tables)

    -- none, where the next is behind the section or there is no next
    pub tables-none : (next < length tables → s.addr + s.size ≤ (get_or tables next null_table).base) → tables ≡ tables_of bytes → None ≡ first_from a (tables_in bytes s)
    tables-none past is =
        sym (joined is ∙ none-given told tables null_table (λ k within.
        elim (cases_lt k next) [
          | inl below ↦ below-none k below within
          | inr above ↦
              let far = past (omega arith) in
              let up = tables-ascend tables apart next k null_table above within in
              out (λ t. begins_in s t.base) (λ t. Some (piece.Table t)) a (get_or tables k null_table) (begins-out s (get_or tables k null_table).base (omega (arith, far, up)))
        ]))

    -- the next
    pub tables-some : next < length tables → s.addr ≤ a → (get_or tables next null_table).base < s.addr + s.size → tables ≡ tables_of bytes → Some (piece.Table (get_or tables next null_table)) ≡ first_from a (tables_in bytes s)
    tables-some within from inside is =
        let first = after next (get_or tables next null_table) (omega arith) (slice_get-get_or tables next null_table within) in
        sym (joined is ∙ first-given told tables next null_table (piece.Table (get_or tables next null_table)) within
        (here (λ t. begins_in s t.base) (λ t. Some (piece.Table t)) a (get_or tables next null_table) (piece.Table (get_or tables next null_table)) (begins-on s (get_or tables next null_table).base (omega (arith, first)) inside) refl (omega (arith, first)))
        (λ k below. below-none k below (omega arith)))
