-- The first contents of a file without a fault fit it: their atoms have addresses, and the distances of its jump tables are short.
use Rattle.std.proofs.Common.{◌≡◌, ◌⊎◌, inl, inr, ℕ, zero, suc, ◌+◌, ◌-◌, ◌*◌, ◌/◌, ◌%◌, ◌^◌, ◌<◌, ◌≤◌, List, [], ◌∷◌, ◌++◌, length, map, get_or, All, Option, Some, None, Bool, true, false, ◌&&◌, ◌||◌, nat_lt, refl, sym, ap, subst, ◌∙◌, arith, lit<}
use Rattle.std.specs.Prelude.{Contains, flat_map, nat_eq, replicate, if◌then◌else◌}
use Rattle.std.specs.List.{filter_map, list_any, range_with_len}
use Rattle.std.specs.Option.{is_some, option_and_then, option_map, option_or, unwrap_or}
use Rattle.std.proofs.Math.Nat.{mod-lt, mod-eq_of_lt, add-mod_right, div-add-mod}
use Rattle.std.proofs.lemmas.Bool.{and_parts, cases_lt, eqb-true, ltb-true}
use Rattle.std.proofs.lemmas.Bool.Decides.{nat_tests}
use Rattle.std.proofs.lemmas.List.{length-replicate}
use Rattle.std.proofs.lemmas.List.Folds.{list_any-append}
use Rattle.std.proofs.lemmas.List.FromFn.{get_or-range_with_len, length-map-range_with_len, length-range_with_len}
use Rattle.std.proofs.lemmas.Option.{slice_get_within, get_or_from_slice_get}
use Rattle.rw_base.specs.Width.{sign_extended}
use Rattle.rw_words.specs.declared.atom.Atom.{Atom}
use Rattle.rw_words.specs.declared.atom.Atom.TheVariants.{Ptr, Code, Import, Diff}
use Rattle.rw_words.specs.declared.atom.Atom.TheVariants as atom
use Rattle.rw_words.specs.declared.atom.Cell.{Cell}
use Rattle.rw_words.specs.declared.atom.Cell.TheVariants.{Num, Part, Undef}
use Rattle.rw_words.specs.Words.{same_atom}
use Rattle.rw_domain.specs.LaidOut.{KnownCell, KnownCells}
use Rattle.rw_elf.specs.declared.section.Section.{Section}
use Rattle.rw_elf.specs.Places.{Covers, bytes_at}
use Rattle.rw_elf.specs.Sections.{is_placed}
use Rattle.rw_elf.proofs.Limits.{placed_below}
use Rattle.rw_domain.specs.declared.place.Region.{Region}
use Rattle.rw_funcs.specs.Functions.{its_section}
use Rattle.rw_elf.specs.Tables.{kept_sections}
use Rattle.rw_reloc.specs.declared.slot.Slot.{Slot}
use Rattle.rw_reloc.specs.declared.slot.Target.{Target}
use Rattle.rw_reloc.specs.declared.slot.Target.TheVariants as target
use Rattle.rw_reloc.specs.Slots.{copies_of, copy_around, slot_around, slots_of}
use Rattle.rw_reloc.specs.Targets.{target_size}
use Rattle.rw_funcs.specs.Points.{file_points, is_point}
use Rattle.rw_tables.specs.declared.table.Table.{Table}
use Rattle.rw_tables.specs.Tables.{end_of, entry_at, entry_of, has_word, tables_of, target_at, word_at, word_target}
use Rattle.rw_tables.proofs.Picked.{given-by}
use Rattle.rw_data.specs.FirstCells.{atom_in, byte_in, byte_of_word, cell_at, distance_at, slot_cell, table_around, word_cell, word_cell_at}
use Rattle.rw_data.specs.Regions.{copy_cells, start_cell, start_cells, start_contents}
use Rattle.rw_data.specs.Words.{IsWord}
use Rattle.rw_data.proofs.Around.{slot-around-from, table-around-from}
use Rattle.rw_data.proofs.Clean.{IsClean, is-kept}
use Rattle.rw_data.proofs.Good.{table-in, table-section}
use Rattle.rw_data.proofs.Words.{is-word, word-distance}
use Rattle.rw_code.specs.Ground.{Ground, copied_region, distance_in, ground_of, kept_region, places_of}
use Rattle.rw_code.specs.Known.{has_address}
use Rattle.rw_code.specs.File.{labels_of}
use Rattle.rw_code.specs.Fits.{FitsFile, IsShort}
use Rattle.rw_code.proofs.Clean.{are-functions}
use Rattle.rw_code.proofs.Points.{point-inside}
use Rattle.rw_code.proofs.References.{IsAtomOf, atom-known, found, import-known, slot-imported}

-- ---- lists

module _ {A B : Type 0} (p : B → Bool) (f : A → List B) where
  -- what passes in a list of lists passes in one of them, and back
  any-from : (xs : List A) → list_any p (flat_map f xs) ≡ true → (x : A) × Contains xs x × (list_any p (f x) ≡ true)
  any-from [] h = absurd cc
  any-from (x ∷ xs) h = by (list_any p (f x)) refl (sym (list_any-append p (f x) (flat_map f xs)) ∙ h) (any-from xs)
    where
      by : (t : Bool) → list_any p (f x) ≡ t → (list_any p (f x) || list_any p (flat_map f xs)) ≡ true → (list_any p (flat_map f xs) ≡ true → (y : A) × Contains xs y × (list_any p (f y) ≡ true))
          → (y : A) × Contains (x ∷ xs) y × (list_any p (f y) ≡ true)
      by true e g rest = (x, (0, omega arith, refl), e)
      by false e g rest =
          let later = rest (sym (ap (λ t. t || list_any p (flat_map f xs)) e) ∙ g) in
          (later.0, (suc later.1.0, (let low = later.1.1 in omega (arith, low)), later.1.2), later.2)

  any-into : (xs : List A) (x : A) (i : ℕ) → i < length xs → get_or xs i x ≡ x → list_any p (f x) ≡ true → list_any p (flat_map f xs) ≡ true
  any-into [] x i low e h = absurd (omega (arith, low))
  any-into (y ∷ ys) x zero low e h = list_any-append p (f y) (flat_map f ys) ∙ ap (λ z. list_any p (f z) || list_any p (flat_map f ys)) e ∙ ap (λ t. t || list_any p (flat_map f ys)) h
  any-into (y ∷ ys) x (suc i) low e h = list_any-append p (f y) (flat_map f ys) ∙ ap (λ t. list_any p (f y) || t) (any-into ys x i (omega (arith, low)) e h) ∙ or-true (list_any p (f y))
    where
      or-true : (t : Bool) → (t || true) ≡ true
      or-true true = refl
      or-true false = refl

-- an item of a list of images is one of an item
record IsImage {A B : Type 0} (g : A → B) (xs : List A) (y : B) : Type 0 where
  item : A
  listed : Contains xs item
  image : g item ≡ y

image-at : {A B : Type 0} (g : A → B) (xs : List A) (y : B) (k : ℕ) → k < length (map g xs) → get_or (map g xs) k y ≡ y → IsImage g xs y
image-at g [] y k low e = absurd (omega (arith, low))
image-at g (x ∷ xs) y zero low e = record { item = x; listed = (0, omega arith, refl); image = e }
image-at g (x ∷ xs) y (suc k) low e =
    let rest = image-at g xs y k (omega (arith, low)) e in
    let at = rest.listed in
    record { item = rest.item; listed = (suc at.0, (let small = at.1 in omega (arith, small)), at.2); image = rest.image }

range-within : (a n k : ℕ) → Contains (range_with_len a n) k → (a ≤ k) × (k < a + n)
range-within a n k at =
    let size = length-range_with_len a n in
    let low : at.0 < n = (let small = at.1 in omega (arith, small, size)) in
    let place : a + at.0 ≡ k = sym (get_or-range_with_len a n at.0 k low) ∙ at.2 in
    (omega (arith, place), omega (arith, place, low))

either-list : {A : Type 0} (xs ys : List A) (z : A) (k : ℕ) → k < length (xs ++ ys) → get_or (xs ++ ys) k z ≡ z → Contains xs z ⊎ Contains ys z
either-list [] ys z k low e = inr (k, low, e)
either-list (x ∷ xs) ys z zero low e = inl (0, omega arith, e)
either-list (x ∷ xs) ys z (suc k) low e = by (either-list xs ys z k (omega (arith, low)) e)
  where
    by : Contains xs z ⊎ Contains ys z → Contains (x ∷ xs) z ⊎ Contains ys z
    by (inl at) = inl (suc at.0, (let small = at.1 in omega (arith, small)), at.2)
    by (inr at) = inr at

cells-known : (known : Atom → Bool) (cells : List Cell) → ((c : Cell) → Contains cells c → KnownCell known c) → KnownCells known cells
cells-known known [] each = tt
cells-known known (c ∷ cells) each = (each c (0, omega arith, refl), cells-known known cells (λ d at. each d (suc at.0, (let small = at.1 in omega (arith, small)), at.2)))

some-same : {A : Type 0} (x y : A) → ◌≡◌ {A = Option A} (Some x) (Some y) → x ≡ y
some-same x y e = cc

-- ---- one atom

same-is : (c r o d q p : ℕ) → same_atom (Diff d q p) (Diff c r o) ≡ true → (d ≡ c) × (q ≡ r) × (p ≡ o)
same-is c r o d q p h =
    let first = and_parts (nat_eq d c) (nat_eq q r && nat_eq p o) h in
    let second = and_parts (nat_eq q r) (nat_eq p o) first.1 in
    (eqb-true d c first.0, eqb-true q r second.0, eqb-true p o second.1)

same-self : (c r o : ℕ) → same_atom (Diff c r o) (Diff c r o) ≡ true
same-self c r o = grind (arith, nat_tests)

-- ---- the cells of a section

-- a word of a jump table, and what it holds
pub record IsTableWord (file : List ℕ) (x : Atom) : Type 0 where
  pub table : Table
  pub number : ℕ
  pub listed : Contains (tables_of file) table
  pub low : number < table.count
  pub word : IsWord file table number
  pub atom_is : Diff word.point word.region word.offset ≡ x

-- what a cell of a section can be
data IsStartCell (file : List ℕ) (c : Cell) : Type 0 where
  Plain : ((known : Atom → Bool) → KnownCell known c) → distance_in c ≡ [] → IsStartCell file c
  InSlot : (slot : Slot) (x : Atom) (i : ℕ) → Contains (slots_of file) slot → atom_in file slot.target ≡ Some x → Part x i ≡ c → IsStartCell file c
  InWord : (x : Atom) (i : ℕ) → IsTableWord file x → Part x i ≡ c → IsStartCell file c

module _ (file : List ℕ) (clean : IsClean file) where
  module _ (s : Section) (here : Contains (kept_sections file) s) (a : ℕ) (on : Covers a s) where
    word-start : (t : Table) → t.base ≤ a → a - byte_of_word a t ≡ t.base + 4 * ((a - t.base) / 4)
    word-start t low = let parts = div-add-mod (a - t.base) 4 in omega (arith, parts, low)

    start-is : IsStartCell file (start_cell file s a)
    unfolding cell_at
    start-is = by-copy (is_some (copy_around file a))
      where
        plain : (n : ℕ) → IsStartCell file (Num n)
        plain n = Plain (λ known. tt) refl

        by-atom : (t : Table) → Contains (tables_of file) t → t.base ≤ a → a < end_of t → (o : Option Atom) → distance_at file (a - byte_of_word a t) ≡ o → IsStartCell file (unwrap_or (option_map (λ x. Part x (byte_of_word a t)) o) (Num (byte_in file s a)))
        by-atom t listed low high None e = plain (byte_in file s a)
        by-atom t listed low high (Some x) e =
            let k = (a - t.base) / 4 in
            let parts = div-add-mod (a - t.base) 4 in
            let within : k < t.count = omega (arith, parts, low, high) in
            let base = (table-in file s t a clean here on listed low high).1 in
            let w = is-word file s t k clean here base listed within in
            let is : Some (Diff w.point w.region w.offset) ≡ Some x = sym (word-distance file t k w) ∙ ap (distance_at file) (sym (word-start t low)) ∙ e in
            InWord x (byte_of_word a t) (record { table = t; number = k; listed = listed; low = within; word = w; atom_is = some-same (Diff w.point w.region w.offset) x is }) refl

        by-table : (o : Option Table) → table_around file a ≡ o → IsStartCell file (unwrap_or (option_and_then (word_cell file a) o) (Num (byte_in file s a)))
        by-table None e = plain (byte_in file s a)
        by-table (Some t) e = let from = table-around-from file a t e in by-atom t from.0 from.1 from.2 (distance_at file (a - byte_of_word a t)) refl

        by-held : (t : Slot) → Contains (slots_of file) t → (o : Option Atom) → atom_in file t.target ≡ o → IsStartCell file (unwrap_or (option_or (option_map (λ x. Part x (a - t.address)) o) (word_cell_at file a)) (Num (byte_in file s a)))
        by-held t listed None e = by-table (table_around file a) refl
        by-held t listed (Some x) e = InSlot t x (a - t.address) listed e refl

        by-slot : (o : Option Slot) → slot_around (slots_of file) a ≡ o → IsStartCell file (unwrap_or (option_or (option_and_then (slot_cell file a) o) (word_cell_at file a)) (Num (byte_in file s a)))
        by-slot None e = by-table (table_around file a) refl
        by-slot (Some t) e = by-held t (slot-around-from (slots_of file) a t e).0 (atom_in file t.target) refl

        by-copy : (t : Bool) → IsStartCell file (if t then Undef else cell_at file s a)
        by-copy true = Plain (λ known. tt) refl
        by-copy false = by-slot (slot_around (slots_of file) a) refl

  -- ---- the ground

  abbrev its_ground : Ground
  its_ground = ground_of file (start_contents file)

  abbrev its_atoms : Atom → Bool
  its_atoms = has_address (labels_of file (ground_of file (start_contents file)))

  -- a word of a table among the contents is known
  distance-known : (row : List Cell) (c r o i : ℕ) → Contains (start_contents file) row → Contains row (Part (Diff c r o) i) → has_address (labels_of file (ground_of file (start_contents file))) (Diff c r o) ≡ true
  distance-known row c r o i at inside =
      let p : Atom → Bool = λ d. same_atom d (Diff c r o) in
      let here : list_any (λ d. same_atom d (Diff c r o)) (distance_in (Part (Diff c r o) i)) ≡ true = ap (λ t. t || false) (same-self c r o) in
      any-into (λ d. same_atom d (Diff c r o)) (flat_map distance_in) (start_contents file) row at.0 at.1 at.2
      (any-into (λ d. same_atom d (Diff c r o)) distance_in row (Part (Diff c r o) i) inside.0 inside.1 inside.2 here)

  held-known : (t : Slot) (x : Atom) → Contains (slots_of file) t → atom_in file t.target ≡ Some x → has_address (labels_of file (ground_of file (start_contents file))) x ≡ true
  held-known t x listed e = by t.target refl e
    where
      by : (u : Target) → t.target ≡ u → atom_in file u ≡ Some x → has_address (labels_of file (ground_of file (start_contents file))) x ≡ true
      by (target.To b) same h = atom-known file (ground_of file (start_contents file)) b x (found file b false x h)
      by (target.Import i) same h =
          subst (λ y. has_address (labels_of file (ground_of file (start_contents file))) y ≡ true) (some-same (Import i) x h)
          (import-known file (ground_of file (start_contents file)) i (slot-imported file t i listed same))
      by (target.Copy i size) same h = cc

  cell-known : (row : List Cell) (s : Section) (c : Cell) → Contains (start_contents file) row → Contains row c → IsStartCell file c → KnownCell (has_address (labels_of file (ground_of file (start_contents file)))) c
  cell-known row s c at inside (Plain known none) = known (has_address (labels_of file (ground_of file (start_contents file))))
  cell-known row s c at inside (InSlot t x i listed held same) = subst (KnownCell (has_address (labels_of file (ground_of file (start_contents file))))) same (held-known t x listed held)
  cell-known row s c at inside (InWord x i w same) =
      subst (KnownCell (has_address (labels_of file (ground_of file (start_contents file))))) same
      (subst (λ y. has_address (labels_of file (ground_of file (start_contents file))) y ≡ true) w.atom_is
      (distance-known row w.word.point w.word.region w.word.offset i at (subst (Contains row) (sym (ap (λ y. Part y i) w.atom_is ∙ same)) inside)))

  -- a cell of a section
  section-cell : (s : Section) → Contains (kept_sections file) s → (c : Cell) → Contains (start_cells file s) c → IsStartCell file c
  unfolding start_cells
  section-cell s here c at =
      let from = image-at (start_cell file s) (range_with_len s.addr s.size) c at.0 at.1 at.2 in
      subst (IsStartCell file) from.image (start-is s here from.item (range-within s.addr s.size from.item from.listed))

  section-known : (s : Section) → Contains (kept_sections file) s → Contains (start_contents file) (start_cells file s) → KnownCells (has_address (labels_of file (ground_of file (start_contents file)))) (start_cells file s)
  section-known s here at =
      cells-known (has_address (labels_of file (ground_of file (start_contents file)))) (start_cells file s) (λ c inside. cell-known (start_cells file s) s c at inside (section-cell s here c inside))

  undefined-known : (known : Atom → Bool) (n : ℕ) → KnownCells known (replicate n Undef)
  undefined-known known zero = tt
  undefined-known known (suc n) = (tt, undefined-known known n)

  contents-known : All (KnownCells (has_address (labels_of file (ground_of file (start_contents file))))) (start_contents file)
  contents-known k d within =
      by (either-list (map (start_cells file) (kept_sections file)) (map copy_cells (copies_of file)) (get_or (start_contents file) k d) k within (same-place (start_contents file) k d within))
    where
      same-place : (xs : List (List Cell)) (k : ℕ) (d : List Cell) → k < length xs → get_or xs k (get_or xs k d) ≡ get_or xs k d
      same-place [] k d low = absurd (omega (arith, low))
      same-place (x ∷ xs) zero d low = refl
      same-place (x ∷ xs) (suc k) d low = same-place xs k d (omega (arith, low))

      here : Contains (start_contents file) (get_or (start_contents file) k d)
      here = (k, within, same-place (start_contents file) k d within)

      by : Contains (map (start_cells file) (kept_sections file)) (get_or (start_contents file) k d) ⊎ Contains (map copy_cells (copies_of file)) (get_or (start_contents file) k d)
          → KnownCells (has_address (labels_of file (ground_of file (start_contents file)))) (get_or (start_contents file) k d)
      by (inl at) =
          let from = image-at (start_cells file) (kept_sections file) (get_or (start_contents file) k d) at.0 at.1 at.2 in
          subst (KnownCells (has_address (labels_of file (ground_of file (start_contents file))))) from.image
          (section-known from.item from.listed (subst (Contains (start_contents file)) (sym from.image) here))
      by (inr at) =
          let from = image-at copy_cells (copies_of file) (get_or (start_contents file) k d) at.0 at.1 at.2 in
          subst (KnownCells (has_address (labels_of file (ground_of file (start_contents file))))) from.image (undefined-known (has_address (labels_of file (ground_of file (start_contents file)))) (target_size from.item.target))

  -- ---- distances

  no-distance : (t : Slot) (x : Atom) (i : ℕ) → atom_in file t.target ≡ Some x → distance_in (Part x i) ≡ []
  no-distance t x i e = by t.target e
    where
      held : (b : ℕ) (y : Atom) → IsAtomOf file b y → distance_in (Part y i) ≡ []
      held b (Ptr r o) h = refl
      held b (Code c) h = refl
      held b (Import j) h = refl
      held b (atom.Past c) h = refl
      held b atom.End h = refl
      held b (Diff c r o) h = absurd h

      by : (u : Target) → atom_in file u ≡ Some x → distance_in (Part x i) ≡ []
      by (target.To b) h = held b x (found file b false x h)
      by (target.Import j) h = ap (λ y. distance_in (Part y i)) (sym (some-same (Import j) x h))
      by (target.Copy j size) h = cc

  undefined-none : (n : ℕ) → flat_map distance_in (replicate n Undef) ≡ []
  undefined-none zero = refl
  undefined-none (suc n) = undefined-none n

  word-of-cell : (c r o : ℕ) (cell : Cell) → IsStartCell file cell → list_any (λ d. same_atom d (Diff c r o)) (distance_in cell) ≡ true → IsTableWord file (Diff c r o)
  word-of-cell c r o cell (Plain known none) h = absurd (let fails : false ≡ true = ap (list_any (λ d. same_atom d (Diff c r o))) (sym none) ∙ h in cc)
  word-of-cell c r o cell (InSlot t x i listed held same) h =
      absurd (let fails : false ≡ true = ap (list_any (λ d. same_atom d (Diff c r o))) (sym (no-distance t x i held) ∙ ap distance_in same) ∙ h in cc)
  word-of-cell c r o cell (InWord x i w same) h =
      let point = w.word.point in
      let is : (same_atom (Diff w.word.point w.word.region w.word.offset) (Diff c r o) || false) ≡ true = ap (λ z. list_any (λ d. same_atom d (Diff c r o)) (distance_in z)) (ap (λ y. Part y i) w.atom_is ∙ same) ∙ h in
      let all = same-is c r o w.word.point w.word.region w.word.offset (first (same_atom (Diff w.word.point w.word.region w.word.offset) (Diff c r o)) is) in
      record {
        table = w.table;
        number = w.number;
        listed = w.listed;
        low = w.low;
        word = w.word;
        atom_is = ap (λ z. Diff z w.word.region w.word.offset) all.0 ∙ ap (λ z. Diff c z w.word.offset) all.1 ∙ ap (λ z. Diff c r z) all.2;
      }
    where
      first : (t : Bool) → (t || false) ≡ true → t ≡ true
      first true g = refl
      first false g = g

  -- each known distance is that of a word of a table
  pub distance-from : (c r o : ℕ) → has_address (labels_of file (ground_of file (start_contents file))) (Diff c r o) ≡ true → IsTableWord file (Diff c r o)
  distance-from c r o h =
      let p : Atom → Bool = λ d. same_atom d (Diff c r o) in
      let row = any-from (λ d. same_atom d (Diff c r o)) (flat_map distance_in) (start_contents file) h in
      by row.0 row.2 (either-list (map (start_cells file) (kept_sections file)) (map copy_cells (copies_of file)) row.0 row.1.0 row.1.1 row.1.2)
    where
      by : (row : List Cell) → list_any (λ d. same_atom d (Diff c r o)) (flat_map distance_in row) ≡ true → Contains (map (start_cells file) (kept_sections file)) row ⊎ Contains (map copy_cells (copies_of file)) row → IsTableWord file (Diff c r o)
      by row g (inl at) =
          let from = image-at (start_cells file) (kept_sections file) row at.0 at.1 at.2 in
          let cell = any-from (λ d. same_atom d (Diff c r o)) distance_in row g in
          word-of-cell c r o cell.0 (section-cell from.item from.listed cell.0 (subst (λ xs. Contains xs cell.0) (sym from.image) cell.1)) cell.2
      by row g (inr at) =
          let from = image-at copy_cells (copies_of file) row at.0 at.1 at.2 in
          absurd (let fails : false ≡ true = ap (list_any (λ d. same_atom d (Diff c r o))) (sym (undefined-none (target_size from.item.target)) ∙ ap (flat_map distance_in) from.image) ∙ g in cc)

  -- ---- they are short

  signed-bounds : (v : ℕ) → (sign_extended 32 v < 2 ^ 31) ⊎ ((2 ^ 64 - 2 ^ 31 ≤ sign_extended 32 v) × (sign_extended 32 v < 2 ^ 64))
  signed-bounds v = by (nat_lt (v % 2 ^ 32) (2 ^ 31)) refl
    where
      by : (t : Bool) → nat_lt (v % 2 ^ 32) (2 ^ 31) ≡ t → ((if t then v % 2 ^ 32 else v % 2 ^ 32 + (2 ^ 64 - 2 ^ 32)) < 2 ^ 31) ⊎ ((2 ^ 64 - 2 ^ 31 ≤ (if t then v % 2 ^ 32 else v % 2 ^ 32 + (2 ^ 64 - 2 ^ 32))) × ((if t then v % 2 ^ 32 else v % 2 ^ 32 + (2 ^ 64 - 2 ^ 32)) < 2 ^ 64))
      by true e = inl (ltb-true (v % 2 ^ 32) (2 ^ 31) e)
      by false e =
          let past : 2 ^ 31 ≤ v % 2 ^ 32 = not-below (v % 2 ^ 32) (2 ^ 31) e in
          let small : v % 2 ^ 32 < 2 ^ 32 = mod-lt v (lit< tt) in
          inr (omega (arith, past), omega (arith, small))
        where
          not-below : (a b : ℕ) → nat_lt a b ≡ false → b ≤ a
          not-below a b h = grind (arith, nat_tests)

  -- a sum modulo 2 ^ 64 of a low address and a signed distance, which is low again
  near-sum : (base v c : ℕ) → base ≤ 2 ^ 47 → c ≤ 2 ^ 47 → (base + sign_extended 32 v) % 2 ^ 64 ≡ c → (base ≤ c + 2 ^ 31) × (c < base + 2 ^ 31)
  near-sum base v c low small e = by (signed-bounds v)
    where
      d : ℕ
      d = sign_extended 32 v

      by : (sign_extended 32 v < 2 ^ 31) ⊎ ((2 ^ 64 - 2 ^ 31 ≤ sign_extended 32 v) × (sign_extended 32 v < 2 ^ 64)) → (base ≤ c + 2 ^ 31) × (c < base + 2 ^ 31)
      by (inl up) =
          let sum : (base + sign_extended 32 v) % 2 ^ 64 ≡ base + sign_extended 32 v = mod-eq_of_lt (omega (arith, up, low)) in
          (omega (arith, sum, e, up), omega (arith, sum, e, up))
      by (inr down) = wraps (cases_lt (base + sign_extended 32 v) (2 ^ 64))
        where
          wraps : (base + sign_extended 32 v < 2 ^ 64) ⊎ (2 ^ 64 ≤ base + sign_extended 32 v) → (base ≤ c + 2 ^ 31) × (c < base + 2 ^ 31)
          wraps (inl less) =
              let sum : (base + sign_extended 32 v) % 2 ^ 64 ≡ base + sign_extended 32 v = mod-eq_of_lt less in
              let far = down.0 in
              absurd (omega (arith, sum, e, far, small))
          wraps (inr more) =
              let far = down.0 in
              let less = down.1 in
              let parts : base + sign_extended 32 v ≡ (base + sign_extended 32 v - 2 ^ 64) + 2 ^ 64 = omega (arith, more) in
              let sum : (base + sign_extended 32 v) % 2 ^ 64 ≡ base + sign_extended 32 v - 2 ^ 64 =
              ap (λ n. n % 2 ^ 64) parts ∙ add-mod_right (base + sign_extended 32 v - 2 ^ 64) (2 ^ 64) ∙ mod-eq_of_lt (omega (arith, low, less)) in
              (omega (arith, sum, e, far, more), omega (arith, sum, e, less, more))

  -- where a word of a table leads
  word-leads : (t : Table) (k : ℕ) (w : IsWord file t k) → target_at file t.base (t.base + 4 * k) ≡ Some w.point
  unfolding entry_at
  word-leads t k w =
      let a = t.base + 4 * k in
      let list = filter_map (word_at file (t.base + 4 * k)) (tables_of file) in
      let at : Contains (filter_map (word_at file (t.base + 4 * k)) (tables_of file)) (w.point, t.base) =
      (0, slice_get_within (filter_map (word_at file (t.base + 4 * k)) (tables_of file)) 0 (w.point, t.base) w.leads_to, get_or_from_slice_get (filter_map (word_at file (t.base + 4 * k)) (tables_of file)) 0 (w.point, t.base) (w.point, t.base) w.leads_to) in
      let g = given-by (word_at file (t.base + 4 * k)) (tables_of file) (w.point, t.base) at in
      by g.item (has_word (t.base + 4 * k) g.item) (target_at file g.item.base (t.base + 4 * k)) refl g.given
    where
      by : (u : Table) (b : Bool) (o : Option ℕ) → target_at file u.base (t.base + 4 * k) ≡ o → (if b then option_map (entry_of u.base) o else None) ≡ Some (w.point, t.base) → target_at file t.base (t.base + 4 * k) ≡ Some w.point
      by u false o e h = cc
      by u true None e h = cc
      by u true (Some c) e h =
          let pair : (c, u.base) ≡ (w.point, t.base) = some-same (c, u.base) (w.point, t.base) h in
          let point : c ≡ w.point = ap (λ (x : ℕ × ℕ). x.0) pair in
          let base : u.base ≡ t.base = ap (λ (x : ℕ × ℕ). x.1) pair in
          ap (λ b. target_at file b (t.base + 4 * k)) (sym base) ∙ e ∙ ap (λ z. Some z) point

  point-low : (c : ℕ) → is_point (file_points file) c ≡ true → c ≤ 2 ^ 47
  point-low c h =
      let functions = are-functions file clean.elf clean.functions clean.points in
      let point = point-inside file functions c h in
      let is = point.2 in
      let f = is.function in
      let function = functions.each is.function is.one_of in
      let most = placed_below file (its_section file is.function) clean.elf function.one_of (and_parts (is_placed (its_section file is.function)) _ function.code).0 in
      let place = is.place in
      let some = is.some in
      let inside = is.most in
      let ends = function.ends in
      omega (arith, place, some, inside, ends, most)

  target-near : (base c : ℕ) → base ≤ 2 ^ 47 → c ≤ 2 ^ 47 → (a : ℕ) → target_at file base a ≡ Some c → (base ≤ c + 2 ^ 31) × (c < base + 2 ^ 31)
  target-near base c low small a e = by (bytes_at file a 4) e
    where
      by : (o : Option (List ℕ)) → option_map (word_target base) o ≡ Some c → (base ≤ c + 2 ^ 31) × (c < base + 2 ^ 31)
      by None h = cc
      by (Some word) h = near-sum base _ c low small (some-same (word_target base word) c h)

  word-short : (x : Atom) (w : IsTableWord file x) → IsShort (places_of file) w.word.point w.word.region w.word.offset
  word-short x w =
      let section = table-section file w.table clean w.listed in
      let kept = is-kept file section.0 clean.elf section.1 in
      let low = kept.low in
      let on = section.2.1 in
      let near = target-near w.table.base w.word.point (omega (arith, low, on)) (point-low w.word.point w.word.is_one) (w.table.base + 4 * w.number) (word-leads w.table w.number w.word) in
      let place = found file w.table.base false (Ptr w.word.region w.word.offset) w.word.base_is in
      let same = place.same in
      let first = near.0 in
      let second = near.1 in
      record { place = place.place; is_there = place.is_there; above = omega (arith, same, first); below = omega (arith, same, second) }

  -- ---- all

  -- of a distance: the instruction is a point, and the distance is short
  abbrev IsMet : Atom → Type 0
  IsMet (Diff c r o) = is_point (file_points file) c ≡ true
  IsMet _ = Unit {0}

  abbrev IsShortAtom : Atom → Type 0
  IsShortAtom (Diff c r o) = IsShort (places_of file) c r o
  IsShortAtom _ = Unit {0}

  sizes-are : {A B : Type 0} (f : A → List Cell) (g : A → Region) (xs : List A) (u : B → List Cell) (v : B → Region) (ys : List B)
      → ((x : A) → length (f x) ≡ (g x).size) → ((y : B) → length (u y) ≡ (v y).size) → map length (map f xs ++ map u ys) ≡ map (λ r. r.size) (map g xs ++ map v ys)
  sizes-are f g [] u v [] h k = refl
  sizes-are f g [] u v (y ∷ ys) h k = ap (λ n. n ∷ map length (map u ys)) (k y) ∙ ap (λ ns. (v y).size ∷ ns) (sizes-are f g [] u v ys h k)
  sizes-are f g (x ∷ xs) u v ys h k = ap (λ n. n ∷ map length (map f xs ++ map u ys)) (h x) ∙ ap (λ ns. (g x).size ∷ ns) (sizes-are f g xs u v ys h k)

  pub start-length : (s : Section) → length (start_cells file s) ≡ s.size
  unfolding start_cells
  start-length s = length-map-range_with_len (start_cell file s) s.addr s.size

  pub file-fits : FitsFile file (ground_of file (start_contents file))
  file-fits = record {
    is_ground = refl;
    sizes = sizes-are (start_cells file) kept_region (kept_sections file) copy_cells copied_region (copies_of file) start-length (λ c. length-replicate (target_size c.target) Undef);
    atoms = contents-known;
    met = λ c r o h. (let w = distance-from c r o h in subst IsMet w.atom_is w.word.is_one);
    short = λ c r o h. (let w = distance-from c r o h in subst IsShortAtom w.atom_is (word-short (Diff c r o) w));
  }
