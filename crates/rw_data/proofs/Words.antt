-- The words of the jump tables of a file: each is the distance of a point from the base of its table.
use Rattle.std.proofs.Common.{◌≡◌, ℕ, ◌+◌, ◌-◌, ◌*◌, ◌<◌, ◌≤◌, ◌==◌, true, false, cond, List, length, get_or, Option, Some, None, Contains, refl, sym, ap, ◌∙◌, arith}
use Rattle.std.specs.Prelude.{option_map, option_and_then}
use Rattle.std.specs.List.{position, range_with_len}
use Rattle.std.specs.Option.{option_map_or, option_or}
use Rattle.std.proofs.lemmas.Bool.Decides.{nat_tests}
use Rattle.std.proofs.lemmas.List.Folds.{list_any_at, list_any_none}
use Rattle.std.proofs.lemmas.List.FromFn.{get_or-range_with_len, length-range_with_len}
use Rattle.rw_words.specs.declared.atom.Atom.{Atom}
use Rattle.rw_words.specs.declared.atom.Atom.TheVariants.{Diff, Ptr}
use Rattle.rw_elf.specs.declared.section.Section.{Section}
use Rattle.rw_elf.specs.Places.{Covers, kept_around, spans}
use Rattle.rw_elf.specs.Tables.{kept_sections}
use Rattle.rw_elf.proofs.Search.{position-never}
use Rattle.rw_reloc.specs.Slots.{copies_of, copy_around}
use Rattle.rw_funcs.specs.Points.{file_points, is_point}
use Rattle.rw_tables.specs.declared.table.Table.{Table}
use Rattle.rw_tables.specs.Tables.{EndsBefore, end_of, entry_at, entry_of, has_word, leads, tables_of, target_at, word_at}
use Rattle.rw_tables.proofs.GoodTables.{table-good, tables-follow}
use Rattle.rw_tables.proofs.KnownMore.{all-each}
use Rattle.rw_tables.proofs.Picked.{first-given}
use Rattle.rw_refs.specs.References.{copy_at, end_at, import_through, inside_at, offset_in, point_at, reference_at, start_at, starts_at}
use Rattle.rw_data.specs.FirstCells.{distance_at, distance_from}
use Rattle.rw_data.specs.Words.{IsWord}
use Rattle.rw_data.proofs.Clean.{IsClean}

-- ---- a place in data

-- what comes first of places that are in data
some-first : (c s i : Option Atom) (rest : Option Atom) → ((x : Atom) → c ≡ Some x → (r : ℕ) × (o : ℕ) × (x ≡ Ptr r o)) → ((x : Atom) → s ≡ Some x → (r : ℕ) × (o : ℕ) × (x ≡ Ptr r o)) → (r : ℕ) × (o : ℕ) × (i ≡ Some (Ptr r o)) → (r : ℕ) × (o : ℕ) × (option_or c (option_or s (option_or i rest)) ≡ Some (Ptr r o))
some-first (Some x) s i rest hc hs hi = let p = hc x refl in (p.0, p.1, ap Some p.2)
some-first None (Some x) i rest hc hs hi = let p = hs x refl in (p.0, p.1, ap Some p.2)
some-first None None i rest hc hs hi = (hi.0, hi.1, ap (λ o. option_or o rest) hi.2)

pointer : (f : ℕ → ℕ) (g : ℕ → ℕ) (o : Option ℕ) (x : Atom) → option_map (λ k. Ptr (f k) (g k)) o ≡ Some x → (r : ℕ) × (p : ℕ) × (x ≡ Ptr r p)
pointer f g None x is = absurd (cc)
pointer f g (Some k) x is = let same : Ptr (f k) (g k) ≡ x = cc in (f k, g k, sym same)

covers-spans : (a : ℕ) (s : Section) → Covers a s → spans a s ≡ true
covers-spans a s on = grind (arith, nat_tests)

around-some : (bytes : List ℕ) (a : ℕ) (s : Section) → Contains (kept_sections bytes) s → Covers a s → kept_around bytes a ≡ None → ⊥
unfolding kept_around
around-some bytes a s here on none =
    let off : spans a (get_or (kept_sections bytes) here.0 s) ≡ false = position-never (spans a) (kept_sections bytes) here.0 s none here.1 in
    let same : spans a (get_or (kept_sections bytes) here.0 s) ≡ spans a s = ap (spans a) here.2 in
    let passes = covers-spans a s on in
    absurd (cc)

inside-pointer : (bytes : List ℕ) (a : ℕ) (s : Section) → Contains (kept_sections bytes) s → Covers a s → (r : ℕ) × (o : ℕ) × (inside_at bytes a ≡ Some (Ptr r o))
inside-pointer bytes a s here on = by_around (kept_around bytes a) refl
  where
    by_around : (k : Option ℕ) → kept_around bytes a ≡ k → (r : ℕ) × (o : ℕ) × (option_map (λ n. Ptr n (offset_in (kept_sections bytes) (λ (u : Section). a - u.addr) n)) k ≡ Some (Ptr r o))
    by_around None is = absurd (around-some bytes a s here on is)
    by_around (Some k) is = (k, offset_in (kept_sections bytes) (λ (u : Section). a - u.addr) k, refl)

-- the reference of an address of a kept section is a pointer
pub kept-pointer : (bytes : List ℕ) (a : ℕ) (s : Section) → Contains (kept_sections bytes) s → Covers a s → (r : ℕ) × (o : ℕ) × (reference_at bytes a ≡ Some (Ptr r o))
unfolding reference_at
kept-pointer bytes a s here on =
    some-first (copy_at bytes a) (start_at bytes a) (inside_at bytes a) (option_or (end_at bytes a) (option_or (point_at bytes a) (option_or (import_through bytes a) None)))
    (λ x is. pointer (λ k. length (kept_sections bytes) + k) (λ k. offset_in (copies_of bytes) (λ s. a - s.address) k) (copy_around bytes a) x is)
    (λ x is. pointer (λ k. k) (λ k. 0) (position (starts_at a) (kept_sections bytes)) x is)
    (inside-pointer bytes a s here on)

-- ---- a word

has-word : (t : Table) (k : ℕ) → k < t.count → has_word (t.base + 4 * k) t ≡ true
has-word t k low =
    let within : k < length (range_with_len 0 t.count) = omega (arith, length-range_with_len 0 t.count) in
    let none : 0 + k ≡ k = omega arith in
    let place : get_or (range_with_len 0 t.count) k 0 ≡ k = get_or-range_with_len 0 t.count k 0 low ∙ none in
    list_any_at (λ j. t.base + 4 * j == t.base + 4 * k) (range_with_len 0 t.count) k 0 within (ap (λ j. t.base + 4 * j == t.base + 4 * k) place ∙ same (t.base + 4 * k))
  where
    same : (n : ℕ) → (n == n) ≡ true
    same n = grind (arith, nat_tests)

has-no_word : (t : Table) (a : ℕ) → end_of t ≤ a → has_word a t ≡ false
has-no_word t a past =
    list_any_none (λ j. t.base + 4 * j == a) (range_with_len 0 t.count) (λ j d within.
    let size = length-range_with_len 0 t.count in
    let place : get_or (range_with_len 0 t.count) j d ≡ 0 + j = get_or-range_with_len 0 t.count j d (omega arith) in
    differ (t.base + 4 * get_or (range_with_len 0 t.count) j d) a (omega arith))
  where
    differ : (m n : ℕ) → m < n → (m == n) ≡ false
    differ m n low = grind (arith, nat_tests)

-- its entry is that of its table
entry-is : (bytes : List ℕ) (t : Table) (k c : ℕ) → IsClean bytes → Contains (tables_of bytes) t → k < t.count → target_at bytes t.base (t.base + 4 * k) ≡ Some c → entry_at bytes (t.base + 4 * k) ≡ Some (c, t.base)
unfolding entry_at
entry-is bytes t k c clean listed low leads_to =
    first-given (word_at bytes (t.base + 4 * k)) (tables_of bytes) listed.0 t (c, t.base) listed.1
    (ap (word_at bytes (t.base + 4 * k)) listed.2 ∙ ap (λ b. cond b (option_map (entry_of t.base) (target_at bytes t.base (t.base + 4 * k))) None) (has-word t k low) ∙ ap (option_map (entry_of t.base)) leads_to)
    (λ j earlier.
    let far : EndsBefore (get_or (tables_of bytes) j t) (get_or (tables_of bytes) listed.0 t) = tables-follow bytes clean.tables j listed.0 t earlier listed.1 in
    let base : (get_or (tables_of bytes) listed.0 t).base ≡ t.base = ap (λ (u : Table). u.base) listed.2 in
    ap (λ b. cond b (option_map (entry_of (get_or (tables_of bytes) j t).base) (target_at bytes (get_or (tables_of bytes) j t).base (t.base + 4 * k))) None) (has-no_word (get_or (tables_of bytes) j t) (t.base + 4 * k) (omega (arith, far, base))))

-- where it leads
target-some : (bytes : List ℕ) (base a : ℕ) → leads bytes base a ≡ true → (c : ℕ) × (target_at bytes base a ≡ Some c) × (is_point (file_points bytes) c ≡ true)
target-some bytes base a leading = by_target (target_at bytes base a) refl leading
  where
    by_target : (o : Option ℕ) → target_at bytes base a ≡ o → option_map_or (is_point (file_points bytes)) o false ≡ true → (c : ℕ) × (target_at bytes base a ≡ Some c) × (is_point (file_points bytes) c ≡ true)
    by_target None is h = absurd (cc)
    by_target (Some c) is h = (c, is, h)

pub is-word : (bytes : List ℕ) (s : Section) (t : Table) (k : ℕ) → IsClean bytes → Contains (kept_sections bytes) s → Covers t.base s → Contains (tables_of bytes) t → k < t.count → IsWord bytes t k
is-word bytes s t k clean here on listed low =
    let good = table-good bytes t clean.tables listed in
    let to = target-some bytes t.base (t.base + 4 * k) (all-each (λ j. leads bytes t.base (t.base + 4 * j)) t.count good.leading k low) in
    let place = kept-pointer bytes t.base s here on in
    record {
      point = to.0;
      region = place.0;
      offset = place.1;
      leads_to = entry-is bytes t k to.0 clean listed low to.1;
      is_one = to.2;
      base_is = place.2;
    }

pub word-distance : (bytes : List ℕ) (t : Table) (k : ℕ) → (w : IsWord bytes t k) → distance_at bytes (t.base + 4 * k) ≡ Some (Diff w.point w.region w.offset)
word-distance bytes t k w =
    ap (option_and_then (λ e. option_and_then (distance_from e.0) (reference_at bytes e.1))) w.leads_to ∙ ap (option_and_then (distance_from w.point)) w.base_is
