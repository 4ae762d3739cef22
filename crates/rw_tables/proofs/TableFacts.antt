-- What the parts of the rule on tables say.
use Rattle.std.proofs.Common.{◌≡◌, ℕ, zero, suc, ◌+◌, ◌-◌, ◌<◌, ◌≤◌, ◌^◌, Bool, true, false, ◌&&◌, ◌||◌, nat_le, nat_lt, cond, filter, slice_get, slice_range, length-take, length-drop, List, [], ◌∷◌, ◌++◌, length, take, get_or, Option, Some, None, All, Contains, not, refl, sym, ap, ◌∙◌, arith, inl, inr}
use Rattle.std.specs.List.{list_all, list_any, range_with_len, cons_option}
use Rattle.std.proofs.lemmas.Bool.{cases_eq}
use Rattle.std.proofs.lemmas.Bool.Decides.{nat_tests}
use Rattle.std.proofs.lemmas.List.{take_more}
use Rattle.std.proofs.lemmas.List.Elements.{All-push, filter_map-append}
use Rattle.rw_base.specs.Rules.{first, first_of, each_of, when}
use Rattle.rw_elf.specs.declared.section.Section.{Section}
use Rattle.rw_elf.specs.Section.{sections}
use Rattle.rw_elf.specs.Sections.{is_placed, has_bytes, placed_sections}
use Rattle.rw_elf.specs.Tables.{elf_rules, is_kept, kept_sections}
use Rattle.rw_elf.specs.Places.{bytes_at, bytes_from, bytes_in, covers, section_around, stores}
use Rattle.rw_elf.proofs.Around.{filter_contains, filter_tests, placed_from}
use Rattle.rw_elf.proofs.Clean.{clean_stored}
use Rattle.std.proofs.lemmas.Bool.{and_parts}
use Rattle.std.proofs.lemmas.Option.{slice_get_within, get_or_from_slice_get}
use Rattle.std.specs.Option.{option_or}
use Rattle.std.specs.Prelude.{option_and_then}
use Rattle.rw_base.specs.declared.fault.Fault.{Fault}
use Rattle.rw_base.specs.declared.fault.Fault.TheVariants.{BadTable}
use Rattle.rw_tables.specs.Jumps.{jumps_of}
use Rattle.rw_funcs.proofs.Facts.{placed_ends}
use Rattle.rw_tables.specs.declared.jump.Jump.{Jump}
use Rattle.rw_tables.specs.declared.table.Table.{Table}
use Rattle.rw_tables.specs.Tables.{all_lead, end_of, holds, is_constant, overlaps, tables_in, table_fault, jump_fault, table_rules}

-- ---- a test of each number of a range

range-all : (p : ℕ → Bool) (a n : ℕ) → ((j : ℕ) → a ≤ j → j < a + n → p j ≡ true) → list_all p (range_with_len a n) ≡ true
range-all p a zero h = refl
range-all p a (suc n) h = ap (λ t. t && list_all p (range_with_len (a + 1) n)) (h a (omega arith) (omega arith)) ∙ range-all p (a + 1) n (λ j low high. h j (omega arith) (omega arith))

either-false : (t u : Bool) → u ≡ false → (t && u) ≡ false
either-false true u h = h
either-false false u h = refl

range-some : (p : ℕ → Bool) (a n j : ℕ) → a ≤ j → j < a + n → p j ≡ false → list_all p (range_with_len a n) ≡ false
range-some p a zero j low high h = absurd (omega arith)
range-some p a (suc n) j low high h =
    elim (cases_eq a j) [
      | inl same ↦ ap (λ t. t && list_all p (range_with_len (a + 1) n)) (ap p same ∙ h)
      | inr other ↦ either-false (p a) (list_all p (range_with_len (a + 1) n)) (range-some p (a + 1) n j (omega arith) (omega arith) h)
    ]

pub each-leads : (p : ℕ → Bool) (n : ℕ) → ((j : ℕ) → j < n → p j ≡ true) → list_all p (range_with_len 0 n) ≡ true
each-leads p n h = range-all p 0 n (λ j low high. h j (omega arith))

pub one-leads_not : (p : ℕ → Bool) (n j : ℕ) → j < n → p j ≡ false → list_all p (range_with_len 0 n) ≡ false
one-leads_not p n j within h = range-some p 0 n j (omega arith) (omega arith) h

-- ---- a table in constant data

pub some-item : {A : Type 0} (p : A → Bool) (xs : List A) → list_any p xs ≡ true → (x : A) × Contains xs x × (p x ≡ true)
some-item {A = A} p [] h = absurd (cc)
some-item {A = A} p (x ∷ xs) h = by_test (p x) refl (some-item p xs) h
  where
    by_test : (t : Bool) → p x ≡ t → (list_any p xs ≡ true → (y : A) × Contains xs y × (p y ≡ true)) → (t || list_any p xs) ≡ true → (y : A) × Contains (x ∷ xs) y × (p y ≡ true)
    by_test true is rest g = (x, (0, (omega arith), refl), is)
    by_test false is rest g = let found = rest g in let at = found.1 in (found.0, (suc at.0, (let low = at.1 in omega (arith, low)), at.2), found.2)

held-ends : (t : Table) (s : Section) → holds t s ≡ true → end_of t ≤ s.addr + s.size
held-ends t s h = grind (arith, nat_tests)

pub constant-ends : (bytes : List ℕ) (t : Table) → first (elf_rules bytes) ≡ None → is_constant bytes t ≡ true → end_of t ≤ 2 ^ 47
unfolding kept_sections
constant-ends bytes t clean h =
    let found = some-item (holds t) (kept_sections bytes) h in
    let from = placed_from bytes found.0 (filter_contains (is_kept bytes) (placed_sections bytes) found.0 found.1) in
    let most = placed_ends bytes found.0 clean from.0 from.1 in
    let held = held-ends t found.0 found.2 in
    omega (arith, most, held)

-- where a jump has no fault, its table ends low
pub low-more : (bytes : List ℕ) (tables : List Table) (a : ℕ) (o : Option Table) → first (elf_rules bytes) ≡ None → All (λ t. end_of t ≤ 2 ^ 47) tables → table_fault bytes tables a o ≡ None → All (λ t. end_of t ≤ 2 ^ 47) (tables ++ cons_option o [])
low-more bytes tables a None clean low none = absurd (cc)
low-more bytes tables a (Some t) clean low none = All-push (λ t. end_of t ≤ 2 ^ 47) tables t low (constant-ends bytes t clean (by_test (is_constant bytes t) none))
  where
    by_test : (b : Bool) → when (not (b && (all_lead bytes t && not (list_any (overlaps t) tables)))) (BadTable a) ≡ None → b ≡ true
    by_test true h = refl
    by_test false h = absurd (cc)

-- ---- a word of the file

le-test : (m n : ℕ) → nat_le m n ≡ true → m ≤ n
le-test m n h = grind (arith, nat_tests)

range-length : (bytes : List ℕ) (at : ℕ) → at + 4 ≤ length bytes → length (slice_range bytes at (at + 4)) ≡ 4
range-length bytes at h = simp (length-take, length-drop) (omega arith)

pub word-length : (bytes : List ℕ) (a : ℕ) (word : List ℕ) → first (elf_rules bytes) ≡ None → bytes_at bytes a 4 ≡ Some word → length word ≡ 4
unfolding section_around
word-length bytes a word clean h = by_section (slice_get (filter (covers a) (sections bytes)) 0) refl h
  where
    stored-on : (s : Section) → stores s a 4 ≡ true → (has_bytes s ≡ true) × (a + 4 ≤ s.addr + s.size)
    stored-on s t = let parts = and_parts (has_bytes s) (nat_le (a + 4) (s.addr + s.size)) t in (parts.0, le-test (a + 4) (s.addr + s.size) parts.1)

    low-on : (s : Section) → covers a s ≡ true → s.addr ≤ a
    low-on s t = grind (arith, nat_tests)

    by_stored : (s : Section) → covers a s ≡ true → Contains (sections bytes) s → (t : Bool) → stores s a 4 ≡ t → ◌≡◌ {A = Option (List ℕ)} (cond t (Some (bytes_from bytes s a 4)) None) (Some word) → length word ≡ 4
    by_stored s on here false none g = absurd (cc)
    by_stored s on here true some g =
        let same : bytes_from bytes s a 4 ≡ word = cc in
        let parts = stored-on s some in
        let low = low-on s on in
        let high = parts.1 in
        let inside = clean_stored bytes s clean here (and_parts (is_placed s) (nat_le s.addr a && nat_lt a (s.addr + s.size)) on).0 parts.0 in
        ap length (sym same) ∙ range-length bytes (s.offset + (a - s.addr)) (omega (arith, low, high, inside))

    by_section : (o : Option Section) → slice_get (filter (covers a) (sections bytes)) 0 ≡ o → option_and_then (bytes_in bytes a 4) o ≡ Some word → length word ≡ 4
    by_section None found g = absurd (cc)
    by_section (Some s) found g =
        let first : Contains (filter (covers a) (sections bytes)) s = (0, slice_get_within (filter (covers a) (sections bytes)) 0 s found, get_or_from_slice_get (filter (covers a) (sections bytes)) 0 s s found) in
        by_stored s (filter_tests (covers a) (sections bytes) s first) (filter_contains (covers a) (sections bytes) s first) (stores s a 4) refl g

-- ---- the rule, jump by jump

abbrev pub null_jump : Jump
null_jump = record { place = 0; table = None }

pub first-tables : (bytes : List ℕ) (jumps : List Jump) → jumps ≡ jumps_of bytes → first_of (each_of jumps (jump_fault bytes jumps)) ≡ first (table_rules bytes)
unfolding table_rules
first-tables bytes jumps is = ap (λ js. first_of (each_of js (jump_fault bytes js))) is ∙ or-none (first_of (each_of (jumps_of bytes) (jump_fault bytes (jumps_of bytes))))
  where
    or-none : (o : Option Fault) → o ≡ option_or o None
    or-none None = refl
    or-none (Some f) = refl

-- ---- the tables of one jump more

pub tables-more : (jumps : List Jump) (k : ℕ) (d : Jump) → k < length jumps → tables_in (take (k + 1) jumps) ≡ tables_in (take k jumps) ++ cons_option (get_or jumps k d).table []
tables-more jumps k d within = ap tables_in (take_more jumps k d within) ∙ filter_map-append (λ (j : Jump). j.table) (take k jumps) (get_or jumps k d ∷ [])
