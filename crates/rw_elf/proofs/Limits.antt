-- What the limits leave of a file that breaks no rule: its size, how many sections it has, and where they lie.
use Rattle.std.proofs.Common.{◌≡◌, ◌⊎◌, ℕ, zero, suc, ◌+◌, ◌*◌, ◌/◌, ◌%◌, ◌^◌, ◌<◌, ◌≤◌, max, Bool, true, false, not, ◌&&◌, ◌||◌, ◌==◌, nat_le, nat_lt, is_none, List, [], ◌∷◌, ◌++◌, length, filter, get_or, take, sum_by, slice_get, Option, Some, None, Contains, refl, sym, ap, subst, ◌∙◌, arith, inl, inr}
use Rattle.std.proofs.lemmas.Bool.{cases_lt, cases_eq, leb-true, eqb-true}
use Rattle.std.proofs.lemmas.Bool.Decides.{nat_tests}
use Rattle.std.proofs.lemmas.List.{take_all}
use Rattle.std.proofs.lemmas.List.FromFn.{length-map-range_with_len}
use Rattle.std.proofs.lemmas.List.Sorted.{length_permutation}
use Rattle.std.proofs.lemmas.Option.{slice_get-get_or}
use Rattle.std.proofs.Math.Nat.{pow-suc}
use Rattle.std.proofs.Math.Pow.{pow_mono}
use Rattle.std.specs.Int.{is_power_of_two}
use Rattle.std.specs.Int.Count.{ones, ones_in}
use Rattle.std.specs.Option.{option_and_then, option_map_or}
use Rattle.rw_base.specs.declared.fault.Fault.{Fault}
use Rattle.rw_base.specs.declared.fault.Fault.TheVariants.{BadSection, BadString, ThreadLocal, TooLarge, Truncated, WritableCode}
use Rattle.rw_base.specs.Rules.{first, first_of, each_of, finding_at, first_some, when}
use Rattle.rw_base.proofs.First.{back_none, first_from-none, first_none, front_none, second_none, when_more-none}
use Rattle.rw_base.proofs.Ordered.{permutation-ordered}
use Rattle.rw_base.proofs.Shorter.{length-filter-le}
use Rattle.rw_elf.specs.declared.section.Section.{Section}
use Rattle.rw_elf.specs.Header.{header_count, header_rules, header_table}
use Rattle.rw_elf.specs.Name.{name_end}
use Rattle.rw_elf.specs.Places.{IsAligned}
use Rattle.rw_elf.specs.Section.{section_at, sections, names_start, names_size, null_section}
use Rattle.rw_elf.specs.Sections.{by_address, comes_before, excess, has_bytes, is_alignment, is_allocated, is_executable, is_placed, is_thread_local, is_well_placed, is_writable, placed_sections, section_fault}
use Rattle.rw_elf.specs.Symbols.{dynamic_symbols, dynamic_tables, first_table_fault, link_of, no_table, second, symbol_at, symbol_rules, symbol_tables, symbols, symbols_in, symbols_of, symbols_of_table, table_fault}
use Rattle.rw_elf.specs.Tables.{code_sections, code_size, elf_rules, is_kept, kept_sections, kept_size, no_overlap, own_fault, section_rules, size_rules, table_rules}
use Rattle.rw_elf.proofs.Clean.{clean_own, clean_sections, clean_symbols}
use Rattle.rw_elf.proofs.Stored.{no_own_fault}

-- ---- the file

to_tables : (bytes : List ℕ) → first (elf_rules bytes) ≡ None → first (size_rules bytes ++ header_rules bytes ++ table_rules bytes) ≡ None
to_tables bytes h =
    front_none (size_rules bytes ++ header_rules bytes ++ table_rules bytes) (section_rules bytes)
    (front_none (size_rules bytes ++ header_rules bytes ++ table_rules bytes ++ section_rules bytes) (symbol_rules bytes) h)

pub clean_size : (bytes : List ℕ) → first (elf_rules bytes) ≡ None → length bytes ≤ 16777216
unfolding size_rules
clean_size bytes h =
    when_more-none (length bytes) 16777216 (TooLarge 16777217) (first_none _ _ (front_none (size_rules bytes) (header_rules bytes) (front_none (size_rules bytes ++ header_rules bytes) (table_rules bytes) (to_tables bytes h))))

-- the file header lies in the file
pub clean_header : (bytes : List ℕ) → first (elf_rules bytes) ≡ None → 64 ≤ length bytes
unfolding header_rules
clean_header bytes h =
    when_more-none 64 (length bytes) (Truncated 0)
    (first_none _ _ (back_none (size_rules bytes) (header_rules bytes) (front_none (size_rules bytes ++ header_rules bytes) (table_rules bytes) (to_tables bytes h))))

-- the section headers lie in the file
pub clean_headers : (bytes : List ℕ) → first (elf_rules bytes) ≡ None → header_table bytes + 64 * header_count bytes ≤ length bytes
unfolding table_rules
clean_headers bytes h =
    when_more-none (header_table bytes + 64 * header_count bytes) (length bytes) (Truncated (header_table bytes))
    (first_none _ _ (back_none (size_rules bytes ++ header_rules bytes) (table_rules bytes) (to_tables bytes h)))

-- ---- how many symbols: each takes 24 bytes of its table

third_none : (a b c d : Option Fault) → first_some (a ∷ b ∷ c ∷ d ∷ []) ≡ None → c ≡ None
third_none a b c d h = first_none c _ (second_none b _ (second_none a _ h))

pub table_inside : (bytes : List ℕ) (t : Section) → table_fault bytes t ≡ None → t.offset + t.size ≤ length bytes
unfolding table_fault
table_inside bytes t h = when_more-none (t.offset + t.size) (length bytes) (Truncated t.offset) (third_none _ _ _ _ h)

pub symbols_fit : (bytes : List ℕ) (t : Section) → 24 * length (symbols_of_table bytes t) ≤ t.size
symbols_fit bytes t = by_option (link_of (sections bytes) t)
  where
    by_option : (o : Option Section) → 24 * length (option_map_or (symbols_in bytes t) o []) ≤ t.size
    by_option None = omega arith
    by_option (Some s) = let count = length-map-range_with_len (symbol_at bytes t s) 0 (t.size / 24) in omega (arith, count)

few_in : (bytes : List ℕ) → first (elf_rules bytes) ≡ None → (tables : List Section) → first_table_fault bytes tables ≡ None → 24 * length (symbols_of bytes tables) ≤ 16777216
unfolding symbols_of
few_in bytes clean tables = by_option (slice_get tables 0)
  where
    by_option : (o : Option Section) → option_and_then (table_fault bytes) o ≡ None → 24 * length (option_map_or (symbols_of_table bytes) o []) ≤ 16777216
    by_option None e = omega arith
    by_option (Some t) e =
        let inside = table_inside bytes t e in
        let count = symbols_fit bytes t in
        let size = clean_size bytes clean in
        omega (arith, inside, count, size)

tables_clean : (bytes : List ℕ) → first (elf_rules bytes) ≡ None → (first_table_fault bytes (symbol_tables bytes) ≡ None) × (first_table_fault bytes (dynamic_tables bytes) ≡ None)
unfolding symbol_rules
tables_clean bytes h =
    let rest = second_none (second (dynamic_tables bytes)) _ (second_none (second (symbol_tables bytes)) _ (second_none (no_table (symbol_tables bytes)) _ (clean_symbols bytes h))) in
    (first_none (first_table_fault bytes (symbol_tables bytes)) _ rest, first_none (first_table_fault bytes (dynamic_tables bytes)) _ (second_none (first_table_fault bytes (symbol_tables bytes)) _ rest))

pub few_symbols : (bytes : List ℕ) → first (elf_rules bytes) ≡ None → 24 * length (symbols bytes) ≤ 16777216
few_symbols bytes clean = few_in bytes clean (symbol_tables bytes) (tables_clean bytes clean).0

pub few_dynamic_symbols : (bytes : List ℕ) → first (elf_rules bytes) ≡ None → 24 * length (dynamic_symbols bytes) ≤ 16777216
few_dynamic_symbols bytes clean = few_in bytes clean (dynamic_tables bytes) (tables_clean bytes clean).1

-- ---- how many sections

pub few_kept : (bytes : List ℕ) → first (elf_rules bytes) ≡ None → length (kept_sections bytes) < 2 ^ 32
unfolding kept_sections placed_sections
few_kept bytes clean =
    let size = clean_size bytes clean in
    let headers = clean_headers bytes clean in
    let all = length-map-range_with_len (section_at bytes) 0 (header_count bytes) in
    let placed = length-filter-le is_placed (sections bytes) in
    let sorted = length_permutation (filter is_placed (sections bytes)) _ (permutation-ordered comes_before (filter is_placed (sections bytes))) in
    let kept = length-filter-le (is_kept bytes) (by_address (filter is_placed (sections bytes))) in
    omega (arith, size, headers, all, placed, sorted, kept)

-- ---- where a section lies

fourth_none : (a b c d e : Option Fault) → first_some (a ∷ b ∷ c ∷ d ∷ e ∷ []) ≡ None → d ≡ None
fourth_none a b c d e h = first_none d _ (second_none c _ (second_none b _ (second_none a _ h)))

well_from_test : (s : Section) → is_placed s ≡ true → when (is_placed s && not (is_well_placed s)) (BadSection s.index) ≡ None → is_well_placed s ≡ true
well_from_test s placed none = grind (arith, nat_tests)

placed_index : (s : Section) → is_placed s ≡ true → 0 < s.index
placed_index s placed = grind (arith, nat_tests)

pub well_placed : (bytes : List ℕ) (s : Section) → first (elf_rules bytes) ≡ None → Contains (sections bytes) s → is_placed s ≡ true → is_well_placed s ≡ true
unfolding section_fault
well_placed bytes s clean here placed =
    well_from_test s placed (fourth_none
    (when (is_none (name_end bytes s.name.at (names_start bytes + names_size bytes))) (BadString s.name.at))
    (when (is_allocated s && is_thread_local s) (ThreadLocal s.index))
    (when (is_allocated s && (is_writable s && is_executable s)) (WritableCode s.index))
    (when (is_placed s && not (is_well_placed s)) (BadSection s.index))
    (when (is_placed s && (has_bytes s && nat_lt (length bytes) (s.offset + s.size))) (Truncated s.offset)) (no_own_fault bytes s (clean_own bytes clean) here (placed_index s placed)))

three_parts : (a b c : Bool) → (a && (b && c)) ≡ true → (a ≡ true) × (b ≡ true) × (c ≡ true)
three_parts true true true h = (refl, refl, refl)
three_parts true true false h = absurd (cc)
three_parts true false c h = absurd (cc)
three_parts false b c h = absurd (cc)

pub placed_below : (bytes : List ℕ) (s : Section) → first (elf_rules bytes) ≡ None → Contains (sections bytes) s → is_placed s ≡ true → s.addr + s.size ≤ 2 ^ 47
placed_below bytes s clean here placed =
    leb-true (s.addr + s.size) (2 ^ 47) (three_parts (is_alignment s.align) (s.addr % max 1 s.align == 0) (nat_le (s.addr + s.size) (2 ^ 47)) (well_placed bytes s clean here placed)).2

-- ---- powers of two

no-bits : (d n : ℕ) → n ≤ d → ones_in d n ≡ 0 → n ≡ 0
unfolding ones_in
no-bits zero n few none = omega arith
no-bits (suc d) n few none =
    let half : n / 2 ≡ 0 = no-bits d (n / 2) (omega arith) (omega (arith, none)) in
    omega (arith, half, none)

one-bit : (d n : ℕ) → n ≤ d → ones_in d n ≡ 1 → (k : ℕ) × (n ≡ 2 ^ k)
unfolding ones_in
one-bit zero n few one = absurd (omega (arith, one))
one-bit (suc d) n few one =
    elim (cases_eq (n % 2) 1) [
      | inl odd ↦ let half : n / 2 ≡ 0 = no-bits d (n / 2) (omega arith) (omega (arith, one, odd)) in (0, omega (arith, half, odd))
      | inr even ↦
          let rest = one-bit d (n / 2) (omega arith) (let low : n % 2 < 2 = omega arith in omega (arith, one, even, low)) in
          let is = rest.1 in
          let twice = pow-suc 2 rest.0 in
          let low : n % 2 < 2 = omega arith in
          (suc rest.0, omega (arith, is, twice, even, low))
    ]

power : (n : ℕ) → is_power_of_two n ≡ true → (k : ℕ) × (n ≡ 2 ^ k)
unfolding ones
power n h = one-bit n n (omega arith) (eqb-true (ones n) 1 h)

small : (n k : ℕ) → n ≡ 2 ^ k → n ≤ 65536 → k ≤ 16
small n k is low =
    elim (cases_lt 16 k) [
      | inl high ↦ let more : 2 ^ 17 ≤ 2 ^ k = pow_mono {i = 17} {j = k} (omega (arith, high)) in omega (arith, is, low, more)
      | inr fits ↦ omega (arith, fits)
    ]

alignment : (n : ℕ) (b c d : Bool) → n == 0 ≡ b → is_power_of_two n ≡ c → nat_le n 65536 ≡ d → (b || (c && d)) ≡ true → (n ≡ 0) ⊎ ((k : ℕ) × (k ≤ 16) × (n ≡ 2 ^ k))
alignment n true c d none one low h = inl (eqb-true n 0 none)
alignment n false true true some one low h = let p = power n one in inr (p.0, small n p.0 p.1 (leb-true n 65536 low), p.1)
alignment n false true false some one low h = absurd (cc)
alignment n false false d some one low h = absurd (cc)

pub placed_aligned : (bytes : List ℕ) (s : Section) → first (elf_rules bytes) ≡ None → Contains (sections bytes) s → is_placed s ≡ true → IsAligned s
placed_aligned bytes s clean here placed =
    let parts = three_parts (is_alignment s.align) (s.addr % max 1 s.align == 0) (nat_le (s.addr + s.size) (2 ^ 47)) (well_placed bytes s clean here placed) in
    (alignment s.align _ _ _ refl refl refl parts.0, eqb-true (s.addr % max 1 s.align) 0 parts.1)

-- ---- sums of sizes

total : (limit : ℕ) (list : List Section) → first_of (each_of list (excess limit list)) ≡ None → sum_by (λ t. t.size) list ≤ limit
total limit [] clean = omega arith
total limit (s ∷ ss) clean =
    let n = length ss in
    let none = first_from-none (finding_at (each_of (s ∷ ss) (excess limit (s ∷ ss)))) 0 _ clean (length ss) (omega arith) (omega arith) in
    let at = slice_get-get_or (s ∷ ss) (length ss) null_section (omega arith) in
    let found = sym (ap (option_and_then (excess limit (s ∷ ss) (length ss))) at) ∙ none in
    let sum = when_more-none (sum_by (λ t. t.size) (take (length ss + 1) (s ∷ ss))) limit (BadSection (get_or (s ∷ ss) (length ss) null_section).index) found in
    let whole : take (length ss + 1) (s ∷ ss) ≡ s ∷ ss = take_all (length ss + 1) (s ∷ ss) (omega arith) in
    subst (λ xs. sum_by (λ (t : Section). t.size) xs ≤ limit) whole sum

pub kept_total : (bytes : List ℕ) → first (elf_rules bytes) ≡ None → sum_by (λ s. s.size) (kept_sections bytes) ≤ 2 ^ 30
unfolding section_rules kept_size
kept_total bytes clean =
    total (2 ^ 30) (kept_sections bytes) (first_none _ _ (second_none (first_of (no_overlap bytes)) _ (second_none (first_of (own_fault bytes)) _ (clean_sections bytes clean))))

pub code_total : (bytes : List ℕ) → first (elf_rules bytes) ≡ None → sum_by (λ s. s.size) (code_sections bytes) ≤ 2 ^ 24
unfolding section_rules code_size
code_total bytes clean =
    total (2 ^ 24) (code_sections bytes) (first_none _ _ (second_none (first_of (kept_size bytes)) _ (second_none (first_of (no_overlap bytes)) _ (second_none (first_of (own_fault bytes)) _ (clean_sections bytes clean)))))
