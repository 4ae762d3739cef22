-- What holds in a file that breaks no rule.
use Rattle.std.proofs.Common.{◌≡◌, ℕ, ◌+◌, ◌<◌, ◌≤◌, true, not, List, [], ◌∷◌, ◌++◌, length, slice_get, nat_le, Option, Some, None, Contains, sym, ap, ◌∙◌, arith}
use Rattle.std.proofs.lemmas.Option.{slice_get-get_or}
use Rattle.std.specs.List.{AllPairs}
use Rattle.std.proofs.lemmas.List.Kept.{AllPairs-filter}
use Rattle.std.specs.Option.{option_or, option_and_then}
use Rattle.rw_base.specs.declared.fault.Fault.{Fault}
use Rattle.rw_base.specs.declared.fault.Fault.TheVariants.{BadSection, BadString}
use Rattle.rw_base.specs.Name.{is_good_name}
use Rattle.rw_base.specs.Rules.{first, first_of, each_of, finding_at, first_some, when}
use Rattle.rw_base.proofs.First.{back_none, first_from-none, first_none, front_none, second_none, when_from-none, when_not-none}
use Rattle.rw_elf.specs.declared.section.Section.{Section}
use Rattle.rw_elf.specs.declared.symbol.Symbol.{Symbol}
use Rattle.rw_elf.specs.Header.{header_count, header_rules}
use Rattle.rw_elf.specs.Name.{name_bytes}
use Rattle.rw_elf.specs.Places.{EndsBefore, covers, section_around}
use Rattle.rw_elf.specs.Section.{sections}
use Rattle.rw_elf.specs.Sections.{is_placed, placed_sections, has_bytes}
use Rattle.rw_elf.specs.Symbols.{no_table, second, symbol_tables, dynamic_tables, first_table_fault, symbols, considered_symbols, is_considered, symbol_fault, symbol_finding, symbol_faults, symbol_rules}
use Rattle.rw_elf.specs.Tables.{is_kept, is_code, kept_sections, code_sections, elf_rules, size_rules, table_rules, section_rules, own_fault, no_overlap}
use Rattle.rw_elf.proofs.Apart.{ends_before, placed_are_apart}
use Rattle.rw_elf.proofs.Around.{around-is, covers-parts, placed_has, filter_contains, filter_tests}
use Rattle.rw_elf.proofs.Stored.{stored_inside}

pub clean_sections : (bytes : List ℕ) → first (elf_rules bytes) ≡ None → first (section_rules bytes) ≡ None
clean_sections bytes h =
    back_none (size_rules bytes ++ header_rules bytes ++ table_rules bytes) (section_rules bytes)
    (front_none (size_rules bytes ++ header_rules bytes ++ table_rules bytes ++ section_rules bytes) (symbol_rules bytes) h)

pub clean_symbols : (bytes : List ℕ) → first (elf_rules bytes) ≡ None → first (symbol_rules bytes) ≡ None
clean_symbols bytes h = back_none (size_rules bytes ++ header_rules bytes ++ table_rules bytes ++ section_rules bytes) (symbol_rules bytes) h

pub clean_own : (bytes : List ℕ) → first (elf_rules bytes) ≡ None → first_of (own_fault bytes) ≡ None
unfolding section_rules
clean_own bytes h = first_none (first_of (own_fault bytes)) _ (clean_sections bytes h)

pub clean_overlap : (bytes : List ℕ) → first (elf_rules bytes) ≡ None → first_of (no_overlap bytes) ≡ None
unfolding section_rules
clean_overlap bytes h = first_none (first_of (no_overlap bytes)) _ (second_none (first_of (own_fault bytes)) _ (clean_sections bytes h))

sixth_none : (a b c d e f : Option Fault) → option_or a (option_or b (option_or c (option_or d (option_or e (option_or f None))))) ≡ None → f ≡ None
sixth_none a b c d e f h = first_none f None (second_none e _ (second_none d _ (second_none c _ (second_none b _ (second_none a _ h)))))

pub clean_considered : (bytes : List ℕ) → first (elf_rules bytes) ≡ None → first_of (symbol_faults bytes) ≡ None
unfolding symbol_rules
clean_considered bytes h =
    sixth_none (no_table (symbol_tables bytes)) (second (symbol_tables bytes)) (second (dynamic_tables bytes))
    (first_table_fault bytes (symbol_tables bytes)) (first_table_fault bytes (dynamic_tables bytes)) (first_of (symbol_faults bytes)) (clean_symbols bytes h)

-- an address belongs to one section at most
pub clean_around : (bytes : List ℕ) (address : ℕ) (s : Section) → first (elf_rules bytes) ≡ None → Contains (sections bytes) s → covers address s ≡ true → section_around bytes address ≡ Some s
clean_around bytes address s clean here on =
    let parts = covers-parts address s on in
    around-is bytes address s (placed_are_apart bytes (clean_overlap bytes clean)) (placed_has bytes s here parts.0) parts.1

-- the bytes of a placed section lie in the file
pub clean_stored : (bytes : List ℕ) (s : Section) → first (elf_rules bytes) ≡ None → Contains (sections bytes) s → is_placed s ≡ true → has_bytes s ≡ true → s.offset + s.size ≤ length bytes
clean_stored bytes s clean here placed stored = stored_inside bytes s (clean_own bytes clean) here placed stored

-- a considered symbol has a section and a good name
no_symbol_fault : (bytes : List ℕ) (s : Symbol) → is_considered s ≡ true → symbol_fault bytes s ≡ None → (s.section < header_count bytes) × (is_good_name (name_bytes bytes s.name) ≡ true)
no_symbol_fault bytes s considered none =
    let tests : first_some (when (nat_le (header_count bytes) s.section) (BadSection s.section) ∷ when (not (is_good_name (name_bytes bytes s.name))) (BadString s.name.at) ∷ []) ≡ None = simp considered at none in
    let low : when (nat_le (header_count bytes) s.section) (BadSection s.section) ≡ None = first_none _ _ tests in
    let good : when (not (is_good_name (name_bytes bytes s.name))) (BadString s.name.at) ≡ None = first_none _ None (second_none _ _ tests) in
    (when_from-none s.section (header_count bytes) _ low, when_not-none (is_good_name (name_bytes bytes s.name)) _ good)

pub clean_symbol : (bytes : List ℕ) (s : Symbol) → first (elf_rules bytes) ≡ None → Contains (considered_symbols bytes) s → (s.section < header_count bytes) × (is_good_name (name_bytes bytes s.name) ≡ true)
unfolding symbol_faults considered_symbols
clean_symbol bytes s clean here =
    let of_table : Contains (symbols bytes) s = filter_contains is_considered (symbols bytes) s here in
    let none = first_from-none (finding_at (each_of (symbols bytes) (symbol_finding bytes))) 0 _ (clean_considered bytes clean) of_table.0 (omega arith) (omega (arith, of_table.1)) in
    let at_s : slice_get (symbols bytes) of_table.0 ≡ Some s = slice_get-get_or (symbols bytes) of_table.0 s of_table.1 ∙ ap Some of_table.2 in
    no_symbol_fault bytes s (filter_tests is_considered (symbols bytes) s here) (sym (ap (option_and_then (symbol_finding bytes of_table.0)) at_s) ∙ none)

-- sections by address, each ending at or below where each later one begins
pub placed_pairs : (bytes : List ℕ) → first (elf_rules bytes) ≡ None → AllPairs EndsBefore (placed_sections bytes)
placed_pairs bytes clean i j d earlier within =
    ends_before (placed_sections bytes) (placed_are_apart bytes (clean_overlap bytes clean)) i j _ _ earlier (slice_get-get_or (placed_sections bytes) i d (omega arith)) (slice_get-get_or (placed_sections bytes) j d within)

pub kept_pairs : (bytes : List ℕ) → first (elf_rules bytes) ≡ None → AllPairs EndsBefore (kept_sections bytes)
unfolding kept_sections
kept_pairs bytes clean = AllPairs-filter EndsBefore (is_kept bytes) (placed_sections bytes) (placed_pairs bytes clean)

pub code_pairs : (bytes : List ℕ) → first (elf_rules bytes) ≡ None → AllPairs EndsBefore (code_sections bytes)
unfolding code_sections
code_pairs bytes clean = AllPairs-filter EndsBefore (is_code bytes) (placed_sections bytes) (placed_pairs bytes clean)
