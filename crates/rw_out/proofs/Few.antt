-- How many symbols and functions a file has, by the size of its symbol tables: a symbol takes 24 bytes.
use Rattle.std.proofs.Common.{◌≡◌, ℕ, suc, ◌+◌, ◌*◌, ◌/◌, ◌≤◌, Bool, true, false, not, cond, List, [], ◌∷◌, length, filter, nat_lt, Option, Some, None, arith}
use Rattle.std.specs.Prelude.{option_and_then, slice_get}
use Rattle.std.specs.List.{dedup, dedup_from}
use Rattle.std.specs.Option.{option_map_or, option_or}
use Rattle.std.proofs.lemmas.Bool.Decides.{nat_tests}
use Rattle.std.proofs.lemmas.List.FromFn.{length-map-range_with_len}
use Rattle.std.proofs.lemmas.List.Sorted.{length_permutation}
use Rattle.rw_base.specs.declared.fault.Fault.{Fault}
use Rattle.rw_base.specs.declared.fault.Fault.TheVariants.{Truncated}
use Rattle.rw_base.specs.Order.{ordered}
use Rattle.rw_base.specs.Rules.{first_of, when}
use Rattle.rw_base.proofs.Ordered.{permutation-ordered}
use Rattle.rw_elf.specs.declared.section.Section.{Section}
use Rattle.rw_elf.specs.Section.{sections}
use Rattle.rw_elf.specs.Symbols.{dynamic_symbols, dynamic_tables, first_table_fault, link_of, no_table, second, symbol_at, symbol_faults, symbol_rules, symbol_tables, symbols, symbols_in, symbols_of, symbols_of_table, table_fault}
use Rattle.rw_elf.proofs.Clean.{clean_symbols}
use Rattle.rw_elf.proofs.Limits.{clean_size}
use Rattle.rw_base.proofs.First.{first_none, second_none}
use Rattle.rw_base.proofs.Shorter.{length-filter-le}
use Rattle.rw_funcs.specs.Functions.{comes_before, function_symbols, is_function, is_left_out, kept_functions, ranges, same_range}
use Rattle.rw_data.proofs.Clean.{IsClean}

table-inside : (file : List ℕ) (t : Section) → table_fault file t ≡ None → t.offset + t.size ≤ length file
unfolding table_fault
table-inside file t h = most (t.offset + t.size) (length file) (Truncated t.offset) (first_none _ _ (second_none _ _ (second_none _ _ h)))
  where
    most : (n limit : ℕ) (fault : Fault) → when (nat_lt limit n) fault ≡ None → n ≤ limit
    most n limit fault g = grind (arith, nat_tests)

table-symbols : (file : List ℕ) (t : Section) → 24 * length (symbols_of_table file t) ≤ t.size
table-symbols file t = by_option (link_of (sections file) t)
  where
    by_option : (o : Option Section) → 24 * length (option_map_or (symbols_in file t) o []) ≤ t.size
    by_option None = omega arith
    by_option (Some s) = let count = length-map-range_with_len (symbol_at file t s) 0 (t.size / 24) in omega (arith, count)

module _ (file : List ℕ) (clean : IsClean file) where
  first-few : (o : Option Section) → option_and_then (table_fault file) o ≡ None → 24 * length (option_map_or (symbols_of_table file) o []) ≤ 16777216
  first-few None e = omega arith
  first-few (Some t) e =
      let inside = table-inside file t e in
      let count = table-symbols file t in
      let size = clean_size file clean.elf in
      omega (arith, inside, count, size)

  dynamic-clean : first_table_fault file (dynamic_tables file) ≡ None
  unfolding symbol_rules
  dynamic-clean =
      first_none (first_table_fault file (dynamic_tables file)) (option_or (first_of (symbol_faults file)) None)
      (second_none (first_table_fault file (symbol_tables file)) _ (second_none (second (dynamic_tables file)) _ (second_none (second (symbol_tables file)) _ (second_none (no_table (symbol_tables file)) _ (clean_symbols file clean.elf)))))

  symbols-clean : first_table_fault file (symbol_tables file) ≡ None
  unfolding symbol_rules
  symbols-clean =
      first_none (first_table_fault file (symbol_tables file)) _ (second_none (second (dynamic_tables file)) _ (second_none (second (symbol_tables file)) _ (second_none (no_table (symbol_tables file)) _ (clean_symbols file clean.elf))))

  pub dynamic-few : 24 * length (dynamic_symbols file) ≤ 16777216
  unfolding symbols_of
  dynamic-few = first-few (slice_get (dynamic_tables file) 0) dynamic-clean

  symbols-few : 24 * length (symbols file) ≤ 16777216
  unfolding symbols_of
  symbols-few = first-few (slice_get (symbol_tables file) 0) symbols-clean

-- ---- no more functions than symbols

length-from : {A : Type 0} (same : A → A → Bool) (x : A) (xs : List A) → length (dedup_from same x xs) ≤ suc (length xs)
length-from same x [] = omega arith
length-from same x (y ∷ ys) = by_test (same y x) (length-from same x ys) (length-from same y ys)
  where
    by_test : (t : Bool) → length (dedup_from same x ys) ≤ suc (length ys) → length (dedup_from same y ys) ≤ suc (length ys) → length (cond t (dedup_from same x ys) (x ∷ dedup_from same y ys)) ≤ suc (suc (length ys))
    by_test true a b = omega (arith, a)
    by_test false a b = omega (arith, b)

length-dedup : {A : Type 0} (same : A → A → Bool) (xs : List A) → length (dedup same xs) ≤ length xs
length-dedup same [] = omega arith
length-dedup same (x ∷ xs) = length-from same x xs

pub functions-few : (file : List ℕ) → IsClean file → length (kept_functions file) ≤ 699051
unfolding kept_functions ranges function_symbols
functions-few file clean =
    let found = filter (is_function file) (symbols file) in
    let left = length-filter-le (λ f. not (is_left_out file f)) (ranges file) in
    let kept = length-dedup same_range (ordered comes_before found) in
    let sorted = length_permutation found (ordered comes_before found) (permutation-ordered comes_before found) in
    let filtered = length-filter-le (is_function file) (symbols file) in
    let few = symbols-few file clean in
    omega (arith, few, left, kept, sorted, filtered)
