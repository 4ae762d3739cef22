-- How many functions a file has, and that their ranges ascend.
use Rattle.std.proofs.Common.{◌≡◌, ℕ, ◌+◌, ◌*◌, ◌<◌, ◌≤◌, ◌^◌, true, List, length, filter, get_or, not, None, All, Contains, sym, ap, subst, ◌∙◌, arith}
use Rattle.std.specs.List.{AllPairs}
use Rattle.std.proofs.lemmas.Bool.Decides.{nat_tests}
use Rattle.std.proofs.lemmas.List.{get_or-map, length-map}
use Rattle.std.proofs.lemmas.List.Elements.{Contains-get_or}
use Rattle.std.proofs.lemmas.List.Sorted.{length_permutation}
use Rattle.rw_base.specs.Order.{ordered}
use Rattle.rw_base.specs.Rules.{first}
use Rattle.rw_base.proofs.Ordered.{permutation-ordered}
use Rattle.rw_base.proofs.Shorter.{length-dedup-le, length-filter-le}
use Rattle.rw_elf.specs.declared.section.Section.{Section}
use Rattle.rw_elf.specs.declared.symbol.Symbol.{Symbol}
use Rattle.rw_elf.specs.Symbols.{symbols, null_symbol}
use Rattle.rw_elf.specs.Tables.{code_sections, elf_rules}
use Rattle.rw_elf.proofs.Limits.{few_symbols}
use Rattle.rw_funcs.specs.declared.function.Function.{Function}
use Rattle.rw_funcs.specs.Found.{FollowsOn, found_rules}
use Rattle.rw_funcs.specs.Functions.{kept_functions, functions_of, function_at, end_of, is_inside, its_section, function_symbols, is_function, is_left_out, ranges, comes_before, same_range, function_rules}
use Rattle.rw_funcs.proofs.Facts.{in_code_sections, placed_function, functions_apart}
use Rattle.rw_funcs.proofs.FunctionsOf.{clean-functions}

each-at : (bytes : List ℕ) (i : ℕ) (d : Function) → i < length (functions_of bytes) → (i < length (kept_functions bytes)) × (get_or (functions_of bytes) i d ≡ function_at (get_or (kept_functions bytes) i null_symbol))
each-at bytes i d within =
    let size = length-map (kept_functions bytes) function_at in
    let below : i < length (kept_functions bytes) = omega (arith, size, within) in
    (below, get_or-map function_at (kept_functions bytes) i null_symbol d below)

apart : (bytes : List ℕ) → first (function_rules bytes) ≡ None → AllPairs FollowsOn (functions_of bytes)
apart bytes rules i j d earlier within =
    let a = each-at bytes i d (omega (arith, earlier, within)) in
    let b = each-at bytes j d within in
    let one = functions_apart bytes rules i j null_symbol earlier b.0 in
    let end = ap (λ (f : Function). f.span.end) a.1 in
    let start = ap (λ (f : Function). f.span.start) b.1 in
    omega (arith, one, end, start)

some : (bytes : List ℕ) → first (function_rules bytes) ≡ None → All (λ f. f.span.start < f.span.end) (functions_of bytes)
some bytes rules i d within =
    let a = each-at bytes i d within in
    let one = (placed_function bytes (get_or (kept_functions bytes) i null_symbol) rules (Contains-get_or (kept_functions bytes) i null_symbol a.0)).some in
    let end = ap (λ (f : Function). f.span.end) a.1 in
    let start = ap (λ (f : Function). f.span.start) a.1 in
    omega (arith, one, end, start)

pub list-apart : (bytes : List ℕ) (list : List Function) → list ≡ functions_of bytes → first (function_rules bytes) ≡ None → AllPairs FollowsOn list
list-apart bytes list is rules = subst (AllPairs FollowsOn) (sym is) (apart bytes rules)

pub list-some : (bytes : List ℕ) (list : List Function) → list ≡ functions_of bytes → first (function_rules bytes) ≡ None → All (λ f. f.span.start < f.span.end) list
list-some bytes list is rules = subst (All (λ (f : Function). f.span.start < f.span.end)) (sym is) (some bytes rules)

-- ---- no more functions than symbols

pub few : (bytes : List ℕ) → first (elf_rules bytes) ≡ None → 24 * length (kept_functions bytes) ≤ 16777216
unfolding kept_functions ranges function_symbols
few bytes h =
    let found = filter (is_function bytes) (symbols bytes) in
    let left = length-filter-le (λ f. not (is_left_out bytes f)) (ranges bytes) in
    let kept = length-dedup-le same_range (ordered comes_before found) in
    let sorted = length_permutation found (ordered comes_before found) (permutation-ordered comes_before found) in
    let filtered = length-filter-le (is_function bytes) (symbols bytes) in
    let all = few_symbols bytes h in
    omega (arith, all, left, kept, sorted, filtered)

pub list-few : (bytes : List ℕ) (list : List Function) → list ≡ functions_of bytes → first (elf_rules bytes) ≡ None → length list < 2 ^ 32
list-few bytes list is clean =
    let size = ap length is ∙ length-map (kept_functions bytes) function_at in
    let most = few bytes clean in
    omega (arith, size, most)

-- ---- what the laws say

pub clean-apart : (bytes : List ℕ) → first (found_rules bytes) ≡ None → AllPairs FollowsOn (functions_of bytes)
clean-apart bytes clean = apart bytes (clean-functions bytes clean)

pub clean-some : (bytes : List ℕ) → first (found_rules bytes) ≡ None → All (λ f. f.span.start < f.span.end) (functions_of bytes)
clean-some bytes clean = some bytes (clean-functions bytes clean)

pub clean-code : (bytes : List ℕ) (f : Symbol) → first (found_rules bytes) ≡ None → Contains (kept_functions bytes) f → Contains (code_sections bytes) (its_section bytes f)
clean-code bytes f clean here = in_code_sections bytes f (its_section bytes f) (placed_function bytes f (clean-functions bytes clean) here)

inside-test : (f : Symbol) (s : Section) → s.addr ≤ f.value → end_of f ≤ s.addr + s.size → is_inside f s ≡ true
inside-test f s low high = grind (arith, nat_tests)

pub clean-inside : (bytes : List ℕ) (f : Symbol) → first (found_rules bytes) ≡ None → Contains (kept_functions bytes) f → is_inside f (its_section bytes f) ≡ true
clean-inside bytes f clean here =
    let placed = placed_function bytes f (clean-functions bytes clean) here in
    inside-test f (its_section bytes f) placed.starts placed.ends
