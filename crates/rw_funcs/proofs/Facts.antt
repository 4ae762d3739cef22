-- What holds of the kept functions of a file that breaks no rule on them.
use Rattle.std.proofs.Common.{◌≡◌, ℕ, zero, suc, ◌+◌, ◌-◌, ◌<◌, ◌≤◌, ◌^◌, Bool, true, false, not, ◌||◌, cond, List, [], ◌∷◌, length, take, drop, filter, get_or, slice_get, nat_lt, Option, Some, None, Contains, refl, sym, ap, subst, ◌∙◌, arith, length-take, length-drop}
use Rattle.std.specs.List.{AllPairs, list_any}
use Rattle.std.specs.Option.{option_map_or, option_and_then}
use Rattle.std.proofs.lemmas.Bool.{and_parts, false≢true, ltb-true, eqb-true}
use Rattle.std.proofs.lemmas.Bool.Decides.{nat_tests}
use Rattle.std.proofs.lemmas.List.Kept.{Contains-from_dedup}
use Rattle.std.proofs.lemmas.List.Sorted.{Contains-permutation, IsPermutation-sym}
use Rattle.std.proofs.lemmas.Option.{slice_get_within, slice_get-get_or, get_or_from_slice_get}
use Rattle.rw_base.specs.declared.fault.Fault.{Fault}
use Rattle.rw_base.specs.declared.fault.Fault.TheVariants.{NoEntry}
use Rattle.rw_base.specs.Name.{is_good_name}
use Rattle.rw_base.specs.Order.{ordered}
use Rattle.rw_base.specs.Rules.{first, first_of, each_of, finding_at, when}
use Rattle.rw_base.proofs.First.{first_from-none, first_none, second_none, when_not-none}
use Rattle.rw_base.proofs.Ordered.{permutation-ordered}
use Rattle.rw_elf.specs.declared.section.Section.{Section}
use Rattle.rw_elf.specs.declared.symbol.Symbol.{Symbol}
use Rattle.rw_elf.specs.Places.{section_bytes}
use Rattle.rw_elf.specs.Section.{sections}
use Rattle.rw_elf.specs.Sections.{is_placed, has_bytes}
use Rattle.rw_elf.specs.Symbols.{symbols, considered_symbols, is_considered}
use Rattle.rw_elf.specs.Tables.{elf_rules, is_code, code_sections}
use Rattle.rw_elf.proofs.Around.{contains_filter, filter_contains, filter_tests, placed_has}
use Rattle.rw_elf.proofs.Limits.{placed_below}
use Rattle.rw_elf.proofs.Clean.{clean_symbol, clean_stored}
use Rattle.rw_funcs.specs.Functions.{is_code_at, is_function, function_symbols, is_left_out, ranges, kept_functions, comes_before, same_range, end_of, entry_of, entry_function, starts_at, symbol_or, its_section, section_or, code_of_symbol, name_of_symbol, is_inside, is_inside_its_section, begins_early, crosses, crossing_functions, missing_entry, function_rules}

-- ---- the rules, one by one

no_crossing : (bytes : List ℕ) → first (function_rules bytes) ≡ None → first_of (crossing_functions bytes) ≡ None
unfolding function_rules
no_crossing bytes h = first_none (first_of (crossing_functions bytes)) _ h

has_entry : (bytes : List ℕ) → first (function_rules bytes) ≡ None → first_of (missing_entry bytes) ≡ None
unfolding function_rules
has_entry bytes h = first_none (first_of (missing_entry bytes)) _ (second_none (first_of (crossing_functions bytes)) _ h)

-- ---- each kept function is the symbol of a function

pub kept-from : (bytes : List ℕ) (f : Symbol) → Contains (kept_functions bytes) f → Contains (function_symbols bytes) f
unfolding kept_functions ranges
kept-from bytes f here =
    Contains-permutation (ordered comes_before (function_symbols bytes)) (function_symbols bytes) f (IsPermutation-sym _ _ (permutation-ordered comes_before (function_symbols bytes)))
    (Contains-from_dedup same_range (ordered comes_before (function_symbols bytes)) f (filter_contains (λ g. not (is_left_out bytes g)) (ranges bytes) f here))

function_parts : (bytes : List ℕ) (f : Symbol) → is_function bytes f ≡ true → (is_considered f ≡ true) × (0 < f.size) × (is_code_at bytes f.section ≡ true)
unfolding is_function
function_parts bytes f h =
    let a = and_parts (is_considered f) _ h in
    let b = and_parts (nat_lt 0 f.size) (is_code_at bytes f.section) a.1 in
    (a.0, ltb-true 0 f.size b.0, b.1)

considered_from : (bytes : List ℕ) (f : Symbol) → Contains (symbols bytes) f → is_considered f ≡ true → Contains (considered_symbols bytes) f
unfolding considered_symbols
considered_from bytes f here is = contains_filter is_considered (symbols bytes) f here is

function_from : (bytes : List ℕ) (f : Symbol) → Contains (function_symbols bytes) f → Contains (symbols bytes) f × (is_function bytes f ≡ true)
unfolding function_symbols
function_from bytes f here = (filter_contains (is_function bytes) (symbols bytes) f here, filter_tests (is_function bytes) (symbols bytes) f here)

-- ---- each lies in its section, behind the one before it

no_finding : (bytes : List ℕ) → first (function_rules bytes) ≡ None → (k : ℕ) (f : Symbol) → slice_get (kept_functions bytes) k ≡ Some f → crosses bytes (kept_functions bytes) k f ≡ None
unfolding crossing_functions
no_finding bytes h k f at =
    let within = slice_get_within (kept_functions bytes) k f at in
    let none = first_from-none (finding_at (each_of (kept_functions bytes) (crosses bytes (kept_functions bytes)))) 0 _ (no_crossing bytes h) k (omega arith) (omega (arith, within)) in
    sym (ap (option_and_then (crosses bytes (kept_functions bytes) k)) at) ∙ none

not_crossing : (inside early : Bool) (fault : Fault) → when (not inside || early) fault ≡ None → (inside ≡ true) × (early ≡ false)
not_crossing true false fault h = (refl, refl)
not_crossing true true fault h = absurd (cc)
not_crossing false early fault h = absurd (cc)

not_early : (list : List Symbol) (k : ℕ) (f g : Symbol) → slice_get list k ≡ Some f → begins_early list (suc k) g ≡ false → end_of f ≤ g.value
not_early list k f g at h =
    let here : nat_lt 0 (suc k) ≡ true = grind (arith, nat_tests) in
    let before : suc k - 1 ≡ k = omega arith in
    let test : nat_lt g.value (end_of f) ≡ false = simp (here, before, at) at h in
    grind (arith, nat_tests)

-- the section that a test passes
section_that : (o : Option Section) (p : Section → Bool) → option_map_or p o false ≡ true → (s : Section) × (o ≡ Some s) × (p s ≡ true)
section_that None p h = absurd (false≢true h)
section_that (Some s) p h = (s, refl, h)

contains_at : {A : Type 0} (xs : List A) (k : ℕ) (x : A) → slice_get xs k ≡ Some x → Contains xs x
contains_at xs k x h = (k, slice_get_within xs k x h, get_or_from_slice_get xs k x x h)

at_contains : {A : Type 0} (xs : List A) (x : A) → (here : Contains xs x) → slice_get xs here.0 ≡ Some x
at_contains xs x here = slice_get-get_or xs here.0 x here.1 ∙ ap Some here.2

inside_from_test : (f : Symbol) (s : Section) → is_inside f s ≡ true → (s.addr ≤ f.value) × (end_of f ≤ s.addr + s.size)
inside_from_test f s h = grind (arith, nat_tests)

same_section : (s t : Section) → ◌≡◌ {A = Option Section} (Some s) (Some t) → s ≡ t
same_section s t h = cc

-- what the rules say of a kept function and of its section
pub record IsPlacedFunction (bytes : List ℕ) (f : Symbol) (s : Section) : Type 0 where
  pub considered : Contains (considered_symbols bytes) f
  pub section : slice_get (sections bytes) f.section ≡ Some s
  pub one_of : Contains (sections bytes) s
  pub code : is_code bytes s ≡ true
  pub starts : s.addr ≤ f.value
  pub ends : end_of f ≤ s.addr + s.size
  pub some : 0 < f.size

pub placed_function : (bytes : List ℕ) (f : Symbol) → first (function_rules bytes) ≡ None → Contains (kept_functions bytes) f → IsPlacedFunction bytes f (its_section bytes f)
placed_function bytes f h here =
    let from = function_from bytes f (kept-from bytes f here) in
    let parts = function_parts bytes f from.1 in
    let tests = not_crossing (is_inside_its_section bytes f) _ _ (no_finding bytes h here.0 f (at_contains (kept_functions bytes) f here)) in
    let code = section_that (slice_get (sections bytes) f.section) (is_code bytes) parts.2 in
    let inside = section_that (slice_get (sections bytes) f.section) (is_inside f) tests.0 in
    let s : Section = code.0 in
    let same : inside.0 ≡ s = same_section inside.0 s (sym inside.1 ∙ code.1) in
    let bounds = inside_from_test f s (ap (is_inside f) (sym same) ∙ inside.2) in
    let its : its_section bytes f ≡ s = ap section_or code.1 in
    let placed : IsPlacedFunction bytes f s = record {
      considered = considered_from bytes f from.0 parts.0;
      section = code.1;
      one_of = contains_at (sections bytes) f.section s code.1;
      code = code.2;
      starts = bounds.0;
      ends = bounds.1;
      some = parts.1;
    } in
    subst (λ t. IsPlacedFunction bytes f t) (sym its) placed

-- the one function ends at or below where the other begins
abbrev pub EndsBefore : Symbol → Symbol → Type 0
EndsBefore f g = end_of f ≤ g.value

next_apart : (bytes : List ℕ) → first (function_rules bytes) ≡ None → (k : ℕ) (d : Symbol) → suc k < length (kept_functions bytes) → EndsBefore (get_or (kept_functions bytes) k d) (get_or (kept_functions bytes) (suc k) d)
next_apart bytes h k d within =
    let at : slice_get (kept_functions bytes) k ≡ Some (get_or (kept_functions bytes) k d) = slice_get-get_or (kept_functions bytes) k d (omega arith) in
    let next : slice_get (kept_functions bytes) (suc k) ≡ Some (get_or (kept_functions bytes) (suc k) d) = slice_get-get_or (kept_functions bytes) (suc k) d within in
    not_early (kept_functions bytes) k _ (get_or (kept_functions bytes) (suc k) d) at (not_crossing _ _ _ (no_finding bytes h (suc k) (get_or (kept_functions bytes) (suc k) d) next)).1

-- what holds of neighbours holds of all pairs, as each function has an address
apart-from_next : (list : List Symbol) → ((k : ℕ) (d : Symbol) → suc k < length list → EndsBefore (get_or list k d) (get_or list (suc k) d)) → (n i : ℕ) (d : Symbol) → i + suc n < length list → EndsBefore (get_or list i d) (get_or list (i + suc n) d)
apart-from_next list next zero i d within =
    let same : i + suc 0 ≡ suc i = omega arith in
    subst (λ j. end_of (get_or list i d) ≤ (get_or list j d).value) (sym same) (next i d (omega arith))
apart-from_next list next (suc n) i d within =
    let before = apart-from_next list next n i d (omega arith) in
    let one = next (i + suc n) d (omega arith) in
    let same : i + suc (suc n) ≡ suc (i + suc n) = omega arith in
    subst (λ j. end_of (get_or list i d) ≤ (get_or list j d).value) (sym same) (omega (arith, before, one))

pub functions_apart : (bytes : List ℕ) → first (function_rules bytes) ≡ None → AllPairs EndsBefore (kept_functions bytes)
functions_apart bytes h i j d earlier within =
    let same : i + suc (j - suc i) ≡ j = omega arith in
    subst (λ k. end_of (get_or (kept_functions bytes) i d) ≤ (get_or (kept_functions bytes) k d).value) same
    (apart-from_next (kept_functions bytes) (next_apart bytes h) (j - suc i) i d (omega arith))

-- ---- the entry

list_any-found : {A : Type 0} (p : A → Bool) (xs : List A) → list_any p xs ≡ true → (x : A) × (slice_get (filter p xs) 0 ≡ Some x) × (Contains xs x) × (p x ≡ true)
list_any-found p [] h = absurd (false≢true h)
list_any-found {A} p (x ∷ xs) h = by_test (list_any-found p xs) (p x) refl h
  where
    by_test : (list_any p xs ≡ true → (y : A) × (slice_get (filter p xs) 0 ≡ Some y) × (Contains xs y) × (p y ≡ true)) → (t : Bool) → p x ≡ t → (t || list_any p xs) ≡ true
        → (y : A) × (slice_get (cond t (x ∷ filter p xs) (filter p xs)) 0 ≡ Some y) × (Contains (x ∷ xs) y) × (p y ≡ true)
    by_test later true e g = (x, refl, (0, (omega arith), refl), e)
    by_test later false e g =
        let found = later g in
        let here = found.2 in
        (found.0, found.1, (suc here.0, (let low = here.1 in omega (arith, low)), here.2), found.3)

entry-test : (bytes : List ℕ) → first (function_rules bytes) ≡ None → list_any (starts_at (entry_of bytes)) (kept_functions bytes) ≡ true
unfolding missing_entry
entry-test bytes h = when_not-none _ NoEntry (has_entry bytes h)

-- the function that is entered is a kept one, and starts at the entry
pub entered : (bytes : List ℕ) → first (function_rules bytes) ≡ None → Contains (kept_functions bytes) (entry_function bytes) × ((entry_function bytes).value ≡ entry_of bytes)
unfolding entry_function
entered bytes h =
    let found = list_any-found (starts_at (entry_of bytes)) (kept_functions bytes) (entry-test bytes h) in
    let is : symbol_or (slice_get (filter (starts_at (entry_of bytes)) (kept_functions bytes)) 0) ≡ found.0 = ap symbol_or found.1 in
    (subst (Contains (kept_functions bytes)) (sym is) found.2, ap (λ (f : Symbol). f.value) is ∙ eqb-true _ _ found.3)

-- ---- the code of a function

code_parts : (bytes : List ℕ) (s : Section) → is_code bytes s ≡ true → (is_placed s ≡ true) × (has_bytes s ≡ true)
code_parts bytes s h = grind (arith, nat_tests)

-- its section is one of the code sections
pub in_code_sections : (bytes : List ℕ) (f : Symbol) (s : Section) → IsPlacedFunction bytes f s → Contains (code_sections bytes) s
unfolding code_sections
in_code_sections bytes f s is =
    contains_filter (is_code bytes) _ s (placed_has bytes s is.one_of (code_parts bytes s is.code).0) is.code

-- a placed section ends at or below 2 ^ 47
pub placed_ends : (bytes : List ℕ) (s : Section) → first (elf_rules bytes) ≡ None → Contains (sections bytes) s → is_placed s ≡ true → s.addr + s.size ≤ 2 ^ 47
placed_ends = placed_below

-- a kept function ends at or below 2 ^ 47
pub code_ends : (bytes : List ℕ) (f : Symbol) → first (elf_rules bytes) ≡ None → first (function_rules bytes) ≡ None → Contains (kept_functions bytes) f → end_of f ≤ 2 ^ 47
code_ends bytes f clean h here =
    let placed = placed_function bytes f h here in
    let most = placed_ends bytes (its_section bytes f) clean placed.one_of (code_parts bytes (its_section bytes f) placed.code).0 in
    let ends = placed.ends in
    omega (arith, most, ends)

-- its name is good
pub good_name : (bytes : List ℕ) (f : Symbol) → first (elf_rules bytes) ≡ None → first (function_rules bytes) ≡ None → Contains (kept_functions bytes) f → is_good_name (name_of_symbol bytes f) ≡ true
good_name bytes f clean h here = (clean_symbol bytes f clean (placed_function bytes f h here).considered).1

-- the bytes of a section that lie in the file
section-length : (bytes : List ℕ) (s : Section) → has_bytes s ≡ true → s.offset + s.size ≤ length bytes → length (section_bytes bytes s) ≡ s.size
section-length bytes s has within =
    let front = length-take (s.offset + s.size - s.offset) (drop s.offset bytes) in
    let rest = length-drop s.offset bytes in
    let whole : length (take (s.offset + s.size - s.offset) (drop s.offset bytes)) ≡ s.size = omega (arith, front, rest, within) in
    ap (λ t. length (cond t (take (s.offset + s.size - s.offset) (drop s.offset bytes)) [])) has ∙ whole

-- all bytes of a kept function are in the file
pub code_length : (bytes : List ℕ) (f : Symbol) → first (elf_rules bytes) ≡ None → first (function_rules bytes) ≡ None → Contains (kept_functions bytes) f → length (code_of_symbol bytes f) ≡ f.size
unfolding code_of_symbol
code_length bytes f clean h here =
    let placed = placed_function bytes f h here in
    let s : Section = its_section bytes f in
    let parts = code_parts bytes (its_section bytes f) placed.code in
    let stored = clean_stored bytes (its_section bytes f) clean placed.one_of parts.0 parts.1 in
    let whole = section-length bytes (its_section bytes f) parts.1 stored in
    let front = length-take f.size (drop (f.value - (its_section bytes f).addr) (section_bytes bytes (its_section bytes f))) in
    let rest = length-drop (f.value - (its_section bytes f).addr) (section_bytes bytes (its_section bytes f)) in
    let starts = placed.starts in
    let ends = placed.ends in
    omega (arith, whole, front, rest, starts, ends)
