-- The functions of a file, where it starts, and the rules of the phase functions.
use Rattle.std.specs.Prelude.{ℕ, ◌+◌, ◌-◌, ◌*◌, ◌/◌, List, [], ◌∷◌, take, drop, map, filter, codes, Bool, false, not, ◌&&◌, ◌||◌, ◌==◌, nat_lt, nat_le, Option, Some, None, slice_get, position, find, if◌then◌else◌}
use Rattle.std.specs.List.{list_any, dedup, flat_map, range_with_len}
use Rattle.std.specs.Option.{option_map_or}
use Rattle.std.specs.Ordering.{is_lt, nat_cmp, ordering_then}
use Rattle.std.specs.Str.{bytes_eq}
use Rattle.rw_base.specs.declared.fault.Fault.{Fault}
use Rattle.rw_base.specs.declared.fault.Fault.TheVariants.{NoEntry, Crosses, Constructors}
use Rattle.rw_base.specs.Order.{ordered}
use Rattle.rw_base.specs.Rules.{Rule, once, each_of, when}
use Rattle.rw_elf.specs.declared.section.Section.{Section}
use Rattle.rw_elf.specs.declared.symbol.Symbol.{Symbol}
use Rattle.rw_elf.specs.Header.{entry_address}
use Rattle.rw_elf.specs.Name.{name_bytes}
use Rattle.rw_elf.specs.Places.{section_bytes}
use Rattle.rw_elf.specs.Section.{sections, null_section}
use Rattle.rw_elf.specs.Sections.{placed_sections}
use Rattle.rw_elf.specs.Symbols.{symbols, dynamic_symbols, considered_symbols, is_considered, null_symbol}
use Rattle.rw_elf.specs.Tables.{is_code}
use Rattle.rw_reloc.specs.declared.slot.Target.{Target}
use Rattle.rw_reloc.specs.declared.slot.Target.TheVariants.{To}
use Rattle.rw_reloc.specs.Slots.{slot_at, slots_of}
use Rattle.rw_funcs.specs.declared.function.Function.{Function}

-- the section of an index has code
abbrev pub is_code_at : List ℕ → ℕ → Bool
is_code_at bytes index = option_map_or (is_code bytes) (slice_get (sections bytes) index) false

-- it is a symbol of a function: of size above 0, in a code section
unfoldable pub is_function : List ℕ → Symbol → Bool
is_function bytes s = is_considered s && (nat_lt 0 s.size && is_code_at bytes s.section)

-- the symbols of functions, in table order
unfoldable pub function_symbols : List ℕ → List Symbol
function_symbols bytes = filter (is_function bytes) (symbols bytes)

-- ---- files that a C library starts

abbrev pub is_main : List ℕ → Symbol → Bool
is_main bytes s = bytes_eq (name_bytes bytes s.name) (codes "main")

abbrev pub starts_main : List ℕ → Symbol → Bool
starts_main bytes s = s.section == 0 && bytes_eq (name_bytes bytes s.name) (codes "__libc_start_main")

-- a function is named main, and __libc_start_main is imported
unfoldable pub is_hosted : List ℕ → Bool
is_hosted bytes = list_any (is_main bytes) (function_symbols bytes) && list_any (starts_main bytes) (dynamic_symbols bytes)

-- the names of the code that such a file has around main
abbrev pub startup_names : List (List ℕ)
startup_names =
    codes "_start" ∷ codes "_init" ∷ codes "_fini" ∷ codes "_dl_relocate_static_pie" ∷ codes "deregister_tm_clones"
    ∷ codes "register_tm_clones" ∷ codes "__do_global_dtors_aux" ∷ codes "frame_dummy" ∷ codes "__libc_csu_init"
    ∷ codes "__libc_csu_fini" ∷ []

abbrev pub is_startup : List ℕ → Symbol → Bool
is_startup bytes s = list_any (bytes_eq (name_bytes bytes s.name)) startup_names

-- ---- functions

-- the address behind a function; its range goes from its value up to there
abbrev pub end_of : Symbol → ℕ
end_of f = f.value + f.size

-- by start, and then by end
abbrev pub comes_before : Symbol → Symbol → Bool
comes_before f g = is_lt (ordering_then (nat_cmp f.value g.value) (nat_cmp (end_of f) (end_of g)))

abbrev pub same_range : Symbol → Symbol → Bool
same_range f g = f.value == g.value && f.size == g.size

abbrev pub by_range : List Symbol → List Symbol
by_range = ordered comes_before

-- the ranges by start and then end; the first symbol of a range, in table order, stands for it
unfoldable pub ranges : List ℕ → List Symbol
ranges bytes = dedup same_range (by_range (function_symbols bytes))

-- the functions with the name of startup code
unfoldable pub startup_functions : List ℕ → List Symbol
startup_functions bytes = filter (is_startup bytes) (by_range (function_symbols bytes))

-- in a file that a C library starts, the ranges of these are left out
abbrev pub is_left_out : List ℕ → Symbol → Bool
is_left_out bytes f = is_hosted bytes && list_any (same_range f) (startup_functions bytes)

unfoldable pub kept_functions : List ℕ → List Symbol
kept_functions bytes = filter (λ f. not (is_left_out bytes f)) (ranges bytes)

-- where main starts; of several functions of this name the first by start and then end
unfoldable pub main_start : List ℕ → ℕ
main_start bytes = option_map_or (λ f. f.value) (find (is_main bytes) (by_range (function_symbols bytes))) 0

-- where a file starts: at main, or without a C library at e_entry
unfoldable pub entry_of : List ℕ → ℕ
entry_of bytes = if is_hosted bytes then main_start bytes else entry_address bytes

abbrev pub starts_at : ℕ → Symbol → Bool
starts_at a f = f.value == a

abbrev pub symbol_or : Option Symbol → Symbol
symbol_or None = null_symbol
symbol_or (Some s) = s

abbrev pub section_or : Option Section → Section
section_or None = null_section
section_or (Some s) = s

-- the function that is entered; of functions that don't overlap one at most starts at an address
unfoldable pub entry_function : List ℕ → Symbol
entry_function bytes = symbol_or (slice_get (filter (starts_at (entry_of bytes)) (kept_functions bytes)) 0)

-- the section that has the code of a function
abbrev pub its_section : List ℕ → Symbol → Section
its_section bytes f = section_or (slice_get (sections bytes) f.section)

-- the bytes of a function
unfoldable pub code_of_symbol : List ℕ → Symbol → List ℕ
code_of_symbol bytes f = take f.size (drop (f.value - (its_section bytes f).addr) (section_bytes bytes (its_section bytes f)))

-- the name of a function
abbrev pub name_of_symbol : List ℕ → Symbol → List ℕ
name_of_symbol bytes f = name_bytes bytes f.name

-- the range and the name of a function, and those of all functions of a file
abbrev pub function_at : Symbol → Function
function_at f = record { span = record { start = f.value; end = end_of f }; name = f.name }

abbrev pub functions_of : List ℕ → List Function
functions_of bytes = map function_at (kept_functions bytes)

-- the address is in the range of the function
abbrev pub has_address : ℕ → Function → Bool
has_address a f = nat_le f.span.start a && nat_lt a f.span.end

-- the number of the function whose range has an address
abbrev pub function_of : List ℕ → ℕ → Option ℕ
function_of bytes a = position (has_address a) (functions_of bytes)

-- ---- the rules of the phase functions

abbrev pub is_inside : Symbol → Section → Bool
is_inside f s = nat_le s.addr f.value && nat_le (end_of f) (s.addr + s.size)

abbrev pub is_inside_its_section : List ℕ → Symbol → Bool
is_inside_its_section bytes f = option_map_or (is_inside f) (slice_get (sections bytes) f.section) false

-- the function with a number begins before the one before it ends
abbrev pub begins_early : List Symbol → ℕ → Symbol → Bool
begins_early list k f = nat_lt 0 k && option_map_or (λ before. nat_lt f.value (end_of before)) (slice_get list (k - 1)) false

abbrev pub crosses : List ℕ → List Symbol → ℕ → Symbol → Option Fault
crosses bytes list k f = when (not (is_inside_its_section bytes f) || begins_early list k f) (Crosses f.value)

-- each function lies in its section, behind the one before it
unfoldable pub crossing_functions : List ℕ → Rule
crossing_functions bytes = each_of (kept_functions bytes) (crosses bytes (kept_functions bytes))

-- a function starts at the entry
unfoldable pub missing_entry : List ℕ → Rule
missing_entry bytes = once (when (not (list_any (starts_at (entry_of bytes)) (kept_functions bytes))) NoEntry)

-- an array of addresses of functions that run before or after the program: SHT_INIT_ARRAY is 14, SHT_FINI_ARRAY 15 and
-- SHT_PREINIT_ARRAY 16
abbrev pub is_array : Section → Bool
is_array s = s.kind == 14 || (s.kind == 15 || s.kind == 16)

-- the addresses of its words of 8 bytes; what is left behind the last is none
abbrev pub words_of : Section → List ℕ
words_of s = if is_array s then map (λ k. s.addr + 8 * k) (range_with_len 0 (s.size / 8)) else []

-- the words of all such arrays, by ascending address
unfoldable pub array_words : List ℕ → List ℕ
array_words bytes = flat_map words_of (placed_sections bytes)

-- the considered symbols with the name of startup code
unfoldable pub startup_symbols : List ℕ → List Symbol
startup_symbols bytes = filter (is_startup bytes) (by_range (considered_symbols bytes))

-- startup code is what a relocation puts at the address
abbrev pub is_startup_target : List Symbol → Target → Bool
is_startup_target startup (To a) = list_any (starts_at a) startup
is_startup_target startup _ = false

unfoldable pub is_startup_word : List ℕ → ℕ → Bool
is_startup_word bytes a = option_map_or (λ s. is_startup_target (startup_symbols bytes) s.target) (slot_at (slots_of bytes) a) false

abbrev pub word_fault : List ℕ → ℕ → ℕ → Option Fault
word_fault bytes k a = when (not (is_hosted bytes && is_startup_word bytes a)) (Constructors a)

-- each such word leads to startup code of a C library
unfoldable pub constructors : List ℕ → Rule
constructors bytes = each_of (array_words bytes) (word_fault bytes)

unfoldable pub function_rules : List ℕ → List Rule
function_rules bytes = crossing_functions bytes ∷ missing_entry bytes ∷ constructors bytes ∷ []
