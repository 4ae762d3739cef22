-- The places in the list of the functions and of the data of a file, as the code goes through them: what an item shows, and which
-- items are still to come at a place.
use Rattle.std.specs.Prelude.{◌≡◌, ℕ, ◌+◌, ◌-◌, ◌*◌, ◌<◌, ◌≤◌, List, [], ◌∷◌, ◌++◌, drop, length, filter, map, flat_map, Bool, ◌&&◌, true, Option, None, MatchOption, slice_get, slice_index_or}
use Rattle.std.specs.List.{list_any, range_with_len}
use Rattle.std.specs.Str.{bytes_eq}
use Rattle.std.specs.Option.{option_map_or}
use Rattle.rw_base.specs.declared.span.Span.{Span}
use Rattle.x86_insn.specs.declared.instruction.Insn.{Insn}
use Rattle.x86_insn.specs.declared.instruction.Insn.TheVariants as insn
use Rattle.x86_insn.specs.declared.kinds.Plain.TheVariants.{Int3}
use Rattle.x86_insn.specs.WellFormed.{is_instruction}
use Rattle.asm_items.specs.declared.item.Item.{Item}
use Rattle.asm_items.specs.declared.item.Item.TheVariants as items
use Rattle.asm_items.specs.declared.item.Sym.{Sym}
use Rattle.asm_items.specs.declared.item.Sym.TheVariants as sym
use Rattle.rw_elf.specs.declared.section.NameAt.{NameAt}
use Rattle.rw_elf.specs.declared.symbol.Symbol.{Symbol}
use Rattle.rw_elf.specs.Name.{name_bytes}
use Rattle.rw_elf.specs.Sections.{has_bytes}
use Rattle.rw_elf.specs.Symbols.{dynamic_symbols}
use Rattle.rw_elf.specs.Tables.{kept_sections}
use Rattle.rw_reloc.specs.declared.slot.Target.{Target}
use Rattle.rw_reloc.specs.declared.slot.Target.TheVariants as target
use Rattle.rw_reloc.specs.Slots.{copies_of}
use Rattle.rw_reloc.specs.Targets.{is_undefined}
use Rattle.rw_funcs.specs.Functions.{code_of_symbol, kept_functions, name_of_symbol, symbol_or}
use Rattle.rw_funcs.specs.Points.{Point, first_bad, points}
use Rattle.rw_tables.specs.declared.table.Table.{Table}
use Rattle.rw_tables.specs.Tables.{end_of, entry_at}
use Rattle.rw_data.specs.Pieces.{pieces_from}
use Rattle.rw_probe.specs.Probes.{probe_insns, step_count}
use Rattle.rw_out.specs.declared.probes.Counting.{Counting}
use Rattle.rw_out.specs.declared.position.FileItem.{FileItem}
use Rattle.rw_out.specs.declared.position.FileItem.TheVariants as file_item
use Rattle.rw_out.specs.declared.position.Position.{Position}
use Rattle.rw_out.specs.declared.position.Position.TheVariants as position
use Rattle.rw_out.specs.Items.{Probes, atom_symbol, byte_line, closing, contents, counters_name, data_items, distance_item, entry_items, entry_items_at, function_items, function_number, is_weak, last_items, line_count, piece_items, point_items, section_items, section_number, section_opening, start_name, weakly_used, with_symbols}

-- ---- where names stand in the file

abbrev pub dynamic_place : List ℕ → ℕ → NameAt
dynamic_place file number = (symbol_or (slice_get (dynamic_symbols file) number)).name

abbrev pub no_place : NameAt
no_place = record { at = 0; len = 0 }

abbrev pub target_place : List ℕ → Target → NameAt
target_place file (target.To a) = no_place
target_place file (target.Import number) = dynamic_place file number
target_place file (target.Copy number size) = dynamic_place file number

abbrev pub copy_place : List ℕ → ℕ → NameAt
copy_place file k = option_map_or (λ c. target_place file c.target) (slice_get (copies_of file) k) no_place

-- ---- the lines of a probe

abbrev pub counter_insns : Counting → List (Insn (Sym (List ℕ)))
counter_insns c = probe_insns (sym.Counter c.counter) c.form

-- the instruction of a line
abbrev pub counter_insn : Counting → Insn (Sym (List ℕ))
counter_insn c = slice_index_or (counter_insns c) c.number (insn.Plain Int3)

-- it has this line
abbrev pub HasLine : Counting → Type 0
HasLine c = c.number < step_count c.form

-- the lines from this one on
abbrev pub counting_on : Counting → List (Item (List ℕ))
counting_on c = map items.Ins (drop c.number (counter_insns c))

-- it goes on with this line and the next one, or this is the last
abbrev pub GoesOn : Counting → Option Counting → Type 0
GoesOn c next = MatchOption next (counting_on c ≡ items.Ins (counter_insn c) ∷ []) (λ d. (counting_on c ≡ items.Ins (counter_insn c) ∷ counting_on d) × HasLine d)

-- ---- what an item shows

abbrev pub shown : List ℕ → FileItem → Item (List ℕ)
shown file (file_item.Comment name) = items.Comment (name_bytes file name)
shown file file_item.Globl = items.Globl (start_name file)
shown file file_item.FuncKind = items.FuncKind (start_name file)
shown file file_item.Name = items.Name (start_name file)
shown file file_item.TextHead = items.TextHead
shown file (file_item.Align k) = items.Align k
shown file (file_item.Label l) = items.Label l
shown file (file_item.Insn i) = items.Ins (with_symbols file i)
shown file (file_item.Counting c) = items.Ins (counter_insn c)
shown file (file_item.SectionHead n writable nobits) = items.SectionHead n writable nobits
shown file (file_item.Bytes bytes) = items.Bytes bytes
shown file (file_item.Quad holds) = items.Quad (atom_symbol file holds)
shown file (file_item.LongDiff c t) = items.LongDiff c t
shown file (file_item.Zero n) = items.Zero n
shown file file_item.CountersHead = items.CountsHead
shown file file_item.CountersGlobl = items.Globl counters_name
shown file file_item.CountersName = items.Name counters_name
shown file file_item.Tail = items.Tail

-- ---- what is to come

abbrev pub functions_on : List ℕ → Probes → ℕ → List (Item (List ℕ))
functions_on file probes k = flat_map (function_items file probes) (drop k (kept_functions file)) ++ data_items file probes

-- the points from an offset of a function on
abbrev pub points_past : List ℕ → Symbol → ℕ → List Point
points_past file f m = points (length (drop m (code_of_symbol file f))) (f.value + m) (drop m (code_of_symbol file f))

abbrev pub points_on : List ℕ → Probes → ℕ → ℕ → List (Item (List ℕ))
points_on file probes k a =
    let f = function_number file k in flat_map (point_items file probes) (points_past file f (a - f.value)) ++ closing f.value ++ functions_on file probes (k + 1)

abbrev pub entry_on : List ℕ → Probes → ℕ → List (Item (List ℕ))
entry_on file probes k = entry_items_at file (function_number file k).value ++ points_on file probes k (function_number file k).value

abbrev pub sections_on : List ℕ → Probes → ℕ → List (Item (List ℕ))
sections_on file probes n = flat_map (section_items file) (range_with_len n (length (kept_sections file) - n)) ++ last_items probes

abbrev pub pieces_on : List ℕ → Probes → ℕ → ℕ → List (Item (List ℕ))
pieces_on file probes n a = let s = section_number file n in flat_map (piece_items file s) (pieces_from file s a) ++ sections_on file probes (n + 1)

-- the lines of a run of bytes from a number on, and the words of a jump table
abbrev pub lines_on : List ℕ → Probes → ℕ → Span → ℕ → List (Item (List ℕ))
lines_on file probes n run k = map (byte_line file (section_number file n) run) (range_with_len k (line_count run - k)) ++ pieces_on file probes n run.end

abbrev pub words_on : List ℕ → Probes → ℕ → Table → ℕ → List (Item (List ℕ))
words_on file probes n t k = map (λ i. distance_item (entry_at file (t.base + 4 * i))) (range_with_len k (t.count - k)) ++ pieces_on file probes n (end_of t)

-- the last lines of the counters
abbrev pub zeros_on : Probes → List (Item (List ℕ))
zeros_on probes = items.Zero (8 * probes.counters) ∷ items.Tail ∷ []

abbrev pub rest : List ℕ → Probes → Position → List (Item (List ℕ))
rest file probes (position.Function k) = functions_on file probes k
rest file probes (position.TextHead k) = items.TextHead ∷ items.Align 4 ∷ entry_on file probes k
rest file probes (position.CodeAlignment k) = items.Align 4 ∷ entry_on file probes k
rest file probes (position.Globl k) = entry_items (start_name file) ++ points_on file probes k (function_number file k).value
rest file probes (position.FuncKind k) = items.FuncKind (start_name file) ∷ items.Name (start_name file) ∷ points_on file probes k (function_number file k).value
rest file probes (position.Name k) = items.Name (start_name file) ∷ points_on file probes k (function_number file k).value
rest file probes (position.Label k a) = points_on file probes k a
rest file probes (position.Insn k i a) = items.Ins (with_symbols file i) ∷ points_on file probes k a
rest file probes (position.Counting k c i a) = counting_on c ++ items.Ins (with_symbols file i) ∷ points_on file probes k a
rest file probes (position.Leading k i c a) = items.Ins (with_symbols file i) ∷ (counting_on c ++ points_on file probes k a)
rest file probes (position.Following k c a) = counting_on c ++ points_on file probes k a
rest file probes (position.Closing k) = items.Ins (insn.Plain Int3) ∷ functions_on file probes (k + 1)
rest file probes (position.Section n) = sections_on file probes n
rest file probes (position.Alignment n) = let s = section_number file n in drop 1 (section_opening s n) ++ contents file s ++ sections_on file probes (n + 1)
rest file probes (position.SectionLabel n) = let s = section_number file n in drop 2 (section_opening s n) ++ contents file s ++ sections_on file probes (n + 1)
rest file probes (position.Zeros n) = items.Zero (section_number file n).size ∷ sections_on file probes (n + 1)
rest file probes (position.Piece n a) = pieces_on file probes n a
rest file probes (position.Line n run k) = lines_on file probes n run k
rest file probes (position.Word n t k) = words_on file probes n t k
rest file probes position.CountersGlobl = items.Globl counters_name ∷ items.Align 3 ∷ items.Name counters_name ∷ zeros_on probes
rest file probes position.CountersAlignment = items.Align 3 ∷ items.Name counters_name ∷ zeros_on probes
rest file probes position.CountersName = items.Name counters_name ∷ zeros_on probes
rest file probes position.CountersZeros = zeros_on probes
rest file probes position.Tail = items.Tail ∷ []
rest file probes position.End = []

-- ---- which places there are

-- the address is that of a point of the function with a number, or its end: from there on instructions fill it
pub record IsPast (file : List ℕ) (k a : ℕ) : Type 0 where
  pub number : k < length (kept_functions file)
  pub offset : ℕ
  pub place : a ≡ (function_number file k).value + offset
  pub within : offset ≤ (function_number file k).size
  pub good : first_bad (length (drop offset (code_of_symbol file (function_number file k)))) ((function_number file k).value + offset) (drop offset (code_of_symbol file (function_number file k))) ≡ None

-- there is an instruction at the address, and the next point is at another
abbrev pub IsPointOf : List ℕ → ℕ → ℕ → Insn ℕ → ℕ → Type 0
IsPointOf file k a i next =
    let f = function_number file k in points_past file f (a - f.value) ≡ record { place = a; insn = i; len = next - a } ∷ points_past file f (next - f.value)

-- the address is one of the kept section with a number, which has bytes in the file, or its end
pub record IsInData (file : List ℕ) (n a : ℕ) : Type 0 where
  pub number : n < length (kept_sections file)
  pub least : (section_number file n).addr ≤ a
  pub most : a ≤ (section_number file n).addr + (section_number file n).size
  pub stored : has_bytes (section_number file n) ≡ true

abbrev pub IsAt : List ℕ → Position → Type 0
IsAt file (position.Function k) = k ≤ length (kept_functions file)
IsAt file (position.TextHead k) = k < length (kept_functions file)
IsAt file (position.CodeAlignment k) = k < length (kept_functions file)
IsAt file (position.Globl k) = k < length (kept_functions file)
IsAt file (position.FuncKind k) = k < length (kept_functions file)
IsAt file (position.Name k) = k < length (kept_functions file)
IsAt file (position.Label k a) = IsPast file k a
IsAt file (position.Insn k i a) = IsPast file k a × (is_instruction i ≡ true)
IsAt file (position.Counting k c i a) = IsPast file k a × (is_instruction i ≡ true) × HasLine c
IsAt file (position.Leading k i c a) = IsPast file k a × (is_instruction i ≡ true) × HasLine c
IsAt file (position.Following k c a) = IsPast file k a × HasLine c
IsAt file (position.Closing k) = k < length (kept_functions file)
IsAt file (position.Section n) = n ≤ length (kept_sections file)
IsAt file (position.Alignment n) = n < length (kept_sections file)
IsAt file (position.SectionLabel n) = n < length (kept_sections file)
IsAt file (position.Zeros n) = n < length (kept_sections file)
IsAt file (position.Piece n a) = IsInData file n a
IsAt file (position.Line n run k) = IsInData file n run.start × IsInData file n run.end × (run.start + 16 * k < run.end)
IsAt file (position.Word n t k) = IsInData file n t.base × IsInData file n (end_of t) × (k < t.count)
IsAt file _ = Unit {0}

-- an instruction is one that bytes can spell, and a line of a probe is one that it has
abbrev pub IsFormed : FileItem → Type 0
IsFormed (file_item.Insn i) = is_instruction i ≡ true
IsFormed (file_item.Counting c) = HasLine c
IsFormed _ = Unit {0}

-- the step from a place goes on with its first item, or there is none
abbrev pub Goes : List ℕ → Probes → List (Item (List ℕ)) → Option (FileItem × Position) → Type 0
Goes file probes items step = MatchOption step (items ≡ []) (λ s. (items ≡ shown file s.0 ∷ rest file probes s.1) × IsAt file s.1 × IsFormed s.0)

-- an undefined weak symbol whose name is one of some, and the names of these
abbrev pub is_weak_among : List ℕ → List (List ℕ) → Symbol → Bool
is_weak_among file names s = is_undefined s && is_weak s && list_any (bytes_eq (name_of_symbol file s)) names

abbrev pub AreWeakAmong : List ℕ → List (List ℕ) → List NameAt → Type 0
AreWeakAmong file used names = names ≡ map (λ s. s.name) (filter (is_weak_among file used) (dynamic_symbols file))

-- the names of the weak symbols that are used
abbrev pub IsWeak : List ℕ → Probes → List NameAt → Type 0
IsWeak file probes names = names ≡ map (λ s. s.name) (weakly_used file probes)
