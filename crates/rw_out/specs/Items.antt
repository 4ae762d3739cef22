-- The items of a file, whose names are bytes: first the copied symbols, then the weak ones that something uses, then the functions
-- with their probes, then the data and the counters.
use Rattle.std.specs.Prelude.{ℕ, ◌+◌, ◌-◌, ◌*◌, ◌/◌, List, [], ◌∷◌, ◌++◌, length, map, filter, flat_map, codes, min, Bool, true, false, not, ◌&&◌, ◌==◌, nat_lt, Option, Some, None, slice_get, if◌then◌else◌}
use Rattle.std.specs.Int.{trailing_zeros, w64}
use Rattle.std.specs.List.{range_with_len}
use Rattle.std.specs.Option.{option_map_or}
use Rattle.rw_base.specs.declared.span.Span.{Span}
use Rattle.x86_insn.specs.declared.instruction.Insn.{Insn}
use Rattle.x86_insn.specs.declared.instruction.Insn.TheVariants as insn
use Rattle.x86_insn.specs.declared.kinds.Plain.TheVariants.{Int3}
use Rattle.x86_insn.specs.References.{map_references}
use Rattle.rw_words.specs.declared.atom.Atom.{Atom}
use Rattle.rw_words.specs.declared.atom.Atom.TheVariants as atom
use Rattle.asm_items.specs.declared.item.Item.{Item}
use Rattle.asm_items.specs.declared.item.Item.TheVariants.{Copy, Comment, Weak, Globl, TextHead, Align, FuncKind, Name, Label, Ins, SectionHead, Bytes, Quad, LongDiff, Zero, CountsHead, Tail}
use Rattle.asm_items.specs.declared.item.Label.TheVariants as label
use Rattle.asm_items.specs.declared.item.Sym.{Sym}
use Rattle.asm_items.specs.declared.item.Sym.TheVariants as sym
use Rattle.rw_elf.specs.declared.section.Section.{Section}
use Rattle.rw_elf.specs.declared.symbol.Symbol.{Symbol}
use Rattle.rw_elf.specs.Places.{bytes_from}
use Rattle.rw_elf.specs.Sections.{has_bytes, is_writable}
use Rattle.rw_elf.specs.Symbols.{dynamic_symbols}
use Rattle.rw_elf.specs.Tables.{kept_sections}
use Rattle.rw_reloc.specs.declared.slot.Slot.{Slot}
use Rattle.rw_reloc.specs.declared.slot.Target.{Target}
use Rattle.rw_reloc.specs.declared.slot.Target.TheVariants as target
use Rattle.rw_reloc.specs.Slots.{copies_of}
use Rattle.rw_reloc.specs.Targets.{is_undefined, target_size}
use Rattle.rw_funcs.specs.Functions.{entry_of, is_hosted, kept_functions, name_of_symbol, section_or, symbol_or}
use Rattle.rw_funcs.specs.Points.{Point, points_of}
use Rattle.rw_tables.specs.Tables.{entry_at}
use Rattle.rw_refs.specs.CodeReferences.{is_direct}
use Rattle.rw_refs.specs.References.{reference_at, target_at}
use Rattle.rw_probe.specs.declared.form.Probe.{Probe}
use Rattle.rw_probe.specs.Probes.{probe_insns}
use Rattle.rw_probe.specs.ProbedPrograms.{is_endbr64}
use Rattle.rw_data.specs.declared.piece.Piece.{Piece}
use Rattle.rw_data.specs.declared.piece.Piece.TheVariants as piece
use Rattle.rw_data.specs.Pieces.{pieces_of, words_of}
use Rattle.rw_out.specs.Uses.{uses}

-- ---- symbols

-- the name of the dynamic symbol with a number
abbrev pub dynamic_name : List ℕ → ℕ → List ℕ
dynamic_name file number = name_of_symbol file (symbol_or (slice_get (dynamic_symbols file) number))

-- the name of what a slot imports or copies
abbrev pub target_name : List ℕ → Target → List ℕ
target_name file (target.To a) = []
target_name file (target.Import number) = dynamic_name file number
target_name file (target.Copy number size) = dynamic_name file number

-- the name of the copy with a number
abbrev pub copy_name : List ℕ → ℕ → List ℕ
copy_name file k = option_map_or (λ c. target_name file c.target) (slice_get (copies_of file) k) []

-- a place in data: the first regions are the kept sections, and the copies follow them
abbrev pub place_symbol : List ℕ → ℕ → ℕ → Sym (List ℕ)
place_symbol file r o =
    if nat_lt r (length (kept_sections file)) then sym.Section r o else sym.Named (copy_name file (r - length (kept_sections file))) o

-- what an address can stand for: a place in data, an instruction or an import
abbrev pub atom_symbol : List ℕ → Atom → Sym (List ℕ)
atom_symbol file (atom.Ptr r o) = place_symbol file r o
atom_symbol file (atom.Code a) = sym.Code a
atom_symbol file (atom.Import number) = sym.Named (dynamic_name file number) 0
atom_symbol file _ = sym.Code 0

-- ---- functions

-- the symbol of an address that an instruction names, which stands for something in a file without a fault
abbrev pub symbol_or_label : List ℕ → ℕ → Option Atom → Sym (List ℕ)
symbol_or_label file a None = sym.Code a
symbol_or_label file a (Some stands_for) = atom_symbol file stands_for

-- of the target of a direct jump or call, or of any other address
unfoldable pub symbol_named : List ℕ → Bool → ℕ → Sym (List ℕ)
symbol_named file direct a = symbol_or_label file a (if direct then target_at file a else reference_at file a)

unfoldable pub with_symbols : List ℕ → Insn ℕ → Insn (Sym (List ℕ))
with_symbols file i = map_references (symbol_named file (is_direct i)) i

-- The probes of a text: how many counters they have, and at an address, if one stands there, the number of its counter and
-- its form.
pub record Probes : Type 0 where
  pub counters : ℕ
  pub at : ℕ → Option (ℕ × Probe)

abbrev pub no_probes : Probes
no_probes = record { counters = 0; at = λ a. None }

-- the instructions of a probe, which refer to its counter
abbrev pub probe_items : Option (ℕ × Probe) → List (Item (List ℕ))
probe_items None = []
probe_items (Some counted) = map Ins (probe_insns (sym.Counter counted.0) counted.1)

-- A probe stands before its instruction, and behind one that is endbr64, which has to be where an indirect jump leads.
abbrev pub insn_items : Bool → Item (List ℕ) → List (Item (List ℕ)) → List (Item (List ℕ))
insn_items true insn probe = insn ∷ probe
insn_items false insn probe = probe ++ insn ∷ []

-- a point is its label, and its instruction with its probe
abbrev pub point_items : List ℕ → Probes → Point → List (Item (List ℕ))
point_items file probes p =
    Label (label.Code p.place) ∷ insn_items (is_endbr64 p.insn) (Ins (with_symbols file p.insn)) (probe_items (probes.at p.place))

-- the name of the place at which the program starts: a C library starts it at main
abbrev pub start_name : List ℕ → List ℕ
start_name file = if is_hosted file then codes "main" else codes "_start"

-- what opens each function, and besides the one that is entered
abbrev pub opening : List ℕ → List (Item (List ℕ))
opening name = Comment name ∷ TextHead ∷ Align 4 ∷ []

abbrev pub entry_items : List ℕ → List (Item (List ℕ))
entry_items name = Globl name ∷ FuncKind name ∷ Name name ∷ []

abbrev pub entry_items_at : List ℕ → ℕ → List (Item (List ℕ))
entry_items_at file start = if start == entry_of file then entry_items (start_name file) else []

-- what closes the function that starts at an address
abbrev pub closing : ℕ → List (Item (List ℕ))
closing start = Label (label.Past start) ∷ Ins (insn.Plain Int3) ∷ []

abbrev pub function_items : List ℕ → Probes → Symbol → List (Item (List ℕ))
function_items file probes f =
    opening (name_of_symbol file f) ++ entry_items_at file f.value ++ flat_map (point_items file probes) (points_of file f) ++ closing f.value

-- ---- data

-- the power of 2 that an alignment is: how many zero bits it has below its one; an alignment of 0 counts as 1
abbrev pub exponent : ℕ → ℕ
exponent alignment = if alignment == 0 then 0 else trailing_zeros w64 alignment

-- the line with a number of a run of bytes: 16 of them, or what is left
abbrev pub byte_line : List ℕ → Section → Span → ℕ → Item (List ℕ)
byte_line file s run k =
    Bytes (record { items = bytes_from file s (run.start + 16 * k) (min 16 (run.end - (run.start + 16 * k))) })

abbrev pub line_count : Span → ℕ
line_count run = (run.end - run.start + 15) / 16

-- the distance of a point from its table
abbrev pub distance_item : Option (ℕ × ℕ) → Item (List ℕ)
distance_item None = LongDiff 0 0
distance_item (Some word) = LongDiff word.0 word.1

-- bytes as they stand in the file, the address of a symbol, or a label and the words of a jump table
abbrev pub piece_items : List ℕ → Section → Piece → List (Item (List ℕ))
piece_items file s (piece.Bytes run) = map (byte_line file s run) (range_with_len 0 (line_count run))
piece_items file s (piece.Quad a holds) = Quad (atom_symbol file holds) ∷ []
piece_items file s (piece.Table t) = Label (label.Table t.base) ∷ map (λ a. distance_item (entry_at file a)) (words_of t)

-- its pieces, or where it has no bytes in the file as many zeros
abbrev pub contents : List ℕ → Section → List (Item (List ℕ))
contents file s = if has_bytes s then flat_map (piece_items file s) (pieces_of file s) else Zero s.size ∷ []

abbrev pub section_opening : Section → ℕ → List (Item (List ℕ))
section_opening s n = SectionHead n (is_writable s) (not (has_bytes s)) ∷ Align (exponent s.align) ∷ Label (label.Section n) ∷ []

-- the kept section with a number
abbrev pub section_number : List ℕ → ℕ → Section
section_number file n = section_or (slice_get (kept_sections file) n)

abbrev pub section_items : List ℕ → ℕ → List (Item (List ℕ))
section_items file n = section_opening (section_number file n) n ++ contents file (section_number file n)

-- ---- the whole

-- the kept function with a number
abbrev pub function_number : List ℕ → ℕ → Symbol
function_number file k = symbol_or (slice_get (kept_functions file) k)

-- the copied symbols, by ascending address
abbrev pub copy_item : List ℕ → Slot → Item (List ℕ)
copy_item file c = Copy (target_name file c.target) (target_size c.target)

unfoldable pub copy_items : List ℕ → List (Item (List ℕ))
copy_items file = map (copy_item file) (copies_of file)

-- the counters, of eight bytes each, where there are any
abbrev pub counters_name : List ℕ
counters_name = codes "__retro_counts"

abbrev pub counter_items : ℕ → List (Item (List ℕ))
counter_items n =
    if n == 0 then [] else CountsHead ∷ Globl counters_name ∷ Align 3 ∷ Name counters_name ∷ Zero (8 * n) ∷ []

-- what closes the text: the counters and the tail
abbrev pub last_items : Probes → List (Item (List ℕ))
last_items probes = counter_items probes.counters ++ Tail ∷ []

-- the functions by ascending start, the data by ascending address, and what closes the text
unfoldable pub data_items : List ℕ → Probes → List (Item (List ℕ))
data_items file probes = flat_map (section_items file) (range_with_len 0 (length (kept_sections file))) ++ last_items probes

unfoldable pub main_items : List ℕ → Probes → List (Item (List ℕ))
main_items file probes = flat_map (function_items file probes) (kept_functions file) ++ data_items file probes

-- the undefined weak dynamic symbols, by number, of which some line uses the name: STB_WEAK is 2
abbrev pub is_weak : Symbol → Bool
is_weak s = s.bind == 2

abbrev pub is_weakly_used : List ℕ → Probes → Symbol → Bool
is_weakly_used file probes s = is_undefined s && is_weak s && uses (main_items file probes) (name_of_symbol file s)

unfoldable pub weakly_used : List ℕ → Probes → List Symbol
weakly_used file probes = filter (is_weakly_used file probes) (dynamic_symbols file)

unfoldable pub weak_items : List ℕ → Probes → List (Item (List ℕ))
weak_items file probes = map (λ s. Weak (name_of_symbol file s)) (weakly_used file probes)

unfoldable pub items_with : List ℕ → Probes → List (Item (List ℕ))
items_with file probes = copy_items file ++ weak_items file probes ++ main_items file probes

-- the items without probes
abbrev pub items_of : List ℕ → List (Item (List ℕ))
items_of file = items_with file no_probes
