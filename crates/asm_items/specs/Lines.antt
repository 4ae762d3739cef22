-- What the lines of a text say of its data: its sections, its copies, its counters, and the names that it uses.
use Rattle.std.specs.Prelude.{ℕ, ◌+◌, ◌^◌, List, [], ◌∷◌, length, Bool, true, false, not, flat_map}
use Rattle.std.specs.List.{list_any, sum_by, take_while}
use Rattle.std.specs.Str.{bytes_eq}
use Rattle.x86_insn.specs.References.{references_of}
use Rattle.asm_items.specs.declared.item.Sym.{Sym}
use Rattle.asm_items.specs.declared.item.Sym.TheVariants as syms
use Rattle.asm_items.specs.declared.item.Item.{Item}
use Rattle.asm_items.specs.declared.item.Item.TheVariants.{Copy, TextHead, Align, Ins, SectionHead, Bytes, Quad, LongDiff, Zero, CountsHead, Tail}

-- the items of a text, with bytes for names
abbrev pub Items : Type 0
Items = List (Item (List ℕ))

-- ---- sections

-- a line with which another section begins
abbrev pub begins_section : Item (List ℕ) → Bool
begins_section TextHead = true
begins_section (SectionHead n writable nobits) = true
begins_section CountsHead = true
begins_section Tail = true
begins_section _ = false

-- the lines of a section, which go on to the next one
abbrev pub lines_from : Items → Items
lines_from items = take_while (λ item. not (begins_section item)) items

-- a data section: whether it may be written, and the lines behind the one that begins it
pub record DataSection : Type 0 where
  pub writable : Bool
  pub lines : Items

-- the data sections in their order
abbrev pub sections_of : Items → List DataSection
sections_of [] = []
sections_of (SectionHead n writable nobits ∷ items) = record { writable = writable; lines = lines_from items } ∷ sections_of items
sections_of (_ ∷ items) = sections_of items

-- the bytes that a line takes among data
abbrev pub line_size : Item (List ℕ) → ℕ
line_size (Bytes bytes) = length bytes.items
line_size (Quad sym) = 8
line_size (LongDiff code table) = 4
line_size (Zero n) = n
line_size _ = 0

abbrev pub size_of : Items → ℕ
size_of lines = sum_by line_size lines

-- the alignment in bytes, which the first line of its kind gives
abbrev pub align_of : Items → ℕ
align_of [] = 1
align_of (Align k ∷ lines) = 2 ^ k
align_of (_ ∷ lines) = align_of lines

-- ---- copies and counters

-- the names of the copied symbols, with their sizes
abbrev pub copies_of : Items → List (List ℕ × ℕ)
copies_of [] = []
copies_of (Copy name size ∷ items) = (name, size) ∷ copies_of items
copies_of (_ ∷ items) = copies_of items

abbrev pub is_copied : Items → List ℕ → Bool
is_copied items name = list_any (λ copy. bytes_eq copy.0 name) (copies_of items)

-- the lines of the section of the counters, if there is one
abbrev pub counter_lines : Items → Items
counter_lines [] = []
counter_lines (CountsHead ∷ items) = lines_from items
counter_lines (_ ∷ items) = counter_lines items

-- the bytes of the counters, of which each has eight
abbrev pub counters_size : Items → ℕ
counters_size items = size_of (counter_lines items)

-- The regions of a run begin with the sections, the copies and the counters: the number of the first copy, and of the counters.
abbrev pub copies_number : Items → ℕ
copies_number items = length (sections_of items)

abbrev pub counters_number : Items → ℕ
counters_number items = copies_number items + length (copies_of items)

-- ---- names

-- the symbols of a line: of its instruction or of its word of data
abbrev pub symbols_in : Item (List ℕ) → List (Sym (List ℕ))
symbols_in (Ins i) = references_of i
symbols_in (Quad sym) = sym ∷ []
symbols_in _ = []

abbrev pub names_in : Sym (List ℕ) → List (List ℕ)
names_in (syms.Code a) = []
names_in (syms.Section n o) = []
names_in (syms.Named name o) = name ∷ []
names_in (syms.Counter k) = []

-- the names that the lines use
abbrev pub used_names : Items → List (List ℕ)
used_names items = flat_map (λ item. flat_map names_in (symbols_in item)) items
