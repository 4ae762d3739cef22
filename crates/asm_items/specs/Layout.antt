-- Where a text lies in memory.
use Rattle.std.specs.Prelude.{◌≡◌, ◌≢◌, ◌⊎◌, ℕ, suc, ◌+◌, ◌-◌, ◌*◌, ◌%◌, ◌^◌, ◌<◌, ◌≤◌, false, List, [], ◌∷◌, ◌++◌, Contains, drop, flat_map, max, replicate, Option, Some, None, slice_get}
use Rattle.std.specs.Int.{to_le_bytes, w32, w64}
use Rattle.x86_insn.specs.declared.instruction.Insn.{Insn}
use Rattle.x86_insn.specs.References.{reference_of}
use Rattle.asm_items.specs.declared.item.Sym.{Sym}
use Rattle.asm_items.specs.declared.item.Sym.TheVariants as syms
use Rattle.asm_items.specs.declared.item.Label as label_type
use Rattle.asm_items.specs.declared.item.Label.TheVariants as label
use Rattle.asm_items.specs.declared.item.Item.{Item}
use Rattle.asm_items.specs.declared.item.Item.TheVariants.{Label, Ins, Bytes, Quad, LongDiff, Zero}
use Rattle.asm_items.specs.Lines.{Items, DataSection, sections_of, size_of, copies_of, is_copied, copies_number, counters_number}

-- The address and the size of each printed instruction, by the place of its item; the address of each label; the base of each
-- region of the run; the address of each name; and where a return from the program goes.
pub record Layout : Type 0 where
  pub insn : ℕ → ℕ
  pub size : ℕ → ℕ
  pub label : label_type.Label → ℕ
  pub region : ℕ → ℕ
  pub name : List ℕ → ℕ
  pub finish : ℕ

-- ---- what a layout gives to the lines of the text

-- the address of a symbol: the counters lie one after another in their region, and each has eight bytes
abbrev pub symbol_at : Items → Layout → Sym (List ℕ) → ℕ
symbol_at items layout (syms.Code a) = layout.label (label.Code a) % 2 ^ 64
symbol_at items layout (syms.Section n o) = (layout.label (label.Section n) + o) % 2 ^ 64
symbol_at items layout (syms.Named name o) = (layout.name name + o) % 2 ^ 64
symbol_at items layout (syms.Counter k) = (layout.region (counters_number items) + 8 * k) % 2 ^ 64

-- the distance from one address to another, modulo 2 ^ 64
abbrev pub distance : (to from : ℕ) → ℕ
distance to from = (to % 2 ^ 64 + 2 ^ 64 - from % 2 ^ 64) % 2 ^ 64

abbrev pub table_distance : Layout → ℕ → ℕ → ℕ
table_distance layout code table = distance (layout.label (label.Code code)) (layout.label (label.Table table))

-- the bytes of a line among data, the lowest first: the address of a symbol has eight, and of a distance there are the low four
abbrev pub line_bytes : Items → Layout → Item (List ℕ) → List ℕ
line_bytes items layout (Bytes bytes) = bytes.items
line_bytes items layout (Quad sym) = to_le_bytes w64 (symbol_at items layout sym)
line_bytes items layout (LongDiff code table) = to_le_bytes w32 (table_distance layout code table % 2 ^ 32)
line_bytes items layout (Zero n) = replicate n 0
line_bytes items layout _ = []

-- the bytes with which a section starts
abbrev pub section_bytes : Items → Layout → DataSection → List ℕ
section_bytes items layout section = flat_map (line_bytes items layout) section.lines

-- ---- places of items

-- the first instruction, behind its labels, and how many labels there are before it
abbrev pub printed_insn : Items → Option (Insn (Sym (List ℕ)))
printed_insn [] = None
printed_insn (Label l ∷ items) = printed_insn items
printed_insn (Ins i ∷ items) = Some i
printed_insn (_ ∷ items) = None

abbrev pub labels_before : Items → ℕ
labels_before [] = 0
labels_before (Label l ∷ items) = 1 + labels_before items
labels_before (_ ∷ items) = 0

-- the place of the next printed instruction from a place on
abbrev pub next_place : Items → ℕ → ℕ
next_place items q = q + labels_before (drop q items)

-- ---- layouts

-- a region of a run, by its size and its alignment in bytes (0 counts as 1)
pub record Extent : Type 0 where
  pub size : ℕ
  pub align : ℕ

-- no byte is both among the n bytes from a on and among the m bytes from b on
abbrev pub AreDisjoint : (a n b m : ℕ) → Type 0
AreDisjoint a n b m = (o p : ℕ) → o < n → p < m → a + o ≢ b + p

-- a distance fits 32 bits with its sign
abbrev pub IsInReach : (to from : ℕ) → Type 0
IsInReach to from = (distance to from < 2 ^ 31) ⊎ (2 ^ 64 - 2 ^ 31 ≤ distance to from)

-- The regions lie from 4,096 to 2 ^ 47, aligned, and no byte is in two of them.
pub record AreRegionsLaid (regions : List Extent) (base : ℕ → ℕ) : Type 0 where
  pub least : (r : ℕ) (a : Extent) → slice_get regions r ≡ Some a → 4096 ≤ base r
  pub most : (r : ℕ) (a : Extent) → slice_get regions r ≡ Some a → base r + a.size ≤ 2 ^ 47
  pub aligned : (r : ℕ) (a : Extent) → slice_get regions r ≡ Some a → base r % max 1 a.align ≡ 0
  pub apart : (r s : ℕ) (a b : Extent) → r ≢ s → slice_get regions r ≡ Some a → slice_get regions s ≡ Some b → AreDisjoint (base r) a.size (base s) b.size

-- Instructions have 1 to 15 bytes, from 4,096 to 2 ^ 47. Those with nothing but labels between follow each other, and no byte
-- is in two of them.
pub record AreInsnsLaid (items : Items) (layout : Layout) : Type 0 where
  pub sizes : (q : ℕ) (i : Insn (Sym (List ℕ))) → slice_get items q ≡ Some (Ins i) → (1 ≤ layout.size q) × (layout.size q ≤ 15)
  pub bounds : (q : ℕ) (i : Insn (Sym (List ℕ))) → slice_get items q ≡ Some (Ins i) → (4096 ≤ layout.insn q) × (layout.insn q + layout.size q ≤ 2 ^ 47)
  pub consecutive : (q : ℕ) (i j : Insn (Sym (List ℕ))) → slice_get items q ≡ Some (Ins i) → printed_insn (drop (suc q) items) ≡ Some j → layout.insn (next_place items (suc q)) ≡ layout.insn q + layout.size q
  pub apart : (q p : ℕ) (i j : Insn (Sym (List ℕ))) → q ≢ p → slice_get items q ≡ Some (Ins i) → slice_get items p ≡ Some (Ins j) → AreDisjoint (layout.insn q) (layout.size q) (layout.insn p) (layout.size p)

-- an address of 64 bits that is in no region and in no instruction
pub record IsOutside (items : Items) (regions : List Extent) (layout : Layout) (address : ℕ) : Type 0 where
  pub fits : address < 2 ^ 64
  pub off_regions : (r : ℕ) (a : Extent) → slice_get regions r ≡ Some a → AreDisjoint address 1 (layout.region r) a.size
  pub off_insns : (q : ℕ) (i : Insn (Sym (List ℕ))) → slice_get items q ≡ Some (Ins i) → AreDisjoint address 1 (layout.insn q) (layout.size q)

-- a name that has an address of its own, as one that isn't copied
abbrev pub IsOwnName : Items → List (List ℕ) → List ℕ → Type 0
IsOwnName items names name = Contains names name × (is_copied items name ≡ false)

-- A layout of a text: for a run with these regions, of which the sections, copies and counters of the text are the first, and
-- with addresses for these names.
pub record IsLayout (items : Items) (regions : List Extent) (names : List (List ℕ)) (layout : Layout) : Type 0 where
  pub regions_laid : AreRegionsLaid regions layout.region
  pub insns_laid : AreInsnsLaid items layout
  pub apart : (r q : ℕ) (a : Extent) (i : Insn (Sym (List ℕ))) → slice_get regions r ≡ Some a → slice_get items q ≡ Some (Ins i) → AreDisjoint (layout.region r) a.size (layout.insn q) (layout.size q)
  -- a label has the address of the next printed instruction; one among data, of what comes behind it in its section
  pub labels : (q : ℕ) (l : label_type.Label) (i : Insn (Sym (List ℕ))) → slice_get items q ≡ Some (Label l) → printed_insn (drop q items) ≡ Some i → layout.label l ≡ layout.insn (next_place items q)
  pub data_labels : (k : ℕ) (s : DataSection) (before after : Items) (l : label_type.Label) → slice_get (sections_of items) k ≡ Some s → s.lines ≡ before ++ Label l ∷ after → layout.label l ≡ layout.region k + size_of before
  -- a copied name has the base of its copy
  pub copies : (k : ℕ) (copy : List ℕ × ℕ) → slice_get (copies_of items) k ≡ Some copy → layout.name copy.0 ≡ layout.region (copies_number items + k)
  -- the others, and the end, have addresses of their own
  pub names_outside : (name : List ℕ) → IsOwnName items names name → IsOutside items regions layout (layout.name name)
  pub names_apart : (name other : List ℕ) → IsOwnName items names name → IsOwnName items names other → name ≢ other → layout.name name ≢ layout.name other
  pub finish_outside : IsOutside items regions layout layout.finish
  pub finish_apart : (name : List ℕ) → IsOwnName items names name → layout.name name ≢ layout.finish
  -- what an instruction refers to is in reach of the address behind it, and a target of a table, of the table
  pub reach : (q : ℕ) (i : Insn (Sym (List ℕ))) (r : Sym (List ℕ)) → slice_get items q ≡ Some (Ins i) → reference_of i ≡ Some r → IsInReach (symbol_at items layout r) (layout.insn q + layout.size q)
  pub table_reach : (q code table : ℕ) → slice_get items q ≡ Some (LongDiff code table) → IsInReach (layout.label (label.Code code)) (layout.label (label.Table table))
