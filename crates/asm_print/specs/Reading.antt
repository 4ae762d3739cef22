-- Reading a line without its line feed.
use Rattle.std.specs.Prelude.{ℕ, ◌||◌, Bool, true, false, List, [], ◌∷◌, ◌++◌, codes, Option, Some, None, option_map, unwrap_or, find, length, nat_le, if◌then◌else◌}
use Rattle.std.specs.Str.{bytes_eq}
use Rattle.x86_insn.specs.declared.instruction.Insn.{Insn}
use Rattle.asm_items.specs.declared.item.Label.TheVariants as labels
use Rattle.asm_items.specs.declared.item.Item.{Item}
use Rattle.asm_items.specs.declared.item.Item.TheVariants as items
use Rattle.asm_print.specs.Text.{section_text}
use Rattle.asm_print.specs.Pieces.{◌>>=◌, after_prefix, split, pieces, number_in, narrow}
use Rattle.asm_print.specs.Forms.{form_named, kind_of}
use Rattle.asm_print.specs.Arguments.{Symbol, sym_in, args_in}
use Rattle.asm_print.specs.Building.{built}

-- an item whose names are bytes
abbrev pub TextItem : Type 0
TextItem = Item (List ℕ)

-- a word that stands before a mnemonic, as a prefix
abbrev pub is_prefix_word : List ℕ → Bool
is_prefix_word word = bytes_eq word (codes "rep") || bytes_eq word (codes "notrack")

-- by the mnemonic with its prefix, and the words of the arguments
abbrev pub insn_named : List ℕ → List (List ℕ) → Option (Insn Symbol)
insn_named name words = do
  args ← args_in words
  form ← form_named name (kind_of args)
  built form args

abbrev pub insn_behind : List ℕ → List (List ℕ) → Option (Insn Symbol)
insn_behind prefix [] = None
insn_behind prefix (word ∷ words) = insn_named (prefix ++ 32 ∷ word) words

abbrev pub insn_by : List (List ℕ) → Option (Insn Symbol)
insn_by [] = None
insn_by (word ∷ words) = if is_prefix_word word then insn_behind word words else insn_named word words

-- an instruction by its words
unfoldable pub insn_in : List ℕ → Option (Insn Symbol)
insn_in text = insn_by (pieces 32 text)

-- a name and a size
abbrev pub copy_in : List ℕ → Option TextItem
copy_in text = do
  x ← split 32 text
  size ← number_in 10 x.1
  Some (items.Copy x.0 size)

-- behind "# "
abbrev pub comment_by : Option (List ℕ) → Option (List ℕ) → Option TextItem
comment_by (Some copy) function = copy_in copy
comment_by None (Some name) = Some (items.Comment name)
comment_by None None = None

unfoldable pub comment_in : List ℕ → Option TextItem
comment_in text = comment_by (after_prefix (codes "copy ") text) (after_prefix (codes "function ") text)

abbrev pub align_in : List ℕ → Option TextItem
align_in text = do
  k ← number_in 10 text >>= narrow 8
  Some (items.Align k)

abbrev pub zero_in : List ℕ → Option TextItem
zero_in text = do
  n ← number_in 10 text
  Some (items.Zero n)

abbrev pub quad_item_in : List ℕ → Option TextItem
quad_item_in text = do
  sym ← sym_in text
  Some (items.Quad sym)

-- a name behind .type
abbrev pub func_kind_in : List ℕ → Option TextItem
func_kind_in text = do
  x ← split 44 text
  Some (items.FuncKind x.0)

-- a space before a number is left out
abbrev pub without_space : List ℕ → List ℕ
without_space text = unwrap_or (after_prefix (codes " ") text) text

-- a byte of data
abbrev pub byte_in : List ℕ → Option ℕ
byte_in text = number_in 10 (without_space text) >>= narrow 8

abbrev pub numbers_in : List (List ℕ) → Option (List ℕ)
numbers_in [] = Some []
numbers_in (piece ∷ pieces) = do
  n ← byte_in piece
  ns ← numbers_in pieces
  Some (n ∷ ns)

-- as many bytes as an item has room for
abbrev pub with_room : List ℕ → Option (List ℕ)
with_room bytes = if nat_le (length bytes) 16 then Some bytes else None

abbrev pub bytes_in : List ℕ → Option TextItem
bytes_in text = do
  bytes ← numbers_in (pieces 44 text) >>= with_room
  Some (items.Bytes (record { items = bytes }))

-- the distance of a code label from the label of a table
abbrev pub long_in : List ℕ → Option TextItem
long_in text = do
  behind ← after_prefix (codes ".L") text
  x ← split 45 behind
  table ← after_prefix (codes ".Lt") x.1
  c ← number_in 16 x.0
  t ← number_in 16 table
  Some (items.LongDiff c t)

-- whether a section is writable, and whether it has no bytes
abbrev pub section_kinds : List (Bool × Bool)
section_kinds = (false, false) ∷ (false, true) ∷ (true, false) ∷ (true, true) ∷ []

unfoldable pub section_kind_in : List ℕ → Option (Bool × Bool)
section_kind_in text = find (λ x. bytes_eq text (section_text x.0 x.1)) section_kinds

-- a data section by its number, and its kind behind a comma
abbrev pub data_section_in : List ℕ → Option TextItem
data_section_in text = do
  x ← split 44 text
  n ← number_in 10 x.0 >>= narrow 32
  kind ← section_kind_in (44 ∷ x.1)
  Some (items.SectionHead n kind.0 kind.1)

abbrev pub section_by : List ℕ → Option (List ℕ) → Option TextItem
section_by text (Some section) = data_section_in section
section_by text None =
    if bytes_eq text (codes ".retro.counts,\"aw\",@nobits") then Some items.CountsHead
    else if bytes_eq text (codes ".note.GNU-stack,\"\",@progbits") then Some items.Tail
    else None

unfoldable pub section_in : List ℕ → Option TextItem
section_in text = section_by text (after_prefix (codes ".retro.s") text)

-- a directive by its word and what follows it
abbrev pub directive : List ℕ → List ℕ → Option TextItem
directive word text =
    if bytes_eq word (codes "weak") then Some (items.Weak text)
    else if bytes_eq word (codes "globl") then Some (items.Globl text)
    else if bytes_eq word (codes "p2align") then align_in text
    else if bytes_eq word (codes "type") then func_kind_in text
    else if bytes_eq word (codes "section") then section_in text
    else if bytes_eq word (codes "byte") then bytes_in text
    else if bytes_eq word (codes "quad") then quad_item_in text
    else if bytes_eq word (codes "long") then long_in text
    else if bytes_eq word (codes "zero") then zero_in text
    else None

abbrev pub directive_by : List ℕ → Option (List ℕ × List ℕ) → Option TextItem
directive_by text (Some x) = directive x.0 x.1
directive_by text None = if bytes_eq text (codes "text") then Some items.TextHead else None

-- behind a tab and a dot
unfoldable pub directive_in : List ℕ → Option TextItem
directive_in text = directive_by text (split 32 text)

-- a label or a name, by what follows .Lp, .Ls, .Lt and .L
abbrev pub defined_by : List ℕ → Option (List ℕ) → Option (List ℕ) → Option (List ℕ) → Option (List ℕ) → Option TextItem
defined_by text (Some a) s t c = option_map (λ n. items.Label (labels.Past n)) (number_in 16 a)
defined_by text None (Some a) t c = option_map (λ n. items.Label (labels.Section n)) (number_in 10 a >>= narrow 32)
defined_by text None None (Some a) c = option_map (λ n. items.Label (labels.Table n)) (number_in 16 a)
defined_by text None None None (Some a) = option_map (λ n. items.Label (labels.Code n)) (number_in 16 a)
defined_by text None None None None = Some (items.Name text)

unfoldable pub defined : List ℕ → Option TextItem
defined text = defined_by text (after_prefix (codes ".Lp") text) (after_prefix (codes ".Ls") text) (after_prefix (codes ".Lt") text) (after_prefix (codes ".L") text)

-- before a colon
unfoldable pub defined_in : List ℕ → Option TextItem
defined_in text = do
  x ← split 58 text
  defined x.0

abbrev pub item_by : List ℕ → Option (List ℕ) → Option (List ℕ) → Option (List ℕ) → Option TextItem
item_by text (Some comment) d i = comment_in comment
item_by text None (Some directive) i = directive_in directive
item_by text None None (Some insn) = option_map items.Ins (insn_in insn)
item_by text None None None = defined_in text

-- the item that a line without its line feed shows
unfoldable pub item_in : List ℕ → Option TextItem
item_in text = item_by text (after_prefix (codes "# ") text) (after_prefix (codes "\t.") text) (after_prefix (codes "\t") text)
