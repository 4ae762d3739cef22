-- Which items are items of a text.
use Rattle.std.specs.Prelude.{◌≡◌, All, ℕ, ◌^◌, Bool, true, ◌&&◌, List, nat_le, nat_lt, length}
use Rattle.std.specs.List.{list_all}
use Rattle.rw_base.specs.Name.{is_good_name, is_import_name, is_own_name}
use Rattle.x86_insn.specs.Fields.{fits_fields}
use Rattle.x86_insn.specs.References.{references_of}
use Rattle.x86_insn.specs.WellFormed.{is_instruction}
use Rattle.asm_items.specs.declared.item.Sym.{Sym}
use Rattle.asm_items.specs.declared.item.Sym.TheVariants as syms
use Rattle.asm_items.specs.declared.item.Label.{Label}
use Rattle.asm_items.specs.declared.item.Label.TheVariants as labels
use Rattle.asm_items.specs.declared.item.Item.{Item}
use Rattle.asm_items.specs.declared.item.Item.TheVariants as items

abbrev pub is_word : ℕ → Bool
is_word n = nat_lt n (2 ^ 64)

abbrev pub is_half : ℕ → Bool
is_half n = nat_lt n (2 ^ 32)

abbrev pub is_sym : Sym (List ℕ) → Bool
is_sym (syms.Code a) = is_word a
is_sym (syms.Section n o) = is_half n && is_word o
is_sym (syms.Named name o) = is_import_name name && is_word o
is_sym (syms.Counter k) = is_half k

abbrev pub is_label : Label → Bool
is_label (labels.Code a) = is_word a
is_label (labels.Past a) = is_word a
is_label (labels.Section n) = is_half n
is_label (labels.Table a) = is_word a

abbrev pub is_byte : ℕ → Bool
is_byte b = nat_lt b 256

-- an item of a text
abbrev pub is_item : Item (List ℕ) → Bool
is_item (items.Copy name size) = is_import_name name && nat_le 1 size && is_word size
is_item (items.Comment name) = is_good_name name
is_item (items.Weak name) = is_import_name name
is_item (items.Globl name) = is_own_name name
is_item items.TextHead = true
is_item (items.Align k) = nat_le k 16
is_item (items.FuncKind name) = is_own_name name
is_item (items.Name name) = is_own_name name
is_item (items.Label label) = is_label label
is_item (items.Ins i) = is_instruction i && list_all is_sym (references_of i) && fits_fields i
is_item (items.SectionHead n writable nobits) = is_half n
is_item (items.Bytes bytes) = nat_le 1 (length bytes.items) && nat_le (length bytes.items) 16 && list_all is_byte bytes.items
is_item (items.Quad sym) = is_sym sym
is_item (items.LongDiff code table) = is_word code && is_word table
is_item (items.Zero n) = nat_le 1 n && is_word n
is_item items.CountsHead = true
is_item items.Tail = true

-- a list of items of a text
abbrev pub AreItems : List (Item (List ℕ)) → Type 0
AreItems items = All (λ item. is_item item ≡ true) items
