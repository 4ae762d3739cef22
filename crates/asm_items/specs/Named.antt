-- Items whose names are bytes, from items whose names are numbers in a list.
use Rattle.std.specs.Prelude.{ℕ, List, [], slice_index_or}
use Rattle.x86_insn.specs.References.{map_references}
use Rattle.asm_items.specs.declared.item.NameId.{NameId}
use Rattle.asm_items.specs.declared.item.Sym.{Sym}
use Rattle.asm_items.specs.declared.item.Sym.TheVariants as syms
use Rattle.asm_items.specs.declared.item.Item.{Item}
use Rattle.asm_items.specs.declared.item.Item.TheVariants as items

-- the name of a number; a number past the list has the empty name
abbrev pub name_of : List (List ℕ) → NameId → List ℕ
name_of names id = slice_index_or names id.0 []

abbrev pub map_sym : {N M : Type 0} → (N → M) → Sym N → Sym M
map_sym f (syms.Code a) = syms.Code a
map_sym f (syms.Section n o) = syms.Section n o
map_sym f (syms.Named name o) = syms.Named (f name) o
map_sym f (syms.Counter k) = syms.Counter k

-- the item with f of each name in its place
abbrev pub map_names : {N M : Type 0} → (N → M) → Item N → Item M
map_names f (items.Copy name size) = items.Copy (f name) size
map_names f (items.Comment name) = items.Comment (f name)
map_names f (items.Weak name) = items.Weak (f name)
map_names f (items.Globl name) = items.Globl (f name)
map_names f items.TextHead = items.TextHead
map_names f (items.Align k) = items.Align k
map_names f (items.FuncKind name) = items.FuncKind (f name)
map_names f (items.Name name) = items.Name (f name)
map_names f (items.Label label) = items.Label label
map_names f (items.Ins insn) = items.Ins (map_references (map_sym f) insn)
map_names f (items.SectionHead n writable nobits) = items.SectionHead n writable nobits
map_names f (items.Bytes bytes) = items.Bytes bytes
map_names f (items.Quad sym) = items.Quad (map_sym f sym)
map_names f (items.LongDiff code table) = items.LongDiff code table
map_names f (items.Zero n) = items.Zero n
map_names f items.CountsHead = items.CountsHead
map_names f items.Tail = items.Tail

-- the item that the text shows
abbrev pub named : List (List ℕ) → Item NameId → Item (List ℕ)
named names item = map_names (name_of names) item
