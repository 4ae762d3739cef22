-- Items with the numbers of their names. An item of a text shows one name at most.
use Rattle.std.specs.Prelude.{ℕ, List, [], ◌∷◌, Option, Some, None, option_and_then}
use Rattle.x86_insn.specs.References.{reference_of}
use Rattle.asm_items.specs.declared.item.NameId.{NameId}
use Rattle.asm_items.specs.declared.item.Sym.{Sym}
use Rattle.asm_items.specs.declared.item.Sym.TheVariants as syms
use Rattle.asm_items.specs.declared.item.Item.{Item}
use Rattle.asm_items.specs.declared.item.Item.TheVariants as items
use Rattle.asm_items.specs.Named.{map_names}
use Rattle.asm_items.specs.Names.{with_name, place_of}

-- the number of a name
abbrev pub number_of : List (List ℕ) → List ℕ → NameId
number_of names name = record { 0 = place_of names name }

-- the item with the number of each name in its place
abbrev pub numbered : List (List ℕ) → Item (List ℕ) → Item NameId
numbered names item = map_names (number_of names) item

abbrev pub name_in_sym : Sym (List ℕ) → Option (List ℕ)
name_in_sym (syms.Named name o) = Some name
name_in_sym _ = None

-- the name that an item shows
abbrev pub name_in : Item (List ℕ) → Option (List ℕ)
name_in (items.Copy name size) = Some name
name_in (items.Comment name) = Some name
name_in (items.Weak name) = Some name
name_in (items.Globl name) = Some name
name_in (items.FuncKind name) = Some name
name_in (items.Name name) = Some name
name_in (items.Ins insn) = option_and_then name_in_sym (reference_of insn)
name_in (items.Quad sym) = name_in_sym sym
name_in _ = None

-- the names with one more behind them, unless there is none or an equal one is among them
abbrev pub with_shown : List (List ℕ) → Option (List ℕ) → List (List ℕ)
with_shown names None = names
with_shown names (Some name) = with_name names name

-- the names, and behind them the others that the items show, by first appearance
abbrev pub names_by_first_use : List (List ℕ) → List (Item (List ℕ)) → List (List ℕ)
names_by_first_use names [] = names
names_by_first_use names (item ∷ items) = names_by_first_use (with_shown names (name_in item)) items
