-- A table of addresses by the numbers of names.
use Rattle.std.specs.Prelude.{◌≡◌, ℕ, ◌+◌, ◌*◌, ◌<◌, if◌then◌else◌, List, [], length, filter, not, slice_get, slice_index, slice_index_or, option_and_then, Option, Some, None}
use Rattle.std.specs.List.{list_any, position_or_len}
use Rattle.std.specs.Str.{bytes_eq}
use Rattle.x86_insn.specs.References.{reference_of}
use Rattle.asm_items.specs.declared.item.Item.{Item}
use Rattle.asm_items.specs.declared.item.Item.TheVariants.{Copy, Ins, Quad}
use Rattle.asm_items.specs.declared.item.NameId.{NameId}
use Rattle.asm_items.specs.declared.item.Sym.{Sym}
use Rattle.asm_items.specs.declared.item.Sym.TheVariants.{Named}
use Rattle.asm_items.specs.Lines.{Items, is_copied, used_names}
use Rattle.rw_layout.specs.Rule.{each_once}

-- the address of a name by the place where it comes first in a list, if it does
abbrev pub listed_at : {A : Type 0} → (A → List ℕ) → (ℕ → ℕ) → List A → List ℕ → Option ℕ
listed_at name_in address list name =
    if list_any (λ a. bytes_eq (name_in a) name) list
    then Some (address (position_or_len (λ a. bytes_eq (name_in a) name) list))
    else None

abbrev pub or_else : Option ℕ → Option ℕ → Option ℕ
or_else None other = other
or_else (Some a) other = Some a

abbrev pub copy_name : List ℕ × ℕ → List ℕ
copy_name copy = copy.0

abbrev pub own_name : List ℕ → List ℕ
own_name name = name

-- the address of a copied name
abbrev pub copied_at : List ℕ → List (List ℕ × ℕ) → List ℕ → Option ℕ
copied_at bases copies name = listed_at copy_name (slice_index bases) copies name

-- or of one of the others, 16 bytes apart from the first
abbrev pub named_at : List ℕ → ℕ → List (List ℕ × ℕ) → List (List ℕ) → List ℕ → Option ℕ
named_at bases first copies own name = or_else (copied_at bases copies name) (listed_at own_name (λ k. first + 16 * k) own name)

-- the first uses of names without a copy among these lines
abbrev pub own_among : Items → Items → List (List ℕ)
own_among items some = each_once (filter (λ name. not (is_copied items name)) (used_names some))

-- the table has for each name what a function gives
pub record IsTable (names : List (List ℕ)) (table : List (Option ℕ)) (address : List ℕ → Option ℕ) : Type 0 where
  pub count : length table ≡ length names
  pub entries : (k : ℕ) → k < length names → slice_get table k ≡ Some (address (slice_index_or names k []))

-- the name of a symbol, by its number
abbrev pub symbol_name : Sym NameId → Option NameId
symbol_name (Named id offset) = Some id
symbol_name _ = None

abbrev pub name_used : Item NameId → Option NameId
name_used (Ins i) = option_and_then symbol_name (reference_of i)
name_used (Quad s) = symbol_name s
name_used _ = None

abbrev pub name_copied : Item NameId → Option NameId
name_copied (Copy id size) = Some id
name_copied _ = None
