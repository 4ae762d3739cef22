-- Places in a text that is laid out, by the bases of its units.
use Rattle.std.specs.Prelude.{◌≡◌, ℕ, ◌+◌, ◌-◌, ◌<◌, ◌≤◌, ◌⊎◌, ◌↔◌, ◌==◌, Bool, true, false, List, slice_get, slice_index, Option, Some, Contains, option_and_then, length}
use Rattle.std.specs.List.{find}
use Rattle.std.specs.Map.{lookup}
use Rattle.x86_insn.specs.declared.instruction.Insn.{Insn}
use Rattle.asm_items.specs.declared.item.Item.{Item}
use Rattle.asm_items.specs.declared.item.Item.TheVariants.{Ins, Label}
use Rattle.asm_items.specs.declared.item.Label as label_type
use Rattle.asm_items.specs.declared.item.NameId.{NameId}
use Rattle.asm_items.specs.declared.item.Sym.{Sym}
use Rattle.asm_items.specs.Lines.{Items, counters_number, is_copied, used_names}
use Rattle.asm_items.specs.Layout.{Layout}
use Rattle.asm_items.specs.Named.{name_of}
use Rattle.rw_layout.specs.Keys.{Key, is_key, label_key}
use Rattle.rw_layout.specs.Rule.{placed_size_of, unit_before, units_begun}

-- the address of the line at a place, by the bases of the units
abbrev pub place_in : List ℕ → Items → ℕ → ℕ
place_in units items q = slice_index units (units_begun items q - 1) + placed_size_of (unit_before items q)

-- each of the first n lines has its address
abbrev pub ArePlaced : List ℕ → List ℕ → Items → ℕ → Type 0
ArePlaced addresses units items n = (q : ℕ) → q < n → slice_get addresses q ≡ Some (place_in units items q)

-- a line that is an instruction
abbrev pub is_insn : Item (List ℕ) → Bool
is_insn (Ins i) = true
is_insn _ = false

-- an instruction stands in the line of this number; lines are counted from 0
abbrev pub IsInsn : Items → ℕ → Type 0
IsInsn items q = (i : Insn (Sym (List ℕ))) × (slice_get items q ≡ Some (Ins i))

-- the lines in a list are lines of instructions, and every instruction among the first n lines is there
pub record AreInsns (lines : List ℕ) (items : Items) (n : ℕ) : Type 0 where
  pub each : (q : ℕ) → Contains lines q → IsInsn items q
  pub every : (q : ℕ) → q < n → IsInsn items q → Contains lines q

-- ---- what a layout has

-- What was laid out: the line of each label and copy, the address of each line, the lines of the instructions, the bases of the
-- regions, and the addresses of names by their numbers.
pub record Laid : Type 0 where
  pub lines : List (Key × ℕ)
  pub addresses : List ℕ
  pub insns : List ℕ
  pub regions : List ℕ
  pub names : List (Option ℕ)

abbrev pub address_in : Laid → label_type.Label → Option ℕ
address_in laid l = option_and_then (slice_get laid.addresses) (lookup (is_key (label_key l)) laid.lines)

-- the line of the instruction at an address, if one of the lines has it
abbrev pub insn_at : List ℕ → List ℕ → ℕ → Option ℕ
insn_at lines addresses address = find (λ q. slice_index addresses q == address) lines

abbrev pub item_in : Laid → ℕ → Option ℕ
item_in laid address = insn_at laid.insns laid.addresses address

-- the instruction in the line of this number is at the address
abbrev pub IsInsnAt : Items → Layout → ℕ → ℕ → Type 0
IsInsnAt items layout address q = IsInsn items q × (layout.insn q ≡ address)

-- What is found at an address is exactly the instruction there: its line where there is one, and none where there is none.
abbrev pub IsFound : Items → Layout → ℕ → Option ℕ → Type 0
IsFound items layout address found = (q : ℕ) → (found ≡ Some q) ↔ IsInsnAt items layout address q

-- a line uses or copies the name
abbrev pub HasAddress : Items → List ℕ → Type 0
HasAddress items name = Contains (used_names items) name ⊎ (is_copied items name ≡ true)

-- what was laid out is this layout of these items: of each label, region, name and instruction, and of each address
pub record IsLaidBy (items : Items) (names : List (List ℕ)) (layout : Layout) (laid : Laid) : Type 0 where
  pub labels : (l : label_type.Label) → Contains items (Label l) → address_in laid l ≡ Some (layout.label l)
  pub count : length laid.regions ≡ counters_number items + 1
  pub regions : (r : ℕ) → r ≤ counters_number items → slice_get laid.regions r ≡ Some (layout.region r)
  pub names_at : (id : NameId) → id.0 < length names → HasAddress items (name_of names id) → slice_get laid.names id.0 ≡ Some (Some (layout.name (name_of names id)))
  pub insns : (q : ℕ) (i : Insn (Sym (List ℕ))) → slice_get items q ≡ Some (Ins i) → slice_get laid.addresses q ≡ Some (layout.insn q)
  pub found : (a : ℕ) → IsFound items layout a (item_in laid a)
