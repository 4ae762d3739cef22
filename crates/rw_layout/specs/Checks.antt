-- Which texts are programs, and the line at which another is refused. Lines are counted from 0 here, and from 1 in a refusal.
use Rattle.std.specs.Prelude.{◌≡◌, ℕ, suc, ◌+◌, ◌<◌, ◌^◌, ◌⊎◌, true, All, Contains, List, ◌++◌, length, slice_get, take, Option, Some, None}
use Rattle.std.specs.List.{sum_by}
use Rattle.rw_base.specs.declared.fault.Fault.TheVariants.{BadText}
use Rattle.rw_base.specs.declared.fault.Refusal.{Refusal}
use Rattle.rw_base.specs.declared.fault.Refusal.TheVariants as refusal
use Rattle.asm_items.specs.declared.item.Item.{Item}
use Rattle.asm_items.specs.declared.item.Item.TheVariants.{Copy, Label, Name, LongDiff}
use Rattle.asm_items.specs.declared.item.Label as label_type
use Rattle.asm_items.specs.declared.item.Label.TheVariants as label
use Rattle.asm_items.specs.declared.item.Sym.{Sym}
use Rattle.asm_items.specs.declared.item.Sym.TheVariants as syms
use Rattle.asm_items.specs.Lines.{Items, copies_of, counters_size, is_copied, sections_of, size_of, symbols_in}
use Rattle.rw_layout.specs.Order.{IsOrdered, counts_name}

-- ---- 1. the lines are in order

-- some lines in order begin with these
abbrev pub BeginsInOrder : Items → Type 0
BeginsInOrder items = (rest : Items) × IsOrdered (items ++ rest)

-- Another line has to stand here: no lines in order begin with the lines up to this one. Past the last line: the text ends too early.
abbrev pub IsMisplaced : Items → ℕ → Type 0
IsMisplaced items p =
    ((p < length items) × (BeginsInOrder (take (suc p) items) → ⊥))
    ⊎ ((p ≡ length items) × (IsOrdered items → ⊥))

-- ---- 2. each label is defined once, and each name copied once

-- what a line defines, if it does
pub data Definition : Type 0 where
  of_label : label_type.Label → Definition
  of_copy : List ℕ → Definition

abbrev pub definition_of : Item (List ℕ) → Option Definition
definition_of (Label l) = Some (of_label l)
definition_of (Copy name size) = Some (of_copy name)
definition_of _ = None

abbrev pub Defines : Items → ℕ → Definition → Type 0
Defines items p d = (item : Item (List ℕ)) × (slice_get items p ≡ Some item) × (definition_of item ≡ Some d)

-- the line defines again what an earlier one defines
abbrev pub IsRepeated : Items → ℕ → Type 0
IsRepeated items p = (q : ℕ) × (d : Definition) × (q < p) × Defines items q d × Defines items p d

-- ---- 3. what is used is defined

-- a name that isn't copied has no offset
abbrev pub IsDefined : Items → Sym (List ℕ) → Type 0
IsDefined items (syms.Code a) = Contains items (Label (label.Code a))
IsDefined items (syms.Section n o) = Contains items (Label (label.Section n))
IsDefined items (syms.Named name o) = (is_copied items name ≡ true) ⊎ (o ≡ 0)
IsDefined items (syms.Counter k) = Contains items (Name counts_name)

abbrev pub UsesDefined : Items → Item (List ℕ) → Type 0
UsesDefined items (LongDiff code table) = Contains items (Label (label.Code code)) × Contains items (Label (label.Table table))
UsesDefined items item = All (IsDefined items) (symbols_in item)

abbrev pub UsesUndefined : Items → ℕ → Type 0
UsesUndefined items p = (item : Item (List ℕ)) × (slice_get items p ≡ Some item) × (UsesDefined items item → ⊥)

-- ---- 4. there is room for the data

abbrev pub sections_size : Items → ℕ
sections_size items = sum_by (λ s. size_of s.lines) (sections_of items)

abbrev pub copies_size : Items → ℕ
copies_size items = sum_by (λ copy. copy.1) (copies_of items)

-- the sections together and the copies together have at most 2 ^ 30 bytes, and the counters 2 ^ 27
abbrev pub IsOversize : Items → Type 0
IsOversize items = (2 ^ 30 < sections_size items) ⊎ (2 ^ 30 < copies_size items) ⊎ (2 ^ 27 < counters_size items)

-- with this line a size is past its limit
abbrev pub PassesLimit : Items → ℕ → Type 0
PassesLimit items p = (p < length items) × IsOversize (take (suc p) items)

-- ---- programs

-- a check finds nothing at any line
abbrev pub Nowhere : (ℕ → Type 0) → Type 0
Nowhere found = (p : ℕ) → found p → ⊥

-- the first line at which a check finds something
pub record IsFirstAt (found : ℕ → Type 0) (p : ℕ) : Type 0 where
  pub here : found p
  pub before : (q : ℕ) → q < p → found q → ⊥

pub record IsProgram (items : Items) : Type 0 where
  pub ordered : Nowhere (IsMisplaced items)
  pub once : Nowhere (IsRepeated items)
  pub defined : Nowhere (UsesUndefined items)
  pub fits : Nowhere (PassesLimit items)

-- a text is refused at the first line of the first check that finds something
abbrev pub IsRefusedAt : Items → ℕ → Type 0
IsRefusedAt items p =
    IsFirstAt (IsMisplaced items) p
    ⊎ (Nowhere (IsMisplaced items) × IsFirstAt (IsRepeated items) p)
    ⊎ (Nowhere (IsMisplaced items) × Nowhere (IsRepeated items) × IsFirstAt (UsesUndefined items) p)
    ⊎ (Nowhere (IsMisplaced items) × Nowhere (IsRepeated items) × Nowhere (UsesUndefined items) × IsFirstAt (PassesLimit items) p)

-- a refusal tells the line, counted from 1, or want of memory
abbrev pub Refuses : Items → Refusal → Type 0
Refuses items (refusal.Fault (BadText line)) = (p : ℕ) × (line ≡ p + 1) × IsRefusedAt items p
Refuses items refusal.Memory = Unit {0}
Refuses items _ = ⊥
