-- The names of a list of items, and what a plan keeps of a file.
use Rattle.std.specs.Prelude.{◌≡◌, ◌<◌, ℕ, List, [], ◌∷◌, All, IsTrue, Option, Some, None, flat_map, map}
use Rattle.std.specs.List.{fold, list_any}
use Rattle.std.specs.Str.{bytes_eq}
use Rattle.asm_items.specs.declared.item.Item.{Item}
use Rattle.asm_items.specs.declared.item.Item.TheVariants.{Copy, Comment, Weak, Globl, FuncKind, Name}
use Rattle.asm_items.specs.Names.{with_name}
use Rattle.asm_items.specs.Lines.{Items}
use Rattle.rw_elf.specs.declared.section.NameAt.{NameAt}
use Rattle.rw_data.specs.FirstFault.{first_fault}
use Rattle.rw_probe.specs.declared.form.Probe.{Probe}
use Rattle.rw_probe.specs.declared.leaders.Mode.{Mode}
use Rattle.rw_probe.specs.Leaders.{leaders_of}
use Rattle.rw_out.specs.Items.{Probes, items_with}
use Rattle.rw_out.specs.Probed.{AreProbes, probes_of}
use Rattle.rw_out.specs.Kept.{probe_byte}
use Rattle.rw_out.specs.Positions.{IsWeak}
use Rattle.rw_out.specs.Uses.{names_used}

-- the names of an item: its own, or those that it uses
abbrev pub item_names : Item (List ℕ) → List (List ℕ)
item_names (Copy name size) = name ∷ []
item_names (Comment name) = name ∷ []
item_names (Weak name) = name ∷ []
item_names (Globl name) = name ∷ []
item_names (FuncKind name) = name ∷ []
item_names (Name name) = name ∷ []
item_names item = names_used item

-- some names by first appearance
abbrev pub by_appearance : List (List ℕ) → List (List ℕ)
by_appearance names = fold with_name [] names

-- the names of some items by first appearance
abbrev pub names_of : List (Item (List ℕ)) → List (List ℕ)
names_of items = by_appearance (flat_map item_names items)

-- the list has a name
abbrev pub has : List (List ℕ) → List ℕ → Type 0
has names name = IsTrue (list_any (bytes_eq name) names)

abbrev pub listed : Option (List ℕ) → List (List ℕ)
listed None = []
listed (Some name) = name ∷ []

-- A plan: a file, a mode, and the forms of the probes at the leaders of that mode.
pub record PlanOf : Type 0 where
  pub file : List ℕ
  pub mode : Mode
  pub forms : List Probe

abbrev pub plan_probes : PlanOf → Probes
plan_probes plan = probes_of plan.file plan.mode plan.forms

-- the items that are to be printed
abbrev pub plan_items : PlanOf → Items
plan_items plan = items_with plan.file (plan_probes plan)

-- The file has no fault, the probes are its own and kept as one byte each, these are the names of its items, and those of its weak
-- symbols that are used.
pub record IsPlan (plan : PlanOf) (leaders bytes : List ℕ) (names : List (List ℕ)) (weak : List NameAt) : Type 0 where
  pub clean : first_fault plan.file ≡ None
  pub bytes_are : All (λ b. b < 256) plan.file
  pub leaders_are : leaders ≡ leaders_of plan.file plan.mode
  pub probes_are : AreProbes plan.file plan.mode plan.forms
  pub kept_are : bytes ≡ map probe_byte plan.forms
  pub names_are : names ≡ names_of (plan_items plan)
  pub weak_are : IsWeak plan.file (plan_probes plan) weak
