-- The rule of the phase data targets: the address that a relocation puts into a kept section has a reference.
use Rattle.std.specs.Prelude.{ℕ, List, [], ◌∷◌, not, ◌&&◌, Option, None, is_some}
use Rattle.rw_base.specs.declared.fault.Fault.{Fault}
use Rattle.rw_base.specs.declared.fault.Fault.TheVariants.{BadRelocTarget}
use Rattle.rw_base.specs.Rules.{Rule, each_of, when}
use Rattle.rw_reloc.specs.declared.slot.Slot.{Slot}
use Rattle.rw_reloc.specs.declared.slot.Target.{Target}
use Rattle.rw_reloc.specs.declared.slot.Target.TheVariants.{To}
use Rattle.rw_reloc.specs.Slots.{slots_of}
use Rattle.rw_refs.specs.References.{reference_at}

-- the slot is kept, and its address has none
abbrev pub target_fault : List ℕ → Slot → Target → Option Fault
target_fault bytes s (To a) = when (s.kept && not (is_some (reference_at bytes a))) (BadRelocTarget s.address)
target_fault bytes s _ = None

abbrev pub slot_fault : List ℕ → ℕ → Slot → Option Fault
slot_fault bytes k s = target_fault bytes s s.target

-- by ascending address
unfoldable pub slot_rules : List ℕ → List Rule
slot_rules bytes = each_of (slots_of bytes) (slot_fault bytes) ∷ []
