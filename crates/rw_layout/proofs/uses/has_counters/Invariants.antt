use Rattle.std.proofs.Common.{◌≡◌, ℕ, ◌<◌, Some, map}
use Rattle.std.specs.Prelude.{slice_get}
use Rattle.asm_items.specs.declared.item.Item.TheVariants.{Name}
use Rattle.asm_items.specs.Named.{named}
use Rattle.rw_layout.specs.Order.{counts_name}
use Rattle.rw_layout.proofs.uses.has_counters.Given as goal

abbrev pub invariant-loop-item : goal.invariant-loop-item
invariant-loop-item l = (q : ℕ) → q < l.item-index → slice_get (map (named l.names) l.items) q ≡ Some (Name counts_name) → ⊥
