use Rattle.rw_layout.specs.Program.{seen, shown}
use Rattle.rw_layout.proofs.PlaceFacts.{PlacedUpTo}
use Rattle.rw_layout.proofs.places.line_addresses.Given as goal

abbrev pub invariant-loop-item : goal.invariant-loop-item
invariant-loop-item l = PlacedUpTo l.list.items l.units (shown (seen l.text)) l.item-index l.begun l.before
