use Rattle.std.proofs.Common.{take}
use Rattle.std.specs.List.{list_any}
use Rattle.rw_probe.specs.Collecting.{AddsWhere}
use Rattle.rw_probe.specs.Leaders.{held_by, is_code}
use Rattle.rw_probe.proofs.blocks.push_slots.Given as goal

abbrev pub invariant-loop-slot : goal.invariant-loop-slot
invariant-loop-slot l = AddsWhere (λ c. list_any (λ s. is_code c (held_by l.elf s)) (take l.slot-index l.slot-items)) l.initial.list.items l.list.items
