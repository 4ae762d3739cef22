use Rattle.rw_base.proofs.First.{CleanAmong}
use Rattle.rw_refs.specs.DataTargets.{slot_fault}
use Rattle.rw_refs.proofs.check.check_slots.Given as goal

abbrev pub invariant-loop-slot : goal.invariant-loop-slot
invariant-loop-slot l = CleanAmong l.slot-items (slot_fault l.elf) l.slot-index
