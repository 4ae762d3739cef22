use Rattle.std.proofs.Common.{None, ap, arith}
use Rattle.std.proofs.lemmas.Grind.{common_steps}
use Rattle.std.proofs.lemmas.Result.{err_from_is_err_and}
use Rattle.std.specs.Option.{option_or}
use Rattle.rw_base.proofs.First.{each-none, each-some, each-more}
use Rattle.rw_reloc.specs.Slots.{null_slot}
use Rattle.rw_refs.specs.DataTargets.{slot_fault, slot_rules}
use Rattle.rw_refs.proofs.check.check_slots.Goals as goal

pub returns-in_err-check_slot : goal.returns-in_err-check_slot
unfolding slot_rules
returns-in_err-check_slot c =
    let p = err_from_is_err_and c.from_residual.result c.from_residual.ensures.1 in
    rw (p.1, p.2, ← c.requires.relocs, ← c.slots-slot-items.ensures.list)
    (ap (λ o. option_or o None) (each-some c.slots-slot-items.result.now (slot_fault c.args.relocs.now) c.loop-slot.slot-index null_slot _ (omega arith) (rw c.requires.relocs c.loop-slot.invariant) (grind (arith, common_steps))))

pub loop-slot-preserved : goal.loop-slot-preserved
loop-slot-preserved c =
    each-more c.slots-slot-items.result.now (slot_fault c.args.elf.now) c.loop-slot.slot-index null_slot (omega arith) c.loop-slot.invariant (grind (arith, common_steps))

pub returns : goal.returns
unfolding slot_rules
returns c =
    rw (← c.requires.relocs, ← c.slots-slot-items.ensures.list)
    (ap (λ o. option_or o None) (each-none c.slots-slot-items.result.now (slot_fault c.args.relocs.now) c.loop-slot.slot-index (omega arith) (rw c.requires.relocs c.loop-slot.invariant)))
