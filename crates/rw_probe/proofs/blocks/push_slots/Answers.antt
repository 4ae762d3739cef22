use Rattle.std.proofs.Common.{get_or, sym, ap, ◌∙◌, arith}
use Rattle.std.specs.List.{list_any}
use Rattle.rw_funcs.specs.Points.{is_one_of}
use Rattle.rw_reloc.specs.Slots.{null_slot, slots_of}
use Rattle.rw_probe.specs.Leaders.{held_by, is_code, is_held}
use Rattle.rw_probe.proofs.Adding.{or-false, adds-same, adds-more, adds-all}
use Rattle.rw_probe.proofs.blocks.push_slots.Goals as goal

pub loop-slot-init : goal.loop-slot-init
loop-slot-init c = λ a. sym (or-false (is_one_of c.args.list.now.items a))

pub loop-slot-preserved : goal.loop-slot-preserved
loop-slot-preserved c =
    adds-more (λ a s. is_code a (held_by c.args.elf.now s)) c.slots-slot-items.result.now c.loop-slot.slot-index null_slot c.args.list.now.items c.loop-slot.list.items c.push_code.new.list.items (omega arith) c.loop-slot.invariant
    (adds-same c.loop-slot.list.items c.push_code.new.list.items (λ a. is_code a c.held_by.result) (λ a. is_code a (held_by c.args.elf.now (get_or c.slots-slot-items.result.now c.loop-slot.slot-index null_slot))) (λ a. ap (is_code a) c.held_by.ensures) c.in_ok-push_code.ensures)

pub returns : goal.returns
returns c =
    let slots = c.slots-slot-items.result.now in
    adds-same c.args.list.now.items c.loop-slot.list.items (λ a. list_any (λ s. is_code a (held_by c.args.elf.now s)) c.slots-slot-items.result.now) (is_held c.args.elf.now)
    (λ a. ap (list_any (λ s. is_code a (held_by c.args.elf.now s))) (c.slots-slot-items.ensures.list ∙ ap slots_of c.requires.relocs))
    (adds-all (λ a s. is_code a (held_by c.args.elf.now s)) c.slots-slot-items.result.now c.loop-slot.slot-index c.args.list.now.items c.loop-slot.list.items (omega arith) c.loop-slot.invariant)
