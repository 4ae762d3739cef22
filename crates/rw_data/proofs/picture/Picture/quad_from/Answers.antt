use Rattle.std.proofs.Common.{◌+◌, ◌-◌, length, get_or, sym, ap, ◌∙◌, arith}
use Rattle.std.proofs.lemmas.Option.{slice_get-get_or}
use Rattle.rw_reloc.specs.declared.slot.Slot.{Slot}
use Rattle.rw_reloc.specs.Slots.{null_slot, slots_of}
use Rattle.rw_data.specs.Pieces.{quad_of}
use Rattle.rw_data.proofs.Ahead.{quads-none, quads-some, rest-item}
use Rattle.rw_data.proofs.picture.Picture.quad_from.Goals as goal

pub overflow_sub-slot : goal.overflow_sub-slot
overflow_sub-slot c =
    let item = rest-item c.slots_below-next.result c.slots-slots.result.now c.loop-slot.slot-index null_slot (omega arith) in
    let first = c.slots_below-next.ensures.after (c.slots_below-next.result + c.loop-slot.slot-index) (get_or c.slots-slots.result.now (c.slots_below-next.result + c.loop-slot.slot-index) null_slot) (omega arith) (slice_get-get_or c.slots-slots.result.now (c.slots_below-next.result + c.loop-slot.slot-index) null_slot (omega arith)) in
    let same = ap (λ (t : Slot). t.address) item in
    omega (arith, first, same)

pub returns-then-slot-section : goal.returns-then-slot-section
returns-then-slot-section c =
    let item = rest-item c.slots_below-next.result c.slots-slots.result.now c.loop-slot.slot-index null_slot (omega arith) in
    let first = c.slots_below-next.ensures.after (c.slots_below-next.result + c.loop-slot.slot-index) (get_or c.slots-slots.result.now (c.slots_below-next.result + c.loop-slot.slot-index) null_slot) (omega arith) (slice_get-get_or c.slots-slots.result.now (c.slots_below-next.result + c.loop-slot.slot-index) null_slot (omega arith)) in
    let same = ap (λ (t : Slot). t.address) item in
    quads-none c.args.self.now c.args.section.now c.args.address c.slots-slots.result.now c.slots-slots.ensures.apart c.slots_below-next.result c.slots_below-next.ensures.before c.slots_below-next.ensures.after
    c.loop-slot.slot-index
    (λ j low. ap (quad_of c.args.self.now) (sym (rest-item c.slots_below-next.result c.slots-slots.result.now j null_slot (omega arith))) ∙ c.loop-slot.invariant j low)
    (λ within. omega (arith, first, same))
    (c.slots-slots.ensures.list ∙ ap slots_of c.relocs.ensures.file)

pub returns-in-Some : goal.returns-in-Some
returns-in-Some c =
    let item = rest-item c.slots_below-next.result c.slots-slots.result.now c.loop-slot.slot-index null_slot (omega arith) in
    let same = ap (λ (t : Slot). t.address) item in
    quads-some c.args.self.now c.args.section.now c.args.address c.slots-slots.result.now c.slots-slots.ensures.apart c.slots_below-next.result c.slots_below-next.ensures.before c.slots_below-next.ensures.after
    c.loop-slot.slot-index c.in-Some.piece
    (λ j low. ap (quad_of c.args.self.now) (sym (rest-item c.slots_below-next.result c.slots-slots.result.now j null_slot (omega arith))) ∙ c.loop-slot.invariant j low)
    (omega arith) c.requires (omega (arith, same))
    (ap (quad_of c.args.self.now) (sym item) ∙ sym c.quad_of.ensures ∙ c.in-Some.is)
    (c.slots-slots.ensures.list ∙ ap slots_of c.relocs.ensures.file)

pub returns : goal.returns
returns c =
    quads-none c.args.self.now c.args.section.now c.args.address c.slots-slots.result.now c.slots-slots.ensures.apart c.slots_below-next.result c.slots_below-next.ensures.before c.slots_below-next.ensures.after
    (length c.slots-slots.result.now - c.slots_below-next.result)
    (λ j low. ap (quad_of c.args.self.now) (sym (rest-item c.slots_below-next.result c.slots-slots.result.now j null_slot low)) ∙ c.loop-slot.invariant j (omega arith))
    (λ within. absurd (omega arith))
    (c.slots-slots.ensures.list ∙ ap slots_of c.relocs.ensures.file)
