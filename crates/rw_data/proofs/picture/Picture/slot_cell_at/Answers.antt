use Rattle.std.proofs.Common.{sym, ◌∙◌, arith}
use Rattle.rw_reloc.specs.Slots.{slots_of}
use Rattle.rw_data.proofs.Around.{slot-around-from}
use Rattle.rw_data.proofs.Marks.{atom-size}
use Rattle.rw_data.proofs.picture.Picture.slot_cell_at.Goals as goal

pub overflow_sub-result : goal.overflow_sub-result
overflow_sub-result c = (slot-around-from (slots_of c.relocs.result.now) c.args.address c.in_ok-slot.slot (sym c.slot_around.ensures ∙ c.in_ok-slot.was)).1

pub overflow_cast-result : goal.overflow_cast-result
overflow_cast-result c =
    let parts = slot-around-from (slots_of c.relocs.result.now) c.args.address c.in_ok-slot.slot (sym c.slot_around.ensures ∙ c.in_ok-slot.was) in
    let high = parts.2 in
    let size = atom-size c.args.self.now c.in_ok-slot.slot.target c.in_ok-atom.atom (sym c.atom_in.ensures ∙ c.in_ok-atom.was) in
    omega (arith, high, size)
