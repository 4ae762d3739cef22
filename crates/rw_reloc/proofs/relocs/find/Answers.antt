use Rattle.std.proofs.Common.{get_or, arith}
use Rattle.std.proofs.lemmas.Grind.{common_steps}
use Rattle.std.proofs.lemmas.Option.{slice_get_past, slice_get-get_or}
use Rattle.rw_reloc.specs.Slots.{null_slot}
use Rattle.rw_reloc.proofs.Search.{slots_ascend, search_found, search_past, search_other}
use Rattle.rw_reloc.proofs.relocs.find.Goals as goal

pub count_before-next-requires : goal.count_before-next-requires
count_before-next-requires c = slots_ascend c.args.list.now c.requires

pub returns-then-next-list : goal.returns-then-next-list
returns-then-next-list c =
    search_past c.args.list.now c.args.address c.count_before-next.result c.count_before-next.ensures.before (slice_get_past c.args.list.now c.count_before-next.result (omega arith))

pub returns-then-slot-address : goal.returns-then-slot-address
returns-then-slot-address c =
    search_found c.args.list.now c.args.address c.count_before-next.result (get_or c.args.list.now c.count_before-next.result null_slot) c.requires (slice_get-get_or c.args.list.now c.count_before-next.result null_slot (omega arith)) (grind (arith, common_steps))

pub returns-else-slot-address : goal.returns-else-slot-address
returns-else-slot-address c =
    let at = slice_get-get_or c.args.list.now c.count_before-next.result null_slot (omega arith) in
    let low = c.count_before-next.ensures.after c.count_before-next.result (get_or c.args.list.now c.count_before-next.result null_slot) (omega arith) at in
    search_other c.args.list.now c.args.address c.count_before-next.result (get_or c.args.list.now c.count_before-next.result null_slot) c.requires c.count_before-next.ensures.before at (grind (arith, common_steps))
