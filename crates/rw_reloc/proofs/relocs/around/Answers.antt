use Rattle.std.proofs.Common.{◌≡◌, Some, None, sym, ◌∙◌}
use Rattle.std.specs.List.{position}
use Rattle.rw_reloc.specs.Slots.{null_slot, takes}
use Rattle.rw_reloc.proofs.Search.{around_is, around_is_none, slots_ascend, slots_follow}
use Rattle.rw_reloc.proofs.relocs.around.Goals as goal

pub number_around-requires-clause-ascending : goal.number_around-requires-clause-ascending
number_around-requires-clause-ascending c = slots_ascend c.args.list.now c.requires

pub number_around-requires-clause-apart : goal.number_around-requires-clause-apart
number_around-requires-clause-apart c = slots_follow c.args.list.now c.requires

pub returns : goal.returns
returns c =
    let found : position (takes c.args.address) c.args.list.now ≡ Some c.in_ok-number.number = sym c.number_around.ensures ∙ c.in_ok-number.was in
    around_is c.args.list.now c.args.address c.in_ok-number.number null_slot found

pub returns-in_err-number : goal.returns-in_err-number
returns-in_err-number c =
    let found : position (takes c.args.address) c.args.list.now ≡ None = sym c.number_around.ensures ∙ c.in_err-number.was in
    rw c.from_residual.ensures (around_is_none c.args.list.now c.args.address found)
