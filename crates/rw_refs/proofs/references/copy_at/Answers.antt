use Rattle.std.proofs.Common.{◌≡◌, Some, rules, arith}
use Rattle.rw_reloc.specs.Slots.{copy_around}
use Rattle.rw_refs.proofs.Data.{copy-place}
use Rattle.rw_refs.proofs.Few.{few-regions}
use Rattle.rw_refs.proofs.references.copy_at.Goals as goal

pub offset_bounds-copies-number : goal.offset_bounds-copies-number
offset_bounds-copies-number c =
    let found : copy_around c.args.relocs.now c.args.address ≡ Some c.in_ok-number.number = search rules in
    let place = copy-place c.args.relocs.now c.args.address c.in_ok-number.number found in
    let few = few-regions c.args.relocs.now c.slots-slots.ensures.clean_file c.slots-slots.ensures.clean in
    let within = place.within in
    omega (arith, few, within)

pub bounds-copies-number : goal.bounds-copies-number
bounds-copies-number c =
    let found : copy_around c.args.relocs.now c.args.address ≡ Some c.in_ok-number.number = search rules in
    rw c.copies.ensures.list (copy-place c.args.relocs.now c.args.address c.in_ok-number.number found).within

pub overflow_add-region : goal.overflow_add-region
overflow_add-region c =
    let found : copy_around c.args.relocs.now c.args.address ≡ Some c.in_ok-number.number = search rules in
    let place = copy-place c.args.relocs.now c.args.address c.in_ok-number.number found in
    let few = few-regions c.args.relocs.now c.slots-slots.ensures.clean_file c.slots-slots.ensures.clean in
    let within = place.within in
    rw (c.kept.ensures.list, ← c.requires) (omega (arith, few, within))

pub overflow_cast-result : goal.overflow_cast-result
overflow_cast-result c =
    let found : copy_around c.args.relocs.now c.args.address ≡ Some c.in_ok-number.number = search rules in
    let place = copy-place c.args.relocs.now c.args.address c.in_ok-number.number found in
    let few = few-regions c.args.relocs.now c.slots-slots.ensures.clean_file c.slots-slots.ensures.clean in
    let within = place.within in
    rw (c.kept.ensures.list, ← c.requires) (omega (arith, few, within))

pub overflow_sub-result : goal.overflow_sub-result
overflow_sub-result c =
    let found : copy_around c.args.relocs.now c.args.address ≡ Some c.in_ok-number.number = search rules in
    rw c.copies.ensures.list (copy-place c.args.relocs.now c.args.address c.in_ok-number.number found).low

pub returns : goal.returns
returns c =
    let found : copy_around c.args.relocs.now c.args.address ≡ Some c.in_ok-number.number = search rules in
    rw (c.copies.ensures.list, c.kept.ensures.list, ← c.requires) (copy-place c.args.relocs.now c.args.address c.in_ok-number.number found).atom
