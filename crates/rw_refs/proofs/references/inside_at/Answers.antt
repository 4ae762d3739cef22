use Rattle.std.proofs.Common.{◌≡◌, Some, rules}
use Rattle.rw_elf.specs.Places.{kept_around}
use Rattle.rw_refs.proofs.Data.{around-place}
use Rattle.rw_refs.proofs.references.inside_at.Goals as goal

pub bounds-kept-number : goal.bounds-kept-number
bounds-kept-number c =
    let found : kept_around c.args.elf.now c.args.address ≡ Some c.in_ok-number.number = search rules in
    rw c.kept.ensures.list (around-place c.args.elf.now c.args.address c.in_ok-number.number found).within

pub overflow_sub-result : goal.overflow_sub-result
overflow_sub-result c =
    let found : kept_around c.args.elf.now c.args.address ≡ Some c.in_ok-number.number = search rules in
    rw c.kept.ensures.list (around-place c.args.elf.now c.args.address c.in_ok-number.number found).low

pub returns : goal.returns
returns c =
    let found : kept_around c.args.elf.now c.args.address ≡ Some c.in_ok-number.number = search rules in
    rw c.kept.ensures.list (around-place c.args.elf.now c.args.address c.in_ok-number.number found).atom
