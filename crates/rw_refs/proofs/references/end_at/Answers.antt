use Rattle.std.proofs.Common.{◌≡◌, Some, rules}
use Rattle.rw_elf.specs.Places.{kept_ending}
use Rattle.rw_refs.proofs.Data.{ending-place}
use Rattle.rw_refs.proofs.references.end_at.Goals as goal

pub bounds-kept-number : goal.bounds-kept-number
bounds-kept-number c =
    let found : kept_ending c.args.elf.now c.args.address ≡ Some c.in_ok-number.number = search rules in
    rw c.kept.ensures.list (ending-place c.args.elf.now c.args.address c.in_ok-number.number found).within

pub returns : goal.returns
returns c =
    let found : kept_ending c.args.elf.now c.args.address ≡ Some c.in_ok-number.number = search rules in
    rw c.kept.ensures.list (ending-place c.args.elf.now c.args.address c.in_ok-number.number found).atom
