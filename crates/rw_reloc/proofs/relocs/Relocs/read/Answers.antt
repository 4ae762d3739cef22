use Rattle.std.proofs.Common.{sym, subst, arith}
use Rattle.std.proofs.lemmas.Grind.{common_steps}
use Rattle.rw_reloc.specs.Relocations.{AreSlotsOf, relocation_rules}
use Rattle.rw_reloc.proofs.Clean.{length_below}
use Rattle.rw_reloc.proofs.Search.{copies_is}
use Rattle.rw_reloc.proofs.relocs.Relocs.read.Goals as goal

pub of-requires : goal.of-requires
of-requires c = rw c.file.ensures.bytes (length_below c.args.elf.now c.file.ensures.clean)

pub check_entries-requires-clause-fits : goal.check_entries-requires-clause-fits
check_entries-requires-clause-fits c = length_below c.args.elf.now c.file.ensures.clean

pub invariant_of-result : goal.invariant_of-result
unfolding relocation_rules
invariant_of-result c =
    subst (λ b. AreSlotsOf b c.in_ok-slots.slots.items c.in_ok-copies.copies.items) (sym c.of-2.ensures) (record { clean_file = c.file.ensures.clean; clean = grind (arith, common_steps); list = c.in_ok-slots.ensures; copies = copies_is c.args.elf.now c.deref-3.result.now c.in_ok-copies.copies.items c.in_ok-slots.slots.items c.in_ok-copies.ensures c.deref-3.ensures.value c.in_ok-slots.ensures })
