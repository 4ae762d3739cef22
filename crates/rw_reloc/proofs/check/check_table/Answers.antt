use Rattle.rw_reloc.proofs.Clean.{length_below}
use Rattle.rw_reloc.proofs.check.check_table.Goals as goal

pub check_numbers-requires-clause-short : goal.check_numbers-requires-clause-short
check_numbers-requires-clause-short c = rw c.file.ensures.bytes (length_below c.args.elf.now c.file.ensures.clean)
