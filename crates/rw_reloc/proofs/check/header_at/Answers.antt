use Rattle.std.proofs.Common.{arith}
use Rattle.std.proofs.lemmas.Grind.{common_steps}
use Rattle.rw_elf.proofs.Limits.{clean_header, clean_headers}
use Rattle.rw_reloc.proofs.check.header_at.Goals as goal

pub u64_at-requires : goal.u64_at-requires
u64_at-requires c = let e = clean_header c.args.elf.now c.file.ensures.clean in rw c.file.ensures.bytes (omega arith)

pub overflow_add-result : goal.overflow_add-result
overflow_add-result c = let e = clean_headers c.args.elf.now c.file.ensures.clean in grind (arith, common_steps)

pub returns-clause-within : goal.returns-clause-within
returns-clause-within c = let e = clean_headers c.args.elf.now c.file.ensures.clean in grind (arith, common_steps)
