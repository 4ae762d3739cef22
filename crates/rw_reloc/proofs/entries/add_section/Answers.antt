use Rattle.rw_reloc.proofs.Clean.{length_below}
use Rattle.rw_reloc.proofs.entries.add_section.Goals as goal

pub relr_words-requires-clause-short : goal.relr_words-requires-clause-short
relr_words-requires-clause-short c = rw c.file-then-is_relr.ensures.bytes (length_below c.args.elf.now c.file-then-is_relr.ensures.clean)
