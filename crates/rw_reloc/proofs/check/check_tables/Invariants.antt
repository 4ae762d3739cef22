use Rattle.rw_base.proofs.First.{CleanAmong}
use Rattle.rw_reloc.specs.Relocations.{table_finding}
use Rattle.rw_reloc.proofs.check.check_tables.Given as goal

abbrev pub invariant-loop-section : goal.invariant-loop-section
invariant-loop-section l = CleanAmong l.section-items (table_finding l.elf) l.section-index
