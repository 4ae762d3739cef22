use Rattle.rw_base.proofs.First.{CleanAmong}
use Rattle.rw_reloc.specs.Relocations.{entry_finding}
use Rattle.rw_reloc.proofs.check.check_entries.Given as goal

abbrev pub invariant-loop-place : goal.invariant-loop-place
invariant-loop-place l = CleanAmong l.list (entry_finding l.elf l.list) l.place
