use Rattle.std.proofs.Common.{take}
use Rattle.rw_tables.specs.Entries.{AreEntriesOf}
use Rattle.rw_tables.proofs.entries.entries_of.Given as goal

abbrev pub invariant-loop-table : goal.invariant-loop-table
invariant-loop-table l = AreEntriesOf l.elf (take l.table-index l.tables) l.entries
