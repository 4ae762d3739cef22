use Rattle.std.proofs.Common.{arith}
use Rattle.rw_tables.proofs.EntryFacts.{entries-more}
use Rattle.rw_tables.proofs.KnownFacts.{made}
use Rattle.rw_tables.proofs.entries.entries_of.Goals as goal

pub loop-table-preserved : goal.loop-table-preserved
loop-table-preserved c = entries-more c.args.elf.now c.args.tables.now c.loop-table.table-index (made 0 0) c.loop-table.entries c.add_words.new.entries (omega arith) c.loop-table.invariant c.in_ok-add_words.ensures
