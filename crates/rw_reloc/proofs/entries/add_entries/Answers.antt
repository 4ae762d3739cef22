use Rattle.std.proofs.Common.{arith}
use Rattle.std.proofs.lemmas.Grind.{common_steps}
use Rattle.rw_reloc.specs.Entries.{entries_in, entry_at, has_effect}
use Rattle.rw_reloc.proofs.MoreEntries.{filter-more}
use Rattle.rw_reloc.proofs.entries.add_entries.Goals as goal

pub loop-index-preserved : goal.loop-index-preserved
loop-index-preserved c =
    filter-more has_effect (entry_at c.args.bytes.now c.args.table.now) c.loop-index.index c.args.list.now.items c.loop-index.list.items c.add_entry.new.list.items c.read_entry.result c.loop-index.invariant c.read_entry.ensures c.in_ok-add_entry.ensures

pub returns : goal.returns
unfolding entries_in
returns c = grind (arith, common_steps)
