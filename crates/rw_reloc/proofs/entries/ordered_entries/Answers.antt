use Rattle.rw_reloc.proofs.ByOffset.{have_their_index}
use Rattle.rw_reloc.proofs.entries.ordered_entries.Goals as goal

pub sort_by_offset-requires : goal.sort_by_offset-requires
sort_by_offset-requires c = rw c.in_ok-list.ensures (have_their_index c.args.elf.now)
