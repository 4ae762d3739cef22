use Rattle.std.proofs.Common.{◌≡◌, ◌++◌, map, filter}
use Rattle.std.specs.List.{range_with_len}
use Rattle.rw_reloc.specs.Entries.{entry_at, has_effect}
use Rattle.rw_reloc.proofs.entries.add_entries.Given as goal

abbrev pub invariant-loop-index : goal.invariant-loop-index
invariant-loop-index l =
    l.list.items ≡ l.initial.list.items ++ filter has_effect (map (entry_at l.bytes l.table) (range_with_len 0 l.index))
