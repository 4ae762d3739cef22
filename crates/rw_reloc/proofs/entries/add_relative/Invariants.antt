use Rattle.std.proofs.Common.{◌≡◌, ◌++◌, map}
use Rattle.std.specs.List.{range_with_len}
use Rattle.rw_reloc.specs.Relr.{relative_at}
use Rattle.rw_reloc.proofs.entries.add_relative.Given as goal

abbrev pub invariant-loop-index : goal.invariant-loop-index
invariant-loop-index l = l.list.items ≡ l.initial.list.items ++ map (relative_at l.elf l.table) (range_with_len 0 l.index)
