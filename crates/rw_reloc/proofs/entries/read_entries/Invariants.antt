use Rattle.std.proofs.Common.{◌≡◌, take}
use Rattle.std.specs.List.{flat_map}
use Rattle.rw_reloc.specs.Entries.{entries_of}
use Rattle.rw_reloc.proofs.entries.read_entries.Given as goal

abbrev pub invariant-loop-section : goal.invariant-loop-section
invariant-loop-section l = l.list.items ≡ flat_map (entries_of l.elf) (take l.section-index l.section-items)
