use Rattle.std.proofs.Common.{◌≡◌, ◌++◌, drop}
use Rattle.std.specs.List.{flat_map}
use Rattle.rw_make.specs.Tables.{rela_entry}
use Rattle.rw_make.proofs.tables.rela_table.Given as goal

abbrev pub invariant-loop-rela : goal.invariant-loop-rela
invariant-loop-rela l = l.table.items ++ flat_map rela_entry (drop l.rela-index l.relas) ≡ flat_map rela_entry l.relas
