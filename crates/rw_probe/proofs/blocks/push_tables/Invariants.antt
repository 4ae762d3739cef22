use Rattle.std.proofs.Common.{take}
use Rattle.std.specs.List.{list_any}
use Rattle.rw_probe.specs.Collecting.{AddsWhere}
use Rattle.rw_probe.specs.Leaders.{is_in}
use Rattle.rw_probe.proofs.blocks.push_tables.Given as goal

abbrev pub invariant-loop-table : goal.invariant-loop-table
invariant-loop-table l = AddsWhere (λ c. list_any (is_in l.tables c) (take l.table-index l.table-items)) l.initial.list.items l.list.items
