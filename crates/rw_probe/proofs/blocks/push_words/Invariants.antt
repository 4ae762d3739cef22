use Rattle.std.proofs.Common.{◌+◌, ◌*◌}
use Rattle.std.specs.List.{list_any, range_with_len}
use Rattle.rw_tables.specs.Tables.{entry_at}
use Rattle.rw_probe.specs.Collecting.{AddsWhere}
use Rattle.rw_probe.specs.Leaders.{leads_to}
use Rattle.rw_probe.proofs.blocks.push_words.Given as goal

abbrev pub invariant-loop-k : goal.invariant-loop-k
invariant-loop-k l = AddsWhere (λ c. list_any (λ k. leads_to c (entry_at l.tables (l.table.base + 4 * k))) (range_with_len 0 l.k)) l.initial.list.items l.list.items
