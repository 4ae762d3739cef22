use Rattle.std.proofs.Common.{take}
use Rattle.std.specs.List.{list_any}
use Rattle.std.specs.Prelude.{◌==◌}
use Rattle.rw_probe.specs.Collecting.{AddsWhere}
use Rattle.rw_probe.proofs.leaders.push_starts.Given as goal

abbrev pub invariant-loop-function : goal.invariant-loop-function
invariant-loop-function l = AddsWhere (λ c. list_any (λ f. f.span.start == c) (take l.function-index l.function-items)) l.initial.list.items l.list.items
