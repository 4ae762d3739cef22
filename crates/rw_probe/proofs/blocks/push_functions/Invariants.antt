use Rattle.std.proofs.Common.{take}
use Rattle.std.specs.List.{list_any}
use Rattle.rw_funcs.specs.Functions.{end_of, kept_functions}
use Rattle.rw_funcs.specs.Points.{points_of}
use Rattle.rw_probe.specs.Collecting.{AddsWhere, begins_by}
use Rattle.rw_probe.proofs.blocks.push_functions.Given as goal

abbrev pub invariant-loop-function : goal.invariant-loop-function
invariant-loop-function l = AddsWhere (λ c. list_any (λ f. begins_by l.elf (end_of f) (points_of l.elf f) c) (take l.function-index (kept_functions l.elf))) l.initial.list.items l.list.items
