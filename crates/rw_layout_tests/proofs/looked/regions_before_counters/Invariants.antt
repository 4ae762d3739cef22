use Rattle.std.proofs.Common.{◌≡◌, ◌+◌, ◌≤◌, length, drop}
use Rattle.asm_items.specs.Lines.{counters_number}
use Rattle.rw_layout.specs.Program.{shown}
use Rattle.rw_layout_tests.proofs.looked.regions_before_counters.Given as goal

abbrev pub invariant-loop-i : goal.invariant-loop-i
invariant-loop-i l = (l.count ≡ counters_number (drop l.i (shown l.program))) × (l.count + l.i ≤ length l.program.items)
