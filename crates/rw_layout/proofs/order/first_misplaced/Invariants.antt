use Rattle.std.proofs.Common.{◌≤◌}
use Rattle.rw_layout.specs.Program.{shown}
use Rattle.rw_layout.specs.States.{section_of}
use Rattle.rw_layout.proofs.Prefixes.{Reached}
use Rattle.rw_layout.proofs.order.first_misplaced.Given as goal

abbrev pub invariant-loop-i : goal.invariant-loop-i
invariant-loop-i l = record { reached : Reached (shown (record { names = l.names; items = l.items })) l.i l.state; few : section_of l.state ≤ l.i }
