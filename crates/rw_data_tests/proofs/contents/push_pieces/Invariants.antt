use Rattle.std.proofs.Common.{ℕ, ◌+◌, ◌-◌, ◌≤◌}
use Rattle.rw_data_tests.proofs.contents.push_pieces.Given as goal

abbrev pub invariant-loop-piece : goal.invariant-loop-piece
invariant-loop-piece l = l.section.addr ≤ l.at

abbrev pub decreases-loop-piece : goal.decreases-loop-piece
decreases-loop-piece l = l.section.addr + l.section.size - l.at
