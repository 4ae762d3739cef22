use Rattle.std.proofs.Common.{ℕ, ◌<◌}
use Rattle.rw_layout.specs.Looked.{IsFarLine}
use Rattle.rw_layout.proofs.reach.first_far.Given as goal

abbrev pub invariant-loop-i : goal.invariant-loop-i
invariant-loop-i l = (p : ℕ) → p < l.i → IsFarLine l.layout l.counters l.text.items.items p → ⊥
