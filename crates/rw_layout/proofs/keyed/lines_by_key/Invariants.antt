use Rattle.rw_layout.specs.Keys.{AreLines}
use Rattle.rw_layout.proofs.keyed.lines_by_key.Given as goal

abbrev pub invariant-loop-i : goal.invariant-loop-i
invariant-loop-i l = AreLines l.lines.items l.items l.i
