use Rattle.rw_layout.specs.Keys.{AreKeyed}
use Rattle.rw_layout.proofs.definitions.definitions.Given as goal

abbrev pub invariant-loop-i : goal.invariant-loop-i
invariant-loop-i l = AreKeyed l.defined.entries l.items l.i
