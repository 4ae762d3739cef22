use Rattle.std.proofs.Common.{◌≡◌, drop}
use Rattle.rw_layout.specs.Program.{seen, shown}
use Rattle.rw_layout.specs.Units.{counts_of}
use Rattle.rw_layout.proofs.units.count_units.Given as goal

abbrev pub invariant-loop-i : goal.invariant-loop-i
invariant-loop-i l = l.counts ≡ counts_of (drop l.i (shown (seen l.text)))
