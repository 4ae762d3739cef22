use Rattle.rw_layout.specs.Places.{AreInsns}
use Rattle.rw_layout.specs.Program.{seen, shown}
use Rattle.rw_layout.proofs.insns.insns_by_address.Given as goal

abbrev pub invariant-loop-i : goal.invariant-loop-i
invariant-loop-i l = AreInsns l.lines.items (shown (seen l.text)) l.i
