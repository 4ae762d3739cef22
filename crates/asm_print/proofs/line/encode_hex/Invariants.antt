use Rattle.std.proofs.Common.{◌≡◌, ◌≤◌, false, drop, length}
use Rattle.std.specs.Fmt.{digits_onto}
use Rattle.asm_print.specs.Line.{hex}
use Rattle.asm_print.proofs.line.encode_hex.Given as goal

abbrev pub invariant-loop-i : goal.invariant-loop-i
invariant-loop-i l = (l.i ≤ 64) × (length l.out ≡ 64) × (digits_onto l.i 16 false l.rest (drop l.i l.out) ≡ hex l.n)

abbrev pub decreases-loop-i : goal.decreases-loop-i
decreases-loop-i l = l.i
