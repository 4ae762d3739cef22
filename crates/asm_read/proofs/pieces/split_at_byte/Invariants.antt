use Rattle.std.proofs.Common.{◌≡◌, drop, take}
use Rattle.asm_print.specs.Pieces.{split}
use Rattle.asm_read.proofs.Separated.{onto}
use Rattle.asm_read.proofs.pieces.split_at_byte.Given as goal

abbrev pub invariant-loop-i : goal.invariant-loop-i
invariant-loop-i l = onto (take l.i l.text) (split l.byte (drop l.i l.text)) ≡ split l.byte l.text
