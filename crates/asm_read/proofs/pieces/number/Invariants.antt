use Rattle.std.proofs.Common.{◌≡◌, ◌<◌, ◌^◌, drop}
use Rattle.asm_print.specs.Pieces.{number_after}
use Rattle.asm_read.proofs.pieces.number.Given as goal

abbrev pub invariant-loop-byte : goal.invariant-loop-byte
invariant-loop-byte l = (l.n < 2 ^ 64) × (number_after l.base l.n (drop l.byte-index l.text) ≡ number_after l.base 0 l.text)
