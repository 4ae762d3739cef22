-- Hexadecimal digits, from the last to the first.
use Rattle.std.proofs.Common.{◌≡◌, ℕ, false, List, length, drop, ap, arith}
use Rattle.std.specs.Fmt.{digits_onto, digits}
use Rattle.std.proofs.Math.ListN.{drop_of_length-le}
use Rattle.asm_print.specs.Line.{hex}

pub hex_none : (n : ℕ) (out : List ℕ) → length out ≡ 64 → digits_onto 64 16 false n (drop 64 out) ≡ hex n
unfolding digits
hex_none n out e = ap (digits_onto 64 16 false n) (drop_of_length-le out {i = 64} (omega arith))
