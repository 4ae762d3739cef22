use Rattle.std.proofs.Common.{min, ◌∙◌, ap, w32, arith}
use Rattle.std.specs.Int.{bit_at, bit_not}
use Rattle.std.proofs.lemmas.Nat.Bits.{bit_at_and, bit_at_not}
use Rattle.rw_live.proofs.graph.without.Goals as goal

pub returns : goal.returns
returns c = λ b lt. bit_at_and c.args.set (bit_not w32 c.args.out) b ∙ ap (λ n. min (bit_at c.args.set b) n) (bit_at_not w32 c.args.out b (omega arith) lt)
