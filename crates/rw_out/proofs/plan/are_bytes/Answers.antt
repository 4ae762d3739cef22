use Rattle.std.proofs.Common.{arith}
use Rattle.std.proofs.lemmas.Grind.{get_or_default_zero}
use Rattle.rw_out.proofs.plan.are_bytes.Goals as goal

pub returns : goal.returns
returns c = λ k d lt. omega (arith, get_or_default_zero c.args.bytes.now k d lt, c.type_inv.bytes k)
