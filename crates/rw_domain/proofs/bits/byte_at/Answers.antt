use Rattle.std.proofs.Common.{◌≤◌, ◌≡◌, length, ap, arith}
use Rattle.std.proofs.lemmas.Bool.Decides.{nat_tests}
use Rattle.rw_domain.proofs.BitLemmas.{no_byte}
use Rattle.rw_domain.proofs.bits.byte_at.Goals as goal

pub returns-in-None : goal.returns-in-None
returns-in-None c =
    let eight : length c.to_le_bytes.result ≡ 8 = ap length c.to_le_bytes.ensures in
    let past : 8 ≤ c.args.i = grind (arith, nat_tests, c.in-None.ensures.lookup.0) in
    no_byte c.args.a c.args.i (omega arith) past
