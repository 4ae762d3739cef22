use Rattle.std.proofs.Common.{◌+◌, ◌<◌, ◌≡◌, ◌^◌, arith}
use Rattle.rw_domain.proofs.BitLemmas.{rotated_fits}
use Rattle.rw_domain.specs.Numbers.{rotation_result}
use Rattle.rw_domain.proofs.shift.rotate.Goals as goal

pub overflow_add-result : goal.overflow_add-result
overflow_add-result c =
    let room : rotation_result c.args.w c.args.a c.args.k < 2 ^ 64 = rotated_fits c.args.w c.args.a c.args.k c.requires in
    let same : c.shift_up.result + c.shift_down.result ≡ rotation_result c.args.w c.args.a c.args.k = cc in
    omega arith
