use Rattle.rw_probe.proofs.Corresponded.{left-stands}
use Rattle.std.specs.Prelude.{◌≡◌, true}
use Rattle.rw_probe.proofs.laws.probes_correspond.Goals as goal

pub returns : goal.returns
returns g c l known near near' prog probe counter region k counts saved behind m run stand going low w words free close h =
    let left = left-stands l known (λ p q. near p q ≡ true) prog counter region k counts m run low words h (λ p q. near' p q ≡ true) probe saved behind stand going w free close in
    (left.0, left.1, left.2)
