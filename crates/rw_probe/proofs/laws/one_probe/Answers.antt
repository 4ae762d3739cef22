use Rattle.rw_probe.proofs.OneProbe.{same-probe}
use Rattle.rw_probe.proofs.laws.one_probe.Goals as goal

pub returns : goal.returns
returns c points at p q a b = same-probe points at p q a b
