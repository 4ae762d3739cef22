use Rattle.rw_probe.proofs.Endbr64.{probe-behind}
use Rattle.rw_probe.proofs.laws.probes_stand_behind_endbr64.Goals as goal

pub returns : goal.returns
returns c points at p probe there e a = probe-behind points at p there e probe a
