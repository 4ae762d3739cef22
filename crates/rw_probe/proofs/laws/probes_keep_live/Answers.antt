use Rattle.rw_probe.proofs.KeepsLive.{still-agrees}
use Rattle.rw_probe.proofs.laws.probes_keep_live.Goals as goal

pub returns : goal.returns
returns g c points at probe m o a h = still-agrees points at probe m o a h
