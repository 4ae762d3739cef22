use Rattle.rw_live.proofs.WeakenedAgrees.{weakened-agrees}
use Rattle.rw_live.proofs.laws.weakened_agrees.Goals as goal

pub returns : goal.returns
returns g c keeps keeps_flag m e = weakened-agrees keeps keeps_flag m e
