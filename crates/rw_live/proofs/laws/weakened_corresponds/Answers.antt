use Rattle.rw_live.proofs.WeakenedStands.{weakened-corresponds}
use Rattle.rw_live.proofs.laws.weakened_corresponds.Goals as goal

pub returns : goal.returns
returns g c l known spare near keeps keeps_flag m o h = weakened-corresponds l known spare near keeps keeps_flag m o h
