use Rattle.rw_runs.proofs.RunLaw.{runs-correspond}
use Rattle.rw_runs.proofs.laws.runs_correspond.Goals as goal

pub returns : goal.returns
returns g c l known named spare near p q m o answers replies n run = runs-correspond l known named spare near p q m o answers replies n run
