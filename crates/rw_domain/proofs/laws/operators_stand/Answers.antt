use Rattle.rw_domain.proofs.AllStand.{all-stand, others-stand}
use Rattle.rw_domain.proofs.laws.operators_stand.Goals as goal

pub returns-clause-operators : goal.returns-clause-operators
returns-clause-operators c = all-stand

pub returns-clause-others : goal.returns-clause-others
returns-clause-others c = others-stand
