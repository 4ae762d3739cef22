use Rattle.rw_machine.proofs.StepLaw.{steps-correspond, replies-correspond}
use Rattle.rw_machine.proofs.laws.steps_correspond.Goals as goal

pub returns-clause-step : goal.returns-clause-step
returns-clause-step g c l known named spare near near' m n a b = steps-correspond l known spare named near near' m n a b

pub returns-clause-reply : goal.returns-clause-reply
returns-clause-reply g c l known named spare near near' m n a b r q = replies-correspond l known spare named near near' m n a b r q
