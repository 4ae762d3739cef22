use Rattle.std.proofs.Common.{refl}
use Rattle.rw_out.proofs.steps.leading_step.Goals as goal

pub returns : goal.returns
returns c = λ file probes past formed. (refl, (past, c.requires), formed)
