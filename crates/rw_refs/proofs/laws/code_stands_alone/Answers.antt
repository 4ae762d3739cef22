use Rattle.rw_refs.proofs.NoData.{reference-point, target-point}
use Rattle.rw_refs.proofs.laws.code_stands_alone.Goals as goal

pub returns-clause-reference : goal.returns-clause-reference
returns-clause-reference c = λ bytes a kept slots. reference-point bytes kept slots a

pub returns-clause-target : goal.returns-clause-target
returns-clause-target c = λ bytes a kept slots. target-point bytes kept slots a
