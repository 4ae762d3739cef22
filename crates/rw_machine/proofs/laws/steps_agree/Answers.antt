use Rattle.std.specs.Prelude.{Some, None}
use Rattle.rw_machine.specs.Domains.{symbols}
use Rattle.rw_machine.proofs.FlagUse.{symbols-use}
use Rattle.rw_machine.proofs.StepsAgree.{stepped-same}
use Rattle.rw_machine.proofs.laws.steps_agree.Goals as goal

pub returns-clause-step : goal.returns-clause-step
returns-clause-step g c prog m o formed h = stepped-same symbols symbols-use prog formed m o None h

pub returns-clause-reply : goal.returns-clause-reply
returns-clause-reply g c prog m o r formed h = stepped-same symbols symbols-use prog formed m o (Some r) h
