use Rattle.rw_probe.proofs.Instructions.{count-is, formed}
use Rattle.rw_probe.proofs.laws.probes_are_instructions.Goals as goal

pub returns-clause-count : goal.returns-clause-count
returns-clause-count g c counter probe = count-is counter probe

pub returns-clause-formed : goal.returns-clause-formed
returns-clause-formed g c counter probe = formed counter probe
