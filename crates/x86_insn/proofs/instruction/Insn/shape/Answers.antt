use Rattle.x86_insn.proofs.Referring.{value_from}
use Rattle.x86_insn.proofs.instruction.Insn.shape.Goals as goal

pub returns : goal.returns
returns g c = value_from tt _ _ c.referring_to.ensures
