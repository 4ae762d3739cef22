use Rattle.x86_insn.proofs.Referring.{shape_from}
use Rattle.x86_insn.proofs.instruction.Insn.without_ref.Goals as goal

pub returns-in-None-clause-shape : goal.returns-in-None-clause-shape
returns-in-None-clause-shape g c = shape_from _ _ _ c.referring_to.ensures
