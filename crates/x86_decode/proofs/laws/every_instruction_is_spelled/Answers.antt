use Rattle.x86_decode.proofs.CanonicalLaws.{is_spelled}
use Rattle.x86_decode.proofs.laws.every_instruction_is_spelled.Goals as goal

pub returns : goal.returns
returns c = is_spelled
