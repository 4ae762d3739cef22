use Rattle.asm_print.proofs.Unique.{texts-apart}
use Rattle.asm_print.proofs.laws.texts_apart.Goals as goal

pub returns : goal.returns
returns c = texts-apart
