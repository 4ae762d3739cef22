use Rattle.asm_print.proofs.Unique.{lines-apart}
use Rattle.asm_print.proofs.laws.lines_apart.Goals as goal

pub returns : goal.returns
returns c = lines-apart
