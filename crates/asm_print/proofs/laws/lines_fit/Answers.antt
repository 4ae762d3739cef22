use Rattle.asm_print.proofs.Lengths.{line-le}
use Rattle.asm_print.proofs.laws.lines_fit.Goals as goal

pub returns : goal.returns
returns c = line-le
