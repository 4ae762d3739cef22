use Rattle.asm_print.proofs.ItemsRead.{item-again}
use Rattle.asm_print.proofs.laws.lines_are_read.Goals as goal

pub returns : goal.returns
returns c = item-again
