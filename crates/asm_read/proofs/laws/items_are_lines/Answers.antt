use Rattle.asm_read.proofs.Progress.{item-lines}
use Rattle.asm_read.proofs.laws.items_are_lines.Goals as goal

pub returns : goal.returns
returns c = item-lines
