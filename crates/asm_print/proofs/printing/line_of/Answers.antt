use Rattle.std.proofs.Common.{◌∙◌}
use Rattle.asm_print.proofs.Cut.{cut-short}
use Rattle.asm_print.proofs.Lengths.{line-le}
use Rattle.asm_print.proofs.printing.line_of.Goals as goal

pub returns : goal.returns
returns c = c.put_line.ensures ∙ cut-short _ (line-le _ c.requires)
