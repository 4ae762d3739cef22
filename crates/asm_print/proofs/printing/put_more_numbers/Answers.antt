use Rattle.std.proofs.Common.{sym, ◌∙◌, ap, ◌++◌}
use Rattle.asm_print.specs.Line.{cut}
use Rattle.asm_print.proofs.Cut.{cut-none, more_numbers-end}
use Rattle.asm_print.proofs.printing.put_more_numbers.Goals as goal

pub returns : goal.returns
returns c =
    cut-none c.loop-b.line.bytes.items c.loop-b.line.fits ∙ ap (λ t. cut (c.loop-b.line.bytes.items ++ t)) (sym (more_numbers-end _ _ c.loop-b-test.false)) ∙ c.loop-b.invariant
