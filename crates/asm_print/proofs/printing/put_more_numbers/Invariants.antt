use Rattle.std.proofs.Common.{◌≡◌, ◌++◌, drop}
use Rattle.asm_print.specs.Line.{cut}
use Rattle.asm_print.specs.Text.{more_numbers}
use Rattle.asm_print.proofs.printing.put_more_numbers.Given as goal

abbrev pub invariant-loop-b : goal.invariant-loop-b
invariant-loop-b l = cut (l.line.bytes.items ++ more_numbers (drop l.b-index l.bytes)) ≡ cut (l.fn.line.bytes.items ++ more_numbers l.bytes)
