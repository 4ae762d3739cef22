use Rattle.std.proofs.Common.{arith}
use Rattle.asm_print.specs.Pieces.{pieces}
use Rattle.asm_print.specs.Reading.{numbers_in}
use Rattle.asm_read.proofs.Data.{data-full}
use Rattle.asm_read.proofs.line.numbers.Goals as goal

pub returns : goal.returns
returns c = data-full c.loop-taken.bytes.items (numbers_in (pieces 44 c.args.text.now)) c.loop-taken.rest.now c.loop-taken.invariant.read (omega arith)
