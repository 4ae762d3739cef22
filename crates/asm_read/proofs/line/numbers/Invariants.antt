use Rattle.std.proofs.Common.{◌≡◌, length}
use Rattle.asm_print.specs.Pieces.{pieces}
use Rattle.asm_print.specs.Reading.{numbers_in}
use Rattle.asm_read.proofs.Data.{behind}
use Rattle.asm_read.proofs.line.numbers.Given as goal

abbrev pub invariant-loop-taken : goal.invariant-loop-taken
invariant-loop-taken l = record {
  read : behind l.bytes.items (numbers_in (pieces 44 l.rest)) ≡ numbers_in (pieces 44 l.text);
  size : length l.bytes.items ≡ l._taken;
}
