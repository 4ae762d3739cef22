use Rattle.std.proofs.Common.{length, List}
use Rattle.asm_print.specs.Reading.{TextItem}
use Rattle.asm_read.proofs.Progress.{Progress}
use Rattle.asm_read.proofs.text.read_text.Given as goal

abbrev pub invariant-loop-rest : goal.invariant-loop-rest
invariant-loop-rest l = (shown : List TextItem) × Progress l.bytes l.names l.items.items l.rest shown

abbrev pub decreases-loop-rest : goal.decreases-loop-rest
decreases-loop-rest l = length l.rest
