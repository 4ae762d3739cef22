use Rattle.std.specs.Prelude.{map}
use Rattle.asm_items.specs.Named.{named}
use Rattle.asm_print.proofs.Unique.{texts-apart}
use Rattle.asm_read.proofs.Progress.{no-bad}
use Rattle.asm_read.proofs.laws.texts_are_read.Goals as goal

pub returns-clause-whole : goal.returns-clause-whole
returns-clause-whole c = no-bad

pub returns-clause-again : goal.returns-clause-again
returns-clause-again c = λ items are names found read. texts-apart (map (named names) found) items read.formed are read.text
