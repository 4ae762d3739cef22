use Rattle.asm_items.proofs.Laid.{example-laid}
use Rattle.asm_items.proofs.laws.example_is_laid.Goals as goal

pub returns-clause-layout : goal.returns-clause-layout
returns-clause-layout c = example-laid
