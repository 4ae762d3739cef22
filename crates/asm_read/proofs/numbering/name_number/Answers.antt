use Rattle.asm_read.proofs.Numbers.{added-number}
use Rattle.asm_read.proofs.numbering.name_number.Goals as goal

pub returns-clause-number : goal.returns-clause-number
returns-clause-number c = added-number c.args.names.now c.add.new.self c.args.name.now c.add.result c.add.ensures.number c.add.ensures.names
