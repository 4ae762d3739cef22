use Rattle.std.proofs.Common.{ap}
use Rattle.asm_items.specs.declared.item.Item.TheVariants.{Ins}
use Rattle.rw_out.proofs.numbers.numbered_line.Goals as goal

pub returns : goal.returns
returns c = λ names. ap (λ i. Ins i) (c.insn.ensures names)
