use Rattle.std.proofs.Common.{sym, ◌∙◌, arith}
use Rattle.rw_layout.proofs.InsnLines.{insn-here, insn-other, insn-past}
use Rattle.rw_layout.proofs.insns.insn_at.Goals as goal

pub returns-then-next-lines : goal.returns-then-next-lines
returns-then-next-lines c =
    let count = c.count_below-next.ensures in
    sym (insn-past c.args.lines.now c.args.addresses.now c.args.address c.requires c.count_below-next.result count.below count.above (omega arith))

pub returns-then-address_of-address : goal.returns-then-address_of-address
returns-then-address_of-address c =
    let count = c.count_below-next.ensures in
    sym (insn-here c.args.lines.now c.args.addresses.now c.args.address c.requires c.count_below-next.result count.below count.above c.if-next-lines.false
    (sym c.address_of.ensures ∙ c.if-address_of-address.true))

pub returns-else-address_of-address : goal.returns-else-address_of-address
returns-else-address_of-address c =
    let count = c.count_below-next.ensures in
    sym (insn-other c.args.lines.now c.args.addresses.now c.args.address c.requires c.count_below-next.result count.below count.above c.if-next-lines.false
    (λ same. c.if-address_of-address.false (c.address_of.ensures ∙ same)))
