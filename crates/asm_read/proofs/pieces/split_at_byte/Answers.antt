use Rattle.std.proofs.Common.{◌+◌, sym, ◌∙◌, ap, take, Some}
use Rattle.asm_read.proofs.Separated.{onto-none, split-hit, split-miss, split-end, rest_of}
use Rattle.asm_read.proofs.pieces.split_at_byte.Goals as goal

pub loop-i-init : goal.loop-i-init
loop-i-init c = onto-none _

pub returns-then-b-byte : goal.returns-then-b-byte
returns-then-b-byte c = sym c.loop-i.invariant ∙ split-hit _ _ _ c.loop-i-test.true c.if-b-byte.true ∙ ap (λ t. Some (take c.loop-i.i c.args.text.now, t)) (sym (rest_of c.args.text.now (c.loop-i.i + 1)))

pub loop-i-preserved : goal.loop-i-preserved
loop-i-preserved c = sym (split-miss _ _ _ c.loop-i-test.true c.if-b-byte.false) ∙ c.loop-i.invariant

pub returns : goal.returns
returns c = sym c.loop-i.invariant ∙ split-end c.args.byte c.args.text.now _ c.loop-i.i c.loop-i-test.false
