use Rattle.std.proofs.Common.{◌<◌, ◌+◌, length, ap, ◌∙◌, set, arith}
use Rattle.rw_domain.specs.Eight.{eight_of}
use Rattle.rw_machine.proofs.RowLemmas.{word-more}
use Rattle.rw_machine.proofs.writes.overwrite_word.Goals as goal

pub loop-i-preserved : goal.loop-i-preserved
loop-i-preserved g c =
    let h : c.args.offset + c.loop-i.i < length c.args.row.now = omega arith in
    ap (λ row. set row (c.args.offset + c.loop-i.i) c.get.result) c.loop-i.invariant
    ∙ word-more c.args.row.now (eight_of c.args.bytes.now) c.args.offset c.loop-i.i c.get.result h c.get.ensures
