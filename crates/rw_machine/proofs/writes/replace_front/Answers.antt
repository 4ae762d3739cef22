use Rattle.std.proofs.Common.{◌<◌, length, ap, ◌∙◌, set, sym, add-one, arith}
use Rattle.rw_machine.proofs.Front.{front-same}
use Rattle.rw_machine.proofs.RowLemmas.{front-more}
use Rattle.rw_machine.proofs.writes.replace_front.Goals as goal

pub loop-i-init : goal.loop-i-init
loop-i-init g c = sym (front-same c.args.row.now c.args.done c.args.b c.requires.done)

pub loop-i-preserved : goal.loop-i-preserved
loop-i-preserved g c =
    let h : c.loop-i.i < length c.args.row.now = omega arith in
    rw add-one (ap (λ row. set row c.loop-i.i c.args.b) c.loop-i.invariant ∙ front-more c.args.row.now c.loop-i.i c.args.b h)
