use Rattle.std.proofs.lemmas.Nat.Bits.{bit_at_or}
use Rattle.rw_live.proofs.graph.live_before.Goals as goal

pub returns : goal.returns
returns c = λ b lt.
    let after = bit_at_or c.set_at.result c.set_at-2.result b in
    let e = bit_at_or c.args.node.now.reads c.without.result b in
    let w = c.without.ensures b lt in
    let x = c.set_at.ensures b in
    let y = c.set_at-2.ensures b in
    rw (e, w, after, x, y)
