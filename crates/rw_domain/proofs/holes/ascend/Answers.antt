use Rattle.std.proofs.Common.{◌≡◌, ◌<◌, ◌-◌, true, get_or, sym, ◌∙◌, arith}
use Rattle.rw_domain.specs.Holes.{is_before}
use Rattle.rw_domain.proofs.HolesAscend.{null_hole, ascend-from, some-more, adjacent-more}
use Rattle.rw_domain.proofs.holes.ascend.Goals as goal
use Rattle.rw_domain.proofs.holes.ascend.Goals.{else-i-gt0-via-then-i-gt0+else-not-is_before, else-i-gt0-via-else-i-gt0}

pub loop-i-preserved : goal.loop-i-preserved
loop-i-preserved c =
    let list = c.args.list.now in
    let i = c.loop-i.i in
    let order : 0 < c.loop-i.i → is_before (get_or c.args.list.now c.loop-i.i null_hole).region (get_or c.args.list.now c.loop-i.i null_hole).start (get_or c.args.list.now (c.loop-i.i - 1) null_hole) ≡ true =
    λ some.
    elim c.else-i-gt0.branch [
      | else-i-gt0-via-then-i-gt0+else-not-is_before w ↦ sym w.is_before.ensures ∙ w.if-not-is_before.false
      | else-i-gt0-via-else-i-gt0 w ↦ absurd (omega (arith, some, w.if-i-gt0.false))
    ] in
    record {
      some = some-more list i null_hole c.loop-i.invariant.some c.loop-i-test.true c.if-hole.false;
      next = adjacent-more list i null_hole c.loop-i.invariant.next c.loop-i-test.true order;
    }

pub returns : goal.returns
returns c = λ _. ascend-from c.args.list.now (λ k d within. c.loop-i.invariant.some k d (omega arith)) (λ k d within. c.loop-i.invariant.next k d (omega arith))
