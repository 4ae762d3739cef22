use Rattle.std.proofs.Common.{◌≡◌, ◌+◌, ◌-◌, ◌<◌, ℕ, true, false, not, ◌==◌, sym, subst, ap, ◌∙◌, arith}
use Rattle.std.proofs.lemmas.Bool.Decides.{nat_tests}
use Rattle.rw_funcs.specs.Points.{is_point}
use Rattle.rw_live.specs.Nodes.{AreOffsets, points_in}
use Rattle.rw_live.proofs.MarkedPoints.{marked-point, marks-size}
use Rattle.rw_live.proofs.Offsets.{one-offset, no-offset}
use Rattle.rw_live.proofs.nodes.offsets.Goals as goal
use Rattle.rw_live.proofs.nodes.offsets.Goals.{then-marks-offset-ne0+in_ok-push, else-marks-offset-ne0}

above-zero : (n : ℕ) → (n ≡ 0 → ⊥) → not (n == 0) ≡ true
above-zero n h = grind (arith, nat_tests, h)

zero-here : (n : ℕ) → n ≡ 0 → not (n == 0) ≡ false
zero-here n e = ap (λ m. not (m == 0)) e

pub overflow_cast-offset : goal.overflow_cast-offset
overflow_cast-offset c =
    let size = marks-size c.args.funcs.now c.args.function.now.span c.marks_of-marks.result.now c.marks_of-marks.ensures.marks in
    let few = c.requires.few in
    let within = c.loop-offset-test.true in
    omega (arith, size, few, within)

pub loop-offset-preserved : goal.loop-offset-preserved
loop-offset-preserved c =
    let points = points_in c.args.funcs.now c.args.function.now.span in
    let start = c.args.function.now.span.start in
    let k = c.loop-offset.offset in
    let is = marked-point c.args.funcs.now c.args.function.now.span c.marks_of-marks.result.now c.loop-offset.offset 0 c.marks_of-marks.ensures.lengths c.marks_of-marks.ensures.marks c.loop-offset-test.true in
    elim c.if-marks-offset-ne0.branch [
      | then-marks-offset-ne0+in_ok-push w ↦
          subst (λ v. AreOffsets points start (k + 1) v.items) (sym w.list-is)
          (subst (AreOffsets points start (k + 1)) (sym w.in_ok-push.ensures.items)
          (one-offset points start k c.loop-offset.list.items c.loop-offset.invariant (is ∙ above-zero _ w.if-marks-offset-ne0.true)))
      | else-marks-offset-ne0 w ↦
          subst (λ v. AreOffsets points start (k + 1) v.items) (sym w.list-is)
          (no-offset points start k c.loop-offset.list.items c.loop-offset.invariant (is ∙ zero-here _ w.if-marks-offset-ne0.false))
    ]

pub returns : goal.returns
returns c =
    let size = marks-size c.args.funcs.now c.args.function.now.span c.marks_of-marks.result.now c.marks_of-marks.ensures.marks in
    let end = c.loop-offset.auto.offset-end in
    let past = c.loop-offset-test.false in
    let all : c.loop-offset.offset ≡ c.args.function.now.span.end - c.args.function.now.span.start = omega (arith, size, end, past) in
    subst (AreOffsets (points_in c.args.funcs.now c.args.function.now.span) c.args.function.now.span.start (c.args.function.now.span.end - c.args.function.now.span.start)) (sym c.shrink_to_fit.ensures.items)
    (subst (λ n. AreOffsets (points_in c.args.funcs.now c.args.function.now.span) c.args.function.now.span.start n c.loop-offset.list.items) all c.loop-offset.invariant)
