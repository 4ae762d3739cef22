use Rattle.std.proofs.Common.{◌≡◌, length, arith, ◌≤◌, min, sym, subst, take, replicate}
use Rattle.std.proofs.Math.Nat.{min-le_left}
use Rattle.rw_machine.proofs.Front.{starts-less, front-same, front-starts, parts-known, parts-forgotten, parts-longest}
use Rattle.rw_machine.proofs.writes.forget_row.Goals as goal

pub returns-then-count-marks-clause-row : goal.returns-then-count-marks-clause-row
returns-then-count-marks-clause-row g c =
    let m = c.args.marks in
    sym (front-same c.args.row.now c.args.count c.args.b (starts-less c.args.row.now c.args.count m.count c.args.b c.requires.marked.first c.if-count-marks.true))

pub returns-then-count-marks-2-clause-known : goal.returns-then-count-marks-2-clause-known
returns-then-count-marks-2-clause-known g c =
    subst (λ row. take c.args.count row ≡ replicate c.args.count c.args.b) (sym c.replace_front.ensures) (front-starts c.args.row.now c.args.count c.args.b c.requires.there)

pub replace_front-requires-2-clause-done : goal.replace_front-requires-2-clause-done
replace_front-requires-2-clause-done g c =
    let m = c.args.marks in
    rw c.min.ensures (starts-less c.args.row.now (min m.count m.from) m.count c.args.b c.requires.marked.first (min-le_left m.count m.from))

pub replace_front-requires-3-clause-done : goal.replace_front-requires-3-clause-done
replace_front-requires-3-clause-done g c =
    let le : c.args.marks.from ≤ length c.args.row.now = omega (arith, c.if-count-marks-2.false, c.requires.there) in
    rw (c.min-2.ensures, c.max-known.ensures)
    (parts-known c.args.row.now c.replace_front-2.new.row c.args.marks c.args.count c.args.b c.requires.marked le c.replace_front-2.ensures)

pub returns-clause-row : goal.returns-clause-row
returns-clause-row g c =
    parts-forgotten c.args.row.now c.replace_front-2.new.row c.replace_front-3.new.row c.args.marks c.args.count c.args.b (omega (arith, c.if-count-marks-2.false)) c.replace_front-2.ensures c.replace_front-3.ensures

pub returns-clause-known : goal.returns-clause-known
returns-clause-known g c =
    rw (c.max.ensures, c.max-known.ensures)
    (parts-longest c.args.row.now c.replace_front-2.new.row c.replace_front-3.new.row c.args.marks c.args.count c.args.b c.requires.marked (omega (arith, c.if-count-marks-2.false)) c.requires.there c.replace_front-2.ensures c.replace_front-3.ensures c.replace_front-2.auto.row)
