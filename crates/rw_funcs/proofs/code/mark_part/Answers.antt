use Rattle.std.proofs.Common.{◌≡◌, ◌+◌, ◌-◌, length, drop, ap, ◌∙◌, arith, length-take, length-drop}
use Rattle.rw_funcs.proofs.Parts.{on_ok_both, part-marked}
use Rattle.rw_funcs.proofs.code.mark_part.Goals as goal

pub returns-clause-marked : goal.returns-clause-marked
returns-clause-marked g c =
    let at = c.args.start - c.args.part.now.section.addr in
    let n = c.args.start - c.args.part.now.section.addr + length c.args.code.now - (c.args.start - c.args.part.now.section.addr) in
    let xs = c.deref_mut.result.now in
    let fs = c.deref_mut-2.result.now in
    let same = c.mark_points.auto.marks in
    let front = length-take n (drop at xs) in
    let rest = length-drop at xs in
    let whole = ap length c.deref_mut.ensures.value ∙ c.requires.0.marks.size in
    let same_facts = c.mark_points.auto.facts in
    let front_facts = length-take n (drop at fs) in
    let rest_facts = length-drop at fs in
    let whole_facts = ap length c.deref_mut-2.ensures.value ∙ c.requires.0.facts.size in
    let low = c.requires.1.1.0 in
    let high = c.requires.1.1.1.0 in
    let count : c.args.start - c.args.part.now.section.addr + length c.args.code.now - (c.args.start - c.args.part.now.section.addr) ≡ length c.args.code.now = omega arith in
    on_ok_both c.mark_points.result
    (λ new more.
    part-marked g.before c.args.part.now c.args.code.now c.args.start c.deref_mut.result.now c.mark_points.new.marks c.deref_mut-2.result.now c.mark_points.new.facts
    (c.args.start - c.args.part.now.section.addr + length c.args.code.now - (c.args.start - c.args.part.now.section.addr)) count c.deref_mut.ensures.value c.deref_mut-2.ensures.value
    (omega (arith, same, front, rest, whole, low, high)) (omega (arith, same_facts, front_facts, rest_facts, whole_facts, low, high)) c.requires.0 c.requires.1.0 c.requires.1.1.0 c.requires.1.1.1.0 new more)
    c.mark_points.ensures.marked c.mark_points.ensures.noted
