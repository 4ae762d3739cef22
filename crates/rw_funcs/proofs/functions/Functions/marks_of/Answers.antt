use Rattle.std.proofs.Common.{◌≡◌, ◌-◌, drop, length, take, ap, ◌∙◌, arith}
use Rattle.rw_funcs.specs.Points.{Point}
use Rattle.rw_funcs.proofs.FunctionsOf.{never-outside}
use Rattle.rw_funcs.proofs.NoteFacts.{function-inside, function-notes}
use Rattle.rw_funcs.proofs.functions.Functions.marks_of.Goals as goal

pub overflow_sub-end : goal.overflow_sub-end
overflow_sub-end c =
    let inside = function-inside c.args.self.now c.in-Some.ensures.clean_file c.in-Some.ensures.clean c.args.function.now c.in-Some.part.now c.requires c.in-Some.ensures.some in
    let low = inside.0 in
    let ascends = inside.1 in
    omega (arith, low, ascends)

pub slice_bounds-result-count : goal.slice_bounds-result-count
slice_bounds-result-count c =
    let inside = function-inside c.args.self.now c.in-Some.ensures.clean_file c.in-Some.ensures.clean c.args.function.now c.in-Some.part.now c.requires c.in-Some.ensures.some in
    let ascends = inside.1 in
    omega (arith, ascends)

pub slice_bounds-result-start : goal.slice_bounds-result-start
slice_bounds-result-start c =
    let inside = function-inside c.args.self.now c.in-Some.ensures.clean_file c.in-Some.ensures.clean c.args.function.now c.in-Some.part.now c.requires c.in-Some.ensures.some in
    let ascends = inside.1 in
    omega (arith, ascends)

pub slice_bounds-result-end : goal.slice_bounds-result-end
slice_bounds-result-end c =
    let inside = function-inside c.args.self.now c.in-Some.ensures.clean_file c.in-Some.ensures.clean c.args.function.now c.in-Some.part.now c.requires c.in-Some.ensures.some in
    let low = inside.0 in
    let ascends = inside.1 in
    let high = inside.2 in
    let size = c.in-Some.ensures.some.marked.marks.size in
    let whole = ap length c.deref.ensures.value in
    omega (arith, low, ascends, high, size, whole)

pub returns-in-Some-clause-marks : goal.returns-in-Some-clause-marks
returns-in-Some-clause-marks c =
    let inside = function-inside c.args.self.now c.in-Some.ensures.clean_file c.in-Some.ensures.clean c.args.function.now c.in-Some.part.now c.requires c.in-Some.ensures.some in
    let low = inside.0 in
    let ascends = inside.1 in
    let count : c.args.function.now.span.end - c.in-Some.part.now.section.addr - (c.args.function.now.span.start - c.in-Some.part.now.section.addr) ≡ c.args.function.now.span.end - c.args.function.now.span.start = omega (arith, low, ascends) in
    ap (λ n. take n (drop (c.args.function.now.span.start - c.in-Some.part.now.section.addr) c.deref.result.now)) count
    ∙ ap (λ l. take (c.args.function.now.span.end - c.args.function.now.span.start) (drop (c.args.function.now.span.start - c.in-Some.part.now.section.addr) l)) c.deref.ensures.value
    ∙ function-notes (λ (p : Point). p.len) 0 c.args.self.now c.in-Some.ensures.clean_file c.in-Some.ensures.clean c.args.function.now c.in-Some.part.now c.in-Some.part.now.marks.items c.requires c.in-Some.ensures.some c.in-Some.ensures.some.marked.marks

pub returns-in-None-clause-marks : goal.returns-in-None-clause-marks
returns-in-None-clause-marks c = absurd (never-outside c.args.self.now c.in-None.ensures.clean c.args.function.now c.requires c.in-None.ensures.outside)
