use Rattle.std.proofs.Common.{◌∙◌}
use Rattle.std.proofs.lemmas.Result.{err_from_is_err_and}
use Rattle.rw_machine.proofs.Elements.{permitted_next, permitted_fails}
use Rattle.rw_machine.proofs.strings.elements_permitted.Goals as goal

pub returns-in_err-element_places : goal.returns-in_err-element_places
returns-in_err-element_places g c =
    let p = err_from_is_err_and c.from_residual.result c.from_residual.ensures.1 in
    rw (p.1, p.2)
    (permitted_fails (g.D.Domain.over (g.D.Domain.placed c.args.domain.now)) c.args.step c.args.count c.loop-i._i c.loop-i.source c.loop-i.target c.in_err-element_places.field-0.0
    c.element_places.result _ c.loop-i-test.true c.element_places.ensures c.in_err-element_places.was c.loop-i.invariant)

pub loop-i-preserved : goal.loop-i-preserved
loop-i-preserved g c =
    rw (c.advanced-source.ensures, c.advanced-target.ensures)
    (permitted_next (g.D.Domain.over (g.D.Domain.placed c.args.domain.now)) c.args.step c.args.count c.loop-i._i c.loop-i.source c.loop-i.target c.in_ok-element_places.field-0
    c.element_places.result c.loop-i-test.true c.element_places.ensures c.in_ok-element_places.was ∙ c.loop-i.invariant)
