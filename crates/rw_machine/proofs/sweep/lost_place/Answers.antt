use Rattle.rw_domain.specs.declared.place.Access.TheVariants.{Read}
use Rattle.rw_machine.proofs.RowLemmas.{placed-in-rows}
use Rattle.rw_machine.proofs.sweep.lost_place.Goals as goal

pub returns-in-Ok-clause-reached : goal.returns-in-Ok-clause-reached
returns-in-Ok-clause-reached g c rows laid =
    placed-in-rows (g.D.Domain.over (g.D.Domain.placed c.args.domain.now)) (g.D.Domain.placed c.args.domain.now).regions rows c.sum-end.result 1 Read c.in-Ok.place
    (g.met.D.Domain.places_inside c.args.domain.now) (g.met.D.Domain.regions_placed c.args.domain.now) laid c.in-Ok.ensures
