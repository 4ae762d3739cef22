use Rattle.std.proofs.Common.{sym, ◌∙◌}
use Rattle.rw_machine.specs.Views.{rows_of}
use Rattle.rw_machine.proofs.Places.{element-source, element-target}
use Rattle.rw_machine.proofs.stores.write_element.Goals as goal

pub element_bytes-row-requires : goal.element_bytes-row-requires
element_bytes-row-requires g c =
    element-source (g.D.Domain.over (g.D.Domain.placed c.args.domain.now)) (g.D.Domain.placed c.args.domain.now).regions (rows_of c.args.memory.now)
    (g.met.D.Domain.places_inside c.args.domain.now) (g.met.D.Domain.regions_placed c.args.domain.now) c.requires
    c.args.step c.args.source c.args.target c.in-Ok.from c.in-Ok.to (sym c.in-Ok.is ∙ c.element_places.ensures)

pub write_eight-requires : goal.write_eight-requires
write_eight-requires g c =
    element-target (g.D.Domain.over (g.D.Domain.placed c.args.domain.now)) (g.D.Domain.placed c.args.domain.now).regions (rows_of c.args.memory.now)
    (g.met.D.Domain.places_inside c.args.domain.now) (g.met.D.Domain.regions_placed c.args.domain.now) c.requires
    c.args.step c.args.source c.args.target c.in-Ok.from c.in-Ok.to (sym c.in-Ok.is ∙ c.element_places.ensures)
