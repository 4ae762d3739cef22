use Rattle.rw_domain.specs.declared.place.Access.TheVariants.{Read}
use Rattle.rw_machine.specs.Views.{rows_of}
use Rattle.rw_machine.proofs.RowLemmas.{placed-in-rows}
use Rattle.rw_machine.proofs.asks.query_of_length.Goals as goal

pub query_at-requires : goal.query_at-requires
query_at-requires g c =
    placed-in-rows (g.D.Domain.over (g.D.Domain.placed c.args.domain.now)) (g.D.Domain.placed c.args.domain.now).regions (rows_of c.args.memory.now) c.args.registers.now.rsi c.args.len Read c.in_ok-at.at
    (g.met.D.Domain.places_inside c.args.domain.now) (g.met.D.Domain.regions_placed c.args.domain.now) c.requires c.in_ok-at.ensures
