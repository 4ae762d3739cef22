use Rattle.rw_domain.specs.declared.place.Access.TheVariants.{Read}
use Rattle.rw_machine.specs.Views.{rows_of}
use Rattle.rw_machine.proofs.RowLemmas.{placed-in-rows}
use Rattle.rw_machine.proofs.replies.return_from.Goals as goal

pub word_after-to-requires-clause-storable : goal.word_after-to-requires-clause-storable
word_after-to-requires-clause-storable g c = c.stores_of-stores.ensures.storable (rows_of c.args.state.now.memory) c.requires.placed

pub word_after-to-requires-clause-there : goal.word_after-to-requires-clause-there
word_after-to-requires-clause-there g c =
    placed-in-rows (g.D.Domain.over (g.D.Domain.placed c.args.state.now.domain)) (g.D.Domain.placed c.args.state.now.domain).regions (rows_of c.args.state.now.memory) c.args.run.now.registers.rsp 8 Read c.in-Ok.at
    (g.met.D.Domain.places_inside c.args.state.now.domain) (g.met.D.Domain.regions_placed c.args.state.now.domain) c.args.state.now.laid_out c.in-Ok.ensures
