use Rattle.rw_base.specs.Width.{byte_count}
use Rattle.rw_domain.specs.declared.place.Access.TheVariants.{Read}
use Rattle.rw_machine.specs.Views.{rows_of}
use Rattle.rw_machine.proofs.Ranges.{permitted_range}
use Rattle.rw_machine.proofs.context.Context.load.Goals as goal

pub word_at-v-requires : goal.word_at-v-requires
word_at-v-requires g c =
    let domain = c.args.self.now.domain.now in
    permitted_range (g.D.Domain.over (g.D.Domain.placed domain)) (g.met.D.Domain.places_inside domain) (rows_of c.args.self.now.memory.now) c.requires c.args.at
    (byte_count c.args.w) c.bytes.result Read c.in-Ok.place c.place.result c.bytes.ensures c.place.ensures c.in-Ok.is
