use Rattle.std.proofs.Common.{◌∙◌, sym, Some, None}
use Rattle.std.proofs.lemmas.Option.{get_or_from_slice_get}
use Rattle.std.proofs.lemmas.List.{get_or-take}
use Rattle.rw_base.specs.Width.{byte_count}
use Rattle.rw_domain.specs.Eight.{eight_of}
use Rattle.rw_machine.proofs.After.{word-byte-after, index-below}
use Rattle.rw_machine.proofs.answers.byte_stored.Goals as goal

pub get-requires : goal.get-requires
get-requires g c =
    (index-below c.args.store.now.place c.args.store.now.width c.args.region c.args.at c.in-Some.j (sym c.in-Some.is ∙ c.stored_index.ensures)).1

pub returns-in-Some : goal.returns-in-Some
returns-in-Some g c rows d storable before =
    word-byte-after rows c.args.store.now.place c.args.store.now.width c.args.store.now.bytes c.args.region c.args.at d (Some c.in-Some.j) storable (sym c.in-Some.is ∙ c.stored_index.ensures)
    ∙ get_or-take (byte_count c.args.store.now.width) (eight_of c.args.store.now.bytes) c.in-Some.j d
    (index-below c.args.store.now.place c.args.store.now.width c.args.region c.args.at c.in-Some.j (sym c.in-Some.is ∙ c.stored_index.ensures)).0
    ∙ get_or_from_slice_get (eight_of c.args.store.now.bytes) c.in-Some.j c.get.result d c.get.ensures

pub returns-in-None : goal.returns-in-None
returns-in-None g c rows d storable before =
    word-byte-after rows c.args.store.now.place c.args.store.now.width c.args.store.now.bytes c.args.region c.args.at d None storable (sym c.in-None.is ∙ c.stored_index.ensures)
    ∙ before
