use Rattle.std.proofs.Common.{[], map, subst}
use Rattle.rw_make.specs.Image.{given}
use Rattle.rw_make.specs.Layout.{Holds}
use Rattle.rw_make.proofs.Holding.{whole}
use Rattle.rw_make.proofs.file.make.Goals as goal

pub returns : goal.returns
returns c =
    let added = subst (λ sections. Holds (map given sections) c.add_given.new.self) c.deref.ensures.value (c.in_ok-add_given.ensures [] c.in_ok-layout.ensures) in
    let tabled = c.in_ok-add_tables.ensures (map given c.args.parts.now.sections.items) added in
    c.file.ensures _ (whole c.args.parts.now _ (c.in_ok-add_names.ensures _ tabled))
