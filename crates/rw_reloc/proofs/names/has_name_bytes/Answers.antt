use Rattle.rw_base.specs.Name.{is_name_byte}
use Rattle.rw_base.proofs.PassingPlaces.{none_fails}
use Rattle.rw_reloc.proofs.names.has_name_bytes.Goals as goal

pub returns : goal.returns
returns c =
    none_fails is_name_byte c.args.foreign.now c.args.at c.args.end c.first_from.result c.is_none.result c.requires c.first_from.ensures.first c.is_none.ensures
