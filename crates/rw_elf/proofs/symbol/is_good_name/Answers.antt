use Rattle.std.proofs.Common.{◌+◌, ◌∙◌, sym, ap, arith}
use Rattle.std.specs.Prelude.{slice_range}
use Rattle.std.specs.List.{list_all}
use Rattle.rw_base.specs.Name.{is_graphic}
use Rattle.rw_base.proofs.PassingPlaces.{none_fails}
use Rattle.rw_elf.proofs.NameLength.{good_where_graphic, none_is_bad, long_is_bad}
use Rattle.rw_elf.proofs.symbol.is_good_name.Goals as goal

pub returns-in-1-to-4096 : goal.returns-in-1-to-4096
returns-in-1-to-4096 c =
    none_fails is_graphic c.args.breaks.now c.args.name.at (c.args.name.at + c.from.result) c.first_from.result c.is_none.result (omega (arith, c.from.ensures, c.requires.name)) c.first_from.ensures.first c.is_none.ensures
    ∙ ap (λ n. list_all is_graphic (slice_range c.args.breaks.now c.args.name.at (c.args.name.at + n))) c.from.ensures
    ∙ sym (good_where_graphic c.args.breaks.now c.args.name c.requires.name (omega arith) (omega arith))

pub returns-in_default : goal.returns-in_default
returns-in_default c = sym (none_is_bad c.args.breaks.now c.args.name c.requires.name (omega arith))

pub returns-in_default-2 : goal.returns-in_default-2
returns-in_default-2 c = sym (long_is_bad c.args.breaks.now c.args.name c.requires.name (omega arith))
