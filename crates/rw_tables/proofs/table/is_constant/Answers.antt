use Rattle.std.proofs.Common.{sym, ◌∙◌}
use Rattle.rw_elf.specs.Section.{null_section}
use Rattle.rw_tables.proofs.ConstantData.{within-around, constant-around, constant-nowhere}
use Rattle.rw_tables.proofs.table.is_constant.Goals as goal

pub bounds-kept-number : goal.bounds-kept-number
bounds-kept-number c =
    rw c.kept.ensures.list (within-around c.args.elf.now c.args.table.now.base c.in-Some.number null_section (sym c.kept_around.ensures ∙ c.in-Some.is))

pub returns-in-Some : goal.returns-in-Some
returns-in-Some c =
    c.holds.ensures ∙ rw c.kept.ensures.list (constant-around c.args.elf.now c.args.table.now c.in-Some.number null_section c.file-file.ensures.clean (sym c.kept_around.ensures ∙ c.in-Some.is))

pub returns-in-None : goal.returns-in-None
returns-in-None c = constant-nowhere c.args.elf.now c.args.table.now (sym c.kept_around.ensures ∙ c.in-None.is)
