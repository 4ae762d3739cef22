use Rattle.std.proofs.Common.{arith, get_or}
use Rattle.std.proofs.lemmas.List.Elements.{Contains-get_or}
use Rattle.std.proofs.lemmas.Grind.{common_steps}
use Rattle.std.proofs.lemmas.Result.{err_from_is_err_and}
use Rattle.rw_base.proofs.First.{each-none, each-some, each-more}
use Rattle.rw_elf.specs.Section.{null_section}
use Rattle.rw_reloc.specs.Relocations.{table_finding, table_faults}
use Rattle.rw_reloc.proofs.ByOffset.{relr_inside}
use Rattle.rw_reloc.proofs.Clean.{index_within}
use Rattle.rw_reloc.proofs.check.check_tables.Goals as goal
use Rattle.rw_reloc.proofs.check.check_tables.Goals.{then-is_allocated+in_ok-check_table, else-is_allocated}

pub check_table-requires-clause-index : goal.check_table-requires-clause-index
check_table-requires-clause-index c =
    rw c.sections-section-items.ensures.list (index_within c.args.elf.now c.loop-section.section-index null_section (rw (← c.sections-section-items.ensures.list) (omega arith)))

pub check_table-requires-clause-inside : goal.check_table-requires-clause-inside
check_table-requires-clause-inside c =
    relr_inside c.args.elf.now (get_or c.sections-section-items.result.now c.loop-section.section-index null_section) c.file-file.ensures.clean
    (rw (← c.sections-section-items.ensures.list) (Contains-get_or c.sections-section-items.result.now c.loop-section.section-index null_section (omega arith)))

pub returns-in_err-check_table : goal.returns-in_err-check_table
unfolding table_faults
returns-in_err-check_table c =
    let p = err_from_is_err_and c.from_residual.result c.from_residual.ensures.1 in
    rw (p.1, p.2, ← c.sections-section-items.ensures.list)
    (each-some c.sections-section-items.result.now (table_finding c.args.elf.now) c.loop-section.section-index null_section _ (omega arith) c.loop-section.invariant (grind (arith, common_steps)))

pub loop-section-preserved : goal.loop-section-preserved
loop-section-preserved c =
    each-more c.sections-section-items.result.now (table_finding c.args.elf.now) c.loop-section.section-index null_section (omega arith) c.loop-section.invariant
    (elim c.if-is_allocated.branch [ then-is_allocated+in_ok-check_table w ↦ grind (arith, common_steps) | else-is_allocated w ↦ grind (arith, common_steps) ])

pub returns : goal.returns
unfolding table_faults
returns c =
    rw (← c.sections-section-items.ensures.list)
    (each-none c.sections-section-items.result.now (table_finding c.args.elf.now) c.loop-section.section-index (omega arith) c.loop-section.invariant)
