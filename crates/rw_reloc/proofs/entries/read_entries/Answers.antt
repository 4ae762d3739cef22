use Rattle.std.proofs.Common.{arith, get_or}
use Rattle.std.proofs.lemmas.List.Elements.{Contains-get_or}
use Rattle.rw_elf.specs.Section.{null_section}
use Rattle.rw_reloc.proofs.ByOffset.{numbers_clean, relr_inside, table_inside}
use Rattle.rw_reloc.proofs.entries.read_entries.Goals as goal

pub add_section-requires-clause-rela : goal.add_section-requires-clause-rela
add_section-requires-clause-rela c =
    table_inside c.args.elf.now (get_or c.sections-section-items.result.now c.loop-section.section-index null_section) c.file-file.ensures.clean
    (rw (← c.sections-section-items.ensures.list) (Contains-get_or c.sections-section-items.result.now c.loop-section.section-index null_section (omega arith)))

pub add_section-requires-clause-relr : goal.add_section-requires-clause-relr
add_section-requires-clause-relr c =
    relr_inside c.args.elf.now (get_or c.sections-section-items.result.now c.loop-section.section-index null_section) c.file-file.ensures.clean
    (rw (← c.sections-section-items.ensures.list) (Contains-get_or c.sections-section-items.result.now c.loop-section.section-index null_section (omega arith)))

pub add_section-requires-clause-numbers : goal.add_section-requires-clause-numbers
add_section-requires-clause-numbers c =
    numbers_clean c.args.elf.now (get_or c.sections-section-items.result.now c.loop-section.section-index null_section) c.requires
    (rw (← c.sections-section-items.ensures.list) (Contains-get_or c.sections-section-items.result.now c.loop-section.section-index null_section (omega arith)))
