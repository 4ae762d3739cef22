use Rattle.std.proofs.Common.{◌≡◌, length, sym, ap, ◌∙◌, arith}
use Rattle.rw_elf.specs.Tables.{kept_sections}
use Rattle.rw_reloc.specs.Slots.{copies_of}
use Rattle.rw_refs.proofs.Few.{few-regions}
use Rattle.rw_sim.proofs.start.regions.count.Goals as goal

pub overflow_cast-result : goal.overflow_cast-result
overflow_cast-result c =
    let file = c.relocs.result.now in
    let few = few-regions file c.slots-slots.ensures.clean_file c.slots-slots.ensures.clean in
    let kept = ap length (c.kept.ensures.list ∙ ap kept_sections (c.elf.ensures.file ∙ sym c.relocs.ensures.file)) in
    let copies = ap length (c.copies.ensures.list ∙ ap copies_of (c.relocs-2.ensures.file ∙ sym c.relocs.ensures.file)) in
    omega (arith, few, kept, copies)

pub returns-clause-few : goal.returns-clause-few
returns-clause-few c =
    let file = c.relocs.result.now in
    let few = few-regions file c.slots-slots.ensures.clean_file c.slots-slots.ensures.clean in
    let kept = ap length (c.kept.ensures.list ∙ ap kept_sections (c.elf.ensures.file ∙ sym c.relocs.ensures.file)) in
    let copies = ap length (c.copies.ensures.list ∙ ap copies_of (c.relocs-2.ensures.file ∙ sym c.relocs.ensures.file)) in
    omega (arith, few, kept, copies)
