use Rattle.std.proofs.Common.{Contains, ◌+◌, sym, ap, ◌∙◌, arith}
use Rattle.std.proofs.lemmas.Option.{slice_get_within, get_or_from_slice_get}
use Rattle.rw_elf.specs.Tables.{kept_sections}
use Rattle.rw_reloc.specs.Slots.{copy_around}
use Rattle.rw_data.proofs.Clean.{each_clean, is-kept}
use Rattle.rw_sim.proofs.FileRows.{plain-cell}
use Rattle.rw_sim.proofs.start.sections.start_cell.Goals as goal

pub overflow_add-section : goal.overflow_add-section
overflow_add-section c =
    let file = c.args.picture.now in
    let s = c.args.section.now in
    let here : Contains (kept_sections file) s = (c.args.region, slice_get_within (kept_sections file) c.args.region s c.requires.section, get_or_from_slice_get (kept_sections file) c.args.region s s c.requires.section) in
    let low = (is-kept file s (each_clean file c.relocs.ensures.clean).elf here).low in
    let within = c.requires.offset in
    omega (arith, low, within)

pub returns-in-None : goal.returns-in-None
returns-in-None c =
    let file = c.args.picture.now in
    let s = c.args.section.now in
    c.first_cell.ensures
    ∙ plain-cell file c.args.region c.args.offset s c.requires.section (ap (λ f. copy_around f (s.addr + c.args.offset)) (sym c.relocs.ensures.file) ∙ sym c.copy_around.ensures ∙ c.in-None.is)
