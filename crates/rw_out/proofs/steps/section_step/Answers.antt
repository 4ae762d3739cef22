use Rattle.std.proofs.Common.{◌≡◌, ◌+◌, ◌∷◌, ◌++◌, ◌<◌, not, length, sym, ap, ◌∙◌, arith}
use Rattle.asm_items.specs.declared.item.Item.TheVariants as items
use Rattle.asm_items.specs.declared.item.Label.TheVariants as label
use Rattle.rw_elf.specs.Sections.{has_bytes, has_flag, is_writable}
use Rattle.rw_elf.specs.Tables.{kept_sections}
use Rattle.rw_out.specs.Items.{contents, exponent, section_number}
use Rattle.rw_out.specs.Positions.{sections_on}
use Rattle.rw_out.proofs.Rests.{section_next}
use Rattle.rw_out.specs.Kept.{probes_in}
use Rattle.rw_out.proofs.steps.section_step.Goals as goal

pub returns-then-n-section_count : goal.returns-then-n-section_count
returns-then-n-section_count c =
    let file = c.args.picture.now in
    let probes = probes_in c.args.probes.now in
    let n = c.args.n in
    let s = section_number file n in
    let count = c.section_count.ensures.exact in
    let low : n < length (kept_sections file) = omega (arith, count) in
    let tail = items.Align (exponent s.align) ∷ items.Label (label.Section n) ∷ (contents file s ++ sections_on file probes (n + 1)) in
    let writable : is_writable s ≡ c.has_flag.result = sym (c.has_flag.ensures ∙ ap (has_flag 1) c.kept_section-section.ensures.section) in
    let stored : has_bytes s ≡ c.has_bytes.result = sym (c.has_bytes.ensures ∙ ap has_bytes c.kept_section-section.ensures.section) in (
      section_next file probes n low ∙ (ap (λ t. items.SectionHead n t (not (has_bytes s)) ∷ tail) writable ∙ ap (λ t. items.SectionHead n c.has_flag.result (not t) ∷ tail) stored),
      low,
      tt,
    )
