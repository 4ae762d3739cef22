use Rattle.std.proofs.Common.{◌+◌, ◌∷◌, ◌≤◌, sym, ap, ◌∙◌, arith}
use Rattle.asm_items.specs.declared.item.Item.TheVariants as items
use Rattle.asm_items.specs.declared.item.Label.TheVariants as label
use Rattle.x86_insn.specs.declared.instruction.Insn.TheVariants as insn
use Rattle.x86_insn.specs.declared.kinds.Plain.TheVariants.{Int3}
use Rattle.rw_base.specs.declared.span.Span.{Span}
use Rattle.rw_funcs.specs.Functions.{end_of}
use Rattle.rw_data.proofs.Clean.{each_clean}
use Rattle.rw_out.specs.Items.{function_number}
use Rattle.rw_out.specs.Positions.{functions_on}
use Rattle.rw_out.proofs.Rests.{point_last}
use Rattle.rw_out.specs.Kept.{probes_in}
use Rattle.rw_out.proofs.steps.label_step.Goals as goal

pub behind_label-requires-clause-inside : goal.behind_label-requires-clause-inside
behind_label-requires-clause-inside c = let end = ap (λ (s : Span). s.end) c.span_of-span.ensures in omega (arith, end)

pub returns-then-at-span : goal.returns-then-at-span
returns-then-at-span c = (sym c.behind_label.ensures.rest, c.behind_label.ensures.at, tt)

pub returns-else-at-span : goal.returns-else-at-span
returns-else-at-span c =
    let file = c.args.picture.now in
    let probes = probes_in c.args.probes.now in
    let k = c.args.k in
    let clean = each_clean file c.elf-elf.ensures.clean in
    let end = ap (λ (s : Span). s.end) c.span_of-span.ensures in
    let behind : end_of (function_number file k) ≤ c.args.at = omega (arith, end) in (
      point_last file probes k c.args.at clean c.requires.number c.requires behind
          ∙ ap (λ start. items.Label (label.Past start) ∷ items.Ins (insn.Plain Int3) ∷ functions_on file probes (k + 1)) (sym (ap (λ (s : Span). s.start) c.span_of-span.ensures)),
      c.requires.number,
      tt,
    )
