use Rattle.std.proofs.Common.{◌∷◌, ◌<◌, ◌≤◌, length, sym, ap, subst, ◌∙◌, arith}
use Rattle.asm_items.specs.declared.item.Item.TheVariants as items
use Rattle.rw_elf.specs.declared.section.NameAt.{NameAt}
use Rattle.rw_elf.specs.Name.{name_bytes}
use Rattle.rw_funcs.specs.Functions.{kept_functions}
use Rattle.rw_data.proofs.Clean.{each_clean}
use Rattle.rw_out.specs.Positions.{Goes, entry_on}
use Rattle.rw_out.proofs.Rests.{function_next, functions_end}
use Rattle.rw_out.specs.Kept.{probes_in}
use Rattle.rw_out.proofs.steps.function_step.Goals as goal

pub returns-then-k-function_count : goal.returns-then-k-function_count
returns-then-k-function_count c =
    let file = c.args.picture.now in
    let probes = probes_in c.args.probes.now in
    let count = c.function_count.ensures in
    let low : c.args.k < length (kept_functions file) = omega (arith, count) in (
      function_next file probes (each_clean file c.elf-elf.ensures.clean) c.args.k low ∙ ap (λ (n : NameAt). items.Comment (name_bytes file n) ∷ items.TextHead ∷ items.Align 4 ∷ entry_on file probes c.args.k) (sym c.name_of.ensures),
      low,
      tt,
    )

pub returns-else-k-function_count : goal.returns-else-k-function_count
returns-else-k-function_count c =
    let file = c.args.picture.now in
    let probes = probes_in c.args.probes.now in
    let count = c.function_count.ensures in
    let past : length (kept_functions file) ≤ c.args.k = omega (arith, count) in
    subst (λ xs. Goes file probes xs c.section_step.result) (sym (functions_end file probes c.args.k past)) c.section_step.ensures
