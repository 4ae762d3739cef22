use Rattle.std.proofs.Common.{length, ap, ◌∙◌, arith}
use Rattle.rw_elf.specs.Tables.{kept_sections}
use Rattle.rw_elf.proofs.Limits.{few_kept}
use Rattle.rw_data.proofs.Clean.{each_clean}
use Rattle.rw_out.proofs.steps.section_count.Goals as goal

pub returns-clause-few : goal.returns-clause-few
returns-clause-few c =
    let file = c.args.picture.now in
    let few = few_kept file (each_clean file c.elf.ensures.clean).elf in
    let size = ap length (c.kept.ensures.list ∙ ap kept_sections c.elf-2.ensures.file) in
    omega (arith, few, size)
