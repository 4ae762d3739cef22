use Rattle.std.proofs.Common.{arith}
use Rattle.rw_data.proofs.Clean.{each_clean}
use Rattle.rw_out.proofs.Rests.{section_kept}
use Rattle.rw_out.proofs.steps.behind_word.Goals as goal

pub overflow_mul-result : goal.overflow_mul-result
overflow_mul-result c =
    let low = (section_kept c.args.picture.now (each_clean c.args.picture.now c.elf-elf.ensures.clean) c.args.n c.requires.1.number).low in
    let most = c.requires.1.most in
    omega (arith, low, most)

pub overflow_add-result-else-k-table : goal.overflow_add-result-else-k-table
overflow_add-result-else-k-table c =
    let low = (section_kept c.args.picture.now (each_clean c.args.picture.now c.elf-elf.ensures.clean) c.args.n c.requires.1.number).low in
    let most = c.requires.1.most in
    omega (arith, low, most)
