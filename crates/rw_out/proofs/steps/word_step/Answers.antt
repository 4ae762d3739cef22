use Rattle.std.proofs.Common.{arith}
use Rattle.rw_data.proofs.Clean.{each_clean}
use Rattle.rw_out.proofs.Rests.{section_kept}
use Rattle.rw_out.proofs.steps.word_step.Goals as goal

pub overflow_mul-k : goal.overflow_mul-k
overflow_mul-k c =
    let low = (section_kept c.args.picture.now (each_clean c.args.picture.now c.elf-elf.ensures.clean) c.args.n c.requires.1.number).low in
    let most = c.requires.1.most in
    let word = c.requires.2 in
    omega (arith, low, most, word)

pub overflow_add-table : goal.overflow_add-table
overflow_add-table c =
    let low = (section_kept c.args.picture.now (each_clean c.args.picture.now c.elf-elf.ensures.clean) c.args.n c.requires.1.number).low in
    let most = c.requires.1.most in
    let word = c.requires.2 in
    omega (arith, low, most, word)
