use Rattle.std.proofs.Common.{arith, length, ap, sym, ◌∙◌}
use Rattle.rw_elf.proofs.Limits.{clean_size}
use Rattle.rw_data.proofs.Clean.{each_clean, is-kept}
use Rattle.rw_data.proofs.picture.Picture.byte_in.Goals as goal

pub overflow_add-result : goal.overflow_add-result
overflow_add-result c =
    let clean = each_clean c.args.self.now c.elf.ensures.clean in
    let kept = is-kept c.args.self.now c.args.section.now clean.elf c.requires.kept in
    let stored = kept.stored (sym c.has_bytes.ensures ∙ c.if-has_bytes.true) in
    let size = clean_size c.args.self.now clean.elf in
    omega (arith, stored, size)

pub bounds-file-section : goal.bounds-file-section
bounds-file-section c =
    let clean = each_clean c.args.self.now c.elf.ensures.clean in
    let kept = is-kept c.args.self.now c.args.section.now clean.elf c.requires.kept in
    let stored = kept.stored (sym c.has_bytes.ensures ∙ c.if-has_bytes.true) in
    let size = ap length (c.file.ensures.bytes ∙ c.elf.ensures.file) in
    omega (arith, stored, size)
