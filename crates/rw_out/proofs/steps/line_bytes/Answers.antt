use Rattle.std.proofs.Common.{length, ap, ◌∙◌, arith}
use Rattle.rw_elf.specs.declared.section.Section.{Section}
use Rattle.rw_elf.proofs.Limits.{clean_size}
use Rattle.rw_data.proofs.Clean.{each_clean}
use Rattle.rw_out.proofs.Rests.{section_kept}
use Rattle.rw_out.proofs.steps.line_bytes.Goals as goal

pub overflow_add-start : goal.overflow_add-start
overflow_add-start c =
    let file = c.args.picture.now in
    let clean = each_clean file c.elf-elf.ensures.clean in
    let kept = section_kept file clean c.args.n c.requires.0.number in
    let stored = kept.stored c.requires.0.stored in
    let size = clean_size file clean.elf in
    let offset = ap (λ (s : Section). s.offset) c.kept_section-section.ensures.section in
    let addr = ap (λ (s : Section). s.addr) c.kept_section-section.ensures.section in
    let most = c.requires.1.most in
    let before = c.requires.2 in
    let least = c.requires.0.least in
    omega (arith, stored, size, offset, addr, most, before, least)

pub part-requires : goal.part-requires
part-requires c =
    let file = c.args.picture.now in
    let clean = each_clean file c.elf-elf.ensures.clean in
    let kept = section_kept file clean c.args.n c.requires.0.number in
    let stored = kept.stored c.requires.0.stored in
    let offset = ap (λ (s : Section). s.offset) c.kept_section-section.ensures.section in
    let addr = ap (λ (s : Section). s.addr) c.kept_section-section.ensures.section in
    let whole = ap length (c.file.ensures.bytes ∙ c.elf.ensures.file) in
    let most = c.requires.1.most in
    let before = c.requires.2 in
    let least = c.requires.0.least in
    let len = c.min.ensures in
    omega (arith, stored, whole, offset, addr, most, before, least, len)
