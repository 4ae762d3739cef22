use Rattle.std.proofs.Common.{◌≡◌, Some, sym, ap, ◌∙◌, arith}
use Rattle.rw_funcs.specs.Points.{file_points, insn_at}
use Rattle.rw_code.proofs.CodeWords.{insn-ends}
use Rattle.rw_code.proofs.file_words.FileWords.point_after.Goals as goal

pub overflow_add-address : goal.overflow_add-address
overflow_add-address c =
    let code = c.args.self.now in
    let here : insn_at (file_points code.elf.now) c.args.address ≡ Some (c.in-Some.field-0-0, c.in-Some.length) =
    sym (ap (λ file. insn_at (file_points file) c.args.address) code.same_funcs) ∙ sym c.insn_at.ensures ∙ c.in-Some.is in
    let ends = insn-ends code.elf.now code.clean_file code.clean c.args.address (c.in-Some.field-0-0, c.in-Some.length) here in
    let from = c.from.ensures in
    omega (arith, ends, from)
