use Rattle.std.proofs.Common.{◌≡◌, Some, sym, ap, ◌∙◌}
use Rattle.rw_funcs.specs.Points.{file_points, insn_at, point_at}
use Rattle.rw_code.specs.File.{symbolic_insn}
use Rattle.rw_code.proofs.CodeWords.{insn-found}
use Rattle.rw_code.proofs.file_words.FileWordsCodeSymbols.insn.Goals as goal

pub returns-in_ok-insn_at-in-At : goal.returns-in_ok-insn_at-in-At
returns-in_ok-insn_at-in-At c =
    let code = c.args.self.now in
    let d = c.in_ok-insn_at-in-At.field-0 in
    let here : insn_at (file_points code.elf.now) c.in-At.address ≡ Some d =
    sym (ap (λ file. insn_at (file_points file) c.in-At.address) code.same_funcs) ∙ sym c.insn_at.ensures ∙ c.in_ok-insn_at-in-At.was in
    sym (ap (symbolic_insn (file_points code.elf.now)) c.in-At.is ∙ insn-found (point_at (file_points code.elf.now) c.in-At.address) d here)
