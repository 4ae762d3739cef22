use Rattle.std.proofs.Common.{◌≡◌, length, slice_get, get_or, ap, subst, ◌∙◌, arith}
use Rattle.rw_elf.specs.Tables.{code_sections}
use Rattle.rw_funcs.specs.declared.code.CodeSection.{CodeSection}
use Rattle.rw_funcs.specs.Found.{marks_of}
use Rattle.rw_funcs.specs.Functions.{section_or}
use Rattle.rw_funcs.specs.Points.{file_points}
use Rattle.rw_funcs.proofs.CodeFacts.{length-sections}
use Rattle.rw_funcs.proofs.FunctionsOf.{nth-marks}
use Rattle.rw_funcs.proofs.functions.Functions.marks.Goals as goal

pub returns : goal.returns
returns c =
    let size = length-sections c.self.inside.file.value c.self.inside.code.items c.self.invariant.sections in
    let same = ap (λ b. length (code_sections b)) c.self.view_is in
    let low = c.requires in
    c.deref.ensures.value ∙ ap (λ (d : CodeSection). d.marks.items) c.index.ensures
    ∙ subst (λ b. (get_or c.self.inside.code.items c.args.s c.index.result.now).marks.items ≡ marks_of (file_points b) (section_or (slice_get (code_sections b) c.args.s))) c.self.view_is
    (nth-marks c.self.inside.file.value c.self.inside.code.items c.self.invariant.sections c.self.invariant.marked c.args.s c.index.result.now (omega (arith, size, same, low)))
