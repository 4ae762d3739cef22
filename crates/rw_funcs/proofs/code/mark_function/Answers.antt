use Rattle.std.proofs.Common.{◌++◌, length, sym, ap, subst, ◌∙◌, arith}
use Rattle.std.specs.Prelude.{option_map}
use Rattle.std.proofs.lemmas.Result.{on_ok_weaker}
use Rattle.rw_base.specs.declared.fault.Fault.TheVariants.{BadInstruction}
use Rattle.rw_funcs.specs.Found.{HasMarks}
use Rattle.rw_funcs.specs.Points.{points_of}
use Rattle.rw_funcs.proofs.CodeFacts.{sections-apart, some-section}
use Rattle.rw_funcs.proofs.Facts.{placed_function}
use Rattle.rw_funcs.proofs.FunctionsOf.{function-part, points_of-code, bad-code, set-marked, set-sections}
use Rattle.rw_funcs.proofs.code.mark_function.Goals as goal

pub place_of-requires : goal.place_of-requires
place_of-requires g c = sections-apart c.args.elf.now c.args.code.now c.requires.1.1.1.0 c.requires.0

pub mark_part-requires : goal.mark_part-requires
mark_part-requires g c =
    let part = function-part c.args.elf.now c.args.code.now c.requires.1.1.1.0 c.requires.1.1.1.1.0 c.requires.0 c.args.function.now c.requires.1.1.1.1.1 c.in-Some.place c.index-code-place.result (sym c.place_of.ensures ∙ c.in-Some.is) in
    let count = ap length c.function_code.ensures in
    let high = part.high in
    let place = part.place in
    (c.requires.1.0 c.in-Some.place c.index-code-place.result part.within, (c.requires.1.1.0, (part.low, (omega (arith, count, high), omega (arith, count, place)))))

pub returns-in-Some-clause-fault : goal.returns-in-Some-clause-fault
returns-in-Some-clause-fault g c =
    c.mark_part.ensures.fault ∙ ap (option_map (λ a. BadInstruction a)) (bad-code c.args.elf.now c.args.function.now c.function_code.result.now c.function_code.ensures)

pub returns-in-Some-clause-marked : goal.returns-in-Some-clause-marked
returns-in-Some-clause-marked g c =
    let part = function-part c.args.elf.now c.args.code.now c.requires.1.1.1.0 c.requires.1.1.1.1.0 c.requires.0 c.args.function.now c.requires.1.1.1.1.1 c.in-Some.place c.index-code-place.result (sym c.place_of.ensures ∙ c.in-Some.is) in
    on_ok_weaker c.mark_part.result
    (λ new. set-marked c.args.elf.now c.args.code.now g.before (points_of c.args.elf.now c.args.function.now) c.in-Some.place c.mark_part.new.part c.index-code-place.result
    (sections-apart c.args.elf.now c.args.code.now c.requires.1.1.1.0 c.requires.0) c.requires.1.0 part.within part.inside
    (subst (λ ps. HasMarks (g.before ++ ps) c.mark_part.new.part) (points_of-code c.args.elf.now c.args.function.now c.function_code.result.now c.function_code.ensures) new))
    c.mark_part.ensures.marked

pub returns-in-Some-clause-sections : goal.returns-in-Some-clause-sections
returns-in-Some-clause-sections g c =
    let part = function-part c.args.elf.now c.args.code.now c.requires.1.1.1.0 c.requires.1.1.1.1.0 c.requires.0 c.args.function.now c.requires.1.1.1.1.1 c.in-Some.place c.index-code-place.result (sym c.place_of.ensures ∙ c.in-Some.is) in
    set-sections c.args.elf.now c.args.code.now c.in-Some.place c.mark_part.new.part c.index-code-place.result c.requires.0 part.within c.mark_part.ensures.section c.mark_part.ensures.bytes

pub returns-in-None-clause-fault : goal.returns-in-None-clause-fault
returns-in-None-clause-fault g c =
    let some = (placed_function c.args.elf.now c.args.function.now c.requires.1.1.1.1.0 c.requires.1.1.1.1.1).some in
    absurd (some-section c.args.elf.now c.args.code.now c.requires.1.1.1.1.0 c.requires.0 c.args.function.now c.args.function.now.value c.requires.1.1.1.1.1 (omega arith) (omega (arith, some)) (sym c.place_of.ensures ∙ c.in-None.is))

pub returns-in-None-clause-marked : goal.returns-in-None-clause-marked
returns-in-None-clause-marked g c =
    let some = (placed_function c.args.elf.now c.args.function.now c.requires.1.1.1.1.0 c.requires.1.1.1.1.1).some in
    absurd (some-section c.args.elf.now c.args.code.now c.requires.1.1.1.1.0 c.requires.0 c.args.function.now c.args.function.now.value c.requires.1.1.1.1.1 (omega arith) (omega (arith, some)) (sym c.place_of.ensures ∙ c.in-None.is))
