use Rattle.std.proofs.Common.{◌+◌, get_or, sym, ap, subst, ◌∙◌, arith}
use Rattle.std.specs.List.{Contains}
use Rattle.std.specs.Option.{option_or}
use Rattle.std.proofs.lemmas.List.Elements.{Contains-get_or}
use Rattle.std.proofs.lemmas.Result.{err_from_is_err_and}
use Rattle.rw_base.specs.Rules.{each_of, first_of}
use Rattle.rw_elf.specs.Section.{null_section}
use Rattle.rw_funcs.specs.Functions.{word_fault, words_of}
use Rattle.rw_funcs.proofs.Each.{first_ahead, ahead-next, ahead-end}
use Rattle.rw_funcs.proofs.Words.{all-words, bad_word, placed-low}
use Rattle.rw_funcs.proofs.check.check_constructors.Goals as goal

pub loop-section-init : goal.loop-section-init
loop-section-init c = all-words c.args.elf.now c.placed-section-items.result.now c.placed-section-items.ensures.list

pub check_array-requires-clause-place : goal.check_array-requires-clause-place
check_array-requires-clause-place c =
    let list = c.placed-section-items.result.now in
    placed-low c.args.elf.now (get_or c.placed-section-items.result.now c.loop-section.section-index null_section) c.file-file.ensures.clean
    (subst (λ l. Contains l (get_or c.placed-section-items.result.now c.loop-section.section-index null_section)) c.placed-section-items.ensures.list (Contains-get_or c.placed-section-items.result.now c.loop-section.section-index null_section (omega arith)))

pub returns-in_err-check_array : goal.returns-in_err-check_array
returns-in_err-check_array c =
    let i = c.loop-section.section-index in
    let list = c.placed-section-items.result.now in
    let words = words_of (get_or c.placed-section-items.result.now c.loop-section.section-index null_section) in
    let bad = c.in_err-check_array.ensures ∙ ap (λ b. first_of (each_of words (word_fault b))) c.requires.same in
    let p = err_from_is_err_and c.from_residual.result c.from_residual.ensures.1 in
    rw (p.1, p.2)
    (sym (ahead-next (bad_word c.args.elf.now) words_of list i null_section (omega arith) ∙ ap (λ o. option_or o (first_ahead (bad_word c.args.elf.now) words_of list (i + 1))) (sym bad)) ∙ c.loop-section.invariant)

pub loop-section-preserved : goal.loop-section-preserved
loop-section-preserved c =
    let i = c.loop-section.section-index in
    let list = c.placed-section-items.result.now in
    let words = words_of (get_or c.placed-section-items.result.now c.loop-section.section-index null_section) in
    let good = c.in_ok-check_array.ensures ∙ ap (λ b. first_of (each_of words (word_fault b))) c.requires.same in
    sym (ahead-next (bad_word c.args.elf.now) words_of list i null_section (omega arith) ∙ ap (λ o. option_or o (first_ahead (bad_word c.args.elf.now) words_of list (i + 1))) (sym good)) ∙ c.loop-section.invariant

pub returns : goal.returns
returns c =
    sym (ahead-end (bad_word c.args.elf.now) words_of c.placed-section-items.result.now c.loop-section.section-index (omega arith)) ∙ c.loop-section.invariant
