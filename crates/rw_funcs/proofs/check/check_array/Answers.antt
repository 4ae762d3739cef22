use Rattle.std.proofs.Common.{◌≡◌, true, false, sym, ap, ◌∙◌, arith}
use Rattle.std.proofs.lemmas.Grind.{common_steps}
use Rattle.std.proofs.lemmas.Result.{err_from_is_err_and}
use Rattle.rw_base.proofs.First.{each-none, each-some, each-more}
use Rattle.rw_funcs.specs.Functions.{is_array, word_fault, words_of}
use Rattle.rw_funcs.proofs.Each.{each-nothing}
use Rattle.rw_funcs.proofs.Words.{bad_word, count-words, no-words, nth-word}
use Rattle.rw_funcs.proofs.check.check_array.Goals as goal

pub returns-then-not-is_array : goal.returns-then-not-is_array
returns-then-not-is_array c =
    let other : is_array c.args.section.now ≡ false = grind (arith, common_steps) in
    sym (each-nothing (bad_word c.args.relocs.now) (words_of c.args.section.now) (no-words c.args.section.now other))

pub returns-in_err-check_word : goal.returns-in_err-check_word
returns-in_err-check_word c =
    let array : is_array c.args.section.now ≡ true = grind (arith, common_steps) in
    let size = count-words c.args.section.now array in
    let below = c.loop-k-test.true in
    let word = nth-word c.args.section.now array c.loop-k.k below in
    let p = err_from_is_err_and c.from_residual.result c.from_residual.ensures.1 in
    rw (p.1, p.2)
    (each-some (words_of c.args.section.now) (word_fault c.args.relocs.now) c.loop-k.k 0 _ (omega (arith, size, below)) c.loop-k.invariant (ap (bad_word c.args.relocs.now) word ∙ sym c.in_err-check_word.ensures))

pub loop-k-preserved : goal.loop-k-preserved
loop-k-preserved c =
    let array : is_array c.args.section.now ≡ true = grind (arith, common_steps) in
    let size = count-words c.args.section.now array in
    let below = c.loop-k-test.true in
    let word = nth-word c.args.section.now array c.loop-k.k below in
    each-more (words_of c.args.section.now) (word_fault c.args.relocs.now) c.loop-k.k 0 (omega (arith, size, below)) c.loop-k.invariant (ap (bad_word c.args.relocs.now) word ∙ sym c.in_ok-check_word.ensures)

pub returns : goal.returns
returns c =
    let array : is_array c.args.section.now ≡ true = grind (arith, common_steps) in
    let size = count-words c.args.section.now array in
    let past = c.loop-k-test.false in
    each-none (words_of c.args.section.now) (word_fault c.args.relocs.now) c.loop-k.k (omega (arith, size, past)) c.loop-k.invariant
