use Rattle.std.proofs.Common.{arith, ap, ◌∙◌, ◌++◌, ◌+◌, ◌∷◌, [], drop}
use Rattle.rw_words.specs.declared.atom.Cell.TheVariants.{Num}
use Rattle.rw_code.specs.Start.{all_words, text_cells}
use Rattle.rw_sim.specs.Start.{start_with}
use Rattle.rw_sim.proofs.WordCells.{texts-more, texts-none}
use Rattle.rw_sim.proofs.start.words.push_texts.Goals as goal

pub word-requires : goal.word-requires
word-requires c = let end = c.count-number-end.ensures.args in let low = c.loop-number-test.true in omega (arith, end, low)

pub loop-number-preserved : goal.loop-number-preserved
loop-number-preserved c =
    let words = all_words (start_with c.args.args.now) in
    let number = c.loop-number.number in
    ap (λ cells. cells ++ text_cells (drop (number + 1) words)) (c.in_ok-push.ensures.items ∙ ap (λ cells. cells ++ Num 0 ∷ []) c.in_ok-push_text.ensures)
    ∙ texts-more number words c.word.result.now c.loop-number.cells.items c.word.ensures
    ∙ c.loop-number.invariant
