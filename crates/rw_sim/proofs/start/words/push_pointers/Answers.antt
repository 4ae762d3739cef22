use Rattle.std.proofs.Common.{arith, ap, ◌∙◌, ◌++◌, drop, length, ◌+◌}
use Rattle.rw_code.specs.Start.{all_words, pointers}
use Rattle.rw_sim.specs.Start.{start_with}
use Rattle.rw_sim.proofs.WordCells.{pointers-more, pointers-none, size-more}
use Rattle.rw_sim.proofs.start.words.push_pointers.Goals as goal

pub word-requires : goal.word-requires
word-requires c = let end = c.count-count.ensures.args in let low = c.loop-number-test.true in omega (arith, end, low)

pub loop-number-preserved : goal.loop-number-preserved
loop-number-preserved c =
    let words = all_words (start_with c.args.args.now) in
    let number = c.loop-number.number in
    let word = c.word.result.now in
    let more = size-more words number word c.word.ensures in
    let before = c.loop-number.invariant.1 in (
      ap (λ cells. cells ++ pointers c.args.region (c.loop-number.at + (length word + 1)) (drop (number + 1) words)) (c.in_ok-extend_from_slice.ensures.items ∙ ap (λ cells. c.loop-number.cells.items ++ cells) (c.cells.ensures.cells ∙ c.atom-pointer.ensures))
          ∙ pointers-more c.args.region c.loop-number.at number words word c.loop-number.cells.items c.word.ensures
          ∙ c.loop-number.invariant.0,
      omega (arith, more, before),
    )
