use Rattle.std.proofs.Common.{arith}
use Rattle.rw_code.specs.Start.{all_words}
use Rattle.rw_sim.specs.Start.{start_with}
use Rattle.rw_sim.proofs.WordCells.{size-more, size-none}
use Rattle.rw_sim.proofs.start.words.size.Goals as goal

pub word-requires : goal.word-requires
word-requires c = let end = c.count-number-end.ensures.args in let low = c.loop-number-test.true in omega (arith, end, low)

pub loop-number-preserved : goal.loop-number-preserved
loop-number-preserved c =
    let more = size-more (all_words (start_with c.args.args.now)) c.loop-number.number c.word.result.now c.word.ensures in
    let before = c.loop-number.invariant in
    omega (arith, more, before)
