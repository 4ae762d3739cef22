use Rattle.std.proofs.Common.{arith}
use Rattle.rw_domain.proofs.PiecesFound.{null_piece}
use Rattle.rw_domain.proofs.PiecesAscend.{adjacent-more, pieces-apart}
use Rattle.rw_domain.proofs.pieces.are_apart.Goals as goal

pub loop-i-preserved : goal.loop-i-preserved
loop-i-preserved c = adjacent-more c.args.pieces.now c.loop-i.i null_piece c.loop-i.invariant (omega arith) c.loop-i-test.true c.if-pieces-i.false

pub returns : goal.returns
returns c = λ _. pieces-apart c.args.pieces.now c.requires (λ k d within. c.loop-i.invariant k d (omega arith))
