use Rattle.rw_domain.proofs.PiecesAscend.{AdjacentApart}
use Rattle.rw_domain.proofs.pieces.are_apart.Given as goal

abbrev pub invariant-loop-i : goal.invariant-loop-i
invariant-loop-i l = AdjacentApart l.pieces l.i
