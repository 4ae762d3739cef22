use Rattle.std.proofs.Common.{ℕ, ◌<◌}
use Rattle.std.specs.List.{All}
use Rattle.rw_domain.specs.Pieces.{IsPiece, HoldsRange}
use Rattle.rw_domain.proofs.PiecesPushed.{After}
use Rattle.rw_domain.proofs.pieces.cut.Given as goal

abbrev pub invariant-loop-number : goal.invariant-loop-number
invariant-loop-number l = record {
  sound : All (IsPiece l.regions l.bases l.holes) l.pieces.items;
  starts : (r end : ℕ) → r < l.number → HoldsRange l.regions l.bases l.holes l.pieces.items r 0 end;
}

abbrev pub invariant-loop-hole : goal.invariant-loop-hole
invariant-loop-hole l = After l.regions l.bases l.holes l.pieces.items l.hole-index
