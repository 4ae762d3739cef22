use Rattle.std.proofs.Common.{ℕ, ◌<◌, get_or}
use Rattle.rw_domain.specs.declared.place.Hole.{Hole}
use Rattle.rw_domain.proofs.HolesAscend.{AdjacentBelow}
use Rattle.rw_domain.proofs.holes.ascend.Given as goal

abbrev pub invariant-loop-i : goal.invariant-loop-i
invariant-loop-i l = record {
  some : (k : ℕ) (d : Hole) → k < l.i → (get_or l.list k d).start < (get_or l.list k d).end;
  next : AdjacentBelow l.list l.i;
}
