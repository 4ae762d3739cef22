use Rattle.std.proofs.Common.{◌≡◌, ◌-◌, ◌*◌, ◌+◌, length, sum, List, ℕ}
use Rattle.std.specs.Prelude.{slice_get}
use Rattle.rw_live.specs.declared.graph.Node.{Node}
use Rattle.rw_live.specs.NodeSets.{IsSound}
use Rattle.rw_live.specs.Work.{Covers}
use Rattle.rw_live.proofs.graph.settle.Given as goal

pub record Working (nodes : List Node) (from : ℕ) (live work : List ℕ) : Type 0 where
  pub same_length : length live ≡ length nodes
  pub sound : IsSound (slice_get nodes) live
  pub covers : Covers (slice_get nodes) from live work

abbrev pub invariant-work : goal.invariant-work
invariant-work l = Working l.nodes l.from l.live l.work.items

abbrev pub decreases-work : goal.decreases-work
decreases-work l = (4294967296 * length l.live + 1 - sum l.live) * 18446744073709551616 + length l.work.items
