use Rattle.std.proofs.Common.{◌≡◌, length, []}
use Rattle.std.specs.Prelude.{slice_get}
use Rattle.rw_live.specs.NodeSets.{IsSound}
use Rattle.rw_live.specs.Work.{Covers}
use Rattle.rw_live.proofs.graph.live_sets.Given as goal

abbrev pub invariant-nodes : goal.invariant-nodes
invariant-nodes l = (length l.live.items ≡ length l.nodes) × IsSound (slice_get l.nodes) l.live.items × Covers (slice_get l.nodes) l.from l.live.items [] × (l.work.items ≡ [])

abbrev pub decreases-nodes : goal.decreases-nodes
decreases-nodes l = l.from
