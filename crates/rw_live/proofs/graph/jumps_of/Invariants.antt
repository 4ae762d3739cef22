use Rattle.std.proofs.Common.{◌≡◌, ◌<◌, ℕ, Some, Contains}
use Rattle.std.specs.Prelude.{option_and_then, slice_get}
use Rattle.rw_live.proofs.graph.jumps_of.Given as goal

abbrev pub invariant-loop-c : goal.invariant-loop-c
invariant-loop-c l = (c d : ℕ) → c < l.c → option_and_then (λ n. n.jump) (slice_get l.nodes c) ≡ Some d → Contains l.jumps.items (record { from = c; to = d })
