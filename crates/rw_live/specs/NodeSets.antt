-- The sets as they grow, and what holds of them at a fixed point.
use Rattle.std.specs.Prelude.{◌≡◌, ℕ, ◌-◌, ◌<◌, ◌≤◌, List, Some, None, Option, slice_index, min, max}
use Rattle.std.specs.Int.{bit_at}
use Rattle.rw_live.specs.declared.graph.Node.{Node}
use Rattle.rw_live.specs.NodePaths.{Has, IsLiveAt}

-- bit b of the set at a point that may be missing
abbrev pub bit_from : List ℕ → Option ℕ → ℕ → ℕ
bit_from live None b = 0
bit_from live (Some d) b = bit_at (slice_index live d) b

-- bit b of what a node makes live before it, from the sets of the points after it
abbrev pub bit_before : Node → List ℕ → ℕ → ℕ
bit_before n live b = max (bit_at n.reads b) (min (max (bit_from live n.next b) (bit_from live n.jump b)) (1 - bit_at n.writes b))

-- each set has only what is live
pub record IsSound (nodes : ℕ → Option Node) (live : List ℕ) : Type 0 where
  pub fits : (c : ℕ) → slice_index live c < 4294967296
  pub bits : (c b : ℕ) → b < 32 → Has (slice_index live c) b → IsLiveAt nodes c b

-- the set at c has all that its node makes live before it
abbrev pub IsClosedAt : (ℕ → Option Node) → List ℕ → ℕ → Type 0
IsClosedAt nodes live c = (n : Node) → nodes c ≡ Some n → (b : ℕ) → b < 32 → bit_before n live b ≤ bit_at (slice_index live c) b
