-- Liveness over a graph of numbered nodes, by paths. A set is a number: bit b is set where b is in the set.
use Rattle.std.specs.Prelude.{◌≡◌, ℕ, ◌<◌, ◌⊎◌, ◌↔◌, List, [], ◌∷◌, Option, Some, IsSomeAnd, slice_index}
use Rattle.std.specs.Int.{bit_at}
use Rattle.rw_live.specs.declared.graph.Node.{Node}

abbrev pub Has : ℕ → ℕ → Type 0
Has set b = bit_at set b ≡ 1

-- d may follow the node
abbrev pub NodeLeadsTo : Node → ℕ → Type 0
NodeLeadsTo n d = (n.next ≡ Some d) ⊎ (n.jump ≡ Some d)

-- From c the nodes ds follow one another, the last reads b, and none before it writes b whole.
abbrev pub IsNodePath : (ℕ → Option Node) → ℕ → ℕ → List ℕ → Type 0
IsNodePath nodes b c [] = IsSomeAnd (nodes c) (λ n. Has n.reads b)
IsNodePath nodes b c (d ∷ ds) = IsSomeAnd (nodes c) (λ n. ¬ Has n.writes b × NodeLeadsTo n d) × IsNodePath nodes b d ds

abbrev pub IsLiveAt : (ℕ → Option Node) → ℕ → ℕ → Type 0
IsLiveAt nodes c b = (ds : List ℕ) × IsNodePath nodes b c ds

-- a set for each node: what is live there
abbrev pub ComputesLiveness : (ℕ → Option Node) → List ℕ → Type 0
ComputesLiveness nodes live = (c b : ℕ) → b < 32 → Has (slice_index live c) b ↔ IsLiveAt nodes c b
