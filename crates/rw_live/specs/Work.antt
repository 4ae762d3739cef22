-- What a list of nodes to look at keeps.
use Rattle.std.specs.Prelude.{◌≡◌, ◌≢◌, ℕ, suc, ◌<◌, ◌≤◌, ◌^◌, List, length, Option, Some, Bool, false, slice_get, slice_index, nat_eq, Contains}
use Rattle.std.specs.List.{list_any}
use Rattle.std.specs.List.Sorted.{IsNonDecreasingBy}
use Rattle.std.specs.Int.{bit_at}
use Rattle.rw_live.specs.declared.graph.Node.{Node}
use Rattle.rw_live.specs.declared.graph.Jump.{Jump}
use Rattle.rw_live.specs.NodeSets.{IsClosedAt, bit_before}

abbrev pub has_node : List ℕ → ℕ → Bool
has_node xs c = list_any (nat_eq c) xs

-- each node from a number on that isn't in the list has a closed set
abbrev pub Covers : (ℕ → Option Node) → ℕ → List ℕ → List ℕ → Type 0
Covers nodes from live work = (c : ℕ) → from ≤ c → has_node work c ≡ false → IsClosedAt nodes live c

-- no set but that at c is another
abbrev pub ChangesOnly : List ℕ → List ℕ → ℕ → Type 0
ChangesOnly old new c = (length new ≡ length old) × ((d : ℕ) → d ≢ c → slice_index new d ≡ slice_index old d)

-- the new set at c has all that its node made live before it, by the old sets
abbrev pub IsClosedUnder : (ℕ → Option Node) → List ℕ → List ℕ → ℕ → Type 0
IsClosedUnder nodes old new c = (n : Node) → nodes c ≡ Some n → (b : ℕ) → b < 32 → bit_before n old b ≤ bit_at (slice_index new c) b

-- all jumps of a graph, by their targets
pub record AreJumps (nodes : ℕ → Option Node) (jumps : List Jump) : Type 0 where
  pub ascend : IsNonDecreasingBy (λ j. j.to) jumps
  pub all_there : (c d : ℕ) (n : Node) → nodes c ≡ Some n → n.jump ≡ Some d → Contains jumps (record { from = c; to = d })

-- nodes in a list: a path that goes on from one goes on to the next, and each has a number of 32 bits
pub record IsGraph (nodes : List Node) : Type 0 where
  pub next : (c d : ℕ) (n : Node) → slice_get nodes c ≡ Some n → n.next ≡ Some d → d ≡ suc c
  pub few : length nodes < 2 ^ 32
