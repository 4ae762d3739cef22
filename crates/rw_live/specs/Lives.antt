-- What is kept of the liveness of a function.
use Rattle.std.specs.Prelude.{◌≡◌, ◌↔◌, ◌<◌, ◌+◌, ℕ, List, Some, slice_index}
use Rattle.std.specs.List.{AllPairs}
use Rattle.x86_insn.specs.declared.kinds.Reg.{Reg}
use Rattle.x86_insn.specs.WellFormed.{code_of}
use Rattle.x86_meaning.specs.declared.sets.Flag.{Flag}
use Rattle.x86_meaning.specs.Sets.{flag_code}
use Rattle.rw_funcs.specs.Points.{Point}
use Rattle.rw_live.specs.declared.live.Live.{Live}
use Rattle.rw_live.specs.Liveness.{IsLive, IsFlagLive}
use Rattle.rw_live.specs.NodePaths.{Has}
use Rattle.rw_live.specs.Nodes.{number_of}

-- the set of the point at an address has an element
abbrev pub HasAt : List ℕ → List ℕ → ℕ → ℕ → ℕ → Type 0
HasAt offsets sets start a b = (k : ℕ) × (number_of start offsets a ≡ Some k) × Has (slice_index sets k) b

-- the sets are those of the registers and flags that are live at points
pub record IsLiveOf (points : List Point) (live : Live) : Type 0 where
  pub ascend : AllPairs (λ x y. x < y) live.offsets.items
  pub registers : (c : ℕ) (r : Reg) → HasAt live.offsets.items live.sets.items live.start c (code_of r) ↔ IsLive points c r
  pub flags : (c : ℕ) (x : Flag) → HasAt live.offsets.items live.sets.items live.start c (16 + flag_code x) ↔ IsFlagLive points c x
