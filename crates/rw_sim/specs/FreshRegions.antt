-- What contracts see of the regions that came so far during a run.
use Rattle.std.specs.Prelude.{◌≡◌, ◌<◌, ◌+◌, ◌-◌, ◌^◌, ◌++◌, ◌∷◌, [], ℕ, List, length, sum, Option, Some, None}
use Rattle.rw_domain.specs.declared.place.Region.{Region}
use Rattle.rw_domain.specs.Placed.{Placed}
use Rattle.rw_sim.specs.declared.fresh.Fresh.{Fresh}
use Rattle.rw_sim.specs.Builtins.{fresh_limit}
use Rattle.rw_sim.specs.Fresh.{fresh_base}

-- so many bytes, and the base of the next, where these sizes came so far
pub record Counts (fresh : Fresh) (sizes : List ℕ) : Type 0 where
  pub bytes : fresh.bytes ≡ sum sizes
  pub base : fresh.base ≡ fresh_base sizes

-- The region with the canary is there, and there is room for a region of each byte that fresh regions may still have.
pub record HasRoom (placed : Placed) (bytes : ℕ) : Type 0 where
  pub canary : placed.canary < length placed.regions
  pub regions : length placed.regions + fresh_limit < 2 ^ 32 - 1 + bytes

-- one more region came, or none
abbrev pub Grows : Fresh → Fresh → Option (Region × ℕ) → Type 0
Grows old new None = new ≡ old
Grows old new (Some f) = (new.bytes ≡ old.bytes + f.0.size) × ((sizes : List ℕ) → Counts old sizes → Counts new (sizes ++ f.0.size ∷ []))
