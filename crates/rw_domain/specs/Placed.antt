-- What a domain has placed: the regions, where they lie, and what doesn't belong to them.
use Rattle.std.specs.Prelude.{ℕ, ◌-◌, List, [], ◌∷◌, ◌++◌, Option, Some, None}
use Rattle.rw_domain.specs.declared.place.Region.{Region}
use Rattle.rw_domain.specs.declared.place.Hole.{Hole}

pub record Placed : Type 0 where
  -- a region's number is its place here
  pub regions : List Region
  -- the address of each region; a domain of words has none
  pub bases : Option (List ℕ)
  pub holes : List Hole
  -- the number of the region with the canary; the arguments and the stack come right before it
  pub canary : ℕ

-- the number of the region with the stack, two before that with the canary
abbrev pub stack_number : Placed → ℕ
stack_number placed = placed.canary - 2

abbrev pub base_added : Option (List ℕ) → ℕ → Option (List ℕ)
base_added (Some bases) base = Some (bases ++ base ∷ [])
base_added None base = None

-- one more region, at the end
abbrev pub with_region : Placed → Region → ℕ → Placed
with_region placed region base =
    record placed { regions = placed.regions ++ region ∷ []; bases = base_added placed.bases base }
