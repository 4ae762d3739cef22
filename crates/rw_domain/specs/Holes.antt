-- Holes in ascending order, and where in it an offset of a region comes.
use Rattle.std.specs.Prelude.{ℕ, ◌<◌, ◌≡◌, Bool, true, ◌&&◌, ◌||◌, nat_eq, nat_lt, nat_le, List}
use Rattle.std.specs.List.{All, AllPairs}
use Rattle.rw_domain.specs.declared.place.Hole.{Hole}

-- the hole belongs to an earlier region, or to this one, where it ends at the offset or before it
abbrev pub is_before : ℕ → ℕ → Hole → Bool
is_before region offset hole = nat_lt hole.region region || (nat_eq hole.region region && nat_le hole.end offset)

-- each hole has a byte at least, and comes before where any later one begins
pub record Ascend (holes : List Hole) : Type 0 where
  pub some : All (λ h. h.start < h.end) holes
  pub before : AllPairs (λ g h. is_before h.region h.start g ≡ true) holes
