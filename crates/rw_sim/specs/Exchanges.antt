-- What a run of a simulation took of its input.
use Rattle.std.specs.Prelude.{◌≡◌, ◌++◌, ℕ, List, length, map}
use Rattle.std.specs.List.{concat}
use Rattle.std.specs.Io.KnownBytes.{Consumes}
use Rattle.rw_sim.specs.World.{World}

-- These pieces were read: their lengths are kept in order, and joined they are the bytes that were taken of the input.
pub record Takes {V C P : Type 0} (w v : World V C P) (pieces : List (List ℕ)) : Type 0 where
  pub lengths : v.reads ≡ w.reads ++ map length pieces
  pub taken : Consumes w.input.bytes v.input.bytes (concat pieces)
