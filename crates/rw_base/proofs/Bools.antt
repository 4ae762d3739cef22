-- Tests that are joined.
use Rattle.std.proofs.Common.{◌≡◌, Bool, true, false, ◌||◌}

-- one of two tests holds, and it isn't the first
pub or_other : (a b : Bool) → a ≡ false → (a || b) ≡ true → b ≡ true
or_other false b off h = h
or_other true b off h = cc
