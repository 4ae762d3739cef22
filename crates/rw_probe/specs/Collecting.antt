-- How leaders are collected, and what is kept of them.
use Rattle.std.specs.Prelude.{◌≡◌, ℕ, ◌^◌, ◌<◌, List, length, Bool, ◌&&◌, ◌||◌, nat_lt}
use Rattle.std.specs.List.{list_any}
use Rattle.std.specs.List.Sorted.{IsStrictlyIncreasing}
use Rattle.rw_funcs.specs.Points.{Point, is_one_of}
use Rattle.rw_probe.specs.Leaders.{ends_at, is_code, named_by}

-- the new list has the numbers of the old one, and those that pass a test
abbrev pub AddsWhere : (ℕ → Bool) → List ℕ → List ℕ → Type 0
AddsWhere test old new = (c : ℕ) → is_one_of new c ≡ (is_one_of old c || test c)

-- what begins by a point: what it names, and the address behind it where it ends a block below the function's end
abbrev pub begins_with : List ℕ → ℕ → ℕ → Point → Bool
begins_with bytes end c p = is_code c (named_by bytes p) || (ends_at c p && nat_lt c end)

abbrev pub begins_by : List ℕ → ℕ → List Point → ℕ → Bool
begins_by bytes end points c = list_any (begins_with bytes end c) points

-- ascending numbers, each of which has a number of 32 bits
pub record AreNumbered (list : List ℕ) : Type 0 where
  pub ascend : IsStrictlyIncreasing list
  pub few : length list < 2 ^ 32
