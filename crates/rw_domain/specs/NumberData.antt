use Rattle.std.specs.Prelude.{Some}
use Rattle.rw_domain.specs.declared.numbers.Numbers.{Numbers}
use Rattle.rw_domain.specs.Placed.{Placed}

-- what the domain of numbers has placed
abbrev pub placed_numbers : Numbers → Placed
placed_numbers d =
    record { regions = d.regions.items; bases = Some d.bases.items; holes = d.holes; canary = d.canary }
