use Rattle.std.specs.Prelude.{None}
use Rattle.rw_domain.specs.declared.symbols.Symbols.{Symbols}
use Rattle.rw_domain.specs.Placed.{Placed}

-- what the domain of words has placed
abbrev pub placed_symbols : Symbols → Placed
placed_symbols d = record { regions = d.regions.items; bases = None; holes = d.holes; canary = d.canary }
