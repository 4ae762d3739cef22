-- A run of the worked text of asm_items.
use Rattle.std.specs.Prelude.{[], ◌∷◌}
use Rattle.rw_layout.specs.RunRegions.{RunRegions}

-- a stack of 2 ^ 20 bytes, 40 bytes of arguments, and two regions that come during the run
abbrev pub example_run : RunRegions
example_run = record { stack = 1048576; arguments = 40; fresh = record { size = 100; align = 16 } ∷ record { size = 1; align = 1 } ∷ [] }
