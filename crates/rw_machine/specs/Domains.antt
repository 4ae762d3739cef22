-- The domain of words and the domain of numbers.
use Rattle.std.specs.Prelude.{ℕ, List}
use Rattle.rw_words.specs.declared.atom.Cell.{Cell}
use Rattle.rw_domain.specs.Placed.{Placed, with_region}
use Rattle.rw_domain.specs.NumberPlaces.{numbers_over}
use Rattle.rw_domain.specs.Symbols.{symbols_over}
use Rattle.rw_machine.specs.Program.{Domains}

abbrev pub symbols : Domains Placed (List Cell) Cell
symbols = record { over = symbols_over; add = with_region }

abbrev pub numbers : Domains Placed ℕ ℕ
numbers = record { over = numbers_over; add = with_region }
