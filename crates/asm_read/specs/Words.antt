-- The pieces of a text that are still to be read.
use Rattle.std.specs.Prelude.{ℕ, List, [], Option, Some, None}
use Rattle.asm_print.specs.Pieces.{◌>>=◌, pieces}
use Rattle.asm_print.specs.Reading.{numbers_in, with_room}

-- the pieces of what is left, if anything is
abbrev pub pieces_left : ℕ → Option (List ℕ) → List (List ℕ)
pieces_left c None = []
pieces_left c (Some text) = pieces c text

-- the bytes of data that commas separate, as many as an item has room for
abbrev pub data_in : List ℕ → Option (List ℕ)
data_in text = numbers_in (pieces 44 text) >>= with_room
