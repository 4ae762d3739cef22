-- Where the rows of an opcode begin in the table.
use Rattle.std.specs.Prelude.{ℕ, zero, suc, ◌+◌, List, [], ◌∷◌, not}
use Rattle.std.specs.List.{prefix_len}
use Rattle.x86_decode.specs.Rows.{rows}
use Rattle.x86_decode.specs.Fits.{has_opcode}

-- how many rows stand before the first one of an opcode, which are all of them where it has none
unfoldable pub rows_before : ℕ → ℕ
rows_before o = prefix_len (λ r. not (has_opcode o r)) rows

-- that of n opcodes, from o on
unfoldable pub first_rows : ℕ → ℕ → List ℕ
first_rows o zero = []
first_rows o (suc n) = rows_before o ∷ first_rows (o + 1) n
