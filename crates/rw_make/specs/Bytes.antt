-- Numbers and names as bytes of a file.
use Rattle.std.specs.Prelude.{ℕ, ◌+◌, ◌-◌, ◌*◌, ◌/◌, List, [], ◌∷◌, ◌++◌, length, replicate}
use Rattle.std.specs.List.{flat_map}
use Rattle.std.specs.Int.{to_le_bytes, w16, w32, w64}

-- an Elf64_Half, an Elf64_Word and an Elf64_Xword (gABI, "Data Representation"): the low 2, 4 and 8 bytes of a
-- number, the lowest first
unfoldable pub half : ℕ → List ℕ
half n = to_le_bytes w16 n

unfoldable pub word : ℕ → List ℕ
word n = to_le_bytes w32 n

unfoldable pub xword : ℕ → List ℕ
xword n = to_le_bytes w64 n

-- the least multiple of 8 that isn't below n
abbrev pub next_place : ℕ → ℕ
next_place n = (n + 7) / 8 * 8

-- bytes with zeros behind them, up to a multiple of 8
unfoldable pub padded : List ℕ → List ℕ
padded bytes = bytes ++ replicate (next_place (length bytes) - length bytes) 0

-- a name with the zero byte that ends it
abbrev pub zero_ended : List ℕ → List ℕ
zero_ended name = name ++ 0 ∷ []

-- a string table (gABI, "String Table"): a zero byte, and then the names
unfoldable pub string_table : List (List ℕ) → List ℕ
string_table names = 0 ∷ flat_map zero_ended names
