-- Where things stand in a file.
use Rattle.std.specs.Prelude.{◌≡◌, ℕ, ◌+◌, List, length, map, take, drop}
use Rattle.rw_make.specs.Bytes.{string_table}
use Rattle.rw_make.specs.Image.{Piece, contents_of}

-- these bytes stand at this place
abbrev pub StandsAt : List ℕ → ℕ → List ℕ → Type 0
StandsAt file place bytes = take (length bytes) (drop place file) ≡ bytes

-- the offset of a section's contents, and the place of its name, behind those of the sections before it
abbrev pub offset_behind : List Piece → ℕ
offset_behind front = 64 + length (contents_of front)

abbrev pub name_behind : List Piece → ℕ
name_behind front = length (string_table (map (λ p. p.name) front))
