-- What the laws of the words speak of.
use Rattle.std.specs.Prelude.{ℕ, ◌<◌, List, [], ◌∷◌}
use Rattle.rw_words.specs.declared.atom.Cell.{Cell}
use Rattle.rw_words.specs.declared.atom.Cell.TheVariants.{Num, Part, Undef}
use Rattle.rw_words.specs.Addresses.{Addresses, CellStands}

-- cells stand for bytes, one by one
abbrev pub RowStands : Addresses → List Cell → List ℕ → Type 0
RowStands l [] [] = Unit {0}
RowStands l (c ∷ cells) (b ∷ bytes) = CellStands l c b × (b < 256) × RowStands l cells bytes
RowStands l [] (b ∷ bytes) = ⊥
RowStands l (c ∷ cells) [] = ⊥

-- the numbers in the cells are bytes, as in every word of the program
abbrev pub HoldBytes : List Cell → Type 0
HoldBytes [] = Unit {0}
HoldBytes (Num b ∷ cells) = (b < 256) × HoldBytes cells
HoldBytes (Part a i ∷ cells) = HoldBytes cells
HoldBytes (Undef ∷ cells) = HoldBytes cells
