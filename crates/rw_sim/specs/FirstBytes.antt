-- The address of the first byte of the next region, and its base, where the layout rule gives it a base.
use Rattle.std.specs.Prelude.{ℕ, List, length}
use Rattle.rw_words.specs.declared.atom.Atom.TheVariants.{Ptr}
use Rattle.rw_words.specs.declared.atom.Cell.{Cell}
use Rattle.rw_words.specs.Words.{atom_cells}
use Rattle.rw_domain.specs.Placed.{Placed}

-- over words a pointer to the region, whose number is how many there are so far; it lies nowhere
abbrev pub first_byte_of_words : Placed → ℕ → List Cell × ℕ
first_byte_of_words placed base = (atom_cells (Ptr (length placed.regions) 0), 0)

-- over numbers the base
abbrev pub first_byte_of_numbers : Placed → ℕ → ℕ × ℕ
first_byte_of_numbers placed base = (base, base)
