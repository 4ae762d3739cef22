-- What a word is as a whole: a number, an atom, or neither.
use Rattle.std.specs.Prelude.{ℕ, ◌≡◌, List, Option, Some, None}
use Rattle.rw_words.specs.declared.atom.Atom.{Atom}
use Rattle.rw_words.specs.declared.atom.Cell.{Cell}
use Rattle.rw_words.specs.declared.kind.Kind.{Kind}
use Rattle.rw_words.specs.declared.kind.Kind.TheVariants.{Number, Whole, Mixed}
use Rattle.rw_words.specs.Addresses.{Addresses, address_of}
use Rattle.rw_words.specs.Words.{number_in, whole_of}

abbrev pub kind_from : Option ℕ → Option Atom → Kind
kind_from (Some n) whole = Number n
kind_from None (Some a) = Whole a
kind_from None None = Mixed

abbrev pub kind_of : List Cell → Kind
kind_of cells = kind_from (number_in cells) (whole_of cells)

-- a word of the kind stands for this number alone, or for any
abbrev pub KindStands : Addresses → Kind → ℕ → Type 0
KindStands l (Number v) n = n ≡ v
KindStands l (Whole a) n = n ≡ address_of l a
KindStands l Mixed n = Unit {0}
