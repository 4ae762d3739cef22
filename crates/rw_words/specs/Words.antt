-- Words as lists of cells, the lowest byte first.
use Rattle.std.specs.Prelude.{ℕ, ◌+◌, ◌*◌, List, [], ◌∷◌, Bool, true, false, ◌&&◌, nat_eq, if◌then◌else◌, take, replicate, length, map, Option, Some, None}
use Rattle.std.specs.Option.{option_map}
use Rattle.rw_base.specs.declared.width.Width.{Width}
use Rattle.rw_base.specs.Width.{byte_count}
use Rattle.rw_words.specs.declared.atom.Atom.{Atom}
use Rattle.rw_words.specs.declared.atom.Atom.TheVariants.{Ptr, Code, Past, Import, End, Diff}
use Rattle.rw_words.specs.declared.atom.Cell.{Cell}
use Rattle.rw_words.specs.declared.atom.Cell.TheVariants.{Num, Part, Undef}
use Rattle.rw_words.specs.Addresses.{byte_of}

-- the bytes of a number below 2 ^ 64
abbrev pub eight_bytes : ℕ → List ℕ
eight_bytes n =
    byte_of n 0 ∷ byte_of n 1 ∷ byte_of n 2 ∷ byte_of n 3 ∷ byte_of n 4 ∷ byte_of n 5 ∷ byte_of n 6 ∷ byte_of n 7 ∷ []

abbrev pub bytes_of : Width → ℕ → List ℕ
bytes_of w n = take (byte_count w) (eight_bytes n)

abbrev pub number_of_bytes : List ℕ → ℕ
number_of_bytes [] = 0
number_of_bytes (b ∷ bs) = b + 256 * number_of_bytes bs

-- the word of the low bytes of a number
abbrev pub number_cells : Width → ℕ → List Cell
number_cells w n = map Num (bytes_of w n)

-- the word of an atom: its parts 0 to 7
abbrev pub atom_cells : Atom → List Cell
atom_cells a =
    Part a 0 ∷ Part a 1 ∷ Part a 2 ∷ Part a 3 ∷ Part a 4 ∷ Part a 5 ∷ Part a 6 ∷ Part a 7 ∷ []

abbrev pub undefined_cells : Width → List Cell
undefined_cells w = replicate (byte_count w) Undef

-- the number of cells that all are numbers
abbrev pub number_in : List Cell → Option ℕ
number_in [] = Some 0
number_in (Num b ∷ cells) = option_map (λ higher. b + 256 * higher) (number_in cells)
number_in (Part a i ∷ cells) = None
number_in (Undef ∷ cells) = None

abbrev pub same_atom : Atom → Atom → Bool
same_atom (Ptr r o) (Ptr s p) = nat_eq r s && nat_eq o p
same_atom (Code c) (Code d) = nat_eq c d
same_atom (Past c) (Past d) = nat_eq c d
same_atom (Import i) (Import j) = nat_eq i j
same_atom End End = true
same_atom (Diff c r o) (Diff d s p) = nat_eq c d && (nat_eq r s && nat_eq o p)
same_atom _ _ = false

-- the cells are the parts of an atom from part i on
abbrev pub are_parts : Atom → ℕ → List Cell → Bool
are_parts a i [] = true
are_parts a i (Part b j ∷ cells) = same_atom b a && (nat_eq j i && are_parts a (i + 1) cells)
are_parts a i (Num b ∷ cells) = false
are_parts a i (Undef ∷ cells) = false

-- the atom of which a word is the parts 0 to 7
abbrev pub whole_of : List Cell → Option Atom
whole_of [] = None
whole_of (Part a i ∷ cells) = if nat_eq i 0 && (nat_eq (length cells) 7 && are_parts a 1 cells) then Some a else None
whole_of (Num b ∷ cells) = None
whole_of (Undef ∷ cells) = None

-- the atom of which a word is the lowest parts, as many as it has cells
abbrev pub lowest_of : List Cell → Option Atom
lowest_of [] = None
lowest_of (Part a i ∷ cells) = if nat_eq i 0 && are_parts a 1 cells then Some a else None
lowest_of (Num b ∷ cells) = None
lowest_of (Undef ∷ cells) = None
