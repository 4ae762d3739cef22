-- Where the first words of two starts stand: of a program with one region of data and one argument word.
use Rattle.std.specs.Prelude.{◌≡◌, List, [], ◌∷◌, ◌++◌, Bool, true, false, codes, drop, map, replicate, slice_get, Some}
use Rattle.rw_base.specs.declared.width.Width.TheVariants.{Q}
use Rattle.rw_words.specs.declared.atom.Atom.TheVariants.{Ptr, End}
use Rattle.rw_words.specs.declared.atom.Cell.{Cell}
use Rattle.rw_words.specs.declared.atom.Cell.TheVariants.{Num, Undef}
use Rattle.rw_words.specs.Words.{number_cells, atom_cells}
use Rattle.rw_code.specs.Ground.{Ground}
use Rattle.rw_code.specs.Start.{Start, stack_row, words_start}

-- "ab" behind the program's name
abbrev pub one_word : Start
one_word = record { words = (0x61 ∷ 0x62 ∷ []) ∷ []; canary = 0 ∷ 1 ∷ 2 ∷ 3 ∷ 4 ∷ 5 ∷ 6 ∷ 7 ∷ []; stack = 65536 }

-- the regions: data 0, counters 1, stack 2, arguments 3, canary 4
abbrev pub one_region : Bool → Ground
one_region hosted = record {
  regions = record { size = 8; align = 8; writable = true; zero = true } ∷ [];
  places = 0x4000 ∷ [];
  contents = replicate 8 (Num 0) ∷ [];
  holes = [];
  counters = 0;
  hosted = hosted;
  entry = 0x1000;
}

-- two pointers, the two zero words, and the words with a zero byte behind each
abbrev pub first_arguments : List Cell
first_arguments =
    atom_cells (Ptr 3 32) ++ atom_cells (Ptr 3 40) ++ replicate 16 (Num 0) ++ map Num (codes "program") ++ Num 0 ∷ Num 0x61 ∷ Num 0x62 ∷ Num 0 ∷ []

-- main is called with rdi, rsi and rdx: 2, the pointers to the words, and the second zero word
pub record HostedWords : Type 0 where
  pub count : slice_get (words_start (one_region true) one_word).registers 7 ≡ Some (number_cells Q 2)
  pub words : slice_get (words_start (one_region true) one_word).registers 6 ≡ Some (atom_cells (Ptr 3 0))
  pub environment : slice_get (words_start (one_region true) one_word).registers 2 ≡ Some (atom_cells (Ptr 3 24))
  pub stack : slice_get (words_start (one_region true) one_word).registers 4 ≡ Some (atom_cells (Ptr 2 65528))
  pub returns : drop 65528 (stack_row (one_region true) one_word) ≡ atom_cells End
  pub arguments : slice_get (words_start (one_region true) one_word).memory 3 ≡ Some first_arguments

-- else the count, the pointers and four zero words stand at %rsp
pub record OwnWords : Type 0 where
  pub stack : slice_get (words_start (one_region false) one_word).registers 4 ≡ Some (atom_cells (Ptr 2 65472))
  pub words : drop 65472 (stack_row (one_region false) one_word) ≡ number_cells Q 2 ++ atom_cells (Ptr 3 32) ++ atom_cells (Ptr 3 40) ++ replicate 32 (Num 0) ++ replicate 8 Undef
  pub arguments : slice_get (words_start (one_region false) one_word).memory 3 ≡ Some first_arguments
