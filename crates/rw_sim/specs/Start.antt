-- The start of a program that is simulated: its argument words, the canary and the stack that the simulator takes, and what
-- memory holds before the first words are written.
use Rattle.std.specs.Prelude.{ℕ, ◌+◌, List, [], ◌∷◌, ◌++◌, map, replicate, string_bytes, if◌then◌else◌, String}
use Rattle.std.specs.declared.alloc.Global.{Global}
use Rattle.rw_base.specs.declared.width.Width.TheVariants.{Q}
use Rattle.rw_words.specs.declared.atom.Atom.TheVariants.{End}
use Rattle.rw_words.specs.declared.atom.Cell.{Cell}
use Rattle.rw_words.specs.declared.atom.Cell.TheVariants.{Num, Undef}
use Rattle.rw_words.specs.Words.{number_cells, atom_cells}
use Rattle.rw_domain.specs.Placed.{Placed}
use Rattle.rw_domain.specs.Symbols.{symbols_over}
use Rattle.rw_machine.specs.State.{first_machine}
use Rattle.rw_machine.specs.Step.{Machine}
use Rattle.rw_data.specs.Regions.{start_contents}
use Rattle.rw_code.specs.declared.point.FilePoint.{FilePoint}
use Rattle.rw_code.specs.declared.point.FilePoint.TheVariants.{At}
use Rattle.rw_code.specs.Ground.{Ground, ground_of}
use Rattle.rw_code.specs.Start.{Start, word_count, words_size, texts_offset, pointers_row, zero_words, hosted_offset, first_offset, words_placed}

-- The start with these arguments behind the program's name: the canary has the bytes 0 to 7, and the stack is 1 MiB.
unfoldable pub start_of : List (List ℕ) → Start
start_of words = record { words = words; canary = 0 ∷ 1 ∷ 2 ∷ 3 ∷ 4 ∷ 5 ∷ 6 ∷ 7 ∷ []; stack = 1048576 }

-- the same by the words of a call
abbrev pub start_with : List (String Global) → Start
start_with args = start_of (map string_bytes args)

-- what a start needs of a file, by the first contents of its regions
abbrev pub file_ground : List ℕ → Ground
file_ground file = ground_of file (start_contents file)

-- ---- the parts of a start

-- the offset of %rsp in the stack, and the words that stand there; `own_words` are those of a program without a C library
abbrev pub stack_offset : Ground → Start → ℕ
stack_offset file_ground start = if file_ground.hosted then hosted_offset start else first_offset start

abbrev pub own_words : Ground → Start → List Cell
own_words file_ground start = number_cells Q (word_count start) ++ pointers_row file_ground start ++ zero_words 4

abbrev pub stack_words : Ground → Start → List Cell
stack_words file_ground start = if file_ground.hosted then atom_cells End else own_words file_ground start

-- the machine before anything is written
abbrev pub blank : Ground → Start → Machine Placed (List Cell) Cell FilePoint
blank file_ground start = first_machine (symbols_over (words_placed file_ground start)) (words_placed file_ground start) (At file_ground.entry)

-- memory with the first contents of the file and counters of 0: nothing is known of the stack, of the arguments and of the canary yet
abbrev pub loaded_rows : Ground → Start → List (List Cell)
loaded_rows file_ground start =
    file_ground.contents ++ replicate file_ground.counters (Num 0) ∷ replicate start.stack Undef ∷ replicate (texts_offset start + words_size start) Undef ∷ replicate 8 Undef ∷ []
