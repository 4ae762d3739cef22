-- How a program starts (System V AMD64 psABI, 3.4.1): its argument words, its stack and the canary.
use Rattle.std.specs.Prelude.{◌≡◌, ℕ, ◌+◌, ◌-◌, ◌*◌, ◌/◌, ◌%◌, ◌^◌, ◌<◌, ◌≤◌, List, [], ◌∷◌, ◌++◌, length, map, replicate, sum_by, codes, All, true, false, Some, None, if◌then◌else◌}
use Rattle.std.specs.List.{range_with_len}
use Rattle.rw_base.specs.declared.width.Width.TheVariants.{Q}
use Rattle.rw_words.specs.declared.atom.Atom.TheVariants.{Ptr, End}
use Rattle.rw_words.specs.declared.atom.Cell.{Cell}
use Rattle.rw_words.specs.declared.atom.Cell.TheVariants.{Num, Undef}
use Rattle.rw_words.specs.Words.{number_cells, atom_cells, undefined_cells}
use Rattle.rw_domain.specs.declared.place.Region.{Region}
use Rattle.rw_domain.specs.Placed.{Placed}
use Rattle.rw_machine.specs.Running.{unknown_flags}
use Rattle.rw_machine.specs.Step.{Machine}
use Rattle.rw_code.specs.declared.point.FilePoint.{FilePoint}
use Rattle.rw_code.specs.declared.point.FilePoint.TheVariants.{At}
use Rattle.rw_code.specs.Ground.{Ground}

-- the argument words behind the program's name, the eight bytes of the canary, and the size of the stack
pub record Start : Type 0 where
  pub words : List (List ℕ)
  pub canary : List ℕ
  pub stack : ℕ

-- the name of the program comes first
abbrev pub all_words : Start → List (List ℕ)
all_words start = codes "program" ∷ start.words

abbrev pub word_count : Start → ℕ
word_count start = length (all_words start)

-- the bytes of the words, each with a zero byte behind it
abbrev pub words_size : Start → ℕ
words_size start = sum_by (λ word. length word + 1) (all_words start)

-- the words are bytes without zeros and take 4,096 bytes at most; the stack has whole pages, 64 KiB to 1 GiB
pub record IsStart (start : Start) : Type 0 where
  pub bytes : All (λ word. All (λ b. (0 < b) × (b < 256)) word) start.words
  pub short : words_size start ≤ 4096
  pub canary : length start.canary ≡ 8
  pub canary_bytes : All (λ b. b < 256) start.canary
  pub pages : start.stack % 4096 ≡ 0
  pub least : 65536 ≤ start.stack
  pub most : start.stack ≤ 2 ^ 30

-- a pointer for each word, two zero words, and the words
abbrev pub texts_offset : Start → ℕ
texts_offset start = 8 * (word_count start + 2)

-- The regions: those of the file, the counters, the stack, the arguments and the canary. Answers bring more behind them.
abbrev pub start_regions : Ground → Start → List Region
start_regions file_ground start =
    record { size = file_ground.counters; align = 8; writable = true; zero = true }
    ∷ record { size = start.stack; align = 4096; writable = true; zero = false }
    ∷ record { size = texts_offset start + words_size start; align = 16; writable = true; zero = false }
    ∷ record { size = 8; align = 8; writable = false; zero = false } ∷ []

abbrev pub regions_of : Ground → Start → List Region
regions_of file_ground start = file_ground.regions ++ start_regions file_ground start

-- the numbers of these regions
abbrev pub counters_number : Ground → ℕ
counters_number file_ground = length file_ground.regions

abbrev pub stack_number : Ground → ℕ
stack_number file_ground = length file_ground.regions + 1

abbrev pub arguments_number : Ground → ℕ
arguments_number file_ground = length file_ground.regions + 2

abbrev pub canary_number : Ground → ℕ
canary_number file_ground = length file_ground.regions + 3

-- pointers to the words, the first of which stands at an offset of a region
abbrev pub pointers : ℕ → ℕ → List (List ℕ) → List Cell
pointers region at [] = []
pointers region at (word ∷ words) = atom_cells (Ptr region at) ++ pointers region (at + length word + 1) words

abbrev pub text_cells : List (List ℕ) → List Cell
text_cells [] = []
text_cells (word ∷ words) = map Num word ++ Num 0 ∷ text_cells words

abbrev pub zero_words : ℕ → List Cell
zero_words k = replicate (8 * k) (Num 0)

abbrev pub pointers_row : Ground → Start → List Cell
pointers_row file_ground start = pointers (arguments_number file_ground) (texts_offset start) (all_words start)

abbrev pub arguments_row : Ground → Start → List Cell
arguments_row file_ground start = pointers_row file_ground start ++ zero_words 2 ++ text_cells (all_words start)

-- ---- a start without a C library

-- The count of the words, the pointers and four zero words stand at %rsp, which is the greatest multiple of 16 that
-- leaves room for them at the stack's end.
abbrev pub first_size : Start → ℕ
first_size start = 8 * (word_count start + 5)

abbrev pub first_offset : Start → ℕ
first_offset start = (start.stack - first_size start) / 16 * 16

abbrev pub own_stack : Ground → Start → List Cell
own_stack file_ground start =
    replicate (first_offset start) Undef ++ number_cells Q (word_count start) ++ pointers_row file_ground start ++ zero_words 4
    ++ replicate (start.stack - (first_offset start + first_size start)) Undef

-- all is unknown but %rsp
abbrev pub own_registers : Ground → Start → List (List Cell)
own_registers file_ground start =
    replicate 4 (undefined_cells Q) ++ atom_cells (Ptr (stack_number file_ground) (first_offset start)) ∷ replicate 11 (undefined_cells Q)

-- ---- a start by a C library, which calls main (ISO C, 5.1.2.2.1; psABI, 3.2.3)

-- the word to which main returns stands at %rsp, which is the stack's last word
abbrev pub hosted_offset : Start → ℕ
hosted_offset start = start.stack - 8

abbrev pub hosted_stack : Start → List Cell
hosted_stack start = replicate (hosted_offset start) Undef ++ atom_cells End

-- the second of the two zero words behind the pointers: the environment is empty
abbrev pub environment_offset : Start → ℕ
environment_offset start = 8 * (word_count start + 1)

-- rdx points to the environment, rsi to the pointers to the words, and rdi has their count
abbrev pub hosted_registers : Ground → Start → List (List Cell)
hosted_registers file_ground start =
    replicate 2 (undefined_cells Q) ++ atom_cells (Ptr (arguments_number file_ground) (environment_offset start))
    ∷ undefined_cells Q ∷ atom_cells (Ptr (stack_number file_ground) (hosted_offset start))
    ∷ undefined_cells Q ∷ atom_cells (Ptr (arguments_number file_ground) 0) ∷ number_cells Q (word_count start) ∷ replicate 8 (undefined_cells Q)

-- ---- the machine at its start

abbrev pub stack_row : Ground → Start → List Cell
stack_row file_ground start = if file_ground.hosted then hosted_stack start else own_stack file_ground start

abbrev pub first_registers : Ground → Start → List (List Cell)
first_registers file_ground start = if file_ground.hosted then hosted_registers file_ground start else own_registers file_ground start

abbrev pub first_rows : Ground → Start → List (List Cell)
first_rows file_ground start =
    file_ground.contents ++ replicate file_ground.counters (Num 0) ∷ stack_row file_ground start ∷ arguments_row file_ground start ∷ map Num start.canary ∷ []

-- the regions over words, and over numbers where they have bases
abbrev pub words_placed : Ground → Start → Placed
words_placed file_ground start = record { regions = regions_of file_ground start; bases = None; holes = file_ground.holes; canary = canary_number file_ground }

abbrev pub numbers_placed : Ground → Start → (ℕ → ℕ) → Placed
numbers_placed file_ground start base = record {
  regions = regions_of file_ground start;
  bases = Some (map base (range_with_len 0 (length (regions_of file_ground start))));
  holes = file_ground.holes;
  canary = canary_number file_ground;
}

-- the symbolic machine at its start
abbrev pub words_start : Ground → Start → Machine Placed (List Cell) Cell FilePoint
words_start file_ground start = record {
  registers = first_registers file_ground start;
  flags = unknown_flags;
  memory = first_rows file_ground start;
  placed = words_placed file_ground start;
  point = At file_ground.entry;
}
