-- The regions of a run of a text, and when the rule of layouts has room for them.
use Rattle.std.specs.Prelude.{◌≡◌, ℕ, ◌+◌, ◌*◌, ◌%◌, ◌^◌, ◌<◌, ◌≤◌, Contains, List, [], ◌∷◌, ◌++◌, length, map, max, Some, slice_get}
use Rattle.std.specs.List.{sum_by}
use Rattle.asm_items.specs.Formed.{AreItems}
use Rattle.asm_items.specs.Lines.{Items, DataSection, align_of, copies_number, copies_of, counters_size, sections_of, size_of, used_names}
use Rattle.asm_items.specs.Layout.{Extent}
use Rattle.rw_layout.specs.Checks.{IsProgram}
use Rattle.rw_layout.specs.Rule.{copy_extent, functions_number}

-- what a run has besides the data of its text: the bytes of its stack and of its arguments, and the regions that come during it
pub record RunRegions : Type 0 where
  pub stack : ℕ
  pub arguments : ℕ
  pub fresh : List Extent

abbrev pub section_extent : DataSection → Extent
section_extent section = record { size = size_of section.lines; align = align_of section.lines }

-- The regions of a run in their order: the sections, the copies and the counters of the text, the stack, the arguments, the
-- canary of eight bytes, and those that come during the run.
abbrev pub run_extents : Items → RunRegions → List Extent
run_extents items run =
    (map section_extent (sections_of items) ++ map copy_extent (copies_of items) ++ record { size = counters_size items; align = 8 } ∷ [])
    ++ record { size = run.stack; align = 4096 } ∷ record { size = run.arguments; align = 16 } ∷ record { size = 8; align = 8 } ∷ run.fresh

abbrev pub fresh_sizes : RunRegions → List ℕ
fresh_sizes run = map (λ a. a.size) run.fresh

-- A program whose lines are items of a text. There are fewer than 2 ^ 32 of them, and fewer than 2 ^ 24 functions and sections.
pub record IsSmallProgram (items : Items) : Type 0 where
  pub program : IsProgram items
  pub formed : AreItems items
  pub lines : length items < 2 ^ 32
  pub units : functions_number items + copies_number items < 2 ^ 24

-- The stack has at most 2 ^ 24 bytes, and the arguments lie behind it, below 2 ^ 46. The regions that come during the run have
-- alignments that divide 16, and lie behind 2 ^ 46. Each takes up to 31 bytes besides its own: up to 15 before it, and 16 behind
-- it. With these they have at most 2 ^ 46 bytes.
pub record HasRoom (run : RunRegions) : Type 0 where
  pub stack : run.stack ≤ 2 ^ 24
  pub arguments : 2 ^ 45 + 2 ^ 24 + run.arguments ≤ 2 ^ 46
  pub fresh_aligned : (r : ℕ) (a : Extent) → slice_get run.fresh r ≡ Some a → 16 % max 1 a.align ≡ 0
  pub fresh_size : sum_by (λ a. a.size) run.fresh + 31 * length run.fresh ≤ 2 ^ 46

-- names that lines use: others have no address of their own
abbrev pub AreUsed : Items → List (List ℕ) → Type 0
AreUsed items names = (name : List ℕ) → Contains names name → Contains (used_names items) name
