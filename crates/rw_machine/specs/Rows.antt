-- Rows of memory.
use Rattle.std.specs.Prelude.{◌≡◌, ◌==◌, ◌-◌, ℕ, min, max, List, [], ◌++◌, map, take, drop, replicate, slice_get, slice_index_or, option_and_then, Option, if◌then◌else◌}
use Rattle.rw_domain.specs.declared.place.Place.{Place}
use Rattle.rw_machine.specs.declared.marks.Marks.{Marks}

-- bytes of a row are marked: the first, and those from one offset up to another; they are one byte
pub record AreMarked {C : Type 0} (b : C) (row : List C) (m : Marks) : Type 0 where
  pub first : take m.count row ≡ replicate m.count b
  pub behind : take (m.to - m.from) (drop m.from row) ≡ replicate (m.to - m.from) b

abbrev pub AreForgotten : {C : Type 0} → C → List (List C) → Marks → Type 0
AreForgotten b rows m = AreMarked b (slice_index_or rows m.region []) m

-- so many first bytes of a region
abbrev pub first_marks : ℕ → ℕ → Marks
first_marks region count = record { region = region; count = count; from = 0; to = count }

-- the marks that a write from a place up to an offset leaves: those before it, and those behind it
abbrev pub marks_left : Marks → Place → ℕ → Marks
marks_left m at end = if at.region == m.region then record m { count = min m.count at.offset; from = max m.from end } else m

-- a row with its first bytes replaced
abbrev pub front_replaced : {C : Type 0} → List C → ℕ → C → List C
front_replaced row count b = map (λ _. b) (take count row) ++ drop count row

-- the byte at a place
abbrev pub byte_at : {C : Type 0} → List (List C) → Place → Option C
byte_at rows place = option_and_then (λ row. slice_get row place.offset) (slice_get rows place.region)
