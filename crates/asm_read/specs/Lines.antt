-- The lines of a text.
use Rattle.std.specs.Prelude.{◌≡◌, ℕ, ◌-◌, ◌≤◌, Bool, true, List, [], ◌∷◌, length, take, All, slice_index_or, ◌==◌, if◌then◌else◌}
use Rattle.asm_items.specs.declared.item.Item.{Item}
use Rattle.asm_items.specs.Formed.{is_item}
use Rattle.asm_print.specs.Text.{line_text}
use Rattle.asm_print.specs.Pieces.{put_first}

abbrev pub is_feed : ℕ → Bool
is_feed b = b == 10

-- the lines, each with its line feed; the last may have none
unfoldable pub lines_of : List ℕ → List (List ℕ)
lines_of [] = []
lines_of (b ∷ bs) = if is_feed b then (b ∷ []) ∷ lines_of bs else put_first b (lines_of bs)

-- the line of an item of a text
abbrev pub IsLine : List ℕ → Type 0
IsLine line = (item : Item (List ℕ)) × (is_item item ≡ true) × (line_text item ≡ line)

-- the lines before line k, counted from 1, are lines of items, and line k isn't one
pub record IsFirstBad (lines : List (List ℕ)) (k : ℕ) : Type 0 where
  pub from : 1 ≤ k
  pub to : k ≤ length lines
  pub before : All IsLine (take (k - 1) lines)
  pub bad : IsLine (slice_index_or lines (k - 1) []) → ⊥
