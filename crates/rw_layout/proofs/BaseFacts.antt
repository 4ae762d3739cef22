-- Placing one after another.
use Rattle.std.proofs.Common.{◌≡◌, ℕ, ◌+◌, ◌≤◌, ◌<◌, List, [], ◌∷◌, length, drop, map, arith}
use Rattle.std.specs.Prelude.{slice_index_or}
use Rattle.std.specs.Int.{next_multiple_of}
use Rattle.std.proofs.lemmas.List.{at_drop_more}
use Rattle.asm_items.specs.Layout.{Extent}
use Rattle.rw_layout.specs.Rule.{behind, bases_from, behind_all}
use Rattle.rw_layout.specs.declared.units.Room.{Room}
use Rattle.rw_layout.specs.Units.{extent_of}

pub next-le : (x y : ℕ) → x ≤ next_multiple_of x y
next-le x y = omega arith

pub cursor-le : (gap cursor : ℕ) (placed : List Extent) → cursor ≤ behind_all gap cursor placed
cursor-le gap cursor [] = omega arith
cursor-le gap cursor (one ∷ others) =
    let first = next-le cursor one.align in
    let rest = cursor-le gap (behind gap cursor one) others in
    omega (arith, first, rest)

-- one is placed more
module _ (rooms : List Room) (gap : ℕ) (i : ℕ) (d : Room) (at : i < length rooms) (end : ℕ) where
  pub bases-more : bases_from gap end (map extent_of (drop i rooms))
      ≡ next_multiple_of end (slice_index_or rooms i d).align ∷ bases_from gap (behind gap end (extent_of (slice_index_or rooms i d))) (map extent_of (drop (i + 1) rooms))
  bases-more = at_drop_more (λ rs. bases_from gap end (map extent_of rs)) rooms i d at

  pub end-more : behind_all gap end (map extent_of (drop i rooms)) ≡ behind_all gap (behind gap end (extent_of (slice_index_or rooms i d))) (map extent_of (drop (i + 1) rooms))
  end-more = at_drop_more (λ rs. behind_all gap end (map extent_of rs)) rooms i d at

  pub behind-le : (most : ℕ) → behind_all gap end (map extent_of (drop i rooms)) ≡ most → next_multiple_of end (slice_index_or rooms i d).align + (slice_index_or rooms i d).size + gap ≤ most
  behind-le most e =
      let rest = cursor-le gap (behind gap end (extent_of (slice_index_or rooms i d))) (map extent_of (drop (i + 1) rooms)) in
      let more = end-more in
      omega (arith, rest, more, e)
