-- The units of a text, one line more before the others.
use Rattle.std.proofs.Common.{◌≡◌, ℕ, zero, suc, ◌+◌, ◌≤◌, Bool, true, false, List, [], ◌∷◌, Some, None, Option, drop, refl, ap, sym, ◌∙◌, arith, length, cond}
use Rattle.std.specs.Prelude.{slice_get, if◌then◌else◌}
use Rattle.std.proofs.lemmas.List.Sums.{count_by-le-length, sum_by-cons, sum_by-take-drop}
use Rattle.asm_items.specs.declared.item.Item.{Item}
use Rattle.asm_items.specs.declared.item.Item.TheVariants.{TextHead, Align, SectionHead, CountsHead}
use Rattle.asm_items.specs.Lines.{Items, align_of, begins_section, copies_number, lines_from}
use Rattle.asm_items.specs.Layout.{Extent}
use Rattle.rw_layout.proofs.SizeFacts.{lines-by}
use Rattle.rw_layout.specs.Rule.{placed_size, placed_size_of, units_of, functions_number, is_text_head}
use Rattle.rw_layout.specs.declared.units.Room.{Room}
use Rattle.rw_layout.specs.Units.{extent_of, lines_room, align_with, room_with, unit_begun, counts_of, counts_with}

pub drop-at : {A : Type 0} (xs : List A) (i : ℕ) (x : A) → slice_get xs i ≡ Some x → drop i xs ≡ x ∷ drop (suc i) xs
drop-at [] i x e = cc
drop-at (y ∷ ys) zero x e = cc
drop-at (y ∷ ys) (suc i) x e = drop-at ys i x e

align-cons : (item : Item (List ℕ)) (rest : Items) → align_of (item ∷ rest) ≡ align_with item (align_of rest)
align-cons (Align k) rest = refl
align-cons _ rest = refl

pub room-step : (item : Item (List ℕ)) (rest : Items) → lines_room (lines_from (item ∷ rest)) ≡ room_with item (lines_room (lines_from rest))
room-step item rest = by_test (begins_section item) refl
  where
    with_test : Bool → Room
    with_test t = if t then record { size = 0; align = 1 } else record { size = placed_size item + placed_size_of (lines_from rest); align = align_with item (align_of (lines_from rest)) }

    by_test : (t : Bool) → begins_section item ≡ t → lines_room (lines_from (item ∷ rest)) ≡ room_with item (lines_room (lines_from rest))
    by_test true e = ap lines_room (lines-by item rest true e) ∙ sym (ap with_test e)
    by_test false e = (ap lines_room (lines-by item rest false e)
        ∙ ap (λ s. record { size = s; align = align_of (item ∷ lines_from rest) }) (sum_by-cons placed_size item (lines_from rest))
        ∙ ap (λ a. record { size = placed_size item + placed_size_of (lines_from rest); align = a }) (align-cons item (lines_from rest))) ∙ sym (ap with_test e)

-- the unit that a line begins stands before the others
abbrev pub with_begun : Option Room → List Extent → List Extent
with_begun None units = units
with_begun (Some room) units = extent_of room ∷ units

pub units-step : (item : Item (List ℕ)) (rest : Items) → units_of (item ∷ rest) ≡ with_begun (unit_begun item (lines_room (lines_from rest))) (units_of rest)
units-step TextHead rest = refl
units-step (SectionHead n writable nobits) rest = refl
units-step CountsHead rest = refl
units-step _ rest = refl

-- one line before those from i on
module _ (items : Items) (k i : ℕ) (next : i ≡ suc k) (item : Item (List ℕ)) (here : slice_get items k ≡ Some item) where
  from-here : drop k items ≡ item ∷ drop i items
  from-here = drop-at items k item here ∙ ap (λ n. item ∷ drop n items) (sym next)

  pub room-before : (room : Room) → room ≡ lines_room (lines_from (drop i items)) → room_with item room ≡ lines_room (lines_from (drop k items))
  room-before room e = ap (room_with item) e ∙ sym (ap (λ xs. lines_room (lines_from xs)) from-here ∙ room-step item (drop i items))

  pub units-before : (room : Room) → room ≡ lines_room (lines_from (drop i items)) → with_begun (unit_begun item room) (units_of (drop i items)) ≡ units_of (drop k items)
  units-before room e = ap (λ r. with_begun (unit_begun item r) (units_of (drop i items))) e ∙ sym (ap units_of from-here ∙ units-step item (drop i items))

lines-le : (xs : Items) → placed_size_of (lines_from xs) ≤ placed_size_of xs
lines-le [] = omega arith
lines-le (x ∷ xs) = by_test (begins_section x) refl (lines-le xs)
  where
    by_test : (t : Bool) → begins_section x ≡ t → placed_size_of (lines_from xs) ≤ placed_size_of xs → placed_size_of (lines_from (x ∷ xs)) ≤ placed_size_of (x ∷ xs)
    by_test true e h = let none = ap placed_size_of (lines-by x xs true e) in omega (arith, none)
    by_test false e h =
        let one = sum_by-cons placed_size x xs in
        let other = sum_by-cons placed_size x (lines_from xs) in
        let is = ap placed_size_of (lines-by x xs false e) in
        omega (arith, one, other, is, h)

-- a line and those behind it have room among all
pub line-le : (items : Items) (k i : ℕ) (next : i ≡ suc k) (item : Item (List ℕ)) (here : slice_get items k ≡ Some item) (room : Room) → room ≡ lines_room (lines_from (drop i items))
    → placed_size item + room.size ≤ placed_size_of items
line-le items k i next item here room e =
    let size : room.size ≡ placed_size_of (lines_from (drop i items)) = ap (λ r. r.size) e in
    let all = sum_by-take-drop placed_size items k in
    let from : placed_size_of (drop k items) ≡ placed_size_of (item ∷ drop i items) = ap placed_size_of (from-here items k i next item here) in
    let one = sum_by-cons placed_size item (drop i items) in
    let within = lines-le (drop i items) in
    omega (arith, size, all, from, one, within)

counts-step : (item : Item (List ℕ)) (rest : Items) → counts_of (item ∷ rest) ≡ counts_with item (counts_of rest)
counts-step item rest = by_item item (sum_by-cons (λ x. cond (is_text_head x) 1 0) item rest)
  where
    by_item : (item : Item (List ℕ)) → functions_number (item ∷ rest) ≡ cond (is_text_head item) 1 0 + functions_number rest → counts_of (item ∷ rest) ≡ counts_with item (counts_of rest)
    by_item TextHead e = ap (λ n. record { functions = n; sections = copies_number rest }) e
    by_item (SectionHead n writable nobits) e =
        let functions : functions_number (SectionHead n writable nobits ∷ rest) ≡ functions_number rest = omega (arith, e) in
        let sections : copies_number (SectionHead n writable nobits ∷ rest) ≡ 1 + copies_number rest = omega arith in
        ap (λ f. record { functions = f; sections = copies_number (SectionHead n writable nobits ∷ rest) }) functions ∙ ap (λ s. record { functions = functions_number rest; sections = s }) sections
    by_item _ e = ap (λ n. record { functions = n; sections = copies_number rest }) (omega (arith, e))

pub counts-before : (items : Items) (k i : ℕ) → i ≡ suc k → (item : Item (List ℕ)) → slice_get items k ≡ Some item → counts_with item (counts_of (drop i items)) ≡ counts_of (drop k items)
counts-before items k i next item here = sym (ap counts_of (drop-at items k item here ∙ ap (λ n. item ∷ drop n items) (sym next)) ∙ counts-step item (drop i items))

pub functions-few : (xs : Items) → functions_number xs ≤ length xs
functions-few xs = count_by-le-length is_text_head xs

pub sections-few : (xs : Items) → copies_number xs ≤ length xs
sections-few [] = omega arith
sections-few (SectionHead n w b ∷ xs) = let rest = sections-few xs in omega (arith, rest)
sections-few (_ ∷ xs) = let rest = sections-few xs in omega (arith, rest)
