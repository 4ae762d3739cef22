-- Where the lines of a text lie in their units.
use Rattle.std.proofs.Common.{◌≡◌, ℕ, zero, suc, ◌+◌, ◌-◌, ◌<◌, ◌≤◌, Bool, true, false, cond, not, List, [], ◌∷◌, ◌++◌, take, drop, reverse, append-nil, append_assoc, add-one, Some, refl, sym, ap, subst, ◌∙◌, arith, count_by, slice_get, slice_index, take_while, if◌then◌else◌}
use Rattle.std.proofs.lemmas.List.{reverse-append}
use Rattle.std.proofs.lemmas.List.Sums.{sum_by-cons, sum_by-append, take_while-cons}
use Rattle.asm_items.specs.declared.item.Item.{Item}
use Rattle.asm_items.specs.declared.item.Item.TheVariants.{TextHead, Label, SectionHead, CountsHead, Tail}
use Rattle.asm_items.specs.Lines.{Items, begins_section, lines_from}
use Rattle.asm_items.specs.Layout.{Extent, labels_before}
use Rattle.rw_layout.specs.declared.laying.Order.{Order}
use Rattle.rw_layout.specs.Rule.{placed_size, placed_size_of, function_unit, data_unit, units_of, unit_bases, line_address}
use Rattle.rw_layout.proofs.Lines.{take-next}

-- ---- lines that begin a unit

abbrev pub begun : Items → ℕ
begun items = count_by begins_section items

abbrev pub begins : Item (List ℕ) → ℕ
begins item = cond (begins_section item) 1 0

pub begun-cons : (item : Item (List ℕ)) (items : Items) → begun (item ∷ items) ≡ begins item + begun items
begun-cons item items = sum_by-cons begins item items

pub begun-append : (xs ys : Items) → begun (xs ++ ys) ≡ begun xs + begun ys
begun-append xs ys = sum_by-append begins xs ys

pub placed-cons : (item : Item (List ℕ)) (items : Items) → placed_size_of (item ∷ items) ≡ placed_size item + placed_size_of items
placed-cons item items = sum_by-cons placed_size item items

abbrev goes_on : Item (List ℕ) → Bool
goes_on item = not (begins_section item)

pub lines-on : (item : Item (List ℕ)) (items : Items) → begins_section item ≡ false → lines_from (item ∷ items) ≡ item ∷ lines_from items
lines-on item items e = take_while-cons goes_on item items ∙ ap (λ t. cond (not t) (item ∷ lines_from items) []) e

pub lines-none : (item : Item (List ℕ)) (items : Items) → begins_section item ≡ true → lines_from (item ∷ items) ≡ []
lines-none item items e = take_while-cons goes_on item items ∙ ap (λ t. cond (not t) (item ∷ lines_from items) []) e

-- ---- the offset in a unit behind lines

abbrev pub offset_next : ℕ → Item (List ℕ) → ℕ
offset_next offset item = if begins_section item then 0 else offset + placed_size item

abbrev pub offset_behind : ℕ → Items → ℕ
offset_behind offset [] = offset
offset_behind offset (item ∷ items) = offset_behind (offset_next offset item) items

pub next-on : (offset : ℕ) (item : Item (List ℕ)) → begins_section item ≡ false → offset_next offset item ≡ offset + placed_size item
next-on offset item e = ap (λ t. if t then 0 else offset + placed_size item) e

pub next-begun : (offset : ℕ) (item : Item (List ℕ)) → begins_section item ≡ true → offset_next offset item ≡ 0
next-begun offset item e = ap (λ t. if t then 0 else offset + placed_size item) e

pub offset-append : (offset : ℕ) (xs ys : Items) → offset_behind offset (xs ++ ys) ≡ offset_behind (offset_behind offset xs) ys
offset-append offset [] ys = refl
offset-append offset (x ∷ xs) ys = offset-append (offset_next offset x) xs ys

-- behind lines of which none begins a unit
pub offset-on : (offset : ℕ) (items : Items) → begun items ≡ 0 → offset_behind offset items ≡ offset + placed_size_of items
offset-on offset [] none = omega arith
offset-on offset (item ∷ items) none = by_head (λ h. offset-on (offset + placed_size item) items h) (begins_section item) refl
  where
    by_head : (begun items ≡ 0 → offset_behind (offset + placed_size item) items ≡ offset + placed_size item + placed_size_of items)
        → (t : Bool) → begins_section item ≡ t → offset_behind offset (item ∷ items) ≡ offset + placed_size_of (item ∷ items)
    by_head rec true e =
        let sum = begun-cons item items in
        let one : begins item ≡ 1 = ap (λ t. cond t 1 0) e in
        absurd (omega (arith, sum, one, none))
    by_head rec false e =
        let sum = begun-cons item items in
        let rest = rec (omega (arith, sum, none)) in
        let size = placed-cons item items in
        ap (λ n. offset_behind n items) (next-on offset item e) ∙ omega (arith, rest, size)

abbrev before_end : Items → ℕ
before_end items = placed_size_of (take_while goes_on (reverse items))

before-more : (items : Items) (item : Item (List ℕ)) → before_end (items ++ item ∷ []) ≡ offset_next (before_end items) item
before-more items item =
    let turned : reverse (items ++ item ∷ []) ≡ item ∷ reverse items = reverse-append items (item ∷ []) in
    ap (λ xs. placed_size_of (take_while goes_on xs)) turned ∙ ap placed_size_of (take_while-cons goes_on item (reverse items)) ∙ by_head (begins_section item)
  where
    by_head : (t : Bool) → placed_size_of (cond (not t) (item ∷ take_while goes_on (reverse items)) []) ≡ (if t then 0 else before_end items + placed_size item)
    by_head true = refl
    by_head false = let sum = placed-cons item (take_while goes_on (reverse items)) in omega (arith, sum)

before-all : (xs ys : Items) → offset_behind (before_end xs) ys ≡ before_end (xs ++ ys)
before-all xs [] = ap before_end (sym (append-nil xs))
before-all xs (y ∷ ys) = ap (λ n. offset_behind n ys) (sym (before-more xs y)) ∙ before-all (xs ++ y ∷ []) ys ∙ ap before_end (append_assoc xs (y ∷ []) ys)

-- ---- places of lines

abbrev pub begun_before : Items → ℕ → ℕ
begun_before items q = begun (take q items)

abbrev pub offset_at : Items → ℕ → ℕ
offset_at items q = offset_behind 0 (take q items)

pub line-address : (items : Items) (order : Order) (gap q : ℕ) → line_address items order gap q ≡ slice_index (unit_bases items order gap) (begun_before items q - 1) + offset_at items q
line-address items order gap q = ap (λ n. slice_index (unit_bases items order gap) (begun_before items q - 1) + n) (sym (before-all [] (take q items)))

take-one : (items : Items) (q : ℕ) (item : Item (List ℕ)) → slice_get items q ≡ Some item → take (suc q) items ≡ take q items ++ item ∷ []
take-one items q item e = ap (λ n. take n items) (sym (add-one q)) ∙ take-next items q item e

pub offset-more : (items : Items) (q : ℕ) (item : Item (List ℕ)) → slice_get items q ≡ Some item → offset_at items (suc q) ≡ offset_next (offset_at items q) item
offset-more items q item e = ap (offset_behind 0) (take-one items q item e) ∙ offset-append 0 (take q items) (item ∷ [])

pub begun-more : (items : Items) (q : ℕ) (item : Item (List ℕ)) → slice_get items q ≡ Some item → begun_before items (suc q) ≡ begun_before items q + begins item
begun-more items q item e =
    let same = ap begun (take-one items q item e) in
    let sum = begun-append (take q items) (item ∷ []) in
    let one = begun-cons item [] in
    omega (arith, same, sum, one)

-- ---- labels take no place

pub offset-labels : (offset : ℕ) (items : Items) (q : ℕ) → offset_behind offset (take (q + labels_before (drop q items)) items) ≡ offset_behind offset (take q items)
offset-labels offset [] zero = refl
offset-labels offset [] (suc q) =
    let same : suc q + 0 ≡ suc (q + 0) = omega arith in
    ap (λ n. offset_behind offset (take n [])) same
offset-labels offset (Label l ∷ items) zero =
    let same : 0 + labels_before (Label l ∷ items) ≡ suc (0 + labels_before items) = omega arith in
    let none : offset + 0 ≡ offset = omega arith in
    ap (λ n. offset_behind offset (take n (Label l ∷ items))) same ∙ ap (λ n. offset_behind n (take (0 + labels_before items) items)) none ∙ offset-labels offset items 0
offset-labels offset (item ∷ items) zero = refl
offset-labels offset (item ∷ items) (suc q) =
    let same : suc q + labels_before (drop q items) ≡ suc (q + labels_before (drop q items)) = omega arith in
    ap (λ n. offset_behind offset (take n (item ∷ items))) same ∙ offset-labels (offset_next offset item) items q

pub begun-labels : (items : Items) (q : ℕ) → begun (take (q + labels_before (drop q items)) items) ≡ begun (take q items)
begun-labels [] zero = refl
begun-labels [] (suc q) =
    let same : suc q + 0 ≡ suc (q + 0) = omega arith in
    ap (λ n. begun (take n [])) same
begun-labels (Label l ∷ items) zero =
    let same : 0 + labels_before (Label l ∷ items) ≡ suc (0 + labels_before items) = omega arith in
    let one = begun-cons (Label l) (take (0 + labels_before items) items) in
    let rest = begun-labels items 0 in
    ap (λ n. begun (take n (Label l ∷ items))) same ∙ omega (arith, one, rest)
begun-labels (item ∷ items) zero = refl
begun-labels (item ∷ items) (suc q) =
    let same : suc q + labels_before (drop q items) ≡ suc (q + labels_before (drop q items)) = omega arith in
    let one = begun-cons item (take (q + labels_before (drop q items)) items) in
    let other = begun-cons item (take q items) in
    let rest = begun-labels items q in
    ap (λ n. begun (take n (item ∷ items))) same ∙ omega (arith, one, other, rest)

-- ---- lines of one unit are apart

pub offset-apart : (offset : ℕ) (items : Items) (q p : ℕ) (item : Item (List ℕ)) → q < p → slice_get items q ≡ Some item → begins_section item ≡ false
    → begun (take q items) ≡ begun (take p items) → offset_behind offset (take q items) + placed_size item ≤ offset_behind offset (take p items)
offset-apart offset [] q p item before e on same = cc
offset-apart offset (x ∷ items) q zero item before e on same = absurd (omega (arith, before))
offset-apart offset (x ∷ items) zero (suc p) item before e on same =
    let is : x ≡ item = cc in
    let one = begun-cons x (take p items) in
    let goes = subst (λ z. begins_section z ≡ false) (sym is) on in
    let rest = offset-on (offset + placed_size x) (take p items) (omega (arith, one, same)) in
    let next = ap (λ n. offset_behind n (take p items)) (next-on offset x goes) in
    let size = ap placed_size is in
    omega (arith, rest, next, size)
offset-apart offset (x ∷ items) (suc q) (suc p) item before e on same =
    let one = begun-cons x (take q items) in
    let other = begun-cons x (take p items) in
    offset-apart (offset_next offset x) items q p item (omega (arith, before)) e on (omega (arith, one, other, same))

-- ---- the unit of a line

-- the line that ends the text is the last
abbrev pub EndsAtTail : Items → Type 0
EndsAtTail [] = Unit {0}
EndsAtTail (Tail ∷ items) = items ≡ []
EndsAtTail (_ ∷ items) = EndsAtTail items

-- a unit that goes on to this offset or further
pub record GoesTo (units : List Extent) (k offset : ℕ) : Type 0 where
  pub unit : Extent
  pub here : slice_get units k ≡ Some unit
  pub fits : offset ≤ unit.size

pub in-first : (offset : ℕ) (items : Items) (q : ℕ) (item : Item (List ℕ)) → slice_get items q ≡ Some item → begins_section item ≡ false → begun (take q items) ≡ 0
    → offset_behind offset (take q items) + placed_size item ≤ offset + placed_size_of (lines_from items)
in-first offset [] q item e on none = cc
in-first offset (x ∷ items) zero item e on none =
    let is : x ≡ item = cc in
    let goes = subst (λ z. begins_section z ≡ false) (sym is) on in
    let lines = ap placed_size_of (lines-on x items goes) in
    let sum = placed-cons x (lines_from items) in
    let size = ap placed_size is in
    omega (arith, lines, sum, size)
in-first offset (x ∷ items) (suc q) item e on none = by_head (λ h. in-first (offset + placed_size x) items q item e on h) (begins_section x) refl
  where
    by_head : (begun (take q items) ≡ 0 → offset_behind (offset + placed_size x) (take q items) + placed_size item ≤ offset + placed_size x + placed_size_of (lines_from items))
        → (t : Bool) → begins_section x ≡ t → offset_behind offset (take (suc q) (x ∷ items)) + placed_size item ≤ offset + placed_size_of (lines_from (x ∷ items))
    by_head rec true f =
        let one = begun-cons x (take q items) in
        let bit : begins x ≡ 1 = ap (λ t. cond t 1 0) f in
        absurd (omega (arith, one, bit, none))
    by_head rec false f =
        let one = begun-cons x (take q items) in
        let rest = rec (omega (arith, one, none)) in
        let next = ap (λ n. offset_behind n (take q items)) (next-on offset x f) in
        let lines = ap placed_size_of (lines-on x items f) in
        let sum = placed-cons x (lines_from items) in
        omega (arith, rest, next, lines, sum)

-- where a unit begins, a line behind is in it or in a later one
behind-head : (unit : Extent) (items : Items) (q : ℕ) (item : Item (List ℕ)) (k : ℕ) → unit.size ≡ placed_size_of (lines_from items)
    → slice_get items q ≡ Some item → begins_section item ≡ false
    → ((j : ℕ) → begun (take q items) ≡ suc j → GoesTo (units_of items) j (offset_behind 0 (take q items) + placed_size item))
    → begun (take q items) ≡ k → GoesTo (unit ∷ units_of items) k (offset_behind 0 (take q items) + placed_size item)
behind-head unit items q item zero size e on rec same =
    let first = in-first 0 items q item e on same in
    record { unit = unit; here = refl; fits = omega (arith, first, size) }
behind-head unit items q item (suc k) size e on rec same = let rest = rec k same in record { unit = rest.unit; here = rest.here; fits = rest.fits }

pub in-unit : (offset : ℕ) (items : Items) (q : ℕ) (item : Item (List ℕ)) (k : ℕ) → EndsAtTail items → slice_get items q ≡ Some item → begins_section item ≡ false
    → begun (take q items) ≡ suc k → GoesTo (units_of items) k (offset_behind offset (take q items) + placed_size item)
in-unit offset [] q item k order e on same = cc
in-unit offset (x ∷ items) zero item k order e on same = absurd (omega (arith, same))
in-unit offset (TextHead ∷ items) (suc q) item k order e on same =
    let one = begun-cons TextHead (take q items) in
    behind-head (function_unit (lines_from items)) items q item k refl e on (λ j f. in-unit 0 items q item j order e on f) (omega (arith, one, same))
in-unit offset (SectionHead n writable nobits ∷ items) (suc q) item k order e on same =
    let one = begun-cons (SectionHead n writable nobits) (take q items) in
    behind-head (data_unit (lines_from items)) items q item k refl e on (λ j f. in-unit 0 items q item j order e on f) (omega (arith, one, same))
in-unit offset (CountsHead ∷ items) (suc q) item k order e on same =
    let one = begun-cons CountsHead (take q items) in
    behind-head (data_unit (lines_from items)) items q item k refl e on (λ j f. in-unit 0 items q item j order e on f) (omega (arith, one, same))
in-unit offset (Tail ∷ items) (suc q) item k order e on same = none items order e
  where
    none : (xs : Items) → xs ≡ [] → slice_get xs q ≡ Some item → GoesTo (units_of (Tail ∷ items)) k (offset_behind offset (take (suc q) (Tail ∷ items)) + placed_size item)
    none [] f g = cc
    none (y ∷ ys) f g = cc
in-unit offset (x ∷ items) (suc q) item k order e on same =
    let one = begun-cons x (take q items) in
    in-unit (offset + placed_size x) items q item k order e on (omega (arith, one, same))
