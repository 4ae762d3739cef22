-- How large the units of a program are, and how much its lines take.
use Rattle.std.proofs.Common.{◌≡◌, ℕ, zero, suc, ◌+◌, ◌-◌, ◌*◌, ◌^◌, ◌<◌, ◌≤◌, Bool, true, false, List, [], ◌∷◌, length, Some, refl, sym, ap, subst, ◌∙◌, arith, inl, inr, sum_by, slice_get, nat_le, max, ◌%◌, ◌/◌, ◌⊎◌, mul_assoc}
use Rattle.std.proofs.Math.Nat.{pow-le-pow_right, div-add-mod, mul-mod_right}
use Rattle.std.proofs.lemmas.Nat.{pow-add}
use Rattle.std.proofs.lemmas.Bool.{leb-true, leb-false}
use Rattle.std.proofs.lemmas.List.Sums.{sum_by-cons}
use Rattle.asm_items.specs.declared.item.Item.{Item}
use Rattle.asm_items.specs.declared.item.Item.TheVariants.{TextHead, Align, Ins, SectionHead, CountsHead, Tail}
use Rattle.asm_items.specs.Formed.{is_item}
use Rattle.asm_items.specs.Lines.{Items, DataSection, begins_section, lines_from, line_size, size_of, align_of, sections_of, counters_size}
use Rattle.asm_items.specs.Layout.{Extent}
use Rattle.rw_layout.specs.Checks.{sections_size}
use Rattle.rw_layout.specs.Rule.{placed_size, placed_size_of, function_unit, data_unit, units_of}
use Rattle.rw_layout.proofs.UnitLines.{placed-cons, lines-none, lines-on}
use Rattle.rw_layout.proofs.PartsOrder.{AreText, AreData, AreLast, counter_units, last-sections, none-at}

size-cons : (item : Item (List ℕ)) (items : Items) → size_of (item ∷ items) ≡ line_size item + size_of items
size-cons item items = sum_by-cons line_size item items

-- ---- alignments

abbrev pub AreFormed : Items → Type 0
AreFormed items = (p : ℕ) (item : Item (List ℕ)) → slice_get items p ≡ Some item → is_item item ≡ true

-- a power of two up to 2 ^ 16
pub record IsAlign (n : ℕ) : Type 0 where
  pub exponent : ℕ
  pub small : exponent ≤ 16
  pub power : n ≡ 2 ^ exponent

pub align-is : (items : Items) → AreFormed items → IsAlign (align_of (lines_from items))
align-is [] formed = record { exponent = 0; small = omega arith; power = refl }
align-is (Align k ∷ items) formed = record { exponent = k; small = leb-true k 16 (formed 0 (Align k) refl); power = ap align_of (lines-on (Align k) items refl) }
align-is (TextHead ∷ items) formed = record { exponent = 0; small = omega arith; power = ap align_of (lines-none TextHead items refl) }
align-is (SectionHead n w b ∷ items) formed = record { exponent = 0; small = omega arith; power = ap align_of (lines-none (SectionHead n w b) items refl) }
align-is (CountsHead ∷ items) formed = record { exponent = 0; small = omega arith; power = ap align_of (lines-none CountsHead items refl) }
align-is (Tail ∷ items) formed = record { exponent = 0; small = omega arith; power = ap align_of (lines-none Tail items refl) }
align-is (item ∷ items) formed =
    let rest = align-is items (λ p x e. formed (suc p) x e) in
    record { exponent = rest.exponent; small = rest.small; power = ap align_of (lines-on item items refl) ∙ rest.power }

-- the powers of two up to 2 ^ 16, which divide a multiple of the greater of 16 and themselves
abbrev pub GoesWith16 : ℕ → Type 0
GoesWith16 n = (1 ≤ n) × (n ≤ 65536) × ((base : ℕ) → base % max 1 (max 16 n) ≡ 0 → base % max 1 n ≡ 0)

pub divides : (n m base : ℕ) → base % (n * m) ≡ 0 → base % n ≡ 0
divides n m base whole =
    let parts : n * m * (base / (n * m)) + base % (n * m) ≡ base = div-add-mod base (n * m) in
    let product : base ≡ n * (m * (base / (n * m))) = omega (arith, parts, whole, mul_assoc n m (base / (n * m))) in
    ap (λ b. b % n) product ∙ mul-mod_right n (m * (base / (n * m)))

-- a power of two divides 16, or 16 and 8 divide it
abbrev Meets16 : ℕ → Type 0
Meets16 n = ((n ≤ 16) × ((base : ℕ) → base % 16 ≡ 0 → base % n ≡ 0)) ⊎ ((16 ≤ n) × ((base : ℕ) → base % n ≡ 0 → base % 8 ≡ 0))

meets-16 : (k : ℕ) → Meets16 (2 ^ k)
meets-16 k = by_size (nat_le k 4) refl
  where
    by_size : (t : Bool) → nat_le k 4 ≡ t → Meets16 (2 ^ k)
    by_size true e =
        let small : k ≤ 4 = leb-true k 4 e in
        let whole : k + (4 - k) ≡ 4 = omega (arith, small) in
        let product : 16 ≡ 2 ^ k * 2 ^ (4 - k) = sym (ap (λ n. 2 ^ n) whole) ∙ pow-add 2 k (4 - k) in
        let most : 2 ^ k ≤ 2 ^ 4 = pow-le-pow_right (omega arith) small in
        inl (omega (arith, most), λ base h. divides (2 ^ k) (2 ^ (4 - k)) base (subst (λ n. base % n ≡ 0) product h))
    by_size false e =
        let large : 4 < k = leb-false k 4 e in
        let whole : 3 + (k - 3) ≡ k = omega (arith, large) in
        let product : 2 ^ k ≡ 8 * 2 ^ (k - 3) = sym (ap (λ n. 2 ^ n) whole) ∙ pow-add 2 3 (k - 3) in
        let four : 4 ≤ k = omega (arith, large) in
        let least : 2 ^ 4 ≤ 2 ^ k = pow-le-pow_right (omega arith) four in
        inr (omega (arith, least), λ base h. divides 8 (2 ^ (k - 3)) base (subst (λ n. base % n ≡ 0) product h))

goes-with : (n : ℕ) → 1 ≤ n → n ≤ 65536 → Meets16 n → GoesWith16 n
goes-with n some most (inl h) =
    let sixteen : max 1 (max 16 n) ≡ 16 = omega (arith, h.0) in
    let own : max 1 n ≡ n = omega (arith, some) in
    (some, most, λ base e. subst (λ m. base % m ≡ 0) (sym own) (h.1 base (subst (λ m. base % m ≡ 0) sixteen e)))
goes-with n some most (inr h) =
    let own : max 1 (max 16 n) ≡ max 1 n = omega (arith, h.0) in
    (some, most, λ base e. subst (λ m. base % m ≡ 0) own e)

by-exponent : (k : ℕ) → k ≤ 16 → GoesWith16 (2 ^ k)
by-exponent k h =
    let none : 0 ≤ k = omega arith in
    let least : 2 ^ 0 ≤ 2 ^ k = pow-le-pow_right (omega arith) none in
    let most : 2 ^ k ≤ 2 ^ 16 = pow-le-pow_right (omega arith) h in
    goes-with (2 ^ k) (omega (arith, least)) (omega (arith, most)) (meets-16 k)

eight-of : (n base : ℕ) → Meets16 n → base % max 1 (max 16 n) ≡ 0 → base % 8 ≡ 0
eight-of n base (inl h) e =
    let sixteen : max 1 (max 16 n) ≡ 16 = omega (arith, h.0) in
    let whole : base % 16 ≡ 0 = subst (λ m. base % m ≡ 0) sixteen e in
    omega (arith, whole)
eight-of n base (inr h) e =
    let own : max 1 (max 16 n) ≡ n = omega (arith, h.0) in
    h.1 base (subst (λ m. base % m ≡ 0) own e)

pub align-goes : (items : Items) → AreFormed items → GoesWith16 (align_of (lines_from items))
align-goes items formed = let is = align-is items formed in subst GoesWith16 (sym is.power) (by-exponent is.exponent is.small)

-- each unit has an alignment up to 2 ^ 16
pub unit-align : (items : Items) → AreFormed items → (r : ℕ) (a : Extent) → slice_get (units_of items) r ≡ Some a → (0 < a.align) × (a.align ≤ 65536)
unit-align [] formed r a e = cc
unit-align (TextHead ∷ items) formed zero a e = let same : function_unit (lines_from items) ≡ a = cc in let align = ap (λ x. x.align) same in (omega (arith, align), omega (arith, align))
unit-align (TextHead ∷ items) formed (suc r) a e = unit-align items (λ p x f. formed (suc p) x f) r a e
unit-align (SectionHead n w b ∷ items) formed zero a e = data-align items (λ p x f. formed (suc p) x f) a cc
  where
    data-align : (items : Items) → AreFormed items → (a : Extent) → data_unit (lines_from items) ≡ a → (0 < a.align) × (a.align ≤ 65536)
    data-align items formed a same = let align = ap (λ x. x.align) same in let most = (align-goes items formed).1 in (omega (arith, align), omega (arith, align, most))
unit-align (SectionHead n w b ∷ items) formed (suc r) a e = unit-align items (λ p x f. formed (suc p) x f) r a e
unit-align (CountsHead ∷ items) formed zero a e =
    let same : data_unit (lines_from items) ≡ a = cc in
    let align = ap (λ x. x.align) same in
    let most = (align-goes items (λ p x f. formed (suc p) x f)).1 in
    (omega (arith, align), omega (arith, align, most))
unit-align (CountsHead ∷ items) formed (suc r) a e = unit-align items (λ p x f. formed (suc p) x f) r a e
unit-align (item ∷ items) formed r a e = unit-align items (λ p x f. formed (suc p) x f) r a e

-- ---- sizes of units

-- the units take no more than the lines
abbrev units_size : Items → ℕ
units_size items = sum_by (λ a. a.size) (units_of items)

head-size : (unit : Extent) (item : Item (List ℕ)) (items : Items) → unit.size ≡ placed_size_of (lines_from items) → begins_section item ≡ true → placed_size item ≡ 0
    → units_size items + placed_size_of (lines_from items) ≤ placed_size_of items
    → sum_by (λ a. a.size) (unit ∷ units_of items) + placed_size_of (lines_from (item ∷ items)) ≤ placed_size_of (item ∷ items)
head-size unit item items size on small rest =
    let sum : sum_by (λ a. a.size) (unit ∷ units_of items) ≡ unit.size + units_size items = sum_by-cons (λ a. a.size) unit (units_of items) in
    let none = ap placed_size_of (lines-none item items on) in
    let all = placed-cons item items in
    omega (arith, sum, none, all, size, small, rest)

pub units-within : (items : Items) → units_size items + placed_size_of (lines_from items) ≤ placed_size_of items
units-within [] = omega arith
units-within (TextHead ∷ items) = head-size (function_unit (lines_from items)) TextHead items refl refl refl (units-within items)
units-within (SectionHead n w b ∷ items) = head-size (data_unit (lines_from items)) (SectionHead n w b) items refl refl refl (units-within items)
units-within (CountsHead ∷ items) = head-size (data_unit (lines_from items)) CountsHead items refl refl refl (units-within items)
units-within (Tail ∷ items) =
    let none = ap placed_size_of (lines-none Tail items refl) in
    let all = placed-cons Tail items in
    let rest = units-within items in
    omega (arith, none, all, rest)
units-within (item ∷ items) =
    let lines = ap placed_size_of (lines-on item items refl) in
    let sum = placed-cons item (lines_from items) in
    let all = placed-cons item items in
    let rest = units-within items in
    omega (arith, lines, sum, all, rest)

-- ---- sizes of data

last-size : (items : Items) → AreLast items → placed_size_of items ≡ size_of (lines_from items)
last-size [] is = refl
last-size (TextHead ∷ items) is = absurd is
last-size (Ins i ∷ items) is = absurd is
last-size (SectionHead n w b ∷ items) is = absurd is
last-size (CountsHead ∷ items) is = absurd is
last-size (Tail ∷ items) is =
    let none = ap size_of (lines-none Tail items refl) in
    let all = placed-cons Tail items in
    let end = ap placed_size_of is in
    omega (arith, none, all, end)
last-size (item ∷ items) is =
    let lines = ap size_of (lines-on item items refl) in
    let sum = size-cons item (lines_from items) in
    let all = placed-cons item items in
    let rest = last-size items is in
    omega (arith, lines, sum, all, rest)

section-cons : (n : ℕ) (w b : Bool) (items : Items) → sections_size (SectionHead n w b ∷ items) ≡ size_of (lines_from items) + sections_size items
section-cons n w b items =
    let section : DataSection = record { writable = w; lines = lines_from items } in
    sum_by-cons (λ s. size_of s.lines) section (sections_of items)

data-size : (items : Items) → AreData items → placed_size_of items ≤ size_of (lines_from items) + sections_size items + counters_size items
data-size [] is = omega arith
data-size (TextHead ∷ items) is = absurd is
data-size (Ins i ∷ items) is = absurd is
data-size (SectionHead n w b ∷ items) is =
    let all = placed-cons (SectionHead n w b) items in
    let sum = section-cons n w b items in
    let rest = data-size items is in
    omega (arith, all, sum, rest)
data-size (CountsHead ∷ items) is =
    let all = placed-cons CountsHead items in
    let rest = last-size items is in
    omega (arith, all, rest)
data-size (Tail ∷ items) is =
    let all = placed-cons Tail items in
    let end = ap placed_size_of is in
    omega (arith, all, end)
data-size (item ∷ items) is =
    let lines = ap size_of (lines-on item items refl) in
    let sum = size-cons item (lines_from items) in
    let all = placed-cons item items in
    let rest = data-size items is in
    omega (arith, lines, sum, all, rest)

-- all lines take at most eight bytes each, and what sections and counters have
pub text-size : (items : Items) → AreText items → placed_size_of items ≤ 8 * length items + sections_size items + counters_size items
text-size [] is = omega arith
text-size (SectionHead n w b ∷ items) is =
    let all = placed-cons (SectionHead n w b) items in
    let sum = section-cons n w b items in
    let rest = data-size items is in
    omega (arith, all, sum, rest)
text-size (CountsHead ∷ items) is =
    let all = placed-cons CountsHead items in
    let rest = last-size items is in
    omega (arith, all, rest)
text-size (Tail ∷ items) is =
    let all = placed-cons Tail items in
    let end = ap placed_size_of is in
    omega (arith, all, end)
text-size (item ∷ items) is =
    let all = placed-cons item items in
    let rest = text-size items is.1 in
    let first = is.0 in
    omega (arith, all, rest, first)

-- ---- lines of data have no instructions

pub lines-sizes : (items : Items) → AreData items → placed_size_of (lines_from items) ≡ size_of (lines_from items)
lines-sizes [] is = refl
lines-sizes (TextHead ∷ items) is = absurd is
lines-sizes (Ins i ∷ items) is = absurd is
lines-sizes (SectionHead n w b ∷ items) is = ap placed_size_of (lines-none (SectionHead n w b) items refl) ∙ sym (ap size_of (lines-none (SectionHead n w b) items refl))
lines-sizes (CountsHead ∷ items) is = ap placed_size_of (lines-none CountsHead items refl) ∙ sym (ap size_of (lines-none CountsHead items refl))
lines-sizes (Tail ∷ items) is = ap placed_size_of (lines-none Tail items refl) ∙ sym (ap size_of (lines-none Tail items refl))
lines-sizes (item ∷ items) is =
    let lines = lines-on item items refl in
    let placed = ap placed_size_of lines in
    let sized = ap size_of lines in
    let one = placed-cons item (lines_from items) in
    let other = size-cons item (lines_from items) in
    let rest = lines-sizes items is in
    omega (arith, placed, sized, one, other, rest)

last-sizes : (items : Items) → AreLast items → placed_size_of (lines_from items) ≡ size_of (lines_from items)
last-sizes [] is = refl
last-sizes (TextHead ∷ items) is = absurd is
last-sizes (Ins i ∷ items) is = absurd is
last-sizes (SectionHead n w b ∷ items) is = absurd is
last-sizes (CountsHead ∷ items) is = absurd is
last-sizes (Tail ∷ items) is = ap placed_size_of (lines-none Tail items refl) ∙ sym (ap size_of (lines-none Tail items refl))
last-sizes (item ∷ items) is =
    let lines = lines-on item items refl in
    let placed = ap placed_size_of lines in
    let sized = ap size_of lines in
    let one = placed-cons item (lines_from items) in
    let other = size-cons item (lines_from items) in
    let rest = last-sizes items is in
    omega (arith, placed, sized, one, other, rest)

abbrev IsSized : DataSection → Type 0
IsSized s = placed_size_of s.lines ≡ size_of s.lines

data-sized : (items : Items) → AreData items → (k : ℕ) (s : DataSection) → slice_get (sections_of items) k ≡ Some s → IsSized s
data-sized [] is k s e = cc
data-sized (TextHead ∷ items) is k s e = absurd is
data-sized (Ins i ∷ items) is k s e = absurd is
data-sized (SectionHead n w b ∷ items) is zero s e =
    let section : DataSection = record { writable = w; lines = lines_from items } in
    let same : section ≡ s = cc in subst IsSized same (lines-sizes items is)
data-sized (SectionHead n w b ∷ items) is (suc k) s e = data-sized items is k s e
data-sized (CountsHead ∷ items) is k s e = absurd (none-at (sections_of items) k s (last-sections items is) e)
data-sized (Tail ∷ items) is k s e = absurd (none-at (sections_of items) k s (ap sections_of is) e)
data-sized (_ ∷ items) is k s e = data-sized items is k s e

pub section-sized : (items : Items) → AreText items → (k : ℕ) (s : DataSection) → slice_get (sections_of items) k ≡ Some s → IsSized s
section-sized [] is k s e = cc
section-sized (SectionHead n w b ∷ items) is k s e = data-sized (SectionHead n w b ∷ items) is k s e
section-sized (CountsHead ∷ items) is k s e = absurd (none-at (sections_of items) k s (last-sections items is) e)
section-sized (Tail ∷ items) is k s e = absurd (none-at (sections_of items) k s (ap sections_of is) e)
section-sized (_ ∷ items) is k s e = section-sized items is.1 k s e

-- the counters have a unit of their size, which is at a multiple of 8, or no bytes
abbrev pub HasCounters : Items → List Extent → Type 0
HasCounters items [] = counters_size items ≡ 0
HasCounters items (unit ∷ units) = (units ≡ []) × (unit.size ≡ counters_size items) × ((base : ℕ) → base % max 1 unit.align ≡ 0 → base % 8 ≡ 0)

last-none : (items : Items) → AreLast items → (counter_units items ≡ []) × (counters_size items ≡ 0)
last-none [] is = (refl, refl)
last-none (TextHead ∷ items) is = absurd is
last-none (Ins i ∷ items) is = absurd is
last-none (SectionHead n w b ∷ items) is = absurd is
last-none (CountsHead ∷ items) is = absurd is
last-none (Tail ∷ items) is = (ap counter_units is, ap counters_size is)
last-none (_ ∷ items) is = last-none items is

counters-here : (items : Items) → AreFormed items → AreLast items → HasCounters (CountsHead ∷ items) (counter_units (CountsHead ∷ items))
counters-here items formed is =
    let align = align-is items formed in
    (refl, last-sizes items is, λ base e. eight-of (2 ^ align.exponent) base (meets-16 align.exponent) (subst (λ n. base % max 1 (max 16 n) ≡ 0) align.power e))

data-counters : (items : Items) → AreFormed items → AreData items → HasCounters items (counter_units items)
data-counters [] formed is = refl
data-counters (TextHead ∷ items) formed is = absurd is
data-counters (Ins i ∷ items) formed is = absurd is
data-counters (CountsHead ∷ items) formed is = counters-here items (λ p x e. formed (suc p) x e) is
data-counters (Tail ∷ items) formed is = subst (λ xs. HasCounters (Tail ∷ xs) (counter_units (Tail ∷ xs))) (sym is) refl
data-counters (_ ∷ items) formed is = data-counters items (λ p x e. formed (suc p) x e) is

pub text-counters : (items : Items) → AreFormed items → AreText items → HasCounters items (counter_units items)
text-counters [] formed is = refl
text-counters (SectionHead n w b ∷ items) formed is = data-counters items (λ p x e. formed (suc p) x e) is
text-counters (CountsHead ∷ items) formed is = counters-here items (λ p x e. formed (suc p) x e) is
text-counters (Tail ∷ items) formed is = subst (λ xs. HasCounters (Tail ∷ xs) (counter_units (Tail ∷ xs))) (sym is) refl
text-counters (_ ∷ items) formed is = text-counters items (λ p x e. formed (suc p) x e) is.1

-- the alignment of each section divides its base
pub section-goes : (items : Items) → AreFormed items → (k : ℕ) (s : DataSection) → slice_get (sections_of items) k ≡ Some s → GoesWith16 (align_of s.lines)
section-goes [] formed k s e = cc
section-goes (SectionHead n w b ∷ items) formed zero s e =
    let section : DataSection = record { writable = w; lines = lines_from items } in
    let same : section ≡ s = cc in
    subst (λ x. GoesWith16 (align_of x.lines)) same (align-goes items (λ p x f. formed (suc p) x f))
section-goes (SectionHead n w b ∷ items) formed (suc k) s e = section-goes items (λ p x f. formed (suc p) x f) k s e
section-goes (_ ∷ items) formed k s e = section-goes items (λ p x f. formed (suc p) x f) k s e
