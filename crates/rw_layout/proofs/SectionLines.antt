-- Where the lines of a data section stand in a text.
use Rattle.std.proofs.Common.{◌≡◌, ℕ, zero, suc, ◌+◌, Bool, true, false, cond, List, [], ◌∷◌, ◌++◌, length, take, Some, refl, sym, ap, subst, ◌∙◌, arith, slice_get, if◌then◌else◌}
use Rattle.std.proofs.lemmas.List.Sums.{sum_by-cons}
use Rattle.asm_items.specs.declared.item.Item.{Item}
use Rattle.asm_items.specs.declared.item.Item.TheVariants.{TextHead, Ins, SectionHead, CountsHead, Tail}
use Rattle.asm_items.specs.Lines.{Items, DataSection, begins_section, lines_from, sections_of}
use Rattle.rw_layout.specs.Rule.{placed_size, placed_size_of, is_text_head, functions_number}
use Rattle.rw_layout.proofs.UnitLines.{begun, begins, begun-cons, lines-none, lines-on, offset_behind, offset-on}
use Rattle.rw_layout.proofs.PartsOrder.{AreText, AreData, AreLast, last-sections, none-at}

-- a line among those up to the next unit
record SplitAt (items before : Items) (item : Item (List ℕ)) : Type 0 where
  here : slice_get items (length before) ≡ Some item
  front : take (length before) items ≡ before
  none : begun before ≡ 0

lines-split : (items before after : Items) (item : Item (List ℕ)) → lines_from items ≡ before ++ item ∷ after → SplitAt items before item
lines-split [] [] after item e = cc
lines-split [] (b ∷ before) after item e = cc
lines-split (x ∷ items) [] after item e = by_head (begins_section x) refl
  where
    by_head : (t : Bool) → begins_section x ≡ t → SplitAt (x ∷ items) [] item
    by_head true f = let none = sym (lines-none x items f) ∙ e in cc
    by_head false f = let both = sym (lines-on x items f) ∙ e in record { here = cc; front = refl; none = refl }
lines-split (x ∷ items) (b ∷ before) after item e = by_head (λ f. lines-split items before after item f) (begins_section x) refl
  where
    by_head : (lines_from items ≡ before ++ item ∷ after → SplitAt items before item) → (t : Bool) → begins_section x ≡ t → SplitAt (x ∷ items) (b ∷ before) item
    by_head rec true f = let none = sym (lines-none x items f) ∙ e in cc
    by_head rec false f =
        let both = sym (lines-on x items f) ∙ e in
        let same : x ≡ b = cc in
        let lines : lines_from items ≡ before ++ item ∷ after = cc in
        let rest = rec lines in
        let sum = begun-cons b before in
        let on : begins b ≡ 0 = ap (λ t. cond t 1 0) (subst (λ z. begins_section z ≡ false) same f) in
        record { here = rest.here; front = ap (λ z. z ∷ take (length before) items) same ∙ ap (λ xs. b ∷ xs) rest.front; none = omega (arith, sum, on, rest.none) }

-- the place of a line behind these in a section, with so many units before it
pub record IsPlaced (items : Items) (units : ℕ) (before : Items) (item : Item (List ℕ)) (offset : ℕ) : Type 0 where
  pub place : ℕ
  pub here : slice_get items place ≡ Some item
  pub unit : begun (take place items) ≡ units
  pub offset_is : offset_behind offset (take place items) ≡ placed_size_of before

further : (items : Items) (x : Item (List ℕ)) (units more : ℕ) (before : Items) (item : Item (List ℕ)) (offset next : ℕ) → begins x + units ≡ more → (if begins_section x then 0 else offset + placed_size x) ≡ next
    → IsPlaced items units before item next → IsPlaced (x ∷ items) more before item offset
further items x units more before item offset next e f at = record {
  place = suc at.place;
  here = at.here;
  unit = begun-cons x (take at.place items) ∙ ap (λ n. begins x + n) at.unit ∙ e;
  offset_is = ap (λ n. offset_behind n (take at.place items)) f ∙ at.offset_is;
}

data-line : (items : Items) → AreData items → (k : ℕ) (s : DataSection) (before after : Items) (item : Item (List ℕ)) (offset : ℕ) → slice_get (sections_of items) k ≡ Some s → s.lines ≡ before ++ item ∷ after
    → IsPlaced items (suc k) before item offset
data-line [] is k s before after item offset e f = cc
data-line (TextHead ∷ items) is k s before after item offset e f = absurd is
data-line (Ins i ∷ items) is k s before after item offset e f = absurd is
data-line (SectionHead n w b ∷ items) is zero s before after item offset e f =
    let section : DataSection = record { writable = w; lines = lines_from items } in
    let same : section ≡ s = cc in
    let split = lines-split items before after item (ap (λ x. x.lines) same ∙ f) in
    let head = begun-cons (SectionHead n w b) (take (length before) items) in
    let front = ap begun split.front in
    let size = offset-on 0 before split.none in
    record {
      place = suc (length before);
      here = split.here;
      unit = omega (arith, head, front, split.none);
      offset_is = ap (offset_behind 0) split.front ∙ omega (arith, size);
    }
data-line (SectionHead n w b ∷ items) is (suc k) s before after item offset e f =
    further items (SectionHead n w b) (suc k) (suc (suc k)) before item offset 0 (omega arith) refl (data-line items is k s before after item 0 e f)
data-line (CountsHead ∷ items) is k s before after item offset e f = absurd (none-at (sections_of items) k s (last-sections items is) e)
data-line (Tail ∷ items) is k s before after item offset e f = absurd (none-at (sections_of items) k s (ap sections_of is) e)
data-line (x ∷ items) is k s before after item offset e f =
    further items x (suc k) (suc k) before item offset (offset + placed_size x) (omega arith) refl (data-line items is k s before after item (offset + placed_size x) e f)

data-no-functions : (items : Items) → AreData items → functions_number items ≡ 0
data-no-functions [] is = refl
data-no-functions (TextHead ∷ items) is = absurd is
data-no-functions (Ins i ∷ items) is = absurd is
data-no-functions (CountsHead ∷ items) is = sum_by-cons (λ x. cond (is_text_head x) 1 0) CountsHead items ∙ last items is
  where
    last : (items : Items) → AreLast items → 0 + functions_number items ≡ 0
    last [] is = refl
    last (TextHead ∷ items) is = absurd is
    last (Ins i ∷ items) is = absurd is
    last (SectionHead n w b ∷ items) is = absurd is
    last (CountsHead ∷ items) is = absurd is
    last (Tail ∷ items) is = let one = sum_by-cons (λ x. cond (is_text_head x) 1 0) Tail items in let none = ap functions_number is in omega (arith, one, none)
    last (x ∷ items) is = let one = sum_by-cons (λ x. cond (is_text_head x) 1 0) x items in let rest = last items is in omega (arith, one, rest)
data-no-functions (Tail ∷ items) is = let one = sum_by-cons (λ x. cond (is_text_head x) 1 0) Tail items in let none = ap functions_number is in omega (arith, one, none)
data-no-functions (x ∷ items) is = let one = sum_by-cons (λ x. cond (is_text_head x) 1 0) x items in let rest = data-no-functions items is in omega (arith, one, rest)

-- a line of the section of a number stands in the unit behind the functions and the sections before it
pub section-line : (items : Items) → AreText items → (k : ℕ) (s : DataSection) (before after : Items) (item : Item (List ℕ)) (offset : ℕ) → slice_get (sections_of items) k ≡ Some s → s.lines ≡ before ++ item ∷ after
    → IsPlaced items (suc (functions_number items + k)) before item offset
section-line [] is k s before after item offset e f = cc
section-line (TextHead ∷ items) is k s before after item offset e f =
    let one = sum_by-cons (λ x. cond (is_text_head x) 1 0) TextHead items in
    further items TextHead (suc (functions_number items + k)) (suc (functions_number (TextHead ∷ items) + k)) before item offset 0 (omega (arith, one)) refl (section-line items is.1 k s before after item 0 e f)
section-line (SectionHead n w b ∷ items) is k s before after item offset e f =
    let none = data-no-functions (SectionHead n w b ∷ items) is in
    let same : k ≡ functions_number (SectionHead n w b ∷ items) + k = omega (arith, none) in
    subst (λ m. IsPlaced (SectionHead n w b ∷ items) (suc m) before item offset) same (data-line (SectionHead n w b ∷ items) is k s before after item offset e f)
section-line (CountsHead ∷ items) is k s before after item offset e f = absurd (none-at (sections_of items) k s (last-sections items is) e)
section-line (Tail ∷ items) is k s before after item offset e f = absurd (none-at (sections_of items) k s (ap sections_of is) e)
section-line (x ∷ items) is k s before after item offset e f =
    let one = sum_by-cons (λ x. cond (is_text_head x) 1 0) x items in
    further items x (suc (functions_number items + k)) (suc (functions_number (x ∷ items) + k)) before item offset (offset + placed_size x) (omega (arith, one)) refl
    (section-line items is.1 k s before after item (offset + placed_size x) e f)
