-- In a program functions come first, then sections, then the counters; what this says of its units.
use Rattle.std.proofs.Common.{◌≡◌, ℕ, ◌+◌, ◌≤◌, Bool, true, false, cond, List, [], ◌∷◌, ◌++◌, length, map, append_assoc, Option, Some, None, refl, sym, ap, subst, ◌∙◌, arith, inr, count_by, slice_get, flat_map, is_some}
use Rattle.std.specs.List.{list_all}
use Rattle.std.proofs.lemmas.Bool.{and_parts}
use Rattle.std.proofs.lemmas.List.Sums.{sum_by-cons}
use Rattle.x86_insn.specs.declared.kinds.Plain.TheVariants.{Int3}
use Rattle.x86_insn.specs.declared.instruction.Insn.TheVariants.{Plain}
use Rattle.asm_items.specs.declared.item.Item.TheVariants.{Copy, Weak, TextHead, Label, Ins, SectionHead, Bytes, Quad, LongDiff, Zero, CountsHead, Tail}
use Rattle.asm_items.specs.declared.item.Label.TheVariants as label
use Rattle.asm_items.specs.Lines.{Items, DataSection, lines_from, sections_of}
use Rattle.asm_items.specs.Layout.{Extent}
use Rattle.rw_layout.specs.declared.order.State.{State}
use Rattle.rw_layout.specs.declared.order.State.TheVariants.{Copies, Done}
use Rattle.rw_layout.specs.States.{after}
use Rattle.rw_layout.specs.Order.{Function, Section, IsOrdered, entry_lines, function_lines, is_body_line, is_content, are_contents, sections_lines, counter_lines}
use Rattle.rw_layout.specs.Checks.{IsMisplaced, Nowhere}
use Rattle.rw_layout.specs.Rule.{placed_size, function_unit, data_unit, units_of, is_text_head, functions_number}
use Rattle.rw_layout.proofs.Taken.{Takes, has_bodies, has_contents, ordered-taken}
use Rattle.rw_layout.proofs.Parted.{taken-ordered}
use Rattle.rw_layout.proofs.UnitLines.{EndsAtTail}

-- ---- lines in order

pub ordered : (items : Items) → Nowhere (IsMisplaced items) → IsOrdered items
ordered items nowhere = by_state (after Copies items) refl
  where
    not_taken : (Takes Copies items Done → ⊥) → IsOrdered items
    not_taken none = absurd (nowhere (length items) (inr (refl, λ is. none (ordered-taken items is))))

    by_state : (o : Option State) → after Copies items ≡ o → IsOrdered items
    by_state (Some Done) e = taken-ordered items e
    by_state (Some _) e = not_taken (λ h. cc)
    by_state None e = not_taken (λ h. cc)

-- ---- functions, then sections, then counters

-- lines behind the one that begins the counters
abbrev pub AreLast : Items → Type 0
AreLast [] = Unit {0}
AreLast (TextHead ∷ items) = ⊥
AreLast (Ins i ∷ items) = ⊥
AreLast (SectionHead n writable nobits ∷ items) = ⊥
AreLast (CountsHead ∷ items) = ⊥
AreLast (Tail ∷ items) = items ≡ []
AreLast (_ ∷ items) = AreLast items

-- lines behind one that begins a section
abbrev pub AreData : Items → Type 0
AreData [] = Unit {0}
AreData (TextHead ∷ items) = ⊥
AreData (Ins i ∷ items) = ⊥
AreData (CountsHead ∷ items) = AreLast items
AreData (Tail ∷ items) = items ≡ []
AreData (_ ∷ items) = AreData items

-- lines from the first on: before the sections each takes at most eight bytes
abbrev pub AreText : Items → Type 0
AreText [] = Unit {0}
AreText (SectionHead n writable nobits ∷ items) = AreData items
AreText (CountsHead ∷ items) = AreLast items
AreText (Tail ∷ items) = items ≡ []
AreText (item ∷ items) = (placed_size item ≤ 8) × AreText items

-- before the first unit there is no instruction
abbrev pub BeginsInUnits : Items → Type 0
BeginsInUnits [] = Unit {0}
BeginsInUnits (Ins i ∷ items) = ⊥
BeginsInUnits (TextHead ∷ items) = Unit {0}
BeginsInUnits (SectionHead n writable nobits ∷ items) = Unit {0}
BeginsInUnits (CountsHead ∷ items) = Unit {0}
BeginsInUnits (Tail ∷ items) = Unit {0}
BeginsInUnits (_ ∷ items) = BeginsInUnits items

content-data : (lines rest : Items) → list_all is_content lines ≡ true → AreData rest → AreData (lines ++ rest)
content-data [] rest h is = is
content-data (Label (label.Table a) ∷ lines) rest h is = content-data lines rest h is
content-data (Bytes bytes ∷ lines) rest h is = content-data lines rest h is
content-data (Quad sym ∷ lines) rest h is = content-data lines rest h is
content-data (LongDiff code table ∷ lines) rest h is = content-data lines rest h is
content-data (_ ∷ lines) rest h is = cc

contents-data : (nobits : Bool) (lines rest : Items) → are_contents nobits lines ≡ true → AreData rest → AreData (lines ++ rest)
contents-data true [] rest h is = is
contents-data true (Zero n ∷ []) rest h is = is
contents-data true (Zero n ∷ line ∷ lines) rest h is = cc
contents-data true (_ ∷ lines) rest h is = cc
contents-data false [] rest h is = is
contents-data false (line ∷ lines) rest h is = content-data (line ∷ lines) rest h is

section-data : (n : ℕ) (sections : List Section) (rest : Items) → has_contents sections ≡ true → AreData rest → AreData (sections_lines n sections ++ rest)
section-data n [] rest h is = is
section-data n (s ∷ sections) rest h is =
    let both = and_parts (are_contents s.nobits s.contents) (has_contents sections) h in
    subst AreData (sym (append_assoc s.contents (sections_lines (n + 1) sections) rest))
    (contents-data s.nobits s.contents (sections_lines (n + 1) sections ++ rest) both.0 (section-data (n + 1) sections rest both.1 is))

section-text : (n : ℕ) (sections : List Section) (rest : Items) → has_contents sections ≡ true → AreData rest → AreText rest → AreText (sections_lines n sections ++ rest)
section-text n [] rest h is text = text
section-text n (s ∷ sections) rest h is text = section-data n (s ∷ sections) rest h is

counters-data : (counters : Option ℕ) → AreData (counter_lines counters ++ Tail ∷ [])
counters-data None = refl
counters-data (Some count) = refl

counters-text : (counters : Option ℕ) → AreText (counter_lines counters ++ Tail ∷ [])
counters-text None = refl
counters-text (Some count) = refl

body-text : (body rest : Items) → list_all is_body_line body ≡ true → AreText rest → AreText (body ++ rest)
body-text [] rest h is = is
body-text (Label (label.Code a) ∷ body) rest h is = (omega arith, body-text body rest h is)
body-text (Ins i ∷ body) rest h is = (omega arith, body-text body rest h is)
body-text (_ ∷ body) rest h is = cc

entry-text : (entry : Option Bool) (rest : Items) → AreText rest → AreText (entry_lines entry ++ rest)
entry-text None rest is = is
entry-text (Some hosted) rest is = (omega arith, (omega arith, (omega arith, is)))

function-text : (f : Function) (rest : Items) → list_all is_body_line f.body ≡ true → AreText rest → AreText (function_lines f ++ rest)
function-text f rest h is =
    let closing : Items = Label (label.Past f.past) ∷ Ins (Plain Int3) ∷ [] in
    let closed : AreText (closing ++ rest) = (omega arith, (omega arith, is)) in
    let body : AreText ((f.body ++ closing) ++ rest) = subst AreText (sym (append_assoc f.body closing rest)) (body-text f.body (closing ++ rest) h closed) in
    let labelled : AreText ((Label (label.Code f.first) ∷ (f.body ++ closing)) ++ rest) = (omega arith, body) in
    let entry = subst AreText (sym (append_assoc (entry_lines f.entry) (Label (label.Code f.first) ∷ (f.body ++ closing)) rest)) (entry-text f.entry ((Label (label.Code f.first) ∷ (f.body ++ closing)) ++ rest) labelled) in
    (omega arith, (omega arith, (omega arith, entry)))

functions-text : (functions : List Function) (rest : Items) → has_bodies functions ≡ true → AreText rest → AreText (flat_map function_lines functions ++ rest)
functions-text [] rest h is = is
functions-text (f ∷ functions) rest h is =
    let both = and_parts (list_all is_body_line f.body) (has_bodies functions) h in
    subst AreText (sym (append_assoc (function_lines f) (flat_map function_lines functions) rest))
    (function-text f (flat_map function_lines functions ++ rest) both.0 (functions-text functions rest both.1 is))

weak-text : (names : List (List ℕ)) (rest : Items) → AreText rest → AreText (map Weak names ++ rest)
weak-text [] rest is = is
weak-text (name ∷ names) rest is = (omega arith, weak-text names rest is)

copies-text : (copies : List (List ℕ × ℕ)) (rest : Items) → AreText rest → AreText (map (λ copy. Copy copy.0 copy.1) copies ++ rest)
copies-text [] rest is = is
copies-text (copy ∷ copies) rest is = (omega arith, copies-text copies rest is)

pub are-text : (items : Items) → IsOrdered items → AreText items
are-text items is =
    let parts = is.0 in
    let are = is.1 in
    let end : Items = counter_lines parts.counters ++ Tail ∷ [] in
    let data_on = section-text 0 parts.sections end are.contents (counters-data parts.counters) (counters-text parts.counters) in
    let code_on = functions-text parts.functions (sections_lines 0 parts.sections ++ end) are.bodies data_on in
    subst AreText is.2 (copies-text parts.copies _ (weak-text parts.weak _ code_on))

weak-first : (names : List (List ℕ)) (rest : Items) → BeginsInUnits rest → BeginsInUnits (map Weak names ++ rest)
weak-first [] rest is = is
weak-first (name ∷ names) rest is = weak-first names rest is

copies-first : (copies : List (List ℕ × ℕ)) (rest : Items) → BeginsInUnits rest → BeginsInUnits (map (λ copy. Copy copy.0 copy.1) copies ++ rest)
copies-first [] rest is = is
copies-first (copy ∷ copies) rest is = copies-first copies rest is

functions-first : (functions : List Function) (rest : Items) → count_by (λ f. is_some f.entry) functions ≡ 1 → BeginsInUnits (flat_map function_lines functions ++ rest)
functions-first [] rest one = absurd (omega (arith, one))
functions-first (f ∷ functions) rest one = tt

pub begins-in-units : (items : Items) → IsOrdered items → BeginsInUnits items
begins-in-units items is =
    let parts = is.0 in
    subst BeginsInUnits is.2 (copies-first parts.copies _ (weak-first parts.weak _ (functions-first parts.functions _ is.1.entry)))

-- ---- the line that ends the text

last-ends : (items : Items) → AreLast items → EndsAtTail items
last-ends [] is = tt
last-ends (TextHead ∷ items) is = absurd is
last-ends (Ins i ∷ items) is = absurd is
last-ends (SectionHead n writable nobits ∷ items) is = absurd is
last-ends (CountsHead ∷ items) is = absurd is
last-ends (Tail ∷ items) is = is
last-ends (_ ∷ items) is = last-ends items is

data-ends : (items : Items) → AreData items → EndsAtTail items
data-ends [] is = tt
data-ends (TextHead ∷ items) is = absurd is
data-ends (Ins i ∷ items) is = absurd is
data-ends (CountsHead ∷ items) is = last-ends items is
data-ends (Tail ∷ items) is = is
data-ends (_ ∷ items) is = data-ends items is

pub text-ends : (items : Items) → AreText items → EndsAtTail items
text-ends [] is = tt
text-ends (SectionHead n writable nobits ∷ items) is = data-ends items is
text-ends (CountsHead ∷ items) is = last-ends items is
text-ends (Tail ∷ items) is = is
text-ends (_ ∷ items) is = text-ends items is.1

-- nothing stands in an empty list
pub none-at : {A : Type 0} (xs : List A) (k : ℕ) (x : A) → xs ≡ [] → slice_get xs k ≡ Some x → ⊥
none-at [] k x e f = cc
none-at (y ∷ xs) k x e f = cc

-- ---- units

abbrev pub section_unit : DataSection → Extent
section_unit s = data_unit s.lines

abbrev pub function_units : Items → List Extent
function_units [] = []
function_units (TextHead ∷ items) = function_unit (lines_from items) ∷ function_units items
function_units (_ ∷ items) = function_units items

abbrev pub counter_units : Items → List Extent
counter_units [] = []
counter_units (CountsHead ∷ items) = data_unit (lines_from items) ∷ []
counter_units (_ ∷ items) = counter_units items

last-units : (items : Items) → AreLast items → units_of items ≡ []
last-units [] is = refl
last-units (TextHead ∷ items) is = absurd is
last-units (Ins i ∷ items) is = absurd is
last-units (SectionHead n writable nobits ∷ items) is = absurd is
last-units (CountsHead ∷ items) is = absurd is
last-units (Tail ∷ items) is = ap units_of is
last-units (_ ∷ items) is = last-units items is

pub last-sections : (items : Items) → AreLast items → sections_of items ≡ []
last-sections [] is = refl
last-sections (TextHead ∷ items) is = absurd is
last-sections (Ins i ∷ items) is = absurd is
last-sections (SectionHead n writable nobits ∷ items) is = absurd is
last-sections (CountsHead ∷ items) is = absurd is
last-sections (Tail ∷ items) is = ap sections_of is
last-sections (_ ∷ items) is = last-sections items is

-- the units behind the functions
abbrev pub data_units : Items → List Extent
data_units items = map section_unit (sections_of items) ++ counter_units items

data-units : (items : Items) → AreData items → units_of items ≡ data_units items
data-units [] is = refl
data-units (TextHead ∷ items) is = absurd is
data-units (Ins i ∷ items) is = absurd is
data-units (SectionHead n writable nobits ∷ items) is = ap (λ xs. data_unit (lines_from items) ∷ xs) (data-units items is)
data-units (CountsHead ∷ items) is =
    ap (λ xs. data_unit (lines_from items) ∷ xs) (last-units items is) ∙ ap (λ xs. map section_unit xs ++ data_unit (lines_from items) ∷ []) (sym (last-sections items is))
data-units (Tail ∷ items) is = ap units_of is ∙ ap data_units (sym is)
data-units (_ ∷ items) is = data-units items is

data-functions : (items : Items) → AreData items → function_units items ≡ []
data-functions [] is = refl
data-functions (TextHead ∷ items) is = absurd is
data-functions (Ins i ∷ items) is = absurd is
data-functions (CountsHead ∷ items) is = last items is
  where
    last : (items : Items) → AreLast items → function_units items ≡ []
    last [] is = refl
    last (TextHead ∷ items) is = absurd is
    last (Ins i ∷ items) is = absurd is
    last (SectionHead n writable nobits ∷ items) is = absurd is
    last (CountsHead ∷ items) is = absurd is
    last (Tail ∷ items) is = ap function_units is
    last (_ ∷ items) is = last items is
data-functions (Tail ∷ items) is = ap function_units is
data-functions (_ ∷ items) is = data-functions items is

pub text-units : (items : Items) → AreText items → units_of items ≡ function_units items ++ data_units items
text-units [] is = refl
text-units (TextHead ∷ items) is = ap (λ xs. function_unit (lines_from items) ∷ xs) (text-units items is.1)
text-units (SectionHead n writable nobits ∷ items) is =
    data-units (SectionHead n writable nobits ∷ items) is ∙ ap (λ xs. xs ++ data_units (SectionHead n writable nobits ∷ items)) (sym (data-functions (SectionHead n writable nobits ∷ items) is))
text-units (CountsHead ∷ items) is =
    data-units (CountsHead ∷ items) is ∙ ap (λ xs. xs ++ data_units (CountsHead ∷ items)) (sym (data-functions (CountsHead ∷ items) is))
text-units (Tail ∷ items) is = ap units_of is ∙ ap (λ xs. function_units xs ++ data_units xs) (sym is)
text-units (_ ∷ items) is = text-units items is.1

pub functions-length : (items : Items) → length (function_units items) ≡ functions_number items
functions-length [] = refl
functions-length (TextHead ∷ items) = let sum = sum_by-cons (λ x. cond (is_text_head x) 1 0) TextHead items in omega (arith, sum, functions-length items)
functions-length (item ∷ items) = let sum = sum_by-cons (λ x. cond (is_text_head x) 1 0) item items in omega (arith, sum, functions-length items)
