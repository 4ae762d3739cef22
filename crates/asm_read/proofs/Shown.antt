-- The item of a line is found by reading it and printing it again.
use Rattle.std.proofs.Common.{◌≡◌, ℕ, ◌+◌, ◌-◌, Bool, true, false, cond, Option, Some, None, List, ◌++◌, length, take, refl, sym, ap, subst, ◌∙◌, arith}
use Rattle.std.specs.Str.{bytes_eq}
use Rattle.std.specs.Cmp.Lexicographic.{bytes_decides}
use Rattle.std.proofs.lemmas.List.{length-append, take_at}
use Rattle.asm_items.specs.Formed.{is_item}
use Rattle.asm_print.specs.Text.{body, newline}
use Rattle.asm_print.specs.Pieces.{◌>>=◌}
use Rattle.asm_print.specs.Reading.{TextItem, item_in}
use Rattle.asm_print.proofs.ItemsRead.{item-again}
use Rattle.asm_read.specs.Shown.{formed, checked, candidate, shown_by}

some-is : {A : Type 0} (x y : A) → ◌≡◌ {A = Option A} (Some x) (Some y) → x ≡ y
some-is x y e = cc

-- a line without its line feed
pub front-of_line : (text : List ℕ) → take (length (text ++ newline) - 1) (text ++ newline) ≡ text
front-of_line text =
    let size : length (text ++ newline) ≡ length text + 1 = length-append text newline in
    take_at text newline (length (text ++ newline) - 1) (omega (arith, size))

pub ruleset without_feed = (front-of_line)

formed-by : (item found : TextItem) (t : Bool) → is_item item ≡ t → cond t (Some item) None ≡ Some found → is_item found ≡ true
formed-by item found true h e = subst (λ x. is_item x ≡ true) (some-is item found e) h
formed-by item found false h e = absurd cc

candidate-by : (o : Option TextItem) (item : TextItem) → (o >>= formed) ≡ Some item → is_item item ≡ true
candidate-by None item e = absurd cc
candidate-by (Some x) item e = formed-by x item (is_item x) refl e

pub candidate-formed : (text : List ℕ) (item : TextItem) → candidate text ≡ Some item → is_item item ≡ true
candidate-formed text item e = candidate-by (item_in text) item e

checked-by : (text : List ℕ) (x item : TextItem) (t : Bool) → bytes_eq (body x) text ≡ t → cond t (Some x) None ≡ Some item → (x ≡ item) × (body item ≡ text)
checked-by text x item true h e = let same = some-is x item e in (same, subst (λ y. body y ≡ text) same ((bytes_decides (body x) text).0 h))
checked-by text x item false h e = absurd cc

shown-by : (text : List ℕ) (o : Option TextItem) (item : TextItem) → ((x : TextItem) → o ≡ Some x → is_item x ≡ true) → (o >>= checked text) ≡ Some item → (is_item item ≡ true) × (body item ≡ text)
shown-by text None item h e = absurd cc
shown-by text (Some x) item h e =
    let found = checked-by text x item (bytes_eq (body x) text) refl e in
    (subst (λ y. is_item y ≡ true) found.0 (h x refl), found.1)

-- what is shown is an item of a text, and the text is its line
pub shown-is : (text : List ℕ) (item : TextItem) → shown_by text ≡ Some item → (is_item item ≡ true) × (body item ≡ text)
shown-is text item e = shown-by text (candidate text) item (candidate-formed text) e

-- and each line of an item of a text shows it
pub shown-again : (text : List ℕ) (item : TextItem) → is_item item ≡ true → body item ≡ text → shown_by text ≡ Some item
shown-again text item h e =
    ap (λ o. o >>= formed >>= checked text) (ap item_in (sym e) ∙ item-again item h)
    ∙ ap (λ t. cond t (Some item) None >>= checked text) h
    ∙ ap (λ t. cond t (Some item) None) ((bytes_decides (body item) text).1 e)

shown-case : (text : List ℕ) (item named : TextItem) (t : Bool) → candidate text ≡ Some item → named ≡ item → t ≡ bytes_eq (body named) text → shown_by text ≡ cond t (Some item) None
shown-case text item named t found e h = ap (λ o. o >>= checked text) found ∙ ap (λ b. cond b (Some item) None) (ap (λ x. bytes_eq (body x) text) (sym e) ∙ sym h)

pub shown-yes : (text : List ℕ) (item named : TextItem) (t : Bool) → candidate text ≡ Some item → named ≡ item → t ≡ bytes_eq (body named) text → t ≡ true → shown_by text ≡ Some item
shown-yes text item named t found e h k = shown-case text item named t found e h ∙ ap (λ b. cond b (Some item) None) k

pub shown-no : (text : List ℕ) (item named : TextItem) (t : Bool) → candidate text ≡ Some item → named ≡ item → t ≡ bytes_eq (body named) text → t ≡ false → shown_by text ≡ None
shown-no text item named t found e h k = shown-case text item named t found e h ∙ ap (λ b. cond b (Some item) None) k
