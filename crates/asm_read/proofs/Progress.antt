-- The lines of a text, and what is read of them one after another.
use Rattle.std.proofs.Common.{◌≡◌, ℕ, zero, suc, ◌+◌, ◌-◌, ◌<◌, ◌≤◌, Bool, true, false, cond, eqb, Option, Some, None, List, [], ◌∷◌, ◌++◌, length, get_or, take, map, refl, sym, ap, subst, ◌∙◌, arith, append_assoc, append-nil}
use Rattle.std.specs.List.{All, list_any, list_all, count_by}
use Rattle.std.specs.Str.{bytes_eq}
use Rattle.std.proofs.lemmas.Bool.{and_parts, not-true, eqb-true}
use Rattle.std.proofs.lemmas.List.{length-append, length-map, map-append, take_at}
use Rattle.std.proofs.lemmas.List.Concat.{flat_map-append}
use Rattle.std.proofs.lemmas.List.Sums.{sum_by-append, count_by-le-length}
use Rattle.asm_items.specs.declared.item.Item.{Item}
use Rattle.asm_items.specs.declared.item.Item.TheVariants.{Tail}
use Rattle.asm_items.specs.declared.item.NameId.{NameId}
use Rattle.asm_items.specs.Formed.{is_item, AreItems}
use Rattle.asm_items.specs.Named.{named}
use Rattle.asm_print.specs.Text.{body, newline, line_text, text_of}
use Rattle.asm_print.specs.Pieces.{split, with_front, put_first}
use Rattle.asm_print.specs.Reading.{TextItem}
use Rattle.asm_print.proofs.InsnRead.{is_inline}
use Rattle.asm_print.proofs.ItemsRead.{inline-item}
use Rattle.asm_print.proofs.Separators.{split-at}
use Rattle.asm_read.specs.Lines.{is_feed, lines_of, IsLine, IsFirstBad}
use Rattle.asm_read.specs.Numbered.{numbered, name_in, with_shown, names_by_first_use}
use Rattle.asm_read.specs.Outcome.{IsReadAs}
use Rattle.asm_read.specs.Shown.{shown_by, Shows}
use Rattle.asm_read.proofs.Numbers.{ShowsKnown, known-kept, known-shown, shown-named, numbered-kept}
use Rattle.asm_read.proofs.Shown.{front-of_line, shown-is, shown-again}

lines-step : (b : ℕ) (bs : List ℕ) (t : Bool) → eqb b 10 ≡ t → lines_of (b ∷ bs) ≡ cond t ((b ∷ []) ∷ lines_of bs) (put_first b (lines_of bs))
unfolding lines_of
lines-step b bs t e = ap (λ u. cond u ((b ∷ []) ∷ lines_of bs) (put_first b (lines_of bs))) e

some-is : {A : Type 0} (x y : A) → ◌≡◌ {A = Option A} (Some x) (Some y) → x ≡ y
some-is x y e = cc

-- front is the first line without its line feed, and rest follows
abbrev pub Cuts : List ℕ → List ℕ × List ℕ → Type 0
Cuts bytes x = (bytes ≡ x.0 ++ 10 ∷ x.1) × (lines_of bytes ≡ (x.0 ++ 10 ∷ []) ∷ lines_of x.1)

cuts-first : (b : ℕ) (bs : List ℕ) → eqb b 10 ≡ true → Cuts (b ∷ bs) ([], bs)
cuts-first b bs e = (ap (λ c. c ∷ bs) (eqb-true b 10 e), lines-step b bs true e ∙ ap (λ c. (c ∷ []) ∷ lines_of bs) (eqb-true b 10 e))

cuts-later : (b : ℕ) (bs : List ℕ) (x : List ℕ × List ℕ) → eqb b 10 ≡ false → Cuts bs x → Cuts (b ∷ bs) (b ∷ x.0, x.1)
cuts-later b bs x e h = (ap (λ t. b ∷ t) h.0, lines-step b bs false e ∙ ap (put_first b) h.1)

one : (b : ℕ) (bs : List ℕ) (y : List ℕ × List ℕ) (t : Bool) (s : Option (List ℕ × List ℕ)) → eqb b 10 ≡ t → ((x : List ℕ × List ℕ) → s ≡ Some x → Cuts bs x) → cond t (Some ([], bs)) (with_front b s) ≡ Some y → Cuts (b ∷ bs) y
one b bs y true s e h k = subst (Cuts (b ∷ bs)) (some-is ([], bs) y k) (cuts-first b bs e)
one b bs y false None e h k = absurd cc
one b bs y false (Some x) e h k = subst (Cuts (b ∷ bs)) (some-is (b ∷ x.0, x.1) y k) (cuts-later b bs x e (h x refl))

pub lines-split : (bytes : List ℕ) (x : List ℕ × List ℕ) → split 10 bytes ≡ Some x → Cuts bytes x
unfolding split
lines-split [] x e = absurd cc
lines-split (b ∷ bs) x e = one b bs x (eqb b 10) (split 10 bs) refl (lines-split bs) e

none-from : (b : ℕ) (bs : List ℕ) (t : Bool) (s : Option (List ℕ × List ℕ)) → cond t (Some ([], bs)) (with_front b s) ≡ None → (t ≡ false) × (s ≡ None)
none-from b bs true s e = absurd cc
none-from b bs false None e = (refl, refl)
none-from b bs false (Some x) e = absurd cc

pub lines-last : (bytes : List ℕ) → 0 < length bytes → split 10 bytes ≡ None → lines_of bytes ≡ bytes ∷ lines_of []
unfolding split lines_of
lines-last [] h e = absurd (omega arith)
lines-last (b ∷ []) h e = lines-step b [] false (none-from b [] (eqb b 10) None e).0
lines-last (b ∷ c ∷ cs) h e =
    let q = none-from b (c ∷ cs) (eqb b 10) (split 10 (c ∷ cs)) e in
    lines-step b (c ∷ cs) false q.0 ∙ ap (put_first b) (lines-last (c ∷ cs) (omega arith) q.1)

-- ---- what is read so far

-- each item shows a known name, if any
abbrev pub AllKnown : List (List ℕ) → List TextItem → Type 0
AllKnown names [] = Unit {0}
AllKnown names (item ∷ items) = ShowsKnown names (name_in item) × AllKnown names items

abbrev pub AllFormed : List TextItem → Type 0
AllFormed [] = Unit {0}
AllFormed (item ∷ items) = (is_item item ≡ true) × AllFormed items

-- of the bytes the items are read, and the rest isn't
pub record Progress (bytes : List ℕ) (names : List (List ℕ)) (items : List (Item NameId)) (rest : List ℕ) (shown : List TextItem) : Type 0 where
  pub text : bytes ≡ text_of shown ++ rest
  pub lines : lines_of bytes ≡ map line_text shown ++ lines_of rest
  pub formed : AllFormed shown
  pub known : AllKnown names shown
  pub first_use : names ≡ names_by_first_use [] shown
  pub numbers : items ≡ map (numbered names) shown
  pub few : length shown + count_by is_feed rest ≤ count_by is_feed bytes
  pub sized : length names ≤ length shown

pub Progress-none : (bytes : List ℕ) → Progress bytes [] [] bytes []
Progress-none bytes = record { text = refl; lines = refl; formed = tt; known = tt; first_use = refl; numbers = refl; few = omega arith; sized = omega arith }

formed-push : (shown : List TextItem) (item : TextItem) → AllFormed shown → is_item item ≡ true → AllFormed (shown ++ item ∷ [])
formed-push [] item h k = (k, tt)
formed-push (x ∷ xs) item h k = (h.0, formed-push xs item h.1 k)

known-push : (names : List (List ℕ)) (shown : List TextItem) (item : TextItem) → AllKnown names shown → AllKnown (with_shown names (name_in item)) (shown ++ item ∷ [])
known-push names [] item h = ((λ name e. known-shown names (name_in item) name e), tt)
known-push names (x ∷ xs) item h = ((λ name e. known-kept names (name_in item) name (h.0 name e)), known-push names xs item h.1)

numbers-kept : (names : List (List ℕ)) (o : Option (List ℕ)) (shown : List TextItem) → AllFormed shown → AllKnown names shown → map (numbered (with_shown names o)) shown ≡ map (numbered names) shown
numbers-kept names o [] h k = refl
numbers-kept names o (x ∷ xs) h k = ap (λ y. y ∷ map (numbered (with_shown names o)) xs) (numbered-kept names o x h.0 k.0) ∙ ap (λ ys. numbered names x ∷ ys) (numbers-kept names o xs h.1 k.1)

uses-push : (names : List (List ℕ)) (shown : List TextItem) (item : TextItem) → names_by_first_use names (shown ++ item ∷ []) ≡ with_shown (names_by_first_use names shown) (name_in item)
uses-push names [] item = refl
uses-push names (x ∷ xs) item = uses-push (with_shown names (name_in x)) xs item

size-by : (names : List (List ℕ)) (name : List ℕ) (t : Bool) → length (cond t names (names ++ name ∷ [])) ≤ length names + 1
size-by names name true = omega arith
size-by names name false = omega (arith, length-append names (name ∷ []))

size-shown : (names : List (List ℕ)) (o : Option (List ℕ)) → length (with_shown names o) ≤ length names + 1
size-shown names None = omega arith
size-shown names (Some name) = size-by names name (list_any (bytes_eq name) names)

module _ (bytes : List ℕ) (names : List (List ℕ)) (items : List (Item NameId)) (rest : List ℕ) (shown : List TextItem) (h : Progress bytes names items rest shown) (text behind : List ℕ) (cut : split 10 rest ≡ Some (text, behind)) where
  line-cut : Cuts rest (text, behind)
  line-cut = lines-split rest (text, behind) cut

  -- one more line is read
  module _ (item : TextItem) (e : shown_by text ≡ Some item) where
    new : List (List ℕ)
    new = with_shown names (name_in item)

    line-is : line_text item ≡ text ++ newline
    line-is = ap (λ t. t ++ newline) (shown-is text item e).1

    whole : text_of (shown ++ item ∷ []) ++ behind ≡ text_of shown ++ rest
    whole =
        ap (λ t. t ++ behind) (flat_map-append line_text shown (item ∷ []))
        ∙ append_assoc (text_of shown) (line_text item ++ []) behind
        ∙ ap (λ t. text_of shown ++ (t ++ behind)) (append-nil (line_text item) ∙ line-is)
        ∙ ap (λ t. text_of shown ++ t) (append_assoc text newline behind ∙ sym line-cut.0)

    all-lines : map line_text (shown ++ item ∷ []) ++ lines_of behind ≡ map line_text shown ++ lines_of rest
    all-lines =
        ap (λ t. t ++ lines_of behind) (map-append line_text shown (item ∷ []))
        ∙ append_assoc (map line_text shown) (line_text item ∷ []) (lines_of behind)
        ∙ ap (λ t. map line_text shown ++ t) (ap (λ l. l ∷ lines_of behind) line-is ∙ sym line-cut.1)

    counted : count_by is_feed rest ≡ count_by is_feed text + 1 + count_by is_feed behind
    counted =
        let feed = λ (b : ℕ). cond (is_feed b) 1 0 in
        ap (count_by is_feed) (line-cut.0 ∙ sym (append_assoc text newline behind)) ∙ sum_by-append feed (text ++ newline) behind ∙ ap (λ n. n + count_by is_feed behind) (sum_by-append feed text newline)

    more-at : Progress bytes (with_shown names (name_in item)) (items ++ numbered (with_shown names (name_in item)) item ∷ []) behind (shown ++ item ∷ [])
    more-at = record {
      text = h.text ∙ sym whole;
      lines = h.lines ∙ sym all-lines;
      formed = formed-push shown item h.formed (shown-is text item e).0;
      known = known-push names shown item h.known;
      first_use = ap (λ ns. with_shown ns (name_in item)) h.first_use ∙ sym (uses-push [] shown item);
      numbers = ap (λ xs. xs ++ numbered (with_shown names (name_in item)) item ∷ []) (h.numbers ∙ sym (numbers-kept names (name_in item) shown h.formed h.known)) ∙ sym (map-append (numbered (with_shown names (name_in item))) shown (item ∷ []));
      few = omega (arith, h.few, counted, length-append shown (item ∷ []));
      sized = omega (arith, h.sized, size-shown names (name_in item), length-append shown (item ∷ []));
    }

  pub Progress-more : (next : List (List ℕ)) (x : Item NameId) → Shows names next text (Some x) → (more : List TextItem) × Progress bytes next (items ++ x ∷ []) behind more
  Progress-more next x s =
      let item = s.0 in
      let at = more-at item s.1 in (
        shown ++ item ∷ [],
        subst (λ ns. Progress bytes ns (items ++ x ∷ []) behind (shown ++ item ∷ [])) (sym s.3)
            (subst (λ y. Progress bytes (with_shown names (name_in item)) (items ++ y ∷ []) behind (shown ++ item ∷ [])) (sym (s.2 ∙ ap (λ ns. numbered ns item) s.3)) at),
      )

-- ---- the end of the bytes

pub something-left : (rest : List ℕ) (t : Bool) → t ≡ eqb (length rest) 0 → t ≡ false → 0 < length rest
something-left [] t e h = absurd cc
something-left (b ∷ bs) t e h = omega arith

pub nothing-left : (rest : List ℕ) (t : Bool) → t ≡ eqb (length rest) 0 → t ≡ true → rest ≡ []
nothing-left [] t e h = refl
nothing-left (b ∷ bs) t e h = absurd (omega (arith, eqb-true (length (b ∷ bs)) 0 (sym e ∙ h)))

named-again : (names : List (List ℕ)) (shown : List TextItem) → AllFormed shown → AllKnown names shown → map (named names) (map (numbered names) shown) ≡ shown
named-again names [] h k = refl
named-again names (x ∷ xs) h k = ap (λ y. y ∷ map (named names) (map (numbered names) xs)) (shown-named names x h.0 k.0) ∙ ap (λ ys. x ∷ ys) (named-again names xs h.1 k.1)

are-items : (shown : List TextItem) → AllFormed shown → AreItems shown
are-items [] h k d lt = absurd (omega arith)
are-items (x ∷ xs) h zero d lt = h.0
are-items (x ∷ xs) h (suc k) d lt = are-items xs h.1 k d (omega arith)

pub Progress-end : (bytes : List ℕ) (names : List (List ℕ)) (items : List (Item NameId)) (rest : List ℕ) (shown : List TextItem) → Progress bytes names items rest shown → rest ≡ [] → IsReadAs bytes names items
Progress-end bytes names items rest shown h e =
    let again : map (named names) items ≡ shown = ap (map (named names)) h.numbers ∙ named-again names shown h.formed h.known in
    record {
      text = ap text_of again ∙ sym (append-nil (text_of shown)) ∙ ap (λ t. text_of shown ++ t) (sym e) ∙ sym h.text;
      formed = subst AreItems (sym again) (are-items shown h.formed);
      first_use = h.first_use ∙ ap (names_by_first_use []) (sym again);
      numbers = h.numbers ∙ ap (map (numbered names)) (sym again);
    }

-- ---- a line that is none

all-lines-are : (shown : List TextItem) → AllFormed shown → All IsLine (map line_text shown)
all-lines-are [] h k d lt = absurd (omega arith)
all-lines-are (x ∷ xs) h zero d lt = (x, h.0, refl)
all-lines-are (x ∷ xs) h (suc k) d lt = all-lines-are xs h.1 k d (omega arith)

at-end : (ms : List (List ℕ)) (x : List ℕ) (ls : List (List ℕ)) → get_or (ms ++ x ∷ ls) (length ms) [] ≡ x
at-end [] x ls = refl
at-end (m ∷ ms) x ls = at-end ms x ls

first-bad : (bytes : List ℕ) (names : List (List ℕ)) (items : List (Item NameId)) (rest : List ℕ) (shown : List TextItem) (line : List ℕ) (more : List (List ℕ)) → Progress bytes names items rest shown → lines_of rest ≡ line ∷ more → (IsLine line → ⊥)
    → IsFirstBad (lines_of bytes) (length items + 1)
first-bad bytes names items rest shown line more h cut bad =
    let ms = map line_text shown in
    let k = length items in
    let whole : lines_of bytes ≡ ms ++ line ∷ more = h.lines ∙ ap (λ t. ms ++ t) cut in
    let long : length ms ≡ k = length-map shown line_text ∙ sym (length-map shown (numbered names)) ∙ ap length (sym h.numbers) in
    let at : k + 1 - 1 ≡ length ms = omega arith in
    let front : take (k + 1 - 1) (lines_of bytes) ≡ ms = ap (take (k + 1 - 1)) whole ∙ take_at ms (line ∷ more) (k + 1 - 1) (sym at) in
    let here : get_or (lines_of bytes) (k + 1 - 1) [] ≡ line = ap (λ l. get_or l (k + 1 - 1) []) whole ∙ ap (λ j. get_or (ms ++ line ∷ more) j []) at ∙ at-end ms line more in
    record {
      from = omega arith;
      to = omega (arith, ap length whole, length-append ms (line ∷ more));
      before = subst (All IsLine) (sym front) (all-lines-are shown h.formed);
      bad = λ w. bad (subst IsLine here w);
    }

no-some : {A : Type 0} (x : A) → ◌≡◌ {A = Option A} None (Some x) → ⊥
no-some x e = cc

-- the line of an item has a line feed
unfed : (line : List ℕ) → split 10 line ≡ None → IsLine line → ⊥
unfed line none w = no-some (body w.0, []) (sym none ∙ ap (split 10) (sym w.2) ∙ split-at is_inline 10 refl (body w.0) [] (inline-item w.0 w.1))

-- a text that shows no item
unshown : (text : List ℕ) → shown_by text ≡ None → IsLine (text ++ newline) → ⊥
unshown text none w =
    let same : body w.0 ≡ text = sym (front-of_line (body w.0)) ∙ ap (λ l. take (length l - 1) l) w.2 ∙ front-of_line text in
    no-some w.0 (sym none ∙ shown-again text w.0 w.1 same)

module _ (bytes : List ℕ) (names : List (List ℕ)) (items : List (Item NameId)) (rest : List ℕ) (shown : List TextItem) (h : Progress bytes names items rest shown) where
  pub bad-last : 0 < length rest → split 10 rest ≡ None → IsFirstBad (lines_of bytes) (length items + 1)
  bad-last some none = first-bad bytes names items rest shown rest (lines_of []) h (lines-last rest some none) (unfed rest none)

  pub bad-line : (text behind : List ℕ) → split 10 rest ≡ Some (text, behind) → shown_by text ≡ None → IsFirstBad (lines_of bytes) (length items + 1)
  bad-line text behind cut none = first-bad bytes names items rest shown (text ++ newline) (lines_of behind) h (lines-split rest (text, behind) cut).1 (unshown text none)

-- ---- a text of items

formed-from : (items : List TextItem) → AreItems items → AllFormed items
formed-from [] h = tt
formed-from (x ∷ xs) h = (h 0 Tail (omega arith), formed-from xs (λ k d below. h (suc k) d (omega (arith, below))))

lines-again : (items : List TextItem) → AllFormed items → lines_of (text_of items) ≡ map line_text items
unfolding lines_of
lines-again [] h = refl
lines-again (x ∷ xs) h =
    let cut : split 10 (line_text x ++ text_of xs) ≡ Some (body x, text_of xs) = ap (split 10) (append_assoc (body x) newline (text_of xs)) ∙ split-at is_inline 10 refl (body x) (text_of xs) (inline-item x h.0) in
    (lines-split (line_text x ++ text_of xs) (body x, text_of xs) cut).1 ∙ ap (λ ls. line_text x ∷ ls) (lines-again xs h.1)

-- no line of a text of items is bad
pub no-bad : (items : List TextItem) → AreItems items → (k : ℕ) → IsFirstBad (lines_of (text_of items)) k → ⊥
no-bad items h k b =
    let formed = formed-from items h in
    b.bad (subst (All IsLine) (sym (lines-again items formed)) (all-lines-are items formed) (k - 1) [] (let from = b.from in let to = b.to in omega (arith, from, to)))

-- ---- a line feed for each item

abbrev feed : ℕ → ℕ
feed b = cond (is_feed b) 1 0

feeds-none : (xs : List ℕ) → list_all is_inline xs ≡ true → count_by is_feed xs ≡ 0
feeds-none [] h = refl
feeds-none (x ∷ xs) h =
    let both = and_parts (is_inline x) (list_all is_inline xs) h in
    let more : count_by is_feed (x ∷ xs) ≡ 0 + feed x + count_by is_feed xs = sum_by-append feed (x ∷ []) xs in
    let none : feed x ≡ 0 = ap (λ t. cond t 1 0) (not-true _ both.0) in
    omega (arith, more, none, feeds-none xs both.1)

feeds-text : (shown : List TextItem) → AllFormed shown → count_by is_feed (text_of shown) ≡ length shown
feeds-text [] h = refl
feeds-text (x ∷ xs) h =
    let text = sum_by-append feed (line_text x) (text_of xs) in
    let line = sum_by-append feed (body x) newline in
    omega (arith, text, line, feeds-none (body x) (inline-item x h.0), feeds-text xs h.1)

-- what is read has one item for each line feed
pub item-lines : (bytes : List ℕ) (names : List (List ℕ)) (items : List (Item NameId)) → IsReadAs bytes names items → length items ≡ count_by is_feed bytes
item-lines bytes names items h =
    let shown = map (named names) items in
    sym (length-map items (named names)) ∙ sym (feeds-text shown (formed-from shown h.formed)) ∙ ap (count_by is_feed) h.text

pub ruleset feeds = (count_by-le-length)
