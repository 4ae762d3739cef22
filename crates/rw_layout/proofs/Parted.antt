-- Lines that the automaton takes are in order.
use Rattle.std.proofs.Common.{◌≡◌, ℕ, ◌+◌, ◌*◌, ◌/◌, ◌%◌, Bool, true, false, List, [], ◌∷◌, ◌++◌, Option, Some, None, cond, map, refl, sym, ap, subst, ◌∙◌, arith, ◌&&◌, ◌||◌}
use Rattle.std.specs.Prelude.{count_by, flat_map, is_some, option_and_then, ◌==◌, if◌then◌else◌}
use Rattle.std.specs.List.{list_all}
use Rattle.std.specs.Str.{bytes_eq}
use Rattle.std.proofs.lemmas.Bool.{eqb-true}
use Rattle.std.proofs.lemmas.List.{append_assoc}
use Rattle.std.proofs.lemmas.List.Sums.{sum_by-cons}
use Rattle.std.proofs.lemmas.Slice.Eq.{bytes_eq-Decides}
use Rattle.x86_insn.specs.declared.kinds.Plain.TheVariants.{Int3}
use Rattle.x86_insn.specs.declared.instruction.Insn.{Insn}
use Rattle.x86_insn.specs.declared.instruction.Insn.TheVariants.{Plain}
use Rattle.asm_items.specs.declared.item.Item.{Item}
use Rattle.asm_items.specs.declared.item.Item.TheVariants.{Copy, Comment, Weak, Globl, TextHead, Align, FuncKind, Name, Label, Ins, SectionHead, Zero, CountsHead, Tail}
use Rattle.asm_items.specs.declared.item.Label.TheVariants as label
use Rattle.asm_items.specs.declared.item.Sym.{Sym}
use Rattle.asm_items.specs.Lines.{Items}
use Rattle.rw_layout.specs.Order.{Function, Section, Parts, AreParts, IsOrdered, entry_name, entry_lines, function_lines, is_body_line, is_content, are_contents, sections_lines, counts_name, counter_lines, parts_lines}
use Rattle.rw_layout.specs.States.{next_if, next_part, entry_of, is_int3}
use Rattle.rw_layout.specs.declared.order.State.{State}
use Rattle.rw_layout.specs.declared.order.State.TheVariants.{Copies, Weaks, Head, Code, Open, Kind, Naming, Body, Closing, Between, Aligned, Labelled, OneZero, Contents, More, CountsGlobl, CountsAlign, CountsName, CountsZero, Last, Done}
use Rattle.rw_layout.proofs.Taken.{Takes, then_after, bit, has_entry, has_bodies, has_contents}

-- ---- what lines that lead to the end are, by the state before them

abbrev ToEnd : State → Items → Type 0
ToEnd s items = Takes s items Done

-- sections with numbers from n on, the counters, and the end
record AtPart (n : ℕ) (items : Items) : Type 0 where
  sections : List Section
  counters : Option ℕ
  contents : has_contents sections ≡ true
  lines : sections_lines n sections ++ (counter_lines counters ++ Tail ∷ []) ≡ items

-- lines of data before the next part
record AtData (n : ℕ) (items : Items) : Type 0 where
  data_lines : Items
  rest : Items
  contents : list_all is_content data_lines ≡ true
  lines : data_lines ++ rest ≡ items
  part : AtPart n rest

record AtSection (n : ℕ) (nobits : Bool) (items : Items) : Type 0 where
  data_lines : Items
  rest : Items
  contents : are_contents nobits data_lines ≡ true
  lines : data_lines ++ rest ≡ items
  part : AtPart (n + 1) rest

record AtFunctions (entered : Bool) (items : Items) : Type 0 where
  functions : List Function
  rest : Items
  bodies : has_bodies functions ≡ true
  one : bit entered + count_by has_entry functions ≡ 1
  lines : flat_map function_lines functions ++ rest ≡ items
  part : AtPart 0 rest

record AtBody (entered : Bool) (items : Items) : Type 0 where
  body : Items
  past : ℕ
  rest : Items
  all : list_all is_body_line body ≡ true
  lines : body ++ Label (label.Past past) ∷ Ins (Plain Int3) ∷ rest ≡ items
  functions : AtFunctions entered rest

record AtLabel (entered : Bool) (items : Items) : Type 0 where
  first : ℕ
  rest : Items
  lines : Label (label.Code first) ∷ rest ≡ items
  body : AtBody entered rest

record AtOpen (entered : Bool) (items : Items) : Type 0 where
  entry : Option Bool
  rest : Items
  once : (entered && is_some entry) ≡ false
  lines : entry_lines entry ++ rest ≡ items
  labelled : AtLabel (entered || is_some entry) rest

record AtText (items : Items) : Type 0 where
  weak : List (List ℕ)
  rest : Items
  lines : map Weak weak ++ rest ≡ items
  functions : AtFunctions false rest

-- ---- steps back

passed : (t : Bool) (s : State) (items : Items) → then_after items (next_if t s) ≡ Some Done → (t ≡ true) × ToEnd s items
passed true s items h = (refl, h)
passed false s items h = cc

is-int3 : (i : Insn (Sym (List ℕ))) → is_int3 i ≡ true → i ≡ Plain Int3
is-int3 (Plain Int3) h = refl
is-int3 _ h = cc

entry-of : (name : List ℕ) (items : Items) → then_after items (option_and_then (λ hosted. Some (Kind hosted)) (entry_of name)) ≡ Some Done
    → (hosted : Bool) × (name ≡ entry_name hosted) × ToEnd (Kind hosted) items
entry-of name items h = by_main (bytes_eq name (entry_name true)) (bytes_eq name (entry_name false)) refl refl h
  where
    by_main : (t u : Bool) → bytes_eq name (entry_name true) ≡ t → bytes_eq name (entry_name false) ≡ u
        → then_after items (option_and_then (λ hosted. Some (Kind hosted)) (if t then Some true else if u then Some false else None)) ≡ Some Done
        → (hosted : Bool) × (name ≡ entry_name hosted) × ToEnd (Kind hosted) items
    by_main true u e f h = (true, (bytes_eq-Decides name (entry_name true)).0 e, h)
    by_main false true e f h = (false, (bytes_eq-Decides name (entry_name false)).0 f, h)
    by_main false false e f h = cc

same-name : (name other : List ℕ) (s : State) (items : Items) → then_after items (next_if (bytes_eq name other) s) ≡ Some Done → (name ≡ other) × ToEnd s items
same-name name other s items h = let both = passed (bytes_eq name other) s items h in ((bytes_eq-Decides name other).0 both.0, both.1)

same-number : (a b : ℕ) (s : State) (items : Items) → then_after items (next_if (a == b) s) ≡ Some Done → (a ≡ b) × ToEnd s items
same-number a b s items h = let both = passed (a == b) s items h in (eqb-true a b both.0, both.1)

-- ---- the end and the counters

at-done : (items : Items) → ToEnd Done items → items ≡ []
at-done [] h = refl
at-done (_ ∷ items) h = cc

at-last : (items : Items) → ToEnd Last items → items ≡ Tail ∷ []
at-last [] h = cc
at-last (Tail ∷ items) h = ap (λ xs. Tail ∷ xs) (at-done items h)
at-last (_ ∷ items) h = cc

at-zero : (items : Items) → ToEnd CountsZero items → (count : ℕ) × (items ≡ Zero (8 * count) ∷ Tail ∷ [])
at-zero [] h = cc
at-zero (Zero size ∷ items) h =
    let both = same-number (size % 8) 0 Last items h in
    let whole : size ≡ 8 * (size / 8) = omega (arith, both.0) in
    (size / 8, ap (λ n. Zero n ∷ items) whole ∙ ap (λ xs. Zero (8 * (size / 8)) ∷ xs) (at-last items both.1))
at-zero (_ ∷ items) h = cc

at-name : (items : Items) → ToEnd CountsName items → (count : ℕ) × (items ≡ Name counts_name ∷ Zero (8 * count) ∷ Tail ∷ [])
at-name [] h = cc
at-name (Name name ∷ items) h =
    let both = same-name name counts_name CountsZero items h in
    let rest = at-zero items both.1 in
    (rest.0, ap (λ n. Name n ∷ items) both.0 ∙ ap (λ xs. Name counts_name ∷ xs) rest.1)
at-name (_ ∷ items) h = cc

at-align : (items : Items) → ToEnd CountsAlign items → (count : ℕ) × (items ≡ Align 3 ∷ Name counts_name ∷ Zero (8 * count) ∷ Tail ∷ [])
at-align [] h = cc
at-align (Align k ∷ items) h =
    let both = same-number k 3 CountsName items h in
    let rest = at-name items both.1 in
    (rest.0, ap (λ n. Align n ∷ items) both.0 ∙ ap (λ xs. Align 3 ∷ xs) rest.1)
at-align (_ ∷ items) h = cc

at-globl : (items : Items) → ToEnd CountsGlobl items → (count : ℕ) × (CountsHead ∷ items ≡ counter_lines (Some count) ++ Tail ∷ [])
at-globl [] h = cc
at-globl (Globl name ∷ items) h =
    let both = same-name name counts_name CountsAlign items h in
    let rest = at-align items both.1 in
    (rest.0, ap (λ n. CountsHead ∷ Globl n ∷ items) both.0 ∙ ap (λ xs. CountsHead ∷ Globl counts_name ∷ xs) rest.1)
at-globl (_ ∷ items) h = cc

-- ---- sections

part-of-end : (n : ℕ) (counters : Option ℕ) (items : Items) → items ≡ counter_lines counters ++ Tail ∷ [] → AtPart n items
part-of-end n counters items e = record { sections = []; counters = counters; contents = refl; lines = sym e }

part-more : (n : ℕ) (writable nobits : Bool) (align : ℕ) (items : Items) → AtSection n nobits items
    → AtPart n (SectionHead n writable nobits ∷ Align align ∷ Label (label.Section n) ∷ items)
part-more n writable nobits align items at =
    let one : Section = record { writable = writable; nobits = nobits; align = align; contents = at.data_lines } in
    record {
      sections = one ∷ at.part.sections;
      counters = at.part.counters;
      contents = grind (arith, at.contents, at.part.contents);
      lines = ap (λ xs. SectionHead n writable nobits ∷ Align align ∷ Label (label.Section n) ∷ xs)
          (append_assoc at.data_lines (sections_lines (n + 1) at.part.sections) (counter_lines at.part.counters ++ Tail ∷ []) ∙ ap (λ xs. at.data_lines ++ xs) at.part.lines ∙ at.lines);
    }

-- ---- functions

functions-more : (entered : Bool) (title : List ℕ) (items : Items) → AtOpen entered items → AtFunctions entered (Comment title ∷ TextHead ∷ Align 4 ∷ items)
functions-more entered title items at =
    let body = at.labelled.body in
    let more = body.functions in
    let f : Function = record { title = title; entry = at.entry; first = at.labelled.first; body = body.body; past = body.past } in
    let tail : Items = Label (label.Past body.past) ∷ Ins (Plain Int3) ∷ [] in
    let sum : count_by has_entry (f ∷ more.functions) ≡ bit (is_some at.entry) + count_by has_entry more.functions = sum_by-cons (λ x. cond (has_entry x) 1 0) f more.functions in
    let all : flat_map function_lines (f ∷ more.functions) ++ more.rest ≡ Comment title ∷ TextHead ∷ Align 4 ∷ items =
    ap (λ xs. Comment title ∷ TextHead ∷ Align 4 ∷ xs) (
    append_assoc (entry_lines at.entry ++ Label (label.Code at.labelled.first) ∷ (body.body ++ tail)) (flat_map function_lines more.functions) more.rest
    ∙ append_assoc (entry_lines at.entry) (Label (label.Code at.labelled.first) ∷ (body.body ++ tail)) (flat_map function_lines more.functions ++ more.rest)
    ∙ ap (λ xs. entry_lines at.entry ++ Label (label.Code at.labelled.first) ∷ xs)
    (append_assoc body.body tail (flat_map function_lines more.functions ++ more.rest) ∙ ap (λ xs. body.body ++ Label (label.Past body.past) ∷ Ins (Plain Int3) ∷ xs) more.lines ∙ body.lines)
    ∙ ap (λ xs. entry_lines at.entry ++ xs) at.labelled.lines ∙ at.lines) in
    record {
      functions = f ∷ more.functions;
      rest = more.rest;
      bodies = grind (arith, body.all, more.bodies);
      one = one_more entered (is_some at.entry) (count_by has_entry more.functions) (count_by has_entry (f ∷ more.functions)) at.once more.one sum;
      lines = all;
      part = more.part;
    }
  where
    one_more : (a b : Bool) (n m : ℕ) → (a && b) ≡ false → bit (a || b) + n ≡ 1 → m ≡ bit b + n → bit a + m ≡ 1
    one_more true true n m h e f = cc
    one_more true false n m h e f = omega (arith, e, f)
    one_more false true n m h e f = omega (arith, e, f)
    one_more false false n m h e f = omega (arith, e, f)

label-only : (items : Items) → AtOpen true items → AtLabel true items
label-only items at = by_entry at.entry at.rest at.once at.lines at.labelled
  where
    by_entry : (entry : Option Bool) (rest : Items) → (true && is_some entry) ≡ false → entry_lines entry ++ rest ≡ items → AtLabel (true || is_some entry) rest → AtLabel true items
    by_entry None rest h e labelled = subst (AtLabel true) e labelled
    by_entry (Some hosted) rest h e labelled = cc

record AtCopies (items : Items) : Type 0 where
  copies : List (List ℕ × ℕ)
  rest : Items
  lines : map (λ copy. Copy copy.0 copy.1) copies ++ rest ≡ items
  text : AtText rest

-- what the lines are, by the state before them
abbrev At : State → Items → Type 0
At Copies items = AtCopies items
At Weaks items = AtText items
At (Head entered) items = (rest : Items) × (TextHead ∷ Align 4 ∷ rest ≡ items) × AtOpen entered rest
At (Code entered) items = (rest : Items) × (Align 4 ∷ rest ≡ items) × AtOpen entered rest
At (Open entered) items = AtOpen entered items
At (Kind hosted) items = (rest : Items) × (FuncKind (entry_name hosted) ∷ Name (entry_name hosted) ∷ rest ≡ items) × AtLabel true rest
At (Naming hosted) items = (rest : Items) × (Name (entry_name hosted) ∷ rest ≡ items) × AtLabel true rest
At (Body entered) items = AtBody entered items
At (Closing entered) items = (rest : Items) × (Ins (Plain Int3) ∷ rest ≡ items) × AtFunctions entered rest
At (Between entered) items = AtFunctions entered items
At (Aligned n nobits) items = (align : ℕ) × (rest : Items) × (Align align ∷ Label (label.Section n) ∷ rest ≡ items) × AtSection n nobits rest
At (Labelled n nobits) items = (rest : Items) × (Label (label.Section n) ∷ rest ≡ items) × AtSection n nobits rest
At (OneZero n) items = AtSection n true items
At (Contents n) items = AtSection n false items
At (More n true) items = AtData n items
At (More n false) items = AtPart n items
At _ items = Unit {0}

at-part : (n : ℕ) (item : Item (List ℕ)) (items : Items) → ((s : State) → ToEnd s items → At s items) → then_after items (next_part n item) ≡ Some Done → AtPart n (item ∷ items)
at-part n (SectionHead m writable nobits) items rec h =
    let both = same-number m n (Aligned n nobits) items h in
    let at = rec (Aligned n nobits) both.1 in
    subst (AtPart n) (ap (λ xs. SectionHead n writable nobits ∷ xs) at.2 ∙ ap (λ k. SectionHead k writable nobits ∷ items) (sym both.0)) (part-more n writable nobits at.0 at.1 at.3)
at-part n CountsHead items rec h = let at = at-globl items h in part-of-end n (Some at.0) (CountsHead ∷ items) at.1
at-part n Tail items rec h = part-of-end n None (Tail ∷ items) (ap (λ xs. Tail ∷ xs) (at-done items h))
at-part n _ items rec h = cc

data-none : (n : ℕ) (items : Items) → AtPart n items → AtData n items
data-none n items part = record { data_lines = []; rest = items; contents = refl; lines = refl; part = part }

data-more : (n : ℕ) (item : Item (List ℕ)) (items : Items) → is_content item ≡ true → AtData n items → AtData n (item ∷ items)
data-more n item items e at = record { data_lines = item ∷ at.data_lines; rest = at.rest; contents = grind (arith, e, at.contents); lines = ap (λ xs. item ∷ xs) at.lines; part = at.part }

at-data : (n : ℕ) (item : Item (List ℕ)) (items : Items) → ((s : State) → ToEnd s items → At s items) → (t : Bool) → is_content item ≡ t
    → then_after items (if t then Some (More n true) else next_part n item) ≡ Some Done → AtData n (item ∷ items)
at-data n item items rec true e h = data-more n item items e (rec (More n true) h)
at-data n item items rec false e h = data-none n (item ∷ items) (at-part n item items rec h)

section-of-data : (n : ℕ) (item : Item (List ℕ)) (items : Items) → is_content item ≡ true → AtData (n + 1) items → AtSection n false (item ∷ items)
section-of-data n item items e at = record {
  data_lines = item ∷ at.data_lines;
  rest = at.rest;
  contents = grind (arith, e, at.contents);
  lines = ap (λ xs. item ∷ xs) at.lines;
  part = at.part;
}

no-functions : (items : Items) → AtPart 0 items → AtFunctions true items
no-functions items part = record { functions = []; rest = items; bodies = refl; one = refl; lines = refl; part = part }

no-weak : (items : Items) → AtFunctions false items → AtText items
no-weak items functions = record { weak = []; rest = items; lines = refl; functions = functions }

weak-more : (name : List ℕ) (items : Items) → AtText items → AtText (Weak name ∷ items)
weak-more name items at = record { weak = name ∷ at.weak; rest = at.rest; lines = ap (λ xs. Weak name ∷ xs) at.lines; functions = at.functions }

no-copies : (items : Items) → AtText items → AtCopies items
no-copies items text = record { copies = []; rest = items; lines = refl; text = text }

functions-at : (entered : Bool) (title : List ℕ) (items : Items) → At (Head entered) items → AtFunctions entered (Comment title ∷ items)
functions-at entered title items at = subst (AtFunctions entered) (ap (λ xs. Comment title ∷ xs) at.1) (functions-more entered title at.0 at.2)

body-more : (entered : Bool) (item : Item (List ℕ)) (items : Items) → is_body_line item ≡ true → AtBody entered items → AtBody entered (item ∷ items)
body-more entered item items e at = record { body = item ∷ at.body; past = at.past; rest = at.rest; all = grind (arith, e, at.all); lines = ap (λ xs. item ∷ xs) at.lines; functions = at.functions }

body-none : (entered : Bool) (past : ℕ) (items : Items) → At (Closing entered) items → AtBody entered (Label (label.Past past) ∷ items)
body-none entered past items at = record { body = []; past = past; rest = at.0; all = refl; lines = ap (λ xs. Label (label.Past past) ∷ xs) at.1; functions = at.2 }

open-label : (entered : Bool) (first : ℕ) (items : Items) → AtBody entered items → AtOpen entered (Label (label.Code first) ∷ items)
open-label true first items body = record { entry = None; rest = Label (label.Code first) ∷ items; once = refl; lines = refl; labelled = record { first = first; rest = items; lines = refl; body = body } }
open-label false first items body = record { entry = None; rest = Label (label.Code first) ∷ items; once = refl; lines = refl; labelled = record { first = first; rest = items; lines = refl; body = body } }

at-more : (n : ℕ) (d : Bool) (item : Item (List ℕ)) (items : Items) → ((s : State) → ToEnd s items → At s items) → ToEnd (More n d) (item ∷ items) → At (More n d) (item ∷ items)
at-more n true item items rec h = at-data n item items rec (is_content item) refl h
at-more n false item items rec h = at-part n item items rec h

at : (items : Items) (s : State) → ToEnd s items → At s items
at [] (More n true) h = cc
at [] (More n false) h = cc
at [] Copies h = cc
at [] Weaks h = cc
at [] (Head e) h = cc
at [] (Code e) h = cc
at [] (Open e) h = cc
at [] (Kind e) h = cc
at [] (Naming e) h = cc
at [] (Body e) h = cc
at [] (Closing e) h = cc
at [] (Between e) h = cc
at [] (Aligned n b) h = cc
at [] (Labelled n b) h = cc
at [] (OneZero n) h = cc
at [] (Contents n) h = cc
at [] _ h = tt
at (Copy name size ∷ items) Copies h =
    let more = at items Copies h in
    record { copies = (name, size) ∷ more.copies; rest = more.rest; lines = ap (λ xs. Copy name size ∷ xs) more.lines; text = more.text }
at (Weak name ∷ items) Copies h = no-copies (Weak name ∷ items) (weak-more name items (at items Weaks h))
at (Comment name ∷ items) Copies h = no-copies (Comment name ∷ items) (no-weak (Comment name ∷ items) (functions-at false name items (at items (Head false) h)))
at (_ ∷ items) Copies h = cc
at (Weak name ∷ items) Weaks h = weak-more name items (at items Weaks h)
at (Comment name ∷ items) Weaks h = no-weak (Comment name ∷ items) (functions-at false name items (at items (Head false) h))
at (_ ∷ items) Weaks h = cc
at (TextHead ∷ items) (Head e) h = let more = at items (Code e) h in (more.0, ap (λ xs. TextHead ∷ xs) more.1, more.2)
at (_ ∷ items) (Head e) h = cc
at (Align k ∷ items) (Code e) h =
    let both = same-number k 4 (Open e) items h in (items, ap (λ n. Align n ∷ items) (sym both.0), at items (Open e) both.1)
at (_ ∷ items) (Code e) h = cc
at (Globl name ∷ items) (Open false) h =
    let found = entry-of name items h in
    let more = at items (Kind found.0) found.2 in
    record {
      entry = Some found.0;
      rest = more.0;
      once = refl;
      lines = ap (λ xs. Globl (entry_name found.0) ∷ xs) more.1 ∙ ap (λ n. Globl n ∷ items) (sym found.1);
      labelled = more.2;
    }
at (Label (label.Code a) ∷ items) (Open true) h = open-label true a items (at items (Body true) h)
at (Label (label.Code a) ∷ items) (Open false) h = open-label false a items (at items (Body false) h)
at (_ ∷ items) (Open true) h = cc
at (_ ∷ items) (Open false) h = cc
at (FuncKind name ∷ items) (Kind hosted) h =
    let both = same-name name (entry_name hosted) (Naming hosted) items h in
    let more = at items (Naming hosted) both.1 in
    (more.0, ap (λ xs. FuncKind (entry_name hosted) ∷ xs) more.1 ∙ ap (λ n. FuncKind n ∷ items) (sym both.0), more.2)
at (_ ∷ items) (Kind hosted) h = cc
at (Name name ∷ items) (Naming hosted) h =
    let both = same-name name (entry_name hosted) (Open true) items h in
    (items, ap (λ n. Name n ∷ items) (sym both.0), label-only items (at items (Open true) both.1))
at (_ ∷ items) (Naming hosted) h = cc
at (Label (label.Code a) ∷ items) (Body e) h = body-more e (Label (label.Code a)) items refl (at items (Body e) h)
at (Ins i ∷ items) (Body e) h = body-more e (Ins i) items refl (at items (Body e) h)
at (Label (label.Past a) ∷ items) (Body e) h = body-none e a items (at items (Closing e) h)
at (_ ∷ items) (Body e) h = cc
at (Ins i ∷ items) (Closing e) h =
    let both = passed (is_int3 i) (Between e) items h in
    (items, ap (λ j. Ins j ∷ items) (sym (is-int3 i both.0)), at items (Between e) both.1)
at (_ ∷ items) (Closing e) h = cc
at (Comment name ∷ items) (Between e) h = functions-at e name items (at items (Head e) h)
at (item ∷ items) (Between true) h = no-functions (item ∷ items) (at-part 0 item items (at items) h)
at (_ ∷ items) (Between false) h = cc
at (Align k ∷ items) (Aligned n nobits) h = let more = at items (Labelled n nobits) h in (k, more.0, ap (λ xs. Align k ∷ xs) more.1, more.2)
at (_ ∷ items) (Aligned n nobits) h = cc
at (Label (label.Section m) ∷ items) (Labelled n true) h =
    let both = same-number m n (OneZero n) items h in (items, ap (λ k. Label (label.Section k) ∷ items) (sym both.0), at items (OneZero n) both.1)
at (Label (label.Section m) ∷ items) (Labelled n false) h =
    let both = same-number m n (Contents n) items h in (items, ap (λ k. Label (label.Section k) ∷ items) (sym both.0), at items (Contents n) both.1)
at (_ ∷ items) (Labelled n nobits) h = cc
at (Zero size ∷ items) (OneZero n) h = record { data_lines = Zero size ∷ []; rest = items; contents = refl; lines = refl; part = at items (More (n + 1) false) h }
at (_ ∷ items) (OneZero n) h = cc
at (item ∷ items) (Contents n) h =
    let both = passed (is_content item) (More (n + 1) true) items h in
    section-of-data n item items both.0 (at items (More (n + 1) true) both.1)
at (item ∷ items) (More n d) h = at-more n d item items (at items) h
at (_ ∷ items) _ h = tt

pub taken-ordered : (items : Items) → Takes Copies items Done → IsOrdered items
taken-ordered items h =
    let copies = at items Copies h in
    let functions = copies.text.functions in
    let part = functions.part in
    let parts : Parts = record { copies = copies.copies; weak = copies.text.weak; functions = functions.functions; sections = part.sections; counters = part.counters } in
    let are : AreParts parts = record { bodies = functions.bodies; contents = part.contents; entry = omega (arith, functions.one) } in
    let same : parts_lines parts ≡ items =
    ap (λ xs. map (λ copy. Copy copy.0 copy.1) copies.copies ++ (map Weak copies.text.weak ++ (flat_map function_lines functions.functions ++ xs))) part.lines
    ∙ ap (λ xs. map (λ copy. Copy copy.0 copy.1) copies.copies ++ (map Weak copies.text.weak ++ xs)) functions.lines
    ∙ ap (λ xs. map (λ copy. Copy copy.0 copy.1) copies.copies ++ xs) copies.text.lines
    ∙ copies.lines in
    (parts, are, same)
