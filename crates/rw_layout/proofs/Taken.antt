-- Lines in order are taken by the automaton.
use Rattle.std.proofs.Common.{◌≡◌, ℕ, ◌+◌, ◌*◌, ◌%◌, Bool, true, false, List, [], ◌∷◌, ◌++◌, Option, Some, None, cond, map, refl, ap, subst, ◌∙◌, arith, ◌&&◌, ◌||◌}
use Rattle.std.specs.Prelude.{count_by, flat_map, is_some, not, option_and_then, ◌==◌, if◌then◌else◌}
use Rattle.std.proofs.lemmas.List.Sums.{sum_by-cons}
use Rattle.std.specs.List.{list_all}
use Rattle.std.proofs.lemmas.Bool.{and_parts, eq-eqb}
use Rattle.x86_insn.specs.declared.kinds.Plain.TheVariants.{Int3}
use Rattle.x86_insn.specs.declared.instruction.Insn.TheVariants.{Plain}
use Rattle.asm_items.specs.declared.item.Item.{Item}
use Rattle.asm_items.specs.declared.item.Item.TheVariants.{Copy, Weak, TextHead, Align, Label, Ins, SectionHead, Zero, Tail}
use Rattle.asm_items.specs.declared.item.Label.TheVariants as label
use Rattle.asm_items.specs.Lines.{Items}
use Rattle.rw_layout.specs.Order.{Function, Section, IsOrdered, entry_lines, function_lines, is_body_line, is_content, are_contents, section_lines, sections_lines, counter_lines, parts_lines}
use Rattle.rw_layout.specs.States.{next, next_if, next_part, after}
use Rattle.rw_layout.specs.declared.order.State.{State}
use Rattle.rw_layout.specs.declared.order.State.TheVariants.{Copies, Weaks, Head, Open, Body, Between, Aligned, OneZero, Contents, More, CountsZero, Last, Done}

-- ---- lines one after another

abbrev pub Takes : State → Items → State → Type 0
Takes s items t = after s items ≡ Some t

abbrev pub then_after : Items → Option State → Option State
then_after items o = option_and_then (λ t. after t items) o

pub after-append : (s : State) (xs ys : Items) → after s (xs ++ ys) ≡ then_after ys (after s xs)
after-append s [] ys = refl
after-append s (x ∷ xs) ys = by_next (λ t. after-append t xs ys) (next s x)
  where
    by_next : ((t : State) → after t (xs ++ ys) ≡ then_after ys (after t xs)) → (o : Option State) → then_after (xs ++ ys) o ≡ then_after ys (then_after xs o)
    by_next h None = refl
    by_next h (Some t) = h t

pub takes-both : (s t u : State) (xs ys : Items) → Takes s xs t → Takes t ys u → Takes s (xs ++ ys) u
takes-both s t u xs ys e f = after-append s xs ys ∙ ap (then_after ys) e ∙ f

-- ---- copies and weak names

abbrev copy_line : List ℕ × ℕ → Item (List ℕ)
copy_line copy = Copy copy.0 copy.1

takes-copies : (copies : List (List ℕ × ℕ)) → Takes Copies (map copy_line copies) Copies
takes-copies [] = refl
takes-copies (copy ∷ copies) = takes-copies copies

-- at copies, or at weak names behind them
abbrev pub lead : Bool → State
lead true = Copies
lead false = Weaks

takes-weaks : (names : List (List ℕ)) → Takes Weaks (map Weak names) Weaks
takes-weaks [] = refl
takes-weaks (name ∷ names) = takes-weaks names

takes-weak : (names : List (List ℕ)) → (b : Bool) × Takes Copies (map Weak names) (lead b)
takes-weak [] = (true, refl)
takes-weak (name ∷ names) = (false, takes-weaks names)

-- ---- functions

takes-body : (entered : Bool) (body : Items) → list_all is_body_line body ≡ true → Takes (Body entered) body (Body entered)
takes-body entered [] h = refl
takes-body entered (Label (label.Code a) ∷ body) h = takes-body entered body h
takes-body entered (Ins i ∷ body) h = takes-body entered body h
takes-body entered (_ ∷ body) h = cc

abbrev closing : ℕ → Items
closing past = Label (label.Past past) ∷ Ins (Plain Int3) ∷ []

-- from its first label on
takes-labelled : (entered : Bool) (first past : ℕ) (body : Items) → list_all is_body_line body ≡ true
    → Takes (Open entered) (Label (label.Code first) ∷ (body ++ closing past)) (Between entered)
takes-labelled true first past body h = takes-both (Body true) (Body true) (Between true) body (closing past) (takes-body true body h) refl
takes-labelled false first past body h = takes-both (Body false) (Body false) (Between false) body (closing past) (takes-body false body h) refl

takes-entry : (hosted : Bool) → Takes (Open false) (entry_lines (Some hosted)) (Open true)
takes-entry true = refl
takes-entry false = refl

abbrev opened : Function → Items
opened f = entry_lines f.entry ++ Label (label.Code f.first) ∷ (f.body ++ closing f.past)

takes-opened : (entered : Bool) (entry : Option Bool) (first past : ℕ) (body : Items) → list_all is_body_line body ≡ true → (entered && is_some entry) ≡ false
    → Takes (Open entered) (entry_lines entry ++ Label (label.Code first) ∷ (body ++ closing past)) (Between (entered || is_some entry))
takes-opened true None first past body h fits = takes-labelled true first past body h
takes-opened false None first past body h fits = takes-labelled false first past body h
takes-opened true (Some hosted) first past body h fits = cc
takes-opened false (Some hosted) first past body h fits =
    takes-both (Open false) (Open true) (Between true) (entry_lines (Some hosted)) (Label (label.Code first) ∷ (body ++ closing past)) (takes-entry hosted) (takes-labelled true first past body h)

-- a function behind its comment
takes-function : (entered : Bool) (f : Function) → list_all is_body_line f.body ≡ true → (entered && is_some f.entry) ≡ false
    → Takes (Head entered) (TextHead ∷ Align 4 ∷ opened f) (Between (entered || is_some f.entry))
takes-function true f h fits = takes-opened true f.entry f.first f.past f.body h fits
takes-function false f h fits = takes-opened false f.entry f.first f.past f.body h fits

abbrev pub bit : Bool → ℕ
bit b = cond b 1 0

abbrev pub has_entry : Function → Bool
has_entry f = is_some f.entry

abbrev pub has_bodies : List Function → Bool
has_bodies functions = list_all (λ f. list_all is_body_line f.body) functions

at-most-one : (a b : Bool) (n : ℕ) → bit a + (bit b + n) ≡ 1 → ((a && b) ≡ false) × (bit (a || b) + n ≡ 1)
at-most-one true true n e = absurd (omega (arith, e))
at-most-one true false n e = (refl, omega (arith, e))
at-most-one false true n e = (refl, omega (arith, e))
at-most-one false false n e = (refl, omega (arith, e))

pub one-entry : (entered : Bool) (f : Function) (functions : List Function) → bit entered + count_by has_entry (f ∷ functions) ≡ 1
    → ((entered && is_some f.entry) ≡ false) × (bit (entered || is_some f.entry) + count_by has_entry functions ≡ 1)
one-entry entered f functions one =
    let sum : count_by has_entry (f ∷ functions) ≡ bit (is_some f.entry) + count_by has_entry functions = sum_by-cons (λ x. cond (has_entry x) 1 0) f functions in
    at-most-one entered (is_some f.entry) (count_by has_entry functions) (omega (arith, one, sum))

takes-functions : (entered : Bool) (functions : List Function) → has_bodies functions ≡ true → bit entered + count_by has_entry functions ≡ 1
    → Takes (Between entered) (flat_map function_lines functions) (Between true)
takes-functions true [] bodies one = refl
takes-functions false [] bodies one = absurd (omega (arith, one))
takes-functions entered (f ∷ functions) bodies one =
    let both = and_parts (list_all is_body_line f.body) (has_bodies functions) bodies in
    let fits = one-entry entered f functions one in
    takes-both (Between entered) (Between (entered || is_some f.entry)) (Between true) (function_lines f) (flat_map function_lines functions)
    (takes-function entered f both.0 fits.0) (takes-functions (entered || is_some f.entry) functions both.1 fits.1)

-- the first function stands behind copies or weak names as behind another function
takes-first : (b : Bool) (functions : List Function) → has_bodies functions ≡ true → count_by has_entry functions ≡ 1
    → Takes (lead b) (flat_map function_lines functions) (Between true)
takes-first b [] bodies one = absurd (omega (arith, one))
takes-first true (f ∷ functions) bodies one = takes-functions false (f ∷ functions) bodies (omega (arith, one))
takes-first false (f ∷ functions) bodies one = takes-functions false (f ∷ functions) bodies (omega (arith, one))

-- ---- sections

-- behind a section, or the last function: the next section has this number
pub data IsPart : ℕ → State → Type 0 where
  functions : IsPart 0 (Between true)
  section : (n : ℕ) (d : Bool) → IsPart n (More n d)

same-number : (n : ℕ) (s : State) → next_if (n == n) s ≡ Some s
same-number n s = ap (λ t. next_if t s) (eq-eqb n n refl)

part-head : (n : ℕ) (s : State) → IsPart n s → (writable nobits : Bool) → next s (SectionHead n writable nobits) ≡ Some (Aligned n nobits)
part-head n s functions writable nobits = same-number 0 (Aligned 0 nobits)
part-head n s (section m true) writable nobits = same-number m (Aligned m nobits)
part-head n s (section m false) writable nobits = same-number m (Aligned m nobits)

takes-content : (n : ℕ) (lines : Items) → list_all is_content lines ≡ true → Takes (More n true) lines (More n true)
takes-content n [] h = refl
takes-content n (line ∷ lines) h =
    let both = and_parts (is_content line) (list_all is_content lines) h in
    ap (λ t. then_after lines (if t then Some (More n true) else next_part n line)) both.0 ∙ takes-content n lines both.1

takes-contents : (n : ℕ) (nobits : Bool) (lines : Items) → are_contents nobits lines ≡ true
    → Takes (if nobits then OneZero n else Contents n) lines (More (n + 1) (not nobits))
takes-contents n true [] h = cc
takes-contents n true (Zero size ∷ []) h = refl
takes-contents n true (Zero size ∷ line ∷ lines) h = cc
takes-contents n true (_ ∷ lines) h = cc
takes-contents n false [] h = cc
takes-contents n false (line ∷ lines) h =
    let both = and_parts (is_content line) (list_all is_content lines) h in
    ap (λ t. then_after lines (next_if t (More (n + 1) true))) both.0 ∙ takes-content (n + 1) lines both.1

takes-section : (n : ℕ) (s : State) → IsPart n s → (one : Section) → are_contents one.nobits one.contents ≡ true
    → Takes s (section_lines n one) (More (n + 1) (not one.nobits))
takes-section n s is one h =
    ap (then_after (Align one.align ∷ Label (label.Section n) ∷ one.contents)) (part-head n s is one.writable one.nobits)
    ∙ ap (then_after one.contents) (same-number n (if one.nobits then OneZero n else Contents n))
    ∙ takes-contents n one.nobits one.contents h

abbrev pub has_contents : List Section → Bool
has_contents sections = list_all (λ s. are_contents s.nobits s.contents) sections

pub record Reaches (s : State) (items : Items) : Type 0 where
  pub number : ℕ
  pub state : State
  pub part : IsPart number state
  pub takes : Takes s items state

takes-sections : (n : ℕ) (s : State) → IsPart n s → (sections : List Section) → has_contents sections ≡ true → Reaches s (sections_lines n sections)
takes-sections n s is [] h = record { number = n; state = s; part = is; takes = refl }
takes-sections n s is (one ∷ sections) h =
    let both = and_parts (are_contents one.nobits one.contents) (has_contents sections) h in
    let rest = takes-sections (n + 1) (More (n + 1) (not one.nobits)) (section (n + 1) (not one.nobits)) sections both.1 in
    record {
      number = rest.number;
      state = rest.state;
      part = rest.part;
      takes = takes-both s (More (n + 1) (not one.nobits)) rest.state (section_lines n one) (sections_lines (n + 1) sections) (takes-section n s is one both.0) rest.takes;
    }

-- ---- counters and the end

eights : (count : ℕ) → (8 * count % 8 == 0) ≡ true
eights count = eq-eqb (8 * count % 8) 0 (omega arith)

takes-counts : (count : ℕ) → Takes CountsZero (Zero (8 * count) ∷ Tail ∷ []) Done
takes-counts count = ap (λ t. then_after (Tail ∷ []) (next_if t Last)) (eights count)

takes-end : (n : ℕ) (s : State) → IsPart n s → (counters : Option ℕ) → Takes s (counter_lines counters ++ Tail ∷ []) Done
takes-end n s functions None = refl
takes-end n s (section m true) None = refl
takes-end n s (section m false) None = refl
takes-end n s functions (Some count) = takes-counts count
takes-end n s (section m true) (Some count) = takes-counts count
takes-end n s (section m false) (Some count) = takes-counts count

-- ---- the whole text

pub ordered-taken : (items : Items) → IsOrdered items → Takes Copies items Done
ordered-taken items ordered =
    let parts = ordered.0 in
    let are = ordered.1 in
    let weak = takes-weak parts.weak in
    let sections = takes-sections 0 (Between true) functions parts.sections are.contents in
    let ends = takes-end sections.number sections.state sections.part parts.counters in
    let behind : Items = counter_lines parts.counters ++ Tail ∷ [] in
    let data_on : Items = sections_lines 0 parts.sections ++ behind in
    let code_on : Items = flat_map function_lines parts.functions ++ data_on in
    let from_data = takes-both (Between true) sections.state Done (sections_lines 0 parts.sections) behind sections.takes ends in
    let from_code = takes-both (lead weak.0) (Between true) Done (flat_map function_lines parts.functions) data_on (takes-first weak.0 parts.functions are.bodies are.entry) from_data in
    let from_weak = takes-both Copies (lead weak.0) Done (map Weak parts.weak) code_on weak.1 from_code in
    let all : Takes Copies (parts_lines parts) Done = takes-both Copies Copies Done (map copy_line parts.copies) (map Weak parts.weak ++ code_on) (takes-copies parts.copies) from_weak in
    subst (λ xs. Takes Copies xs Done) ordered.2 all
