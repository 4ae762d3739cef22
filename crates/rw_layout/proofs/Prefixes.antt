-- The first lines of a text, which lines in order begin with or not.
use Rattle.std.proofs.Common.{◌≡◌, ℕ, suc, ◌+◌, ◌%◌, ◌<◌, ◌≤◌, Bool, true, false, List, [], ◌∷◌, ◌++◌, Option, Some, None, length, take, refl, sym, ap, subst, ◌∙◌, arith, inl, inr, take_all}
use Rattle.std.specs.Prelude.{slice_get, option_and_then, ◌==◌, if◌then◌else◌}
use Rattle.std.proofs.lemmas.Bool.{eq-eqb, eqb-true}
use Rattle.std.proofs.lemmas.Bool.Decides.{nat_tests}
use Rattle.std.proofs.lemmas.Option.{slice_get_within}
use Rattle.x86_insn.specs.declared.kinds.Plain.TheVariants.{Int3}
use Rattle.x86_insn.specs.declared.instruction.Insn.TheVariants.{Plain}
use Rattle.asm_items.specs.declared.item.Item.{Item}
use Rattle.asm_items.specs.declared.item.Item.TheVariants.{Copy, Comment, Weak, Globl, TextHead, Align, FuncKind, Name, Label, Ins, SectionHead, Zero, CountsHead, Tail}
use Rattle.asm_items.specs.declared.item.Label.TheVariants as label
use Rattle.asm_items.specs.Lines.{Items}
use Rattle.std.specs.Str.{bytes_eq}
use Rattle.rw_layout.specs.Order.{entry_name, counts_name, is_content}
use Rattle.rw_layout.specs.Checks.{BeginsInOrder, IsMisplaced, IsFirstAt, Nowhere}
use Rattle.rw_layout.specs.States.{next, next_if, next_part, after, section_of, is_done, entry_of, is_int3}
use Rattle.rw_layout.specs.declared.order.State.{State}
use Rattle.rw_layout.specs.declared.order.State.TheVariants.{Copies, Weaks, Head, Code, Open, Kind, Naming, Body, Closing, Between, Aligned, Labelled, OneZero, Contents, More, CountsGlobl, CountsAlign, CountsName, CountsZero, Last, Done}
use Rattle.rw_layout.proofs.Taken.{Takes, then_after, after-append, takes-both, ordered-taken}
use Rattle.rw_layout.proofs.Parted.{taken-ordered}
use Rattle.rw_layout.proofs.Lines.{take-next}

-- ---- each state leads to the end

abbrev LeadsOn : State → Type 0
LeadsOn s = (rest : Items) × Takes s rest Done

step : (s t : State) (item : Item (List ℕ)) → next s item ≡ Some t → LeadsOn t → LeadsOn s
step s t item e leads = (item ∷ leads.0, ap (then_after leads.0) e ∙ leads.1)

same-number : (n : ℕ) (s : State) → next_if (n == n) s ≡ Some s
same-number n s = ap (λ t. next_if t s) (eq-eqb n n refl)

leads-between : LeadsOn (Between true)
leads-between = (Tail ∷ [], refl)

leads-more : (n : ℕ) (d : Bool) → LeadsOn (More n d)
leads-more n true = (Tail ∷ [], refl)
leads-more n false = (Tail ∷ [], refl)

leads-closing : LeadsOn (Closing true)
leads-closing = step (Closing true) (Between true) (Ins (Plain Int3)) refl leads-between

leads-body : LeadsOn (Body true)
leads-body = step (Body true) (Closing true) (Label (label.Past 0)) refl leads-closing

leads-named : LeadsOn (Open true)
leads-named = step (Open true) (Body true) (Label (label.Code 0)) refl leads-body

leads-naming : (hosted : Bool) → LeadsOn (Naming hosted)
leads-naming true = step (Naming true) (Open true) (Name (entry_name true)) refl leads-named
leads-naming false = step (Naming false) (Open true) (Name (entry_name false)) refl leads-named

leads-kind : (hosted : Bool) → LeadsOn (Kind hosted)
leads-kind true = step (Kind true) (Naming true) (FuncKind (entry_name true)) refl (leads-naming true)
leads-kind false = step (Kind false) (Naming false) (FuncKind (entry_name false)) refl (leads-naming false)

leads-open : (entered : Bool) → LeadsOn (Open entered)
leads-open true = leads-named
leads-open false = step (Open false) (Kind false) (Globl (entry_name false)) refl (leads-kind false)

leads-code : (entered : Bool) → LeadsOn (Code entered)
leads-code entered = step (Code entered) (Open entered) (Align 4) refl (leads-open entered)

leads-head : (entered : Bool) → LeadsOn (Head entered)
leads-head entered = step (Head entered) (Code entered) TextHead refl (leads-code entered)

leads-function : (entered : Bool) → LeadsOn (Between entered)
leads-function true = leads-between
leads-function false = step (Between false) (Head false) (Comment []) refl (leads-head false)

leads-last-label : (entered : Bool) → LeadsOn (Closing entered)
leads-last-label entered = step (Closing entered) (Between entered) (Ins (Plain Int3)) refl (leads-function entered)

leads-body-of : (entered : Bool) → LeadsOn (Body entered)
leads-body-of entered = step (Body entered) (Closing entered) (Label (label.Past 0)) refl (leads-last-label entered)

leads-contents : (n : ℕ) → LeadsOn (Contents n)
leads-contents n = step (Contents n) (More (n + 1) true) (Label (label.Table 0)) refl (leads-more (n + 1) true)

leads-zero : (n : ℕ) → LeadsOn (OneZero n)
leads-zero n = step (OneZero n) (More (n + 1) false) (Zero 1) refl (leads-more (n + 1) false)

leads-labelled : (n : ℕ) (nobits : Bool) → LeadsOn (Labelled n nobits)
leads-labelled n true = step (Labelled n true) (OneZero n) (Label (label.Section n)) (same-number n (OneZero n)) (leads-zero n)
leads-labelled n false = step (Labelled n false) (Contents n) (Label (label.Section n)) (same-number n (Contents n)) (leads-contents n)

pub leads : (s : State) → LeadsOn s
leads Copies = step Copies (Head false) (Comment []) refl (leads-head false)
leads Weaks = step Weaks (Head false) (Comment []) refl (leads-head false)
leads (Head entered) = leads-head entered
leads (Code entered) = leads-code entered
leads (Open entered) = leads-open entered
leads (Kind hosted) = leads-kind hosted
leads (Naming hosted) = leads-naming hosted
leads (Body entered) = leads-body-of entered
leads (Closing entered) = leads-last-label entered
leads (Between entered) = leads-function entered
leads (Aligned n nobits) = step (Aligned n nobits) (Labelled n nobits) (Align 0) refl (leads-labelled n nobits)
leads (Labelled n nobits) = leads-labelled n nobits
leads (OneZero n) = leads-zero n
leads (Contents n) = leads-contents n
leads (More n d) = leads-more n d
leads CountsGlobl = (Globl counts_name ∷ Align 3 ∷ Name counts_name ∷ Zero 8 ∷ Tail ∷ [], refl)
leads CountsAlign = (Align 3 ∷ Name counts_name ∷ Zero 8 ∷ Tail ∷ [], refl)
leads CountsName = (Name counts_name ∷ Zero 8 ∷ Tail ∷ [], refl)
leads CountsZero = (Zero 8 ∷ Tail ∷ [], refl)
leads Last = (Tail ∷ [], refl)
leads Done = ([], refl)

-- ---- first lines

pub begins : (items : Items) (s : State) → Takes Copies items s → BeginsInOrder items
begins items s e = let on = leads s in (on.0, taken-ordered (items ++ on.0) (takes-both Copies s Done items on.0 e on.1))

no-begin : (items : Items) → after Copies items ≡ None → BeginsInOrder items → ⊥
no-begin items e b = absurd_none (sym (after-append Copies items b.0 ∙ ap (then_after b.0) e) ∙ ordered-taken (items ++ b.0) b.1)
  where
    absurd_none : None ≡ Some Done → ⊥
    absurd_none h = cc

-- the first lines lead to a state, and each list of fewer begins in order
pub record Reached (items : Items) (i : ℕ) (s : State) : Type 0 where
  pub taken : Takes Copies (take i items) s
  pub begin : (q : ℕ) → q < i → BeginsInOrder (take (suc q) items)

module _ (items : Items) (i : ℕ) (s : State) (reached : Reached items i s) where
  none-before : i ≤ length items → (q : ℕ) → q < i → IsMisplaced items q → ⊥
  none-before fits q before (inl m) = m.1 (reached.begin q before)
  none-before fits q before (inr m) = omega (arith, m.0, fits, before)

  more-taken : (item : Item (List ℕ)) → slice_get items i ≡ Some item → after Copies (take (i + 1) items) ≡ next s item
  more-taken item e =
      ap (after Copies) (take-next items i item e) ∙ after-append Copies (take i items) (item ∷ []) ∙ ap (then_after (item ∷ [])) reached.taken ∙ one (next s item)
    where
      one : (o : Option State) → option_and_then (λ t. after t []) o ≡ o
      one None = refl
      one (Some t) = refl

  one-more : i + 1 ≡ suc i
  one-more = omega arith

  pub misplaced-here : (item : Item (List ℕ)) → slice_get items i ≡ Some item → next s item ≡ None → IsFirstAt (IsMisplaced items) i
  misplaced-here item e none =
      let within = slice_get_within items i item e in
      record {
        here = inl (within, λ b. no-begin (take (suc i) items) (ap (λ n. after Copies (take n items)) (sym one-more) ∙ more-taken item e ∙ none) b);
        before = none-before (omega (arith, within));
      }

  pub reached-more : (item : Item (List ℕ)) (t : State) → slice_get items i ≡ Some item → next s item ≡ Some t → Reached items (i + 1) t
  reached-more item t e some = record { taken = more-taken item e ∙ some; begin = λ q before. by_place q (q == i) refl before }
    where
      by_place : (q : ℕ) (b : Bool) → (q == i) ≡ b → q < i + 1 → BeginsInOrder (take (suc q) items)
      by_place q true f before = (
          let same : suc q ≡ i + 1 = omega (arith, eqb-true q i f) in
          begins (take (suc q) items) t (ap (λ n. after Copies (take n items)) same ∙ more-taken item e ∙ some))
      by_place q false f before = reached.begin q (grind (arith, nat_tests, f, before))

  whole : i ≡ length items → take i items ≡ items
  whole e = take_all i items (omega (arith, e))

  pub all-placed : i ≡ length items → is_done s ≡ true → Nowhere (IsMisplaced items)
  all-placed e done q (inl m) = none-before (omega (arith, e)) q (omega (arith, e, m.0)) (inl m)
  all-placed e done q (inr m) = m.1 (taken-ordered items (ap (after Copies) (sym (whole e)) ∙ reached.taken ∙ ap Some (is s done)))
    where
      is : (s : State) → is_done s ≡ true → s ≡ Done
      is Done h = refl
      is _ h = cc

  pub ends-early : i ≡ length items → is_done s ≡ false → IsFirstAt (IsMisplaced items) (length items)
  ends-early e done = record {
    here = inr (refl, λ ordered. not_done s done (sym reached.taken ∙ ap (after Copies) (whole e) ∙ ordered-taken items ordered));
    before = λ q before. none-before (omega (arith, e)) q (omega (arith, e, before));
  }
    where
      not_done : (s : State) → is_done s ≡ false → Some s ≡ Some Done → ⊥
      not_done Done h e = cc
      not_done s h e = let same : s ≡ Done = cc in let h' : is_done Done ≡ false = subst (λ t. is_done t ≡ false) same h in cc

-- ---- the number of the section rises by one at most

abbrev IsUpTo : ℕ → Option State → Type 0
IsUpTo n None = Unit {0}
IsUpTo n (Some t) = section_of t ≤ n

if-up : (n : ℕ) (b : Bool) (t : State) → section_of t ≤ n → IsUpTo n (next_if b t)
if-up n true t h = h
if-up n false t h = tt

part-up : (n : ℕ) (item : Item (List ℕ)) → IsUpTo (n + 1) (next_part n item)
part-up n (SectionHead m writable nobits) = if-up (n + 1) (m == n) (Aligned n nobits) (omega arith)
part-up n CountsHead = omega arith
part-up n Tail = omega arith
part-up n _ = tt

pub next-up : (s : State) (item : Item (List ℕ)) → IsUpTo (section_of s + 1) (next s item)
next-up Copies (Copy name size) = omega arith
next-up Copies (Weak name) = omega arith
next-up Copies (Comment name) = omega arith
next-up Copies _ = tt
next-up Weaks (Weak name) = omega arith
next-up Weaks (Comment name) = omega arith
next-up Weaks _ = tt
next-up (Head e) TextHead = omega arith
next-up (Head e) _ = tt
next-up (Code e) (Align k) = if-up 1 (k == 4) (Open e) (omega arith)
next-up (Code e) _ = tt
next-up (Open false) (Globl name) = kind_up (entry_of name)
  where
    kind_up : (o : Option Bool) → IsUpTo 1 (option_and_then (λ hosted. Some (Kind hosted)) o)
    kind_up None = tt
    kind_up (Some hosted) = omega arith
next-up (Open true) (Label (label.Code a)) = omega arith
next-up (Open false) (Label (label.Code a)) = omega arith
next-up (Open true) _ = tt
next-up (Open false) _ = tt
next-up (Kind hosted) (FuncKind name) = if-up 1 (bytes_eq name (entry_name hosted)) (Naming hosted) (omega arith)
next-up (Kind hosted) _ = tt
next-up (Naming hosted) (Name name) = if-up 1 (bytes_eq name (entry_name hosted)) (Open true) (omega arith)
next-up (Naming hosted) _ = tt
next-up (Body e) (Label (label.Code a)) = omega arith
next-up (Body e) (Ins i) = omega arith
next-up (Body e) (Label (label.Past a)) = omega arith
next-up (Body e) _ = tt
next-up (Closing e) (Ins i) = if-up 1 (is_int3 i) (Between e) (omega arith)
next-up (Closing e) _ = tt
next-up (Between e) (Comment name) = omega arith
next-up (Between true) item = part-up 0 item
next-up (Between false) _ = tt
next-up (Aligned n nobits) (Align k) = omega arith
next-up (Aligned n nobits) _ = tt
next-up (Labelled n true) (Label (label.Section m)) = if-up (n + 1) (m == n) (OneZero n) (omega arith)
next-up (Labelled n false) (Label (label.Section m)) = if-up (n + 1) (m == n) (Contents n) (omega arith)
next-up (Labelled n nobits) _ = tt
next-up (OneZero n) (Zero size) = omega arith
next-up (OneZero n) _ = tt
next-up (Contents n) item = if-up (n + 1) (is_content item) (More (n + 1) true) (omega arith)
next-up (More n true) item = by_content (is_content item)
  where
    by_content : (b : Bool) → IsUpTo (n + 1) (if b then Some (More n true) else next_part n item)
    by_content true = omega arith
    by_content false = part-up n item
next-up (More n false) item = part-up n item
next-up CountsGlobl (Globl name) = if-up 1 (bytes_eq name counts_name) CountsAlign (omega arith)
next-up CountsGlobl _ = tt
next-up CountsAlign (Align k) = if-up 1 (k == 3) CountsName (omega arith)
next-up CountsAlign _ = tt
next-up CountsName (Name name) = if-up 1 (bytes_eq name counts_name) CountsZero (omega arith)
next-up CountsName _ = tt
next-up CountsZero (Zero size) = if-up 1 (size % 8 == 0) Last (omega arith)
next-up CountsZero _ = tt
next-up Last Tail = omega arith
next-up Last _ = tt
next-up Done _ = tt

pub rises-by-one : (s t : State) (item : Item (List ℕ)) → next s item ≡ Some t → section_of t ≤ section_of s + 1
rises-by-one s t item e = subst (IsUpTo (section_of s + 1)) e (next-up s item)
