-- What lasts over a step of a machine over words: registers of eight cells, the stack, and the room below the red zone.
use Rattle.std.proofs.Common.{◌≡◌, ℕ, ℤ, zero, suc, pos, negsuc, ◌+◌, ◌<◌, ◌≤◌, List, [], ◌∷◌, ◌++◌, length, take, drop, map, All, Option, Some, None, Result, Ok, Err, Bool, true, false, nat_eq, refl, sym, subst, ◌∙◌, ⊎_elim, arith, length-append, length-take, length-drop}
use Rattle.std.specs.Prelude.{slice_index_or, slice_set, if◌then◌else◌}
use Rattle.std.proofs.lemmas.Bool.{cases_eq}
use Rattle.std.proofs.lemmas.List.{get_or-set_same, get_or-set_other, length-set, length-take-le}
use Rattle.std.proofs.lemmas.List.Elements.{All-head, All-tail, All-cons, All-nil}
use Rattle.rw_base.specs.declared.width.Width.{Width}
use Rattle.rw_base.specs.declared.width.Width.TheVariants.{B, W, L, Q}
use Rattle.rw_base.specs.Width.{byte_count}
use Rattle.x86_insn.specs.declared.kinds.Reg.{Reg}
use Rattle.x86_insn.specs.declared.kinds.Reg.TheVariants.{Rcx, Rsi, Rdi, Rsp}
use Rattle.x86_insn.specs.declared.kinds.Reg8.{Reg8}
use Rattle.x86_insn.specs.declared.kinds.Reg8.TheVariants.{Low, High}
use Rattle.x86_insn.specs.WellFormed.{code_of}
use Rattle.x86_meaning.specs.declared.operations.Temp.{Temp}
use Rattle.x86_meaning.specs.declared.operations.Micro.{Micro}
use Rattle.x86_meaning.specs.declared.operations.Micro.TheVariants.{Put, Load, Store, Alu, Shift, Div, Elements, Same, Choose, Go}
use Rattle.rw_words.specs.declared.atom.Cell.{Cell}
use Rattle.rw_words.specs.declared.kind.Kind.{Kind}
use Rattle.rw_words.specs.declared.kind.Kind.TheVariants.{Number, Whole, Mixed}
use Rattle.rw_words.specs.Words.{number_cells, undefined_cells}
use Rattle.rw_domain.specs.declared.cause.Cause.{Cause}
use Rattle.rw_domain.specs.declared.flags.Tri.{Tri}
use Rattle.rw_domain.specs.declared.flags.Tri.TheVariants.{Yes, No, Unknown}
use Rattle.rw_domain.specs.declared.flags.Flags.{Flags}
use Rattle.rw_domain.specs.declared.place.Access.TheVariants.{Read}
use Rattle.rw_domain.specs.declared.place.Place.{Place}
use Rattle.rw_domain.specs.declared.place.Region.{Region}
use Rattle.rw_domain.specs.Placed.{Placed}
use Rattle.rw_domain.specs.Numbers.{wrapped_number}
use Rattle.rw_domain.specs.Operators.{Operators}
use Rattle.rw_domain.specs.Symbols.{kinds_sum, low_cells, symbols_over, word_kind, word_of}
use Rattle.rw_machine.specs.Running.{Running, row_written, written_at, full_register, register, put_part, loaded_run, stored_run, computed_run, goal_run, chosen_run, borrowed_run, with_itself, shifted_run, divided_run, next_address, then_others, element_places, elements_permitted, element_bytes, element_written, elements_written, pointers_left, count_left, element_count, elements_done, elements_of, after, after_all}
use Rattle.rw_machine.specs.Step.{one_written, due_written, row_forgotten, stack_forgotten, frame_forgotten, fresh_row, all_written, all_put}
use Rattle.rw_machine.specs.Views.{HasRange}
use Rattle.rw_machine.proofs.RowLemmas.{lengths-front, range-along, range-grows}

-- ---- ranges of memory

-- the ranges that are there are still there
abbrev pub Keeps : {C : Type 0} → List (List C) → List (List C) → Type 0
Keeps rows rows' = (p : Place) (len : ℕ) → HasRange rows p len → HasRange rows' p len

longer : {C : Type 0} (row bytes : List C) (o : ℕ) → length row ≤ length (row_written row o bytes)
longer row bytes o =
    let front = length-take o row in
    let rest = length-drop (o + length bytes) row in
    let both = length-append bytes (drop (o + length bytes) row) in
    let all = length-append (take o row) (bytes ++ drop (o + length bytes) row) in
    omega (arith, front, rest, both, all)

pub written-keeps : {C : Type 0} (rows : List (List C)) (q : Place) (bytes : List C) → Keeps rows (written_at rows q bytes)
written-keeps rows q bytes p len h =
    let row = slice_index_or rows q.region [] in
    let count = length-set rows q.region (row_written (slice_index_or rows q.region []) q.offset bytes) in
    let within = h.region in
    record {
      region = omega (arith, count, within);
      bytes = ⊎_elim
          (λ same.
          let there : q.region < length rows = omega (arith, same, within) in
          let fits = subst (λ r. p.offset + len ≤ length (slice_index_or rows r [])) same h.bytes in
          let more = longer (slice_index_or rows q.region []) bytes q.offset in
          subst (λ r. p.offset + len ≤ length (slice_index_or (written_at rows q bytes) r [])) (sym same)
          (subst (λ x. p.offset + len ≤ length x) (sym (get_or-set_same rows q.region (row_written (slice_index_or rows q.region []) q.offset bytes) [] there)) (omega (arith, fits, more))))
          (λ other. subst (λ x. p.offset + len ≤ length x) (sym (get_or-set_other rows q.region p.region (row_written (slice_index_or rows q.region []) q.offset bytes) [] other)) h.bytes)
          (cases_eq p.region q.region);
    }

-- all of a list, and of two that are taken of it with one more
abbrev pub AllOf : {A : Type 0} → (A → Type 0) → List A → Type 0
AllOf Fit [] = Unit {0}
AllOf Fit (x ∷ xs) = Fit x × AllOf Fit xs

taken-all : {A : Type 0} (Fit : A → Type 0) (n : ℕ) (xs : List A) → AllOf Fit xs → AllOf Fit (take n xs)
taken-all Fit zero xs h = tt
taken-all Fit (suc n) [] h = tt
taken-all Fit (suc n) (x ∷ xs) h = (h.0, taken-all Fit n xs h.1)

joined-all : {A : Type 0} (Fit : A → Type 0) (xs : List A) (y : A) → AllOf Fit xs → Fit y → AllOf Fit (xs ++ y ∷ [])
joined-all Fit [] y h k = (k, tt)
joined-all Fit (x ∷ xs) y h k = (h.0, joined-all Fit xs y h.1 k)

two-all : {A : Type 0} (Fit : A → Type 0) (xs : List A) (y : A) → AllOf Fit xs → Fit y → AllOf Fit (take 2 (xs ++ y ∷ []))
two-all Fit xs y h k = taken-all Fit 2 (xs ++ y ∷ []) (joined-all Fit xs y h k)

module _ {V C : Type 0} (o : Operators V C) where
  element-keeps : (step : _) (memory : List (List C)) (p : Result (Place × Place) Cause) → Keeps memory (element_written o step memory p)
  element-keeps step memory (Err c) p len h = h
  element-keeps step memory (Ok q) p len h = written-keeps memory q.1 (element_bytes o step memory q.0) p len h

  elements-keep : (step : _) (n : ℕ) (memory : List (List C)) (source target : V) → Keeps memory (elements_written o step n memory source target)
  elements-keep step zero memory source target p len h = h
  elements-keep step (suc n) memory source target p len h =
      elements-keep step n _ (next_address o step source) (next_address o step target) p len (element-keeps step memory (element_places o step source target) p len h)

  -- what is due keeps them
  pub due-keeps : (memory : List (List C)) (dues : _) → AllOf (λ d. (before : List (List C)) → Keeps before (one_written o before d)) dues → Keeps memory (due_written o memory dues)
  due-keeps memory [] a p len h = h
  due-keeps memory (d ∷ dues) a p len h = due-keeps (one_written o memory d) dues a.1 p len (a.0 memory p len h)

  writes-keep : (ws : List (Place × List C)) (memory : List (List C)) → Keeps memory (all_written o ws memory)
  writes-keep [] memory p len h = h
  writes-keep (w ∷ ws) memory p len h = writes-keep ws (written_at memory w.0 w.1) p len (written-keeps memory w.0 w.1 p len h)

  forgotten-keeps : (memory : List (List C)) (q : Result Place Cause) → Keeps memory (row_forgotten o memory q)
  forgotten-keeps memory (Err c) p len h = h
  forgotten-keeps memory (Ok q) p len h = by (nat_eq q.region o.stack)
    where
      by : (t : Bool) → HasRange (if t then slice_set memory q.region (map (λ _. o.split (o.undef B) 0) (take (q.offset + 1) (slice_index_or memory q.region [])) ++ drop (q.offset + 1) (slice_index_or memory q.region [])) else memory) p len
      by true = range-along memory _ p len (lengths-front memory q.region (q.offset + 1) (o.split (o.undef B) 0)) h
      by false = h

  pub stack-keeps : (registers : List V) (memory : List (List C)) → Keeps memory (stack_forgotten o registers memory)
  stack-keeps registers memory p len h = by o.forgets
    where
      by : (t : Bool) → HasRange (if t then row_forgotten o memory (o.place (o.sum (Some (register o registers Rsp)) None (negsuc 128)) 1 Read) else memory) p len
      by true = forgotten-keeps memory _ p len h
      by false = h

  pub frame-keeps : (registers : List V) (memory : List (List C)) → Keeps memory (frame_forgotten o registers memory)
  frame-keeps registers memory p len h = by o.forgets
    where
      by : (t : Bool) → HasRange (if t then row_forgotten o memory (o.place (o.sum (Some (register o registers Rsp)) None (negsuc 0)) 1 Read) else memory) p len
      by true = forgotten-keeps memory _ p len h
      by false = h

  pub answered-keeps : (ws : List (Place × List C)) (fresh : Option (Region × ℕ)) (memory : List (List C)) → Keeps memory (all_written o ws memory ++ fresh_row o fresh)
  answered-keeps ws fresh memory p len h = range-grows (all_written o ws memory) (fresh_row o fresh) p len (writes-keep ws memory p len h)

-- ---- words of eight cells

abbrev pub IsWide : List Cell → Type 0
IsWide word = length word ≡ 8

abbrev pub AllWide : List (List Cell) → Type 0
AllWide [] = Unit {0}
AllWide (word ∷ words) = IsWide word × AllWide words

pub wide-from : (words : List (List Cell)) → All (λ word. length word ≡ 8) words → AllWide words
wide-from [] h = tt
wide-from (word ∷ words) h = (All-head (λ w. length w ≡ 8) word words h, wide-from words (All-tail (λ w. length w ≡ 8) word words h))

pub wide-all : (words : List (List Cell)) → AllWide words → All (λ word. length word ≡ 8) words
wide-all [] h = All-nil (λ w. length w ≡ 8)
wide-all (word ∷ words) h = All-cons (λ w. length w ≡ 8) word words h.0 (wide-all words h.1)

set-wide : (words : List (List Cell)) (i : ℕ) (v : List Cell) → AllWide words → IsWide v → AllWide (slice_set words i v)
set-wide [] i v h w = tt
set-wide (x ∷ xs) zero v h w = (w, h.1)
set-wide (x ∷ xs) (suc i) v h w = (h.0, set-wide xs i v h.1 w)

at-wide : (words : List (List Cell)) (i : ℕ) (d : List Cell) → AllWide words → IsWide d → IsWide (slice_index_or words i d)
at-wide [] i d h w = w
at-wide (x ∷ xs) zero d h w = h.0
at-wide (x ∷ xs) (suc i) d h w = at-wide xs i d h.1 w

drop-wide : (n : ℕ) (words : List (List Cell)) → AllWide words → AllWide (drop n words)
drop-wide zero words h = h
drop-wide (suc n) [] h = tt
drop-wide (suc n) (x ∷ xs) h = drop-wide n xs h.1

kind-wide : (k : Kind) → IsWide (word_of k)
kind-wide (Number n) = refl
kind-wide (Whole a) = refl
kind-wide Mixed = refl

-- a word that is moved by a number
moved-wide : (a : List Cell) (n : ℕ) (k : Kind) → IsWide a → IsWide (if nat_eq n 0 then take 8 a else word_of k)
moved-wide a n k w = by (nat_eq n 0)
  where
    by : (t : Bool) → IsWide (if t then take 8 a else word_of k)
    by true = let e = w in length-take-le 8 a (omega (arith, e))
    by false = kind-wide k

pub sum-wide : (placed : Placed) (a : List Cell) (disp : ℤ) → IsWide a → IsWide ((symbols_over placed).sum (Some a) None disp)
sum-wide placed a disp w = moved-wide a (wrapped_number Q disp) (kinds_sum (word_kind (low_cells Q a)) (Number (wrapped_number Q disp))) w

put-wide : (placed : Placed) (w : Width) (to : Reg8) (old v : List Cell) → IsWide (put_part (symbols_over placed) w to old v)
put-wide placed w (High k) old v = refl
put-wide placed B (Low k) old v = refl
put-wide placed W (Low k) old v = refl
put-wide placed L (Low k) old v = refl
put-wide placed Q (Low k) old v = refl

-- sixteen registers of them
pub record AreWords (registers : List (List Cell)) : Type 0 where
  pub count : length registers ≡ 16
  pub wide : AllWide registers

pub set-words : (registers : List (List Cell)) (i : ℕ) (v : List Cell) → AreWords registers → IsWide v → AreWords (slice_set registers i v)
set-words registers i v h w = record { count = length-set registers i v ∙ h.count; wide = set-wide registers i v h.wide w }

module _ (placed : Placed) where
  abbrev ops : Operators (List Cell) Cell
  ops = symbols_over placed

  pub register-wide : (registers : List (List Cell)) (r : Reg) → AreWords registers → IsWide (register (symbols_over placed) registers r)
  register-wide registers r h = at-wide registers (code_of r) (undefined_cells Q) h.wide refl

  -- ---- string steps

  abbrev WidePair : Result (List Cell × List Cell) Cause → Type 0
  WidePair (Ok p) = IsWide p.0 × IsWide p.1
  WidePair (Err c) = Unit {0}

  others-wide : (p : Result (Place × Place) Cause) (x : Result (List Cell × List Cell) Cause) → WidePair x → WidePair (then_others (symbols_over placed) p x)
  others-wide (Ok p) x h = h
  others-wide (Err c) x h = tt

  next-wide : (step : _) (at : List Cell) → IsWide at → IsWide (next_address (symbols_over placed) step at)
  next-wide step at w = sum-wide placed at (pos (byte_count step.width)) w

  permitted-wide : (step : _) (n : ℕ) (source target : List Cell) → IsWide source → IsWide target → WidePair (elements_permitted (symbols_over placed) step n source target)
  permitted-wide step zero source target s t = (s, t)
  permitted-wide step (suc n) source target s t =
      others-wide (element_places (symbols_over placed) step source target) _
      (permitted-wide step n (next_address (symbols_over placed) step source) (next_address (symbols_over placed) step target) (next-wide step source s) (next-wide step target t))

  pointers-wide : (moves : Bool) (registers : List (List Cell)) (p : List Cell × List Cell) → AreWords registers → IsWide p.0 → IsWide p.1 → AreWords (pointers_left (symbols_over placed) moves registers p)
  pointers-wide true registers p h s t = set-words (slice_set registers (code_of Rsi) p.0) (code_of Rdi) p.1 (set-words registers (code_of Rsi) p.0 h s) t
  pointers-wide false registers p h s t = set-words registers (code_of Rdi) p.1 h t

  count-wide : (rep : Bool) (registers : List (List Cell)) → AreWords registers → AreWords (count_left (symbols_over placed) rep registers)
  count-wide true registers h = set-words registers (code_of Rcx) (number_cells Q 0) h refl
  count-wide false registers h = h

  -- what lasts while small operations are done
  abbrev pub Lasts : Running (List Cell) → Type 0
  Lasts r = AreWords r.registers × AllOf (λ d. (before : List (List Cell)) → Keeps before (one_written (symbols_over placed) before d)) r.due

  done-wide : (r : Running (List Cell)) (step : _) (rep : Bool) (n : ℕ) (x : Result (List Cell × List Cell) Cause) → Lasts r → WidePair x → Lasts (elements_done (symbols_over placed) r step rep n x)
  done-wide r step rep n (Ok p) h w = (count-wide rep _ (pointers-wide step.moves r.registers p h.0 w.0 w.1), two-all _ r.due _ h.1 (λ memory. elements-keep (symbols_over placed) step n memory _ _))
  done-wide r step rep n (Err c) h w = h

  elements-wide : (r : Running (List Cell)) (step : _) (rep : Bool) (n : Option ℕ) → Lasts r → Lasts (elements_of (symbols_over placed) r step rep n)
  elements-wide r step rep None h = h
  elements-wide r step rep (Some n) h =
      done-wide r step rep n _ h (permitted-wide step n (register (symbols_over placed) r.registers Rsi) (register (symbols_over placed) r.registers Rdi) (register-wide r.registers Rsi h.0) (register-wide r.registers Rdi h.0))

  -- ---- small operations; most of them leave the registers

  loaded-wide : (memory : List (List Cell)) (r : Running (List Cell)) (to : Temp) (w : Width) (p : Result Place Cause) → Lasts r → Lasts (loaded_run (symbols_over placed) memory r to w p)
  loaded-wide memory r to w (Ok p) h = h
  loaded-wide memory r to w (Err c) h = h

  stored-wide : (r : Running (List Cell)) (w : Width) (v : List Cell) (p : Result Place Cause) → Lasts r → Lasts (stored_run (symbols_over placed) r w v p)
  stored-wide r w v (Ok p) h = (h.0, two-all _ r.due _ h.1 (λ memory. written-keeps memory p _))
  stored-wide r w v (Err c) h = h

  computed-wide : (r : Running (List Cell)) (to : Temp) (w : Width) (p : Result (List Cell × Flags) Cause) → Lasts r → Lasts (computed_run (symbols_over placed) r to w p)
  computed-wide r to w (Ok p) h = h
  computed-wide r to w (Err c) h = h

  shifted-wide : (r : Running (List Cell)) (to : Temp) (w : Width) (sets : Bool) (p : Result (List Cell × Flags) Cause) → Lasts r → Lasts (shifted_run (symbols_over placed) r to w sets p)
  shifted-wide r to w true (Ok p) h = h
  shifted-wide r to w true (Err c) h = h
  shifted-wide r to w false (Ok p) h = h
  shifted-wide r to w false (Err c) h = h

  divided-wide : (r : Running (List Cell)) (quotient rest : Temp) (w : Width) (p : Result (Option (List Cell × List Cell)) Cause) → Lasts r → Lasts (divided_run (symbols_over placed) r quotient rest w p)
  divided-wide r quotient rest w (Ok (Some p)) h = h
  divided-wide r quotient rest w (Ok None) h = h
  divided-wide r quotient rest w (Err c) h = h

  itself-wide : (borrow : Bool) (r : Running (List Cell)) (to : Temp) (w : Width) → Lasts r → Lasts (with_itself (symbols_over placed) borrow r to w)
  itself-wide false r to w h = h
  itself-wide true r to w h = by r.flags.cf
    where
      by : (t : Tri) → Lasts (borrowed_run (symbols_over placed) r to w t)
      by Yes = h
      by No = h
      by Unknown = h

  chosen-wide : (r : Running (List Cell)) (to : Temp) (a b : List Cell) (o : Option Bool) → Lasts r → Lasts (chosen_run (symbols_over placed) r to a b o)
  chosen-wide r to a b (Some true) h = h
  chosen-wide r to a b (Some false) h = h
  chosen-wide r to a b None h = h

  gone-wide : (r : Running (List Cell)) (v : List Cell) (o : Option Bool) → Lasts r → Lasts (goal_run (symbols_over placed) r v o)
  gone-wide r v (Some true) h = h
  gone-wide r v (Some false) h = h
  gone-wide r v None h = h

  after-wide : (memory : List (List Cell)) (here : _) (m : Micro) (r : Running (List Cell)) → Lasts r → Lasts (after (symbols_over placed) memory here m r)
  after-wide memory here (Put w to from) r h = (set-words r.registers (code_of (full_register to)) _ h.0 (put-wide placed w to _ _), h.1)
  after-wide memory here (Load to w at) r h = loaded-wide memory r to w _ h
  after-wide memory here (Store w at from) r h = stored-wide r w _ _ h
  after-wide memory here (Alu op w to a b) r h = computed-wide r to w _ h
  after-wide memory here (Shift op w to a by sets) r h = shifted-wide r to w sets _ h
  after-wide memory here (Div is_signed w quotient rest high low by) r h = divided-wide r quotient rest w _ h
  after-wide memory here (Elements moves w rep) r h = elements-wide r _ rep (element_count (symbols_over placed) rep r.registers) h
  after-wide memory here (Same borrow w to) r h = itself-wide borrow r to w h
  after-wide memory here (Choose c to a b) r h = chosen-wide r to _ _ _ h
  after-wide memory here (Go None to) r h = h
  after-wide memory here (Go (Some c) to) r h = gone-wide r _ _ h
  after-wide memory here _ r h = h

  pub all-wide : (memory : List (List Cell)) (here : _) (ms : List Micro) (r : Running (List Cell)) → Lasts r → Lasts (after_all (symbols_over placed) memory here ms r)
  all-wide memory here [] r h = h
  all-wide memory here (m ∷ ms) r h = all-wide memory here ms _ (after-wide memory here m r h)

  -- ---- answers

  pub put-all-wide : (ks : List Reg) (words registers : List (List Cell)) → AllWide words → AreWords registers → AreWords (all_put (symbols_over placed) ks words registers)
  put-all-wide [] words registers w h = h
  put-all-wide (k ∷ ks) words registers w h = put-all-wide ks (drop 1 words) _ (drop-wide 1 words w) (set-words registers (code_of k) _ h (at-wide words 0 (undefined_cells Q) w refl))
