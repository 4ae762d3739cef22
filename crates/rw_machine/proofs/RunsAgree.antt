-- Two runs of one list of small operations, which agree on what the list reads: they agree after it.
use Rattle.std.proofs.Common.{◌≡◌, ℕ, zero, suc, ◌<◌, List, [], ◌∷◌, ◌++◌, length, take, Option, Some, None, Result, Ok, Err, Bool, true, false, cond, nat_le, refl, sym, ap, subst, ◌∙◌, arith, ◌⊎◌, inl, inr, ⊎_elim, if◌then◌else◌}
use Rattle.std.specs.Prelude.{slice_set, slice_index_or, option_map}
use Rattle.std.specs.List.{Contains}
use Rattle.std.proofs.lemmas.List.{length-set, get_or-set_same}
use Rattle.std.proofs.lemmas.List.Elements.{Contains-append_left, Contains-append_right, Contains-append_cases}
use Rattle.rw_base.specs.declared.width.Width.{Width}
use Rattle.rw_base.specs.declared.width.Width.TheVariants.{B, W, L, Q}
use Rattle.rw_base.specs.Width.{byte_count}
use Rattle.x86_insn.specs.declared.kinds.Reg.{Reg}
use Rattle.x86_insn.specs.declared.kinds.Reg.TheVariants.{Rax, Rcx, Rsi, Rdi}
use Rattle.x86_insn.specs.declared.kinds.Reg8.{Reg8}
use Rattle.x86_insn.specs.declared.kinds.Reg8.TheVariants.{Low, High}
use Rattle.x86_insn.specs.declared.kinds.ShiftOp.{ShiftOp}
use Rattle.x86_insn.specs.declared.kinds.Plain.{Plain}
use Rattle.x86_insn.specs.declared.kinds.Plain.TheVariants as plain
use Rattle.x86_insn.specs.WellFormed.{code_of}
use Rattle.x86_meaning.specs.declared.sets.Flag.{Flag}
use Rattle.x86_meaning.specs.declared.operations.Temp.{Temp}
use Rattle.x86_meaning.specs.declared.operations.Micro.{Micro}
use Rattle.x86_meaning.specs.declared.operations.Micro.TheVariants.{Get, Put, Num, Ref, Next, Sum, Load, Store, Alu, One, Shift, Mul, Div, Extend, Swap, Bit, Scan, Elements, Same, Choose, Go, System}
use Rattle.x86_meaning.specs.declared.operations.Micro.TheVariants as micro
use Rattle.x86_meaning.specs.Sets.{all_flags}
use Rattle.x86_meaning.specs.Registers.{byte_register, when_rep}
use Rattle.x86_meaning.specs.Flags.{written_one, written_bit, written_above_zero, borrowed as borrowed_flags}
use Rattle.x86_meaning.specs.Effects.{fetched, filled_part, is_implied, put_whole, gathered, made_number, needed, settled, settled_by_shift, settled_by_borrow, needed_by_borrow, flags_by}
use Rattle.x86_meaning.specs.Typing.{Widths, IsPart, IsReady, IsTyped, widths_after}
use Rattle.rw_domain.specs.declared.cause.Cause.{Cause}
use Rattle.rw_domain.specs.declared.cause.Cause.TheVariants.{NumberUnknown, FlagUnknown}
use Rattle.rw_domain.specs.declared.flags.Tri.{Tri}
use Rattle.rw_domain.specs.declared.flags.Tri.TheVariants.{Yes, No, Unknown}
use Rattle.rw_domain.specs.declared.flags.Flags.{Flags}
use Rattle.rw_domain.specs.declared.place.Place.{Place}
use Rattle.rw_domain.specs.declared.place.Access.TheVariants.{Read, Write}
use Rattle.rw_domain.specs.Operators.{Operators}
use Rattle.rw_machine.specs.declared.ending.Trap.{Trap}
use Rattle.rw_machine.specs.declared.ending.Trap.TheVariants as trap
use Rattle.rw_machine.specs.Conditions.{holds}
use Rattle.rw_machine.specs.declared.running.Ask.{Ask}
use Rattle.rw_machine.specs.declared.running.Ask.TheVariants.{Serve, Halt}
use Rattle.rw_machine.specs.declared.running.StringStep.{StringStep}
use Rattle.rw_machine.specs.declared.running.Here.{Here}
use Rattle.rw_machine.specs.Running.{Due, due_after, Running, rank, first_cause, set_temp, set_temps, flagged_run, stops, unknown_flags, zero_flags, borrow_flags, full_register, temp, register, part, put_part, loaded_run, stored_run, computed_run, goal_run, chosen_run, borrowed_run, with_itself, shifted_run, divided_run, next_address, element_places, then_others, elements_permitted, element_written, elements_written, count_left, element_count, elements_done, elements_of, after, after_all}
use Rattle.rw_machine.specs.declared.running.Due.TheVariants as store
use Rattle.rw_machine.specs.Step.{one_written, due_written}
use Rattle.rw_machine.specs.Agree.{SameWord, SameFlag}
use Rattle.rw_machine.proofs.SameFlags.{each-at, each-of, same-condition}
use Rattle.rw_machine.proofs.FlagUse.{KeepFlags, SetFlags, AnswersKeep, AnswersSet, UsesFlags}
use Rattle.rw_machine.proofs.SameWords.{same-or, same-count, same-after, same-written, only, here, nowhere}
use Rattle.rw_machine.proofs.Follows.{IsBy, Follows, AreFollowing}

abbrev pub serves : Option Ask → Bool
serves (Some Serve) = true
serves (Some (Halt kind)) = false
serves None = false

-- it neither asks nor has a cause to stop
abbrev pub GoesOn : {V : Type 0} → Running V → Type 0
GoesOn a = (a.ask ≡ None) × (a.cause ≡ None)

-- What is due in both leaves the same memory. A string step that moves bytes may hold another word, and one that stores a
-- word may hold another source.
module _ {V C : Type 0} (ops : Operators V C) where
  abbrev pub SameDue : Due V → Due V → Type 0
  SameDue d e = (memory : List (List C)) → one_written ops memory d ≡ one_written ops memory e

  abbrev pub SameDues : List (Due V) → List (Due V) → Type 0
  SameDues [] [] = Unit {0}
  SameDues (d ∷ ds) (e ∷ es) = SameDue d e × SameDues ds es
  SameDues _ _ = ⊥

  dues-taken : (n : ℕ) (ds es : List (Due V)) → SameDues ds es → SameDues (take n ds) (take n es)
  dues-taken zero ds es h = tt
  dues-taken (suc n) [] [] h = tt
  dues-taken (suc n) (d ∷ ds) [] h = absurd h
  dues-taken (suc n) [] (e ∷ es) h = absurd h
  dues-taken (suc n) (d ∷ ds) (e ∷ es) h = (h.0, dues-taken n ds es h.1)

  dues-joined : (ds es : List (Due V)) (d e : Due V) → SameDues ds es → SameDue d e → SameDues (ds ++ d ∷ []) (es ++ e ∷ [])
  dues-joined [] [] d e h p = (p, tt)
  dues-joined (x ∷ ds) [] d e h p = absurd h
  dues-joined [] (y ∷ es) d e h p = absurd h
  dues-joined (x ∷ ds) (y ∷ es) d e h p = (h.0, dues-joined ds es d e h.1 p)

  dues-after : (ds es : List (Due V)) (d e : Due V) → SameDues ds es → SameDue d e → SameDues (due_after ds d) (due_after es e)
  dues-after ds es d e h p = dues-taken 2 (ds ++ d ∷ []) (es ++ e ∷ []) (dues-joined ds es d e h p)

  pub dues-written : (ds es : List (Due V)) → SameDues ds es → (memory : List (List C)) → due_written ops memory ds ≡ due_written ops memory es
  dues-written [] [] h memory = refl
  dues-written (d ∷ ds) [] h memory = absurd h
  dues-written [] (e ∷ es) h memory = absurd h
  dues-written (d ∷ ds) (e ∷ es) h memory = dues-written ds es h.1 (one_written ops memory d) ∙ ap (λ z. due_written ops z es) (h.0 memory)

-- Registers on which they agree, and others that were put whole; flags on which they agree, and others that were set. What
-- is due leaves the same memory, and all else is the same.
pub record RunsAgree {V C : Type 0} (ops : Operators V C) (on : Reg → Type 0) (and_on : Flag → Type 0) (ws : List Reg) (xs : List Flag) (a b : Running V) : Type 0 where
  pub temps : a.temps ≡ b.temps
  pub eight : length a.temps ≡ 8
  pub count : length a.registers ≡ length b.registers
  pub registers : (r : Reg) → on r → SameWord r a.registers b.registers
  pub put : GoesOn a → (r : Reg) → Contains ws r → SameWord r a.registers b.registers
  pub flags : (x : Flag) → and_on x → SameFlag x a.flags b.flags
  pub set : GoesOn a → (x : Flag) → Contains xs x → SameFlag x a.flags b.flags
  pub due : SameDues ops a.due b.due
  pub goal : a.goal ≡ b.goal
  pub ask : a.ask ≡ b.ask
  pub cause : a.cause ≡ b.cause
  pub quiet : serves a.ask ≡ false

-- the number that an operation made
abbrev pub number_by : Option Micro → Option ℕ
number_by None = None
number_by (Some m) = made_number m

abbrev pub HasMade : {V C : Type 0} → Operators V C → Option Micro → Running V → Type 0
HasMade ops (Some (Num t B n)) a = temp ops a t ≡ ops.num B n
HasMade ops _ a = Unit {0}

-- all that is put whole, and all flags that are set, the last ones first
abbrev pub put_after : List Micro → List Reg → List Reg
put_after [] ws = ws
put_after (m ∷ ms) ws = put_after ms (put_whole m ++ ws)

abbrev pub set_after : Option ℕ → List Micro → List Flag → List Flag
set_after n [] xs = xs
set_after n (m ∷ ms) xs = set_after (made_number m) ms (settled n m ++ xs)

pub in-put : (ms : List Micro) (ws : List Reg) (r : Reg) → Contains ws r ⊎ Contains (gathered put_whole ms) r → Contains (put_after ms ws) r
in-put [] ws r h = ⊎_elim (λ c. c) (λ c. nowhere r c) h
in-put (m ∷ ms) ws r h =
    in-put ms (put_whole m ++ ws) r
    (⊎_elim (λ c. inl (Contains-append_right (put_whole m) ws r c))
    (λ c. ⊎_elim (λ d. inl (Contains-append_left (put_whole m) ws r d)) (λ d. inr d) (Contains-append_cases (put_whole m) (gathered put_whole ms) r c)) h)

pub in-set : (n : Option ℕ) (ms : List Micro) (xs : List Flag) (x : Flag) → Contains xs x ⊎ Contains (flags_by settled n ms) x → Contains (set_after n ms xs) x
in-set n [] xs x h = ⊎_elim (λ c. c) (λ c. nowhere x c) h
in-set n (m ∷ ms) xs x h =
    in-set (made_number m) ms (settled n m ++ xs) x
    (⊎_elim (λ c. inl (Contains-append_right (settled n m) xs x c))
    (λ c. ⊎_elim (λ d. inl (Contains-append_left (settled n m) xs x d)) (λ d. inr d) (Contains-append_cases (settled n m) (flags_by settled (made_number m) ms) x c)) h)

never-none : (o : Option Cause) (c : Cause) → first_cause o c ≡ None → ⊥
never-none None c e = cc
never-none (Some d) c e = by (nat_le (rank d) (rank c)) e
  where
    by : (t : Bool) → cond t (Some d) (Some c) ≡ None → ⊥
    by true e = cc
    by false e = cc

-- a register that is written whole, and what is written does not depend on what was there
filled-is : (w : Width) (to : Reg8) → IsPart w to → (r : Reg) → Contains (filled_part w to) r → r ≡ full_register to
filled-is B to part r c = nowhere r c
filled-is W to part r c = nowhere r c
filled-is L (Low k) part r c = only k r c
filled-is L (High k) part r c = absurd part
filled-is Q (Low k) part r c = only k r c
filled-is Q (High k) part r c = absurd part

unless : (t : Bool) (xs : List Reg) (r : Reg) → Contains (if t then [] else xs) r → Contains xs r
unless true xs r c = nowhere r c
unless false xs r c = c

its-register : (k : Reg8) → Contains (byte_register k) (full_register k)
its-register (Low k) = here k
its-register (High k) = here k

set-none : {V : Type 0} (p q : Result (V × Flags) Cause) → AnswersSet [] p q
set-none (Ok p) (Ok q) = tt
set-none (Ok p) (Err d) = tt
set-none (Err c) (Ok q) = tt
set-none (Err c) (Err d) = tt

module _ {V C : Type 0} (ops : Operators V C) where
  whole-part : (w : Width) (to : Reg8) → IsPart w to → (r : Reg) → Contains (filled_part w to) r → (old old' v : V) → put_part ops w to old v ≡ put_part ops w to old' v
  whole-part B to part r c old old' v = nowhere r c
  whole-part W to part r c old old' v = nowhere r c
  whole-part L (Low k) part r c old old' v = refl
  whole-part L (High k) part r c old old' v = absurd part
  whole-part Q (Low k) part r c old old' v = refl
  whole-part Q (High k) part r c old old' v = absurd part

  -- ---- string steps: those that move bytes need no word, and those that store a word need no source

  abbrev step : Bool → Width → V → StringStep V
  step moves w word = record { moves = moves; width = w; word = word }

  moves-permitted : (w : Width) (x y : V) (n : ℕ) (s t : V) → elements_permitted ops (step true w x) n s t ≡ elements_permitted ops (step true w y) n s t
  moves-permitted w x y zero s t = refl
  moves-permitted w x y (suc n) s t = ap (then_others ops (element_places ops (step true w x) s t)) (moves-permitted w x y n (next_address ops (step true w x) s) (next_address ops (step true w x) t))

  moves-element : (w : Width) (x y : V) (memory : List (List C)) (p : Result (Place × Place) Cause) → element_written ops (step true w x) memory p ≡ element_written ops (step true w y) memory p
  moves-element w x y memory (Ok p) = refl
  moves-element w x y memory (Err c) = refl

  moves-written : (w : Width) (x y : V) (n : ℕ) (memory : List (List C)) (s t : V) → elements_written ops (step true w x) n memory s t ≡ elements_written ops (step true w y) n memory s t
  moves-written w x y zero memory s t = refl
  moves-written w x y (suc n) memory s t =
      moves-written w x y n _ (next_address ops (step true w x) s) (next_address ops (step true w x) t)
      ∙ ap (λ z. elements_written ops (step true w y) n z (next_address ops (step true w x) s) (next_address ops (step true w x) t)) (moves-element w x y memory (element_places ops (step true w x) s t))

  abbrev SameTarget : Result (V × V) Cause → Result (V × V) Cause → Type 0
  SameTarget (Ok p) (Ok q) = p.1 ≡ q.1
  SameTarget (Err c) (Err d) = c ≡ d
  SameTarget _ _ = ⊥

  others-same : (p : Result (Place × Place) Cause) (x y : Result (V × V) Cause) → SameTarget x y → SameTarget (then_others ops p x) (then_others ops p y)
  others-same (Ok p) x y h = h
  others-same (Err c) x y h = refl

  stores-permitted : (w : Width) (x : V) (n : ℕ) (s s' t : V) → SameTarget (elements_permitted ops (step false w x) n s t) (elements_permitted ops (step false w x) n s' t)
  stores-permitted w x zero s s' t = refl
  stores-permitted w x (suc n) s s' t = others-same (element_places ops (step false w x) s t) _ _ (stores-permitted w x n (next_address ops (step false w x) s) (next_address ops (step false w x) s') (next_address ops (step false w x) t))

  stores-written : (w : Width) (x : V) (n : ℕ) (memory : List (List C)) (s s' t : V) → elements_written ops (step false w x) n memory s t ≡ elements_written ops (step false w x) n memory s' t
  stores-written w x zero memory s s' t = refl
  stores-written w x (suc n) memory s s' t = stores-written w x n _ (next_address ops (step false w x) s) (next_address ops (step false w x) s') (next_address ops (step false w x) t)

  module _ (uses : UsesFlags ops) (on : Reg → Type 0) (and_on : Flag → Type 0) where
    abbrev Alike : List Reg → List Flag → Running V → Running V → Type 0
    Alike ws xs a b = RunsAgree ops on and_on ws xs a b

    module _ {ws : List Reg} {xs : List Flag} {a b : Running V} (h : RunsAgree ops on and_on ws xs a b) where
      word-at : (t : Temp) → temp ops a t ≡ temp ops b t
      word-at t = ap (λ l. slice_index_or l t.0 (ops.undef Q)) h.temps

      register-at : (r : Reg) → on r → register ops a.registers r ≡ register ops b.registers r
      register-at r k = same-or a.registers b.registers (code_of r) (ops.undef Q) (h.registers r k)

      sets-of : (ys : List Flag) → ((x : Flag) → Contains ys x → and_on x) → SetFlags ys a.flags b.flags
      sets-of ys k = each-of (λ x. SameFlag x a.flags b.flags) ys (λ x c. h.flags x (k x c))

      with_temp : (t : Temp) (u v : V) → u ≡ v → RunsAgree ops on and_on ws xs (set_temp a t u) (set_temp b t v)
      with_temp t u v e = record {
        temps = λ i. slice_set (h.temps i) t.0 (e i);
        eight = length-set a.temps t.0 u ∙ h.eight;
        count = h.count;
        registers = h.registers;
        put = h.put;
        flags = h.flags;
        set = h.set;
        due = h.due;
        goal = h.goal;
        ask = h.ask;
        cause = h.cause;
        quiet = h.quiet;
      }

      -- flags that are passed on or set
      with_flags : (f g : Flags) → KeepFlags a.flags b.flags f g → (ys : List Flag) → SetFlags ys f g → RunsAgree ops on and_on ws (ys ++ xs) (record a { flags = f }) (record b { flags = g })
      with_flags f g keeps ys sets = record {
        temps = h.temps;
        eight = h.eight;
        count = h.count;
        registers = h.registers;
        put = h.put;
        flags = λ x k. keeps x (h.flags x k);
        set = λ go x c. ⊎_elim (λ d. each-at (λ y. SameFlag y f g) ys x sets d) (λ d. keeps x (h.set go x d)) (Contains-append_cases ys xs x c);
        due = h.due;
        goal = h.goal;
        ask = h.ask;
        cause = h.cause;
        quiet = h.quiet;
      }

      with_one_flags : (f : Flags) (ys : List Flag) → RunsAgree ops on and_on ws (ys ++ xs) (record a { flags = f }) (record b { flags = f })
      with_one_flags f ys = with_flags f f (λ x e. refl) ys (each-of (λ x. SameFlag x f f) ys (λ x c. refl))

      with_due : (d e : Due V) → SameDue ops d e → RunsAgree ops on and_on ws xs (record a { due = due_after a.due d }) (record b { due = due_after b.due e })
      with_due d e p = record {
        temps = h.temps;
        eight = h.eight;
        count = h.count;
        registers = h.registers;
        put = h.put;
        flags = h.flags;
        set = h.set;
        due = dues-after ops a.due b.due d e h.due p;
        goal = h.goal;
        ask = h.ask;
        cause = h.cause;
        quiet = h.quiet;
      }

      with_goal : (u v : V) → u ≡ v → RunsAgree ops on and_on ws xs (record a { goal = Some u }) (record b { goal = Some v })
      with_goal u v e = record {
        temps = h.temps;
        eight = h.eight;
        count = h.count;
        registers = h.registers;
        put = h.put;
        flags = h.flags;
        set = h.set;
        due = h.due;
        goal = ap Some e;
        ask = h.ask;
        cause = h.cause;
        quiet = h.quiet;
      }

      -- a run that ends has nothing to keep but what was the same before
      halted : (kind : Trap) (ys : List Flag) → RunsAgree ops on and_on ws (ys ++ xs) (record a { ask = Some (Halt kind) }) (record b { ask = Some (Halt kind) })
      halted kind ys = record {
        temps = h.temps;
        eight = h.eight;
        count = h.count;
        registers = h.registers;
        put = λ go. absurd (let e = go.0 in cc);
        flags = h.flags;
        set = λ go. absurd (let e = go.0 in cc);
        due = h.due;
        goal = h.goal;
        ask = refl;
        cause = h.cause;
        quiet = refl;
      }

      stopped : (c : Cause) (vs : List Reg) (ys : List Flag) → RunsAgree ops on and_on (vs ++ ws) (ys ++ xs) (stops a c) (stops b c)
      stopped c vs ys = record {
        temps = h.temps;
        eight = h.eight;
        count = h.count;
        registers = h.registers;
        put = λ go. absurd (never-none a.cause c go.1);
        flags = h.flags;
        set = λ go. absurd (never-none a.cause c go.1);
        due = h.due;
        goal = h.goal;
        ask = h.ask;
        cause = ap (λ o. first_cause o c) h.cause;
        quiet = h.quiet;
      }

      -- a register that is written, whole where it is one of the list
      with_register : (k : Reg) (u v : V) → (SameWord k a.registers b.registers → u ≡ v) → (vs : List Reg) → ((r : Reg) → Contains vs r → (r ≡ k) × (u ≡ v))
          → RunsAgree ops on and_on (vs ++ ws) xs (record a { registers = slice_set a.registers (code_of k) u }) (record b { registers = slice_set b.registers (code_of k) v })
      with_register k u v e vs whole = record {
        temps = h.temps;
        eight = h.eight;
        count = same-count a.registers b.registers (code_of k) u v h.count;
        registers = λ r i. same-after a.registers b.registers k r u v h.count e (h.registers r i);
        put = λ go r c.
            ⊎_elim (λ d. same-written a.registers b.registers k r u v h.count (whole r d).1 (whole r d).0)
            (λ d. same-after a.registers b.registers k r u v h.count e (h.put go r d)) (Contains-append_cases vs ws r c);
        flags = h.flags;
        set = h.set;
        due = h.due;
        goal = h.goal;
        ask = h.ask;
        cause = h.cause;
        quiet = h.quiet;
      }

      with_equal : (k : Reg) (v : V) → RunsAgree ops on and_on ws xs (record a { registers = slice_set a.registers (code_of k) v }) (record b { registers = slice_set b.registers (code_of k) v })
      with_equal k v = with_register k v v (λ _. refl) [] (λ r c. nowhere r c)

    -- ---- answers of operators that are the same

    loaded-alike : {ws : List Reg} {xs : List Flag} {a b : Running V} → Alike ws xs a b → (memory : List (List C)) (to : Temp) (w : Width) (p : Result Place Cause) → Alike ws xs (loaded_run ops memory a to w p) (loaded_run ops memory b to w p)
    loaded-alike h memory to w (Ok p) = with_temp h to _ _ refl
    loaded-alike h memory to w (Err c) = stopped (with_temp h to _ _ refl) c [] []

    stored-alike : {ws : List Reg} {xs : List Flag} {a b : Running V} → Alike ws xs a b → (w : Width) (v : V) (p : Result Place Cause) → Alike ws xs (stored_run ops a w v p) (stored_run ops b w v p)
    stored-alike h w v (Ok p) = with_due h (store.Word p w v) (store.Word p w v) (λ memory. refl)
    stored-alike h w v (Err c) = stopped h c [] []

    computed-alike : {ws : List Reg} {xs : List Flag} {a b : Running V} → Alike ws xs a b → (to : Temp) (w : Width) (ys : List Flag) (p : Result (V × Flags) Cause) → Alike ws (ys ++ xs) (computed_run ops a to w p) (computed_run ops b to w p)
    computed-alike h to w ys (Ok p) = with_one_flags (with_temp h to p.0 p.0 refl) p.1 ys
    computed-alike h to w ys (Err c) = stopped (with_temp h to _ _ refl) c [] ys

    kept-alike : {ws : List Reg} {xs : List Flag} {a b : Running V} → Alike ws xs a b → (to : Temp) (w : Width) (ys : List Flag) (p q : Result (V × Flags) Cause) → AnswersKeep a.flags b.flags p q → AnswersSet ys p q
        → Alike ws (ys ++ xs) (computed_run ops a to w p) (computed_run ops b to w q)
    kept-alike h to w ys (Ok p) (Ok q) keeps sets = with_flags (with_temp h to p.0 q.0 keeps.0) p.1 q.1 keeps.1 ys sets
    kept-alike h to w ys (Ok p) (Err d) keeps sets = absurd keeps
    kept-alike h to w ys (Err c) (Ok q) keeps sets = absurd keeps
    kept-alike {ws} {xs} {a} {b} h to w ys (Err c) (Err d) keeps sets =
        subst (λ z. Alike ws (ys ++ xs) (computed_run ops a to w (Err c)) (computed_run ops b to w (Err z))) keeps (stopped (with_temp h to _ _ refl) c [] ys)

    plain-alike : {ws : List Reg} {xs : List Flag} {a b : Running V} → Alike ws xs a b → (to : Temp) (w : Width) (p q : Result (V × Flags) Cause) → AnswersKeep a.flags b.flags p q
        → Alike ws xs (shifted_run ops a to w false p) (shifted_run ops b to w false q)
    plain-alike h to w (Ok p) (Ok q) keeps = with_temp h to p.0 q.0 keeps.0
    plain-alike h to w (Ok p) (Err d) keeps = absurd keeps
    plain-alike h to w (Err c) (Ok q) keeps = absurd keeps
    plain-alike {ws} {xs} {a} {b} h to w (Err c) (Err d) keeps =
        subst (λ z. Alike ws xs (shifted_run ops a to w false (Err c)) (shifted_run ops b to w false (Err z))) keeps (stopped (with_temp h to _ _ refl) c [] [])

    gone-alike : {ws : List Reg} {xs : List Flag} {a b : Running V} → Alike ws xs a b → (v : V) (o : Option Bool) → Alike ws xs (goal_run ops a v o) (goal_run ops b v o)
    gone-alike h v (Some true) = with_goal h v v refl
    gone-alike h v (Some false) = h
    gone-alike h v None = stopped h FlagUnknown [] []

    chosen-alike : {ws : List Reg} {xs : List Flag} {a b : Running V} → Alike ws xs a b → (to : Temp) (u v : V) (o : Option Bool) → Alike ws xs (chosen_run ops a to u v o) (chosen_run ops b to u v o)
    chosen-alike h to u v (Some true) = with_temp h to u u refl
    chosen-alike h to u v (Some false) = with_temp h to v v refl
    chosen-alike h to u v None = stopped (with_temp h to _ _ refl) FlagUnknown [] []

    borrowed-alike : {ws : List Reg} {xs : List Flag} {a b : Running V} → Alike ws xs a b → (to : Temp) (w : Width) (ys : List Flag) (t : Tri) → Alike ws (ys ++ xs) (borrowed_run ops a to w t) (borrowed_run ops b to w t)
    borrowed-alike h to w ys Yes = with_one_flags (with_temp h to _ _ refl) borrow_flags ys
    borrowed-alike h to w ys No = with_one_flags (with_temp h to _ _ refl) zero_flags ys
    borrowed-alike h to w ys Unknown = stopped (with_temp h to _ _ refl) FlagUnknown [] ys

    pair-alike : {ws : List Reg} {xs : List Flag} {a b : Running V} → Alike ws xs a b → (t : Temp) (v : V) (u : Temp) (x : V) (f : Flags) (ys : List Flag) → Alike ws (ys ++ xs) (set_temps a t v u x f) (set_temps b t v u x f)
    pair-alike h t v u x f ys = with_one_flags (with_temp (with_temp h t v v refl) u x x refl) f ys

    divided-alike : {ws : List Reg} {xs : List Flag} {a b : Running V} → Alike ws xs a b → (quotient rest : Temp) (w : Width) (p : Result (Option (V × V)) Cause) → Alike ws (all_flags ++ xs) (divided_run ops a quotient rest w p) (divided_run ops b quotient rest w p)
    divided-alike h quotient rest w (Ok (Some p)) = pair-alike h quotient p.0 rest p.1 unknown_flags all_flags
    divided-alike h quotient rest w (Ok None) = halted h trap.Divide all_flags
    divided-alike h quotient rest w (Err c) = stopped (pair-alike h quotient (ops.undef w) rest (ops.undef w) unknown_flags all_flags) c [] []

    -- ---- string steps

    module _ {ws : List Reg} {xs : List Flag} {a b : Running V} (h : RunsAgree ops on and_on ws xs a b) (w : Width) where
      counted : (rep : Bool) {ws : List Reg} {c d : Running V} → Alike ws xs c d → Alike (when_rep rep ++ ws) xs (record c { registers = count_left ops rep c.registers }) (record d { registers = count_left ops rep d.registers })
      counted false k = k
      counted true k = with_register k Rcx (ops.num Q 0) (ops.num Q 0) (λ _. refl) (Rcx ∷ []) (λ r c. (only Rcx r c, refl))

      moved-done : (rep : Bool) (n : ℕ) (x y : V) (p : Result (V × V) Cause) → register ops a.registers Rsi ≡ register ops b.registers Rsi → register ops a.registers Rdi ≡ register ops b.registers Rdi
          → Alike (when_rep rep ++ ws) xs (elements_done ops a (step true w x) rep n p) (elements_done ops b (step true w y) rep n p)
      moved-done rep n x y (Ok p) es ed =
          with_due (counted rep (with_equal (with_equal h Rsi p.0) Rdi p.1))
          (store.Elements (step true w x) n (register ops a.registers Rsi) (register ops a.registers Rdi)) (store.Elements (step true w y) n (register ops b.registers Rsi) (register ops b.registers Rdi))
          (λ memory. moves-written w x y n memory _ _ ∙ (λ i. elements_written ops (step true w y) n memory (es i) (ed i)))
      moved-done rep n x y (Err c) es ed = stopped h c (when_rep rep) []

      moved-alike : (rep : Bool) (n : Option ℕ) (x y : V) → register ops a.registers Rsi ≡ register ops b.registers Rsi → register ops a.registers Rdi ≡ register ops b.registers Rdi
          → Alike (when_rep rep ++ ws) xs (elements_of ops a (step true w x) rep n) (elements_of ops b (step true w y) rep n)
      moved-alike rep None x y es ed = stopped h NumberUnknown (when_rep rep) []
      moved-alike rep (Some n) x y es ed =
          subst (λ z. Alike (when_rep rep ++ ws) xs (elements_of ops a (step true w x) rep (Some n)) (elements_done ops b (step true w y) rep n z))
          (moves-permitted w x y n _ _ ∙ (λ i. elements_permitted ops (step true w y) n (es i) (ed i))) (moved-done rep n x y _ es ed)

      filled-done : (rep : Bool) (n : ℕ) (x : V) (p q : Result (V × V) Cause) → SameTarget p q → register ops a.registers Rdi ≡ register ops b.registers Rdi
          → Alike (when_rep rep ++ ws) xs (elements_done ops a (step false w x) rep n p) (elements_done ops b (step false w x) rep n q)
      filled-done rep n x (Ok p) (Ok q) e ed =
          with_due (counted rep (with_register h Rdi p.1 q.1 (λ _. e) [] (λ r c. nowhere r c)))
          (store.Elements (step false w x) n (register ops a.registers Rsi) (register ops a.registers Rdi)) (store.Elements (step false w x) n (register ops b.registers Rsi) (register ops b.registers Rdi))
          (λ memory. stores-written w x n memory _ _ _ ∙ ap (λ t. elements_written ops (step false w x) n memory (register ops b.registers Rsi) t) ed)
      filled-done rep n x (Ok p) (Err d) e ed = absurd e
      filled-done rep n x (Err c) (Ok q) e ed = absurd e
      filled-done rep n x (Err c) (Err d) e ed =
          subst (λ z. Alike (when_rep rep ++ ws) xs (elements_done ops a (step false w x) rep n (Err c)) (elements_done ops b (step false w x) rep n (Err z))) e (stopped h c (when_rep rep) [])

      filled-alike : (rep : Bool) (n : Option ℕ) (x : V) → register ops a.registers Rdi ≡ register ops b.registers Rdi
          → Alike (when_rep rep ++ ws) xs (elements_of ops a (step false w x) rep n) (elements_of ops b (step false w x) rep n)
      filled-alike rep None x ed = stopped h NumberUnknown (when_rep rep) []
      filled-alike rep (Some n) x ed =
          filled-done rep n x _ _
          (subst (λ t. SameTarget (elements_permitted ops (step false w x) n (register ops a.registers Rsi) (register ops a.registers Rdi)) (elements_permitted ops (step false w x) n (register ops b.registers Rsi) t)) ed
          (stores-permitted w x n (register ops a.registers Rsi) (register ops b.registers Rsi) (register ops a.registers Rdi))) ed

      elements-alike : (moves rep : Bool) → ((r : Reg) → Contains (fetched (Elements moves w rep)) r → on r) → (n : Option ℕ)
          → Alike (when_rep rep ++ ws) xs (elements_of ops a (step moves w (register ops a.registers Rax)) rep n) (elements_of ops b (step moves w (register ops b.registers Rax)) rep n)
      elements-alike true rep reads n = moved-alike rep n (register ops a.registers Rax) (register ops b.registers Rax) (register-at h Rsi (reads Rsi (suc zero, lt1, refl))) (register-at h Rdi (reads Rdi (zero, lt0, refl)))
        where
          lt0 : zero < length (Rdi ∷ Rsi ∷ when_rep rep)
          lt0 = omega arith

          lt1 : suc zero < length (Rdi ∷ Rsi ∷ when_rep rep)
          lt1 = omega arith
      elements-alike false rep reads n =
          subst (λ z. Alike (when_rep rep ++ ws) xs (elements_of ops a (step false w (register ops a.registers Rax)) rep n) (elements_of ops b (step false w z) rep n))
          (register-at h Rax (reads Rax (suc zero, lt1, refl))) (filled-alike rep n (register ops a.registers Rax) (register-at h Rdi (reads Rdi (zero, lt0, refl))))
        where
          lt0 : zero < length (Rdi ∷ Rax ∷ when_rep rep)
          lt0 = omega arith

          lt1 : suc zero < length (Rdi ∷ Rax ∷ when_rep rep)
          lt1 = omega arith

      count-alike : (moves rep : Bool) → ((r : Reg) → Contains (fetched (Elements moves w rep)) r → on r) → element_count ops rep a.registers ≡ element_count ops rep b.registers
      count-alike moves false reads = refl
      count-alike true true reads = ap (ops.number Q) (register-at h Rcx (reads Rcx (suc (suc zero), omega arith, refl)))
      count-alike false true reads = ap (ops.number Q) (register-at h Rcx (reads Rcx (suc (suc zero), omega arith, refl)))

    -- ---- one small operation

    module _ (memory : List (List C)) (place : Here V) where
      abbrev run : Micro → Running V → Running V
      run m r = after ops memory place m r

      made-after : (m : Micro) (g : Widths) (a : Running V) → IsReady g m → length a.temps ≡ 8 → HasMade ops (Some m) (run m a)
      made-after (Num to B v) g a ready e = let lt = ready.0 in get_or-set_same a.temps to.0 _ _ (omega (arith, lt, e))
      made-after _ g a ready e = tt

      shift-sets : (op : ShiftOp) (w : Width) (v : V) (p : Option Micro) (by : Temp) (a : Running V) → HasMade ops p a → IsBy p w by → (f g : Flags)
          → AnswersSet (settled_by_shift op true (number_by p)) (ops.shift op w v (temp ops a by) f) (ops.shift op w v (temp ops a by) g)
      shift-sets op w v (Some (Num t B n)) by a made is f g =
          subst (λ z. AnswersSet (written_above_zero op n) (ops.shift op w v (temp ops a z) f) (ops.shift op w v (temp ops a z) g)) (sym is.0)
          (subst (λ z. AnswersSet (written_above_zero op n) (ops.shift op w v z f) (ops.shift op w v z g)) (sym made) (uses.shift_sets op w v n f g is.1))
      shift-sets op w v (Some (Num t W n)) by a made is f g = absurd is
      shift-sets op w v (Some (Num t L n)) by a made is f g = absurd is
      shift-sets op w v (Some (Num t Q n)) by a made is f g = absurd is
      shift-sets op w v _ by a made is f g = set-none _ _

      module _ {ws : List Reg} {xs : List Flag} {a b : Running V} (h : RunsAgree ops on and_on ws xs a b) where
        base-alike : (o : Option Temp) → option_map (temp ops a) o ≡ option_map (temp ops b) o
        base-alike None = refl
        base-alike (Some t) = ap Some (word-at h t)

        index-alike : (o : Option (Temp × ℕ)) → ◌≡◌ {A = Option (V × ℕ)} (option_map (λ p. (temp ops a p.0, p.1)) o) (option_map (λ p. (temp ops b p.0, p.1)) o)
        index-alike None = refl
        index-alike (Some t) = ap (λ z. Some (z, t.1)) (word-at h t.0)

        trap-alike : (kind : Plain) → Follows None (micro.Trap kind) → Alike ws xs (run (micro.Trap kind) a) (run (micro.Trap kind) b)
        trap-alike plain.Ud2 e = halted h trap.Ud2 []
        trap-alike plain.Int3 e = halted h trap.Int3 []
        trap-alike plain.Hlt e = halted h trap.Hlt []
        trap-alike plain.Nop e = absurd e
        trap-alike plain.Pause e = absurd e
        trap-alike plain.Endbr64 e = absurd e

        itself-alike : (borrow : Bool) (to : Temp) (w : Width) → ((x : Flag) → Contains (needed_by_borrow borrow) x → and_on x) → Alike ws (settled_by_borrow borrow ++ xs) (with_itself ops borrow a to w) (with_itself ops borrow b to w)
        itself-alike false to w needs = with_one_flags (with_temp h to _ _ refl) zero_flags all_flags
        itself-alike true to w needs =
            subst (λ t. Alike ws (settled_by_borrow true ++ xs) (with_itself ops true a to w) (borrowed_run ops b to w t)) (sets-of h (needed_by_borrow true) needs).0 (borrowed-alike h to w (settled_by_borrow true) a.flags.cf)

        shift-alike : (op : ShiftOp) (w : Width) (to i by : Temp) (sets : Bool) (p : Option Micro) → Follows p (Shift op w to i by sets) → HasMade ops p a
            → Alike ws (settled_by_shift op sets (number_by p) ++ xs) (run (Shift op w to i by sets) a) (run (Shift op w to i by sets) b)
        shift-alike op w to i by sets p follows made =
            subst (λ z. Alike ws (settled_by_shift op sets (number_by p) ++ xs) (run (Shift op w to i by sets) a) (shifted_run ops b to w sets (ops.shift op w (temp ops b i) z b.flags))) (word-at h by)
            (subst (λ z. Alike ws (settled_by_shift op sets (number_by p) ++ xs) (run (Shift op w to i by sets) a) (shifted_run ops b to w sets (ops.shift op w z (temp ops a by) b.flags))) (word-at h i)
            (by_flags sets follows))
          where
            by_flags : (sets : Bool) → Follows p (Shift op w to i by sets)
                → Alike ws (settled_by_shift op sets (number_by p) ++ xs) (run (Shift op w to i by sets) a) (shifted_run ops b to w sets (ops.shift op w (temp ops a i) (temp ops a by) b.flags))
            by_flags true is = kept-alike h to w _ _ _ (uses.shift op w _ _ a.flags b.flags) (shift-sets op w _ p by a made is a.flags b.flags)
            by_flags false is = plain-alike h to w _ _ (uses.shift op w _ _ a.flags b.flags)

        pub after-alike : (p : Option Micro) (g : Widths) (m : Micro) → ((r : Reg) → Contains (fetched m) r → on r) → ((x : Flag) → Contains (needed (number_by p) m) x → and_on x) → IsReady g m → Follows p m → HasMade ops p a
            → RunsAgree ops on and_on (put_whole m ++ ws) (settled (number_by p) m ++ xs) (run m a) (run m b)
        after-alike p g (Get to w from) reads needs ready follows made =
            with_temp h to _ _ (ap (λ z. part ops w from z) (register-at h (full_register from) (reads _ (its-register from))))
        after-alike p g (Put w to from) reads needs ready follows made =
            subst (λ z. Alike (put_whole (Put w to from) ++ ws) xs (run (Put w to from) a)
            (record b { registers = slice_set b.registers (code_of (full_register to)) (put_part ops w to (register ops b.registers (full_register to)) z) })) (word-at h from)
            (with_register h (full_register to) _ _ (λ e. ap (λ z. put_part ops w to z (temp ops a from)) (same-or a.registers b.registers _ _ e)) (put_whole (Put w to from))
            (λ r c. let d = unless (is_implied from) (filled_part w to) r c in (filled-is w to ready.1 r d, whole-part w to ready.1 r d _ _ _)))
        after-alike p g (Num to w v) reads needs ready follows made = with_temp h to _ _ refl
        after-alike p g (Ref to direct) reads needs ready follows made = with_temp h to _ _ refl
        after-alike p g (micro.Canary to) reads needs ready follows made = with_temp h to _ _ refl
        after-alike p g (Next to) reads needs ready follows made = with_temp h to _ _ refl
        after-alike p g (Sum to base index disp) reads needs ready follows made = with_temp h to _ _ (λ i. ops.sum (base-alike base i) (index-alike index i) disp)
        after-alike p g (Load to w at) reads needs ready follows made =
            subst (λ z. Alike ws xs (run (Load to w at) a) (loaded_run ops memory b to w (ops.place z (byte_count w) Read))) (word-at h at) (loaded-alike h memory to w _)
        after-alike p g (Store w at from) reads needs ready follows made =
            subst (λ z. Alike ws xs (run (Store w at from) a) (stored_run ops b w (temp ops b from) (ops.place z (byte_count w) Write))) (word-at h at)
            (subst (λ z. Alike ws xs (run (Store w at from) a) (stored_run ops b w z (ops.place (temp ops a at) (byte_count w) Write))) (word-at h from) (stored-alike h w _ _))
        after-alike p g (Alu op w to i j) reads needs ready follows made =
            subst (λ z. Alike ws (all_flags ++ xs) (run (Alu op w to i j) a) (computed_run ops b to w z))
            (uses.alu op w _ _ a.flags b.flags (sets-of h (borrowed_flags op) needs) ∙ (λ k. ops.alu op w (word-at h i k) (word-at h j k) b.flags)) (computed-alike h to w all_flags _)
        after-alike p g (One op w to i) reads needs ready follows made =
            subst (λ z. Alike ws (written_one op ++ xs) (run (One op w to i) a) (flagged_run b to (ops.one op w z b.flags))) (word-at h i)
            (with_flags (with_temp h to _ _ (uses.one op w _ a.flags b.flags)) _ _ (uses.one_keeps op w _ a.flags b.flags) (written_one op) (uses.one_sets op w _ a.flags b.flags ready.2))
        after-alike p g (Shift op w to i by sets) reads needs ready follows made = shift-alike op w to i by sets p follows made
        after-alike p g (Mul is_signed w low high i j) reads needs ready follows made =
            subst (λ z. Alike ws (all_flags ++ xs) (run (Mul is_signed w low high i j) a) (set_temps b low z.0 high z.1 z.2)) (λ k. ops.mul is_signed w (word-at h i k) (word-at h j k)) (pair-alike h low _ high _ _ all_flags)
        after-alike p g (Div is_signed w quotient rest high low by) reads needs ready follows made =
            subst (λ z. Alike ws (all_flags ++ xs) (run (Div is_signed w quotient rest high low by) a) (divided_run ops b quotient rest w z))
            (λ k. ops.div is_signed w (word-at h high k) (word-at h low k) (word-at h by k)) (divided-alike h quotient rest w _)
        after-alike p g (Extend is_signed from w to i) reads needs ready follows made = with_temp h to _ _ (ap (λ z. ops.extend is_signed from z w) (word-at h i))
        after-alike p g (Swap w to i) reads needs ready follows made = with_temp h to _ _ (ap (λ z. ops.swap w z) (word-at h i))
        after-alike p g (Bit op w to i index) reads needs ready follows made =
            subst (λ z. Alike ws (written_bit ++ xs) (run (Bit op w to i index) a) (flagged_run b to (ops.bit op w z (temp ops b index) b.flags))) (word-at h i)
            (subst (λ z. Alike ws (written_bit ++ xs) (run (Bit op w to i index) a) (flagged_run b to (ops.bit op w (temp ops a i) z b.flags))) (word-at h index)
            (with_flags (with_temp h to _ _ (uses.bit op w _ _ a.flags b.flags)) _ _ (uses.bit_keeps op w _ _ a.flags b.flags) written_bit (uses.bit_sets op w _ _ a.flags b.flags)))
        after-alike p g (Scan op w to i) reads needs ready follows made =
            subst (λ z. Alike ws (all_flags ++ xs) (run (Scan op w to i) a) (flagged_run b to (ops.scan op w z))) (word-at h i) (with_one_flags (with_temp h to _ _ refl) _ all_flags)
        after-alike p g (Elements moves w rep) reads needs ready follows made =
            subst (λ z. Alike (when_rep rep ++ ws) xs (run (Elements moves w rep) a) (elements_of ops b (step moves w (register ops b.registers Rax)) rep z)) (count-alike h w moves rep reads)
            (elements-alike h w moves rep reads _)
        after-alike p g (Same borrow w to) reads needs ready follows made = itself-alike borrow to w needs
        after-alike p g (Choose c to i j) reads needs ready follows made =
            subst (λ z. Alike ws xs (run (Choose c to i j) a) (chosen_run ops b to (temp ops b i) (temp ops b j) z)) (same-condition c a.flags b.flags (sets-of h _ needs))
            (subst (λ z. Alike ws xs (run (Choose c to i j) a) (chosen_run ops b to (temp ops b i) z (holds c a.flags))) (word-at h j)
            (subst (λ z. Alike ws xs (run (Choose c to i j) a) (chosen_run ops b to z (temp ops a j) (holds c a.flags))) (word-at h i) (chosen-alike h to _ _ _)))
        after-alike p g (Go None to) reads needs ready follows made = with_goal h _ _ (word-at h to)
        after-alike p g (Go (Some c) to) reads needs ready follows made =
            subst (λ z. Alike ws xs (run (Go (Some c) to) a) (goal_run ops b (temp ops b to) z)) (same-condition c a.flags b.flags (sets-of h _ needs))
            (subst (λ z. Alike ws xs (run (Go (Some c) to) a) (goal_run ops b z (holds c a.flags))) (word-at h to) (gone-alike h _ _))
        after-alike p g (micro.Trap kind) reads needs ready follows made = trap-alike kind follows
        after-alike p g System reads needs ready follows made = absurd follows

      -- a list of them
      pub after_all-alike : (ms : List Micro) (p : Option Micro) (g : Widths) (ws : List Reg) (xs : List Flag) (a b : Running V) → RunsAgree ops on and_on ws xs a b
          → ((r : Reg) → Contains (gathered fetched ms) r → on r) → ((x : Flag) → Contains (flags_by needed (number_by p) ms) x → and_on x) → IsTyped g ms → AreFollowing p ms → HasMade ops p a
          → RunsAgree ops on and_on (put_after ms ws) (set_after (number_by p) ms xs) (after_all ops memory place ms a) (after_all ops memory place ms b)
      after_all-alike [] p g ws xs a b h reads needs typed follows made = h
      after_all-alike (m ∷ ms) p g ws xs a b h reads needs typed follows made =
          after_all-alike ms (Some m) (widths_after g m) _ _ _ _
          (after-alike h p g m (λ r c. reads r (Contains-append_left (fetched m) (gathered fetched ms) r c)) (λ x c. needs x (Contains-append_left (needed (number_by p) m) (flags_by needed (made_number m) ms) x c)) typed.0 follows.0 made)
          (λ r c. reads r (Contains-append_right (fetched m) (gathered fetched ms) r c)) (λ x c. needs x (Contains-append_right (needed (number_by p) m) (flags_by needed (made_number m) ms) x c)) typed.1 follows.1
          (made-after m g a typed.0 h.eight)
