-- Where an instruction leads: behind it, or to its direct target, but for calls, returns and indirect jumps.
use Rattle.std.proofs.Common.{◌≡◌, ℕ, List, [], ◌∷◌, Option, Some, None, Result, Ok, Err, Bool, true, false, refl, sym, ap, subst, ◌∙◌, ◌⊎◌, inl, inr, ⊎_elim}
use Rattle.std.specs.List.{list_any}
use Rattle.std.proofs.lemmas.Bool.{or_parts}
use Rattle.rw_base.specs.declared.width.Width.{Width}
use Rattle.x86_insn.specs.declared.kinds.Cond.{Cond}
use Rattle.x86_insn.specs.declared.kinds.Reg.TheVariants.{Rax, Rsi, Rdi}
use Rattle.x86_insn.specs.declared.instruction.Insn.{Insn}
use Rattle.x86_insn.specs.declared.instruction.Insn.TheVariants as insn
use Rattle.x86_meaning.specs.declared.operations.Temp.{Temp}
use Rattle.x86_meaning.specs.declared.operations.Micro.{Micro}
use Rattle.x86_meaning.specs.declared.operations.Micro.TheVariants.{Ref, Load, Store, Alu, Shift, Div, Elements, Same, Choose, Go}
use Rattle.x86_meaning.specs.Meaning.{micro_of, t0}
pub use Rattle.x86_meaning.proofs.Shape.{jump_with}
use Rattle.x86_meaning.proofs.Shape.{by-shape, is_plain, none-plain, none-shift}
use Rattle.rw_domain.specs.declared.cause.Cause.{Cause}
use Rattle.rw_domain.specs.declared.flags.Tri.{Tri}
use Rattle.rw_domain.specs.declared.flags.Tri.TheVariants.{Yes, No, Unknown}
use Rattle.rw_domain.specs.declared.flags.Flags.{Flags}
use Rattle.rw_domain.specs.declared.place.Place.{Place}
use Rattle.rw_domain.specs.Operators.{Operators}
use Rattle.rw_machine.specs.Conditions.{holds}
use Rattle.rw_machine.specs.Running.{Running, StringStep, Here, register, loaded_run, stored_run, computed_run, goal_run, chosen_run, borrowed_run, with_itself, shifted_run, divided_run, elements_permitted, elements_done, elements_of, element_count, after, after_all}
use Rattle.rw_machine.specs.Step.{loses_flags, first_running}

-- ---- lists that lead nowhere

abbrev is_go : Micro → Bool
is_go (Go cond to) = true
is_go _ = false

abbrev StaysAmong : List Micro → Type 0
StaysAmong ms = list_any is_go ms ≡ false

plain-stays : (m : Micro) → is_plain m ≡ true → is_go m ≡ false
plain-stays (Go cond to) e = cc
plain-stays _ e = refl

abbrev pub Jumps : {R : Type 0} → Insn R → Type 0
Jumps {R} i = (cond : Option Cond) × (to : R) × (i ≡ jump_with cond to)

abbrev StaysOrJumps : {R : Type 0} → Insn R → Type 0
StaysOrJumps i = loses_flags i ≡ false → StaysAmong (micro_of i) ⊎ Jumps i

-- calls, returns and indirect jumps; direct jumps; and all others, which lead nowhere
stays : {R : Type 0} (i : Insn R) → StaysOrJumps i
stays {R = R} i =
    by-shape {R = R} StaysOrJumps
    (record {
      all_plain = λ i plain e. inl (none-plain is_go plain-stays (micro_of i) plain);
      shift = λ op w at n front back e. inl (none-shift is_go plain-stays (λ op w. refl) op w at n);
      strings = λ i moves w rep is e. inl (ap (list_any is_go) is);
      jump = λ cond to e. inr (cond, to, refl);
      call = λ to e. cc;
      jump_to = λ to notrack front e. cc;
      call_to = λ to notrack front e. cc;
      return = λ e. cc;
      system = λ e. inl refl;
      trap = λ kind end is e. inl (ap (list_any is_go) is);
    }) i

-- ---- the goal of a run

module _ {V C : Type 0} (ops : Operators V C) where
  loaded-goal : (memory : List (List C)) (r : Running V) (to : Temp) (w : Width) (p : Result Place Cause) → (loaded_run ops memory r to w p).goal ≡ r.goal
  loaded-goal memory r to w (Ok p) = refl
  loaded-goal memory r to w (Err c) = refl

  stored-goal : (r : Running V) (w : Width) (v : V) (p : Result Place Cause) → (stored_run ops r w v p).goal ≡ r.goal
  stored-goal r w v (Ok p) = refl
  stored-goal r w v (Err c) = refl

  computed-goal : (r : Running V) (to : Temp) (w : Width) (p : Result (V × Flags) Cause) → (computed_run ops r to w p).goal ≡ r.goal
  computed-goal r to w (Ok p) = refl
  computed-goal r to w (Err c) = refl

  shifted-goal : (r : Running V) (to : Temp) (w : Width) (sets : Bool) (p : Result (V × Flags) Cause) → (shifted_run ops r to w sets p).goal ≡ r.goal
  shifted-goal r to w true p = computed-goal r to w p
  shifted-goal r to w false (Ok p) = refl
  shifted-goal r to w false (Err c) = refl

  divided-goal : (r : Running V) (quotient rest : Temp) (w : Width) (p : Result (Option (V × V)) Cause) → (divided_run ops r quotient rest w p).goal ≡ r.goal
  divided-goal r quotient rest w (Ok (Some p)) = refl
  divided-goal r quotient rest w (Ok None) = refl
  divided-goal r quotient rest w (Err c) = refl

  chosen-goal : (r : Running V) (to : Temp) (u v : V) (o : Option Bool) → (chosen_run ops r to u v o).goal ≡ r.goal
  chosen-goal r to u v (Some true) = refl
  chosen-goal r to u v (Some false) = refl
  chosen-goal r to u v None = refl

  borrowed-goal : (r : Running V) (to : Temp) (w : Width) (t : Tri) → (borrowed_run ops r to w t).goal ≡ r.goal
  borrowed-goal r to w Yes = refl
  borrowed-goal r to w No = refl
  borrowed-goal r to w Unknown = refl

  itself-goal : (borrow : Bool) (r : Running V) (to : Temp) (w : Width) → (with_itself ops borrow r to w).goal ≡ r.goal
  itself-goal true r to w = borrowed-goal r to w r.flags.cf
  itself-goal false r to w = refl

  elements-goal : (r : Running V) (step : StringStep V) (rep : Bool) (n : Option ℕ) → (elements_of ops r step rep n).goal ≡ r.goal
  elements-goal r step rep None = refl
  elements-goal r step rep (Some n) = by (elements_permitted ops step n (register ops r.registers Rsi) (register ops r.registers Rdi))
    where
      by : (a : Result (V × V) Cause) → (elements_done ops r step rep n a).goal ≡ r.goal
      by (Ok p) = refl
      by (Err c) = refl

  module _ (memory : List (List C)) (here : Here V) where
    after-goal : (m : Micro) (r : Running V) → is_go m ≡ false → (after ops memory here m r).goal ≡ r.goal
    after-goal (Load to w at) r e = loaded-goal memory r to w _
    after-goal (Store w at from) r e = stored-goal r w _ _
    after-goal (Alu op w to a b) r e = computed-goal r to w _
    after-goal (Shift op w to a by sets) r e = shifted-goal r to w sets _
    after-goal (Div is_signed w quotient rest high low by) r e = divided-goal r quotient rest w _
    after-goal (Elements moves w rep) r e = elements-goal r (record { moves = moves; width = w; word = register ops r.registers Rax }) rep (element_count ops rep r.registers)
    after-goal (Same borrow w to) r e = itself-goal borrow r to w
    after-goal (Choose c to a b) r e = chosen-goal r to _ _ _
    after-goal (Go c to) r e = cc
    after-goal _ r e = refl

    all-goal : (ms : List Micro) (r : Running V) → StaysAmong ms → (after_all ops memory here ms r).goal ≡ r.goal
    all-goal [] r e = refl
    all-goal (m ∷ ms) r e =
        let p = or_parts (is_go m) (list_any is_go ms) e in all-goal ms _ p.1 ∙ after-goal m r p.0

    -- the goal of a direct jump is its target, or it has none
    gone-goal : (r : Running V) (w : V) (o : Option Bool) → r.goal ≡ None → ((goal_run ops r w o).goal ≡ None) ⊎ ((goal_run ops r w o).goal ≡ Some w)
    gone-goal r w (Some true) e = inr refl
    gone-goal r w (Some false) e = inl e
    gone-goal r w None e = inl e

    jump-goal : {R : Type 0} (cond : Option Cond) (to : R) (registers : List V) (flags : Flags)
        → ((after_all ops memory here (micro_of (jump_with cond to)) (first_running ops registers flags)).goal ≡ None) ⊎ ((after_all ops memory here (micro_of (jump_with cond to)) (first_running ops registers flags)).goal ≡ Some here.direct)
    jump-goal None to registers flags = inr refl
    jump-goal (Some cond) to registers flags = gone-goal (after ops memory here (Ref t0 true) (first_running ops registers flags)) here.direct (holds cond flags) refl

    -- an instruction that leads nowhere is no jump
    no-jump : {R : Type 0} (i : Insn R) → StaysAmong (micro_of i) → (to : R) → i ≡ insn.Jmp to → ⊥
    no-jump i none to is = let e = subst (λ j. StaysAmong (micro_of j)) is none in cc

    by-condition : {R : Type 0} (cond : Cond) (to u : R) → insn.Jcc cond to ≡ insn.Jmp u → ⊥
    by-condition cond to u e = cc

    -- It goes on behind the instruction, which is no jump without a condition; or to the target of a direct jump.
    abbrev pub LeadsOn : {R : Type 0} → Insn R → List V → Flags → Type 0
    LeadsOn {R} i registers flags =
        (((after_all ops memory here (micro_of i) (first_running ops registers flags)).goal ≡ None) × ((to : R) → i ≡ insn.Jmp to → ⊥))
        ⊎ (Jumps i × ((after_all ops memory here (micro_of i) (first_running ops registers flags)).goal ≡ Some here.direct))

    jumps : {R : Type 0} (cond : Option Cond) (to : R) (registers : List V) (flags : Flags) → LeadsOn (jump_with cond to) registers flags
    jumps None to registers flags = inr ((None, to, refl), refl)
    jumps (Some cond) to registers flags =
        ⊎_elim (λ none. inl (none, by-condition cond to)) (λ some. inr ((Some cond, to, refl), some)) (jump-goal (Some cond) to registers flags)

    pub insn-goal : {R : Type 0} (i : Insn R) (registers : List V) (flags : Flags) → loses_flags i ≡ false → LeadsOn i registers flags
    insn-goal i registers flags e =
        ⊎_elim (λ none. inl (all-goal (micro_of i) _ none, no-jump i none))
        (λ jump. subst (λ j. LeadsOn j registers flags) (sym jump.2) (jumps jump.0 jump.1 registers flags)) (stays i e)
