-- An instruction that leads to a goal has no string step.
use Rattle.std.proofs.Common.{◌≡◌, ℕ, List, [], ◌∷◌, Option, Some, None, Bool, true, false, refl, sym, ap, subst, ◌∙◌, ◌⊎◌, inl, inr, ⊎_elim, Result, Ok, Err}
use Rattle.std.specs.List.{list_any}
use Rattle.rw_base.specs.declared.width.Width.{Width}
use Rattle.rw_base.specs.declared.width.Width.TheVariants.{Q}
use Rattle.x86_insn.specs.declared.kinds.Reg.TheVariants.{Rax, Rsi, Rdi}
use Rattle.x86_insn.specs.declared.instruction.Insn.{Insn}
use Rattle.x86_meaning.specs.declared.operations.Micro.{Micro}
use Rattle.x86_meaning.specs.declared.operations.Micro.TheVariants.{Elements, Go}
use Rattle.x86_meaning.specs.Meaning.{micro_of, value_of, call_of, t0}
use Rattle.x86_meaning.proofs.Shape.{jump-list, by-shape, is_plain, none-joined, none-plain, none-shift}
use Rattle.rw_domain.specs.declared.cause.Cause.{Cause}
use Rattle.rw_domain.specs.declared.flags.Flags.{Flags}
use Rattle.rw_domain.specs.Operators.{Operators}
use Rattle.rw_machine.specs.Due.{AreWords, is_elements}
use Rattle.rw_machine.specs.Running.{Running, Here, StringStep, register, elements_of, elements_done, elements_permitted, element_count, after_all}
use Rattle.rw_machine.specs.Step.{first_running}
use Rattle.rw_machine.proofs.DueOf.{all-words}

IsString : {R : Type 0} → Insn R → Type 0
IsString i = (moves : Bool) × (w : Width) × (rep : Bool) × (micro_of i ≡ Elements moves w rep ∷ [])

plain-none : (m : Micro) → is_plain m ≡ true → is_elements m ≡ false
plain-none (Elements moves w rep) e = cc
plain-none _ e = refl

abbrev HasNoneOrIs : {R : Type 0} → Insn R → Type 0
HasNoneOrIs i = (list_any is_elements (micro_of i) ≡ false) ⊎ IsString i

-- an instruction has no string step, or only one
strings : {R : Type 0} (i : Insn R) → HasNoneOrIs i
unfolding IsString
strings {R = R} i =
    by-shape {R = R} HasNoneOrIs
    (record {
      all_plain = λ i plain. inl (none-plain is_elements plain-none (micro_of i) plain);
      shift = λ op w at n front back. inl (none-shift is_elements plain-none (λ op w. refl) op w at n);
      strings = λ i moves w rep is. inr (moves, w, rep, is);
      jump = λ cond to. inl (ap (list_any is_elements) (jump-list cond to));
      call = λ to. inl refl;
      jump_to = λ to notrack front. inl (none-joined is_elements (value_of t0 Q to) (Go None t0 ∷ []) (none-plain is_elements plain-none _ front) refl);
      call_to = λ to notrack front. inl (none-joined is_elements (value_of t0 Q to) call_of (none-plain is_elements plain-none _ front) refl);
      return = inl refl;
      system = inl refl;
      trap = λ kind end is. inl (ap (list_any is_elements) is);
    }) i

module _ {V C : Type 0} (ops : Operators V C) (rows : List (List C)) (here : Here V) where
  elements-goal : (r : Running V) (step : StringStep V) (rep : Bool) (n : Option ℕ) → (elements_of ops r step rep n).goal ≡ r.goal
  elements-goal r step rep None = refl
  elements-goal r step rep (Some n) = done-goal (elements_permitted ops step n (register ops r.registers Rsi) (register ops r.registers Rdi))
    where
      done-goal : (a : Result (V × V) Cause) → (elements_done ops r step rep n a).goal ≡ r.goal
      done-goal (Ok p) = refl
      done-goal (Err c) = refl

  -- where an instruction leads to a word, no whole rows are due
  pub word-due : {R : Type 0} (i : Insn R) (registers : List V) (flags : Flags) (w : V) → (after_all ops rows here (micro_of i) (first_running ops registers flags)).goal ≡ Some w
      → AreWords (after_all ops rows here (micro_of i) (first_running ops registers flags)).due
  unfolding IsString
  word-due i registers flags w e =
      ⊎_elim (λ plain. all-words ops rows here (micro_of i) (first_running ops registers flags) plain tt)
      (λ string. absurd (let none = subst (λ ms. (after_all ops rows here ms (first_running ops registers flags)).goal ≡ Some w) string.3 e in
      let goal = elements-goal (first_running ops registers flags) (record { moves = string.0; width = string.1; word = register ops registers Rax }) string.2 (element_count ops string.2 registers) in
      let f : None ≡ Some w = sym goal ∙ none in cc))
      (strings i)
