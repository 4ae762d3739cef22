-- Where a machine is after a step that neither asks nor is a trap: at the goal of its instruction.
use Rattle.std.proofs.Common.{◌≡◌, ℕ, ◌%◌, [], Option, Some, None, Result, Ok, Err, Bool, true, false, cond, refl, sym, subst, ⊎_elim}
use Rattle.rw_base.specs.declared.width.Width.TheVariants.{Q}
use Rattle.x86_insn.specs.declared.kinds.Reg.TheVariants.{Rax}
use Rattle.x86_insn.specs.declared.instruction.Insn.{Insn}
use Rattle.x86_insn.specs.declared.instruction.Insn.TheVariants as insn
use Rattle.x86_insn.specs.WellFormed.{is_instruction}
use Rattle.x86_meaning.specs.Meaning.{micro_of}
use Rattle.x86_meaning.specs.Typing.{no_widths}
use Rattle.x86_meaning.proofs.Typed.{micro-typed}
use Rattle.rw_domain.specs.declared.cause.Cause.{Cause}
use Rattle.rw_domain.specs.declared.cause.Cause.TheVariants.{StackLow}
use Rattle.rw_domain.specs.Operators.{Operators}
use Rattle.rw_machine.specs.declared.ending.End.{End}
use Rattle.rw_machine.specs.declared.ending.End.TheVariants.{Returned, Trapped}
use Rattle.rw_machine.specs.declared.goal.Goal.{Goal}
use Rattle.rw_machine.specs.declared.goal.Goal.TheVariants.{At, Import, Finish}
use Rattle.rw_machine.specs.declared.running.Ask.{Ask}
use Rattle.rw_machine.specs.declared.running.Ask.TheVariants.{Serve, Halt}
use Rattle.rw_machine.specs.Program.{Program, Domains, GivesInstructions}
use Rattle.rw_machine.specs.Running.{Running, register}
use Rattle.rw_machine.specs.Events.{Reply}
use Rattle.rw_machine.specs.Step.{Machine, Outcome, Moved, Asks, Ended, Stopped, first_running, fits_stack, swept_machine, settled_outcome, finished_outcome, returned_outcome_with, returned_outcome, here_at, run_of, machine_after, goal_of, reached_outcome, asked_outcome, decided_outcome, insn_outcome, step_outcome}
use Rattle.rw_machine.specs.SameSteps.{goal_from}
use Rattle.rw_machine.proofs.FlagUse.{UsesFlags}
use Rattle.rw_machine.proofs.Follows.{AreFollowing, micro-follows}
use Rattle.rw_machine.proofs.RunsAgree.{serves, RunsAgree, after_all-alike}

-- where a machine goes on, its point has the property
abbrev pub Moves : {D V C P : Type 0} → (P → Type 0) → Outcome D V C P → Type 0
Moves To (Moved n) = To n.point
Moves To (Asks e) = Unit {0}
Moves To (Ended n z) = Unit {0}
Moves To (Stopped c) = Unit {0}

module _ {D V C P : Type 0} (ops : Operators V C) (To : P → Type 0) where
  settled-moves : (x : Machine D V C P) → To x.point → Moves To (settled_outcome ops x)
  settled-moves x h = by (fits_stack ops x.registers)
    where
      by : (t : Bool) → Moves To (cond t (Moved (swept_machine ops x)) (Stopped StackLow))
      by true = h
      by false = tt

  finished-moves : (x : Machine D V C P) (z : End) → Moves To (finished_outcome ops x z)
  finished-moves x z = by (fits_stack ops x.registers)
    where
      by : (t : Bool) → Moves To (cond t (Ended (swept_machine ops x) z) (Stopped StackLow))
      by true = tt
      by false = tt

  with-moves : (x : Machine D V C P) (o : Option ℕ) → Moves To (returned_outcome_with ops x o)
  with-moves x None = tt
  with-moves x (Some k) = finished-moves x (Returned (k % 256))

  returned-moves : (x : Machine D V C P) → Moves To (returned_outcome ops x)
  returned-moves x = with-moves x (ops.number Q (register ops x.registers Rax))

module _ {D V C P R : Type 0} (dom : Domains D V C) (ops : Operators V C) (prog : Program P R V) (To : P → Type 0) (m : Machine D V C P) (reply : Option (Reply V C)) (i : Insn R) (r : Running V) where
  reached-moves : (g : Result (Goal P) Cause) → ((symbol : ℕ) → g ≡ Ok (Import symbol) → ⊥) → ((p : P) → g ≡ Ok (At p) → To p) → Moves To (reached_outcome dom ops prog m reply i r g)
  reached-moves (Err c) none to = tt
  reached-moves (Ok (At p)) none to = settled-moves ops To (machine_after dom ops prog m i r p) (to p refl)
  reached-moves (Ok (Import symbol)) none to = absurd (none symbol refl)
  reached-moves (Ok Finish) none to = returned-moves ops To (machine_after dom ops prog m i r m.point)

  asked-moves : (z : Option Ask) → r.ask ≡ z → serves z ≡ false → ((symbol : ℕ) → goal_of dom ops prog m.point r.goal ≡ Ok (Import symbol) → ⊥) → (r.ask ≡ None → (p : P) → goal_of dom ops prog m.point r.goal ≡ Ok (At p) → To p)
      → Moves To (asked_outcome dom ops prog m reply i r z)
  asked-moves None e quiet none to = reached-moves _ none (to e)
  asked-moves (Some (Halt kind)) e quiet none to = finished-moves ops To m (Trapped kind)
  asked-moves (Some Serve) e quiet none to = cc

  decided-moves : (z : Option Cause) → serves r.ask ≡ false → ((symbol : ℕ) → goal_of dom ops prog m.point r.goal ≡ Ok (Import symbol) → ⊥) → (r.ask ≡ None → (p : P) → goal_of dom ops prog m.point r.goal ≡ Ok (At p) → To p)
      → Moves To (decided_outcome dom ops prog m reply i r z)
  decided-moves None quiet none to = asked-moves r.ask refl quiet none to
  decided-moves (Some c) quiet none to = tt

module _ {D V C P R : Type 0} (dom : Domains D V C) (uses : (d : D) → UsesFlags (dom.over d)) (prog : Program P R V) (formed : GivesInstructions prog) (m : Machine D V C P) where
  begun-alike : RunsAgree (dom.over m.placed) (λ r. Unit {0}) (λ x. Unit {0}) [] [] (first_running (dom.over m.placed) m.registers m.flags) (first_running (dom.over m.placed) m.registers m.flags)
  begun-alike = record {
    temps = refl;
    eight = refl;
    count = refl;
    registers = λ r k. refl;
    put = λ go r c. refl;
    flags = λ x k. refl;
    set = λ go x c. refl;
    due = tt;
    goal = refl;
    ask = refl;
    cause = refl;
    quiet = refl;
  }

  run-quiet : (i : Insn R) → is_instruction i ≡ true → AreFollowing None (micro_of i) → serves (run_of dom (dom.over m.placed) prog m i).ask ≡ false
  run-quiet i e follows =
      (after_all-alike (dom.over m.placed) (uses m.placed) (λ r. Unit {0}) (λ x. Unit {0}) m.memory (here_at dom (dom.over m.placed) prog m.point i) (micro_of i) None no_widths [] [] _ _ begun-alike
      (λ r c. tt) (λ x c. tt) (micro-typed no_widths i e) follows tt).quiet

  pub stepped-moves : (To : P → Type 0) (reply : Option (Reply V C)) (i : Insn R) → prog.insn m.point ≡ Some i → (i ≡ insn.Syscall → ⊥) → ((symbol : ℕ) → goal_from dom prog m i ≡ Ok (Import symbol) → ⊥)
      → ((run_of dom (dom.over m.placed) prog m i).ask ≡ None → (p : P) → goal_from dom prog m i ≡ Ok (At p) → To p) → Moves To (step_outcome dom prog m reply)
  stepped-moves To reply i is other none to =
      subst (λ o. Moves To (insn_outcome dom (dom.over m.placed) prog m reply o)) (sym is)
      (⊎_elim (λ follows. decided-moves dom (dom.over m.placed) prog To m reply i (run_of dom (dom.over m.placed) prog m i) _ (run-quiet i (formed m.point i is) follows) none to) (λ e. absurd (other e)) (micro-follows i (formed m.point i is)))
