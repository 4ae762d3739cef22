-- What a domain has placed after an answered step: the same, and the region of the answer.
use Rattle.std.proofs.Common.{◌≡◌, ℕ, Option, Some, None, Result, Ok, Err, Bool, true, false, refl, sym, ap, ◌∙◌, subst, arith}
use Rattle.std.specs.Prelude.{if◌then◌else◌}
use Rattle.x86_insn.specs.declared.instruction.Insn.{Insn}
use Rattle.rw_base.specs.declared.width.Width.TheVariants.{Q}
use Rattle.x86_insn.specs.declared.kinds.Reg.TheVariants.{Rsp}
use Rattle.rw_domain.specs.declared.cause.Cause.{Cause}
use Rattle.rw_domain.specs.declared.cause.Cause.TheVariants.{StackLow}
use Rattle.rw_domain.specs.declared.place.Access.TheVariants.{Read}
use Rattle.rw_domain.specs.declared.place.Place.{Place}
use Rattle.rw_domain.specs.Operators.{Operators}
use Rattle.rw_machine.specs.declared.ending.End.{End}
use Rattle.rw_machine.specs.declared.goal.Goal.{Goal}
use Rattle.rw_machine.specs.declared.goal.Goal.TheVariants.{At, Import, Finish}
use Rattle.rw_machine.specs.declared.event.Answer.{Answer}
use Rattle.rw_machine.specs.declared.event.Answer.TheVariants as answer
use Rattle.rw_machine.specs.State.{outcome_of}
use Rattle.rw_machine.specs.Events.{Event, Reply}
use Rattle.rw_machine.specs.Program.{Domains, Program}
use Rattle.rw_machine.specs.Running.{Running, range_at, register}
use Rattle.rw_machine.specs.Step.{Asks, Ended, Machine, Moved, Outcome, Stopped, asked_outcome, decided_outcome, entered_outcome, finished_outcome, fits_stack, goal_of, import_outcome, insn_outcome, machine_after, machine_after_import, machine_after_reply, placed_with, raised_registers, reached_outcome, replied_outcome, reply_of, return_from_outcome, return_to_outcome, returned_outcome, returned_outcome_with, run_of, served_outcome, settled_outcome, step_of, swept_machine}

module _ {D V C P R : Type 0} (dom : Domains D V C) (ops : Operators V C) (prog : Program P R V) where
  -- what is placed after a step that is made
  abbrev pub IsPlacedAfter : D → Outcome D V C P → Type 0
  IsPlacedAfter d (Moved m) = m.placed ≡ d
  IsPlacedAfter d (Ended m z) = m.placed ≡ d
  IsPlacedAfter d (Asks e) = Unit {0}
  IsPlacedAfter d (Stopped c) = Unit {0}

  settled-placed : (m : Machine D V C P) → IsPlacedAfter m.placed (settled_outcome ops m)
  settled-placed m = by (fits_stack ops m.registers)
    where
      by : (t : Bool) → IsPlacedAfter m.placed (if t then Moved (swept_machine ops m) else Stopped StackLow)
      by true = refl
      by false = tt

  finished-placed : (m : Machine D V C P) (z : End) → IsPlacedAfter m.placed (finished_outcome ops m z)
  finished-placed m z = by (fits_stack ops m.registers)
    where
      by : (t : Bool) → IsPlacedAfter m.placed (if t then Ended (swept_machine ops m) z else Stopped StackLow)
      by true = refl
      by false = tt

  returned-with-placed : (m : Machine D V C P) (o : Option ℕ) → IsPlacedAfter m.placed (returned_outcome_with ops m o)
  returned-with-placed m None = tt
  returned-with-placed m (Some n) = finished-placed m _

  returned-placed : (m : Machine D V C P) → IsPlacedAfter m.placed (returned_outcome ops m)
  returned-placed m = returned-with-placed m _

  module _ (m : Machine D V C P) (reply : Reply V C) where
    abbrev With : D
    With = placed_with dom m.placed reply.fresh

    -- where the step without the reply asks, the reply's region is placed
    abbrev pub IsAnswered : Outcome D V C P → Outcome D V C P → Type 0
    IsAnswered (Asks e) x = IsPlacedAfter With x
    IsAnswered (Moved n) x = Unit {0}
    IsAnswered (Ended n z) x = Unit {0}
    IsAnswered (Stopped c) x = Unit {0}

    replied-placed : (n : Machine D V C P) (z : Option End) → n.placed ≡ With → IsPlacedAfter With (replied_outcome dom ops prog n z)
    replied-placed n None e = subst (λ d. IsPlacedAfter d (settled_outcome ops n)) e (settled-placed n)
    replied-placed n (Some z) e = e

    served-answered : (o : Result (Event V) Cause) → IsAnswered (served_outcome dom ops prog m None o) (served_outcome dom ops prog m (Some reply) o)
    served-answered (Err c) = tt
    served-answered (Ok event) = replied-placed (machine_after_reply dom ops prog m reply) reply.ending refl

    -- a function is entered by a machine with the same regions
    module _ (n : Machine D V C P) (same : n.placed ≡ m.placed) where
      moved : (x : Outcome D V C P) → IsPlacedAfter (placed_with dom n.placed reply.fresh) x → IsPlacedAfter With x
      moved x h = subst (λ d. IsPlacedAfter (placed_with dom d reply.fresh) x) same h

      return-to-placed : (o : Result (Goal P) Cause) → IsPlacedAfter (placed_with dom n.placed reply.fresh) (return_to_outcome dom ops prog n reply o)
      return-to-placed (Err c) = tt
      return-to-placed (Ok (At p)) = settled-placed (machine_after_import dom ops prog n reply (raised_registers ops n.registers) p)
      return-to-placed (Ok Finish) = returned-placed (machine_after_import dom ops prog n reply (raised_registers ops n.registers) n.point)
      return-to-placed (Ok (Import k)) = tt

      return-from-placed : (o : Result Place Cause) → IsPlacedAfter (placed_with dom n.placed reply.fresh) (return_from_outcome dom ops prog n reply o)
      return-from-placed (Err c) = tt
      return-from-placed (Ok p) = return-to-placed (prog.target (ops.join Q (range_at n.memory p 8)))

      import-placed : (z : Option End) → IsPlacedAfter (placed_with dom n.placed reply.fresh) (import_outcome dom ops prog n reply z)
      import-placed None = return-from-placed (ops.place (register ops n.registers Rsp) 8 Read)
      import-placed (Some z) = refl

      entered-placed : (symbol : ℕ) → IsPlacedAfter With (entered_outcome dom ops prog n symbol (Some reply))
      entered-placed symbol = moved (import_outcome dom ops prog n reply reply.ending) (import-placed reply.ending)

    -- what doesn't ask says nothing
    settled-silent : (n : Machine D V C P) (y : Outcome D V C P) → IsAnswered (settled_outcome ops n) y
    settled-silent n y = by (fits_stack ops n.registers)
      where
        by : (t : Bool) → IsAnswered (if t then Moved (swept_machine ops n) else Stopped StackLow) y
        by true = tt
        by false = tt

    finished-silent : (n : Machine D V C P) (z : End) (y : Outcome D V C P) → IsAnswered (finished_outcome ops n z) y
    finished-silent n z y = by (fits_stack ops n.registers)
      where
        by : (t : Bool) → IsAnswered (if t then Ended (swept_machine ops n) z else Stopped StackLow) y
        by true = tt
        by false = tt

    returned-with-silent : (n : Machine D V C P) (o : Option ℕ) (y : Outcome D V C P) → IsAnswered (returned_outcome_with ops n o) y
    returned-with-silent n None y = tt
    returned-with-silent n (Some k) y = finished-silent n _ y

    reached-answered : (i : Insn R) (r : Running V) (o : Result (Goal P) Cause) → IsAnswered (reached_outcome dom ops prog m None i r o) (reached_outcome dom ops prog m (Some reply) i r o)
    reached-answered i r (Err c) = tt
    reached-answered i r (Ok (At p)) = settled-silent (machine_after dom ops prog m i r p) _
    reached-answered i r (Ok Finish) = returned-with-silent (machine_after dom ops prog m i r m.point) _ _
    reached-answered i r (Ok (Import symbol)) = entered-placed (machine_after dom ops prog m i r m.point) refl symbol

    asked-answered : (i : Insn R) (r : Running V) (o : _) → IsAnswered (asked_outcome dom ops prog m None i r o) (asked_outcome dom ops prog m (Some reply) i r o)
    asked-answered i r None = reached-answered i r (goal_of dom ops prog m.point r.goal)
    asked-answered i r (Some ask) = grind (arith, finished-silent, served-answered)

    decided-answered : (i : Insn R) (r : Running V) (o : Option Cause) → IsAnswered (decided_outcome dom ops prog m None i r o) (decided_outcome dom ops prog m (Some reply) i r o)
    decided-answered i r None = asked-answered i r r.ask
    decided-answered i r (Some c) = tt

    insn-answered : (o : Option (Insn R)) → IsAnswered (insn_outcome dom ops prog m None o) (insn_outcome dom ops prog m (Some reply) o)
    insn-answered None = tt
    insn-answered (Some i) = decided-answered i (run_of dom ops prog m i) (run_of dom ops prog m i).cause

-- the whole step of a machine that asks
pub answered-placed : {D V C P R : Type 0} (dom : Domains D V C) (prog : Program P R V) (m : Machine D V C P) (reply : Reply V C) (event : Event V) → step_of dom prog m ≡ Asks event
    → IsPlacedAfter dom (dom.over m.placed) prog (placed_with dom m.placed reply.fresh) (reply_of dom prog m reply)
answered-placed dom prog m reply event asks =
    subst (λ x. IsAnswered dom (dom.over m.placed) prog m reply x (reply_of dom prog m reply)) asks (insn-answered dom (dom.over m.placed) prog m reply (prog.insn m.point))

-- the same by what a call of the code came to
module _ {D V C P R : Type 0} (dom : Domains D V C) (prog : Program P R V) (m n : Machine D V C P) (reply : Reply V C) (event : Event V) (asks : step_of dom prog m ≡ Asks event) (given : Answer V)
    (came : outcome_of (dom.over m.placed) m given n ≡ reply_of dom prog m reply) where
  abbrev After : Outcome D V C P → Type 0
  After x = IsPlacedAfter dom (dom.over m.placed) prog (placed_with dom m.placed reply.fresh) x

  pub moved-placed : given ≡ answer.Moved → n.placed ≡ placed_with dom m.placed reply.fresh
  moved-placed is = subst After (sym (ap (λ a. outcome_of (dom.over m.placed) m a n) (sym is) ∙ came)) (answered-placed dom prog m reply event asks)

  pub ended-placed : (ending : End) → given ≡ answer.Ended ending → n.placed ≡ placed_with dom m.placed reply.fresh
  ended-placed ending is = subst After (sym (ap (λ a. outcome_of (dom.over m.placed) m a n) (sym is) ∙ came)) (answered-placed dom prog m reply event asks)
