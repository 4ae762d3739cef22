-- What a step will do, and what it has done.
use Rattle.std.specs.Prelude.{◌≡◌, ℕ, ◌++◌, List, [], Option, Some, None, option_map, Result, IfOk, IsOk, OnErr}
use Rattle.rw_domain.specs.declared.domain.Domain.{Ghosts}
use Rattle.rw_domain.specs.declared.place.Place.{Place}
use Rattle.rw_domain.specs.declared.place.Region.{Region}
use Rattle.rw_domain.specs.Operators.{Operators}
use Rattle.rw_domain.specs.Placed.{Placed}
use Rattle.rw_machine.specs.declared.ending.End.{End}
use Rattle.rw_machine.specs.declared.event.Answer.{Answer}
use Rattle.rw_machine.specs.declared.event.Answer.TheVariants as answer
use Rattle.rw_machine.specs.declared.event.Reply.{Reply as ReplyCode}
use Rattle.rw_machine.specs.declared.plan.Changes.{Changes}
use Rattle.rw_machine.specs.declared.plan.Changes.TheVariants as changes
use Rattle.rw_machine.specs.declared.plan.Closing.{Closing}
use Rattle.rw_machine.specs.declared.plan.Plan.{Plan}
use Rattle.rw_machine.specs.declared.plan.Plan.TheVariants as plan
use Rattle.rw_machine.specs.declared.state.State.{State}
use Rattle.rw_machine.specs.Replying.{forgotten_to, IsReached, HaveRoom, FitsFresh}
use Rattle.rw_machine.specs.Due.{FitRows, AreWords}
use Rattle.rw_machine.specs.Events.{Reply}
use Rattle.rw_machine.specs.Program.{Domains}
use Rattle.rw_machine.specs.Running.{Due, Running, undefined_byte}
use Rattle.rw_machine.specs.State.{machine_of, reply_value, event_of_query, outcome_of}
use Rattle.rw_machine.specs.Step.{Machine, Outcome, Moved, Asks, Ended, Stopped, all_written, fresh_row, placed_with, due_written, settled_outcome, finished_outcome}

-- ---- the reply that is given, if one is

abbrev pub given_reply : {V C : Type 0} → Option (ReplyCode V C) → Option (Reply V C)
given_reply reply = option_map reply_value reply

abbrev pub writes_in : {V C : Type 0} → Option (Reply V C) → List (Place × List C)
writes_in None = []
writes_in (Some reply) = reply.writes

abbrev pub fresh_in : {V C : Type 0} → Option (Reply V C) → Option (Region × ℕ)
fresh_in None = None
fresh_in (Some reply) = reply.fresh

-- ---- what a plan comes to

-- it goes on or ends where its stack pointer fits
abbrev pub closed_outcome : {D V C P : Type 0} → Operators V C → Machine D V C P → Option End → Outcome D V C P
closed_outcome ops m None = settled_outcome ops m
closed_outcome ops m (Some ending) = finished_outcome ops m ending

-- a machine that goes on, or ends
abbrev pub moved_or_ended : {D V C P : Type 0} → Machine D V C P → Option End → Outcome D V C P
moved_or_ended m None = Moved m
moved_or_ended m (Some ending) = Ended m ending

abbrev pub answer_at : {V : Type 0} → Option End → Answer V
answer_at None = answer.Moved
answer_at (Some ending) = answer.Ended ending

-- at its end a region is forgotten up to a place
abbrev pub closed_machine : {D V C P : Type 0} → Operators V C → Closing P → Machine D V C P → Machine D V C P
closed_machine ops c m = record m { memory = forgotten_to (undefined_byte ops) c.sweep m.memory }

-- the machine with what an instruction has done, at a point
abbrev pub with_run : {D V C P : Type 0} → Operators V C → Machine D V C P → Running V → P → Machine D V C P
with_run ops m run p = record {
  registers = run.registers;
  flags = run.flags;
  memory = due_written ops m.memory run.due;
  placed = m.placed;
  point = p;
}

module _ {D V C : Type 0} (dom : Domains D V C) (ops : Operators V C) (reply : Option (Reply V C)) where
  -- memory and what is placed, with what is due and what else changes
  abbrev pub changed_memory : Changes → List (Due V) → List (List C) → List (List C)
  changed_memory changes.Due dues memory = due_written ops memory dues
  changed_memory (changes.Follow frame) dues memory =
      forgotten_to (undefined_byte ops) frame (all_written ops (writes_in reply) (due_written ops memory dues) ++ fresh_row ops (fresh_in reply))

  abbrev pub changed_placed : Changes → D → D
  changed_placed changes.Due placed = placed
  changed_placed (changes.Follow frame) placed = placed_with dom placed (fresh_in reply)

  -- the machine with what an instruction has done and what else changes, at a point
  abbrev pub changed_machine : {P : Type 0} → Running V → Changes → P → Machine D V C P → Machine D V C P
  changed_machine run how p m = record {
    registers = run.registers;
    flags = run.flags;
    memory = changed_memory how run.due m.memory;
    placed = changed_placed how m.placed;
    point = p;
  }

  abbrev pub plan_outcome : {P : Type 0} → Machine D V C P → Running V → Plan P → Outcome D V C P
  plan_outcome m run (plan.Stop cause) = Stopped cause
  plan_outcome m run (plan.Ask q) = Asks (event_of_query ops run.registers m.memory q)
  plan_outcome m run (plan.Make how c) = moved_or_ended (closed_machine ops c (changed_machine run how c.point m)) c.end

-- ---- what a plan takes

-- what changes fits the rows of memory
abbrev pub FitChanges : {V C : Type 0} → List (List C) → List (Due V) → Changes → Type 0
FitChanges rows dues changes.Due = FitRows rows dues
FitChanges rows dues (changes.Follow frame) = FitRows rows dues × AreWords dues × IsReached rows frame

-- a plan asks only where there is no reply
abbrev pub IsPlan : {V C P : Type 0} → List (List C) → Option (Reply V C) → List (Due V) → Plan P → Type 0
IsPlan rows reply dues (plan.Stop cause) = Unit {0}
IsPlan rows reply dues (plan.Ask q) = reply ≡ None
IsPlan rows reply dues (plan.Make how c) = FitChanges rows dues how × IsReached rows c.sweep

-- a reply fits a machine: with its fresh region there are few enough, and its writes have room
pub record IsFit {V C : Type 0} (regions : List Region) (rows : List (List C)) (reply : Reply V C) : Type 0 where
  pub fresh : FitsFresh regions reply.fresh
  pub writes : HaveRoom rows reply.writes

-- ---- what is made

-- a step that stops changes nothing; nor does one that asks, and it has no reply
abbrev pub KeepsAll : {R V S : Type 0} → Option R → Answer V → S → S → Type 0
KeepsAll reply answer.Moved old new = Unit {0}
KeepsAll reply (answer.Asks _) old new = (reply ≡ None) × (new ≡ old)
KeepsAll reply (answer.Ended _) old new = Unit {0}
KeepsAll reply (answer.Stopped _) old new = new ≡ old

-- A step with a reply or none is made, and comes to an outcome. Want of memory leaves the machine as it was. Where there is
-- no fresh region, memory isn't wanted, and the domain stays.
pub record Makes {D P V C E : Type 0} {g : Ghosts D V C} (outcome : Outcome Placed V C P) (reply : Option (Reply V C)) (old new : State D P V C g) (result : Result (Answer V) E) : Type 0 where
  pub comes_to : IfOk result (λ answer. outcome_of (g.over (g.placed old.domain)) (machine_of old) answer (machine_of new) ≡ outcome)
  pub keeps : IfOk result (λ answer. KeepsAll reply answer old new)
  pub err : OnErr result (machine_of new ≡ machine_of old)
  pub enough : fresh_in reply ≡ None → IsOk result
  pub domain : fresh_in reply ≡ None → new.domain ≡ old.domain
