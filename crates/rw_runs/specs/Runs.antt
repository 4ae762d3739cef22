-- Runs: so many steps, each with the next answer of a list where it asks.
use Rattle.std.specs.Prelude.{ℕ, zero, suc, ◌+◌, List, [], ◌∷◌, ◌++◌, Bool, if◌then◌else◌, Option, Some, None, option_and_then}
use Rattle.rw_machine.specs.declared.ending.End.{End}
use Rattle.rw_machine.specs.Program.{Program, Domains}
use Rattle.rw_machine.specs.Events.{Event, Reply}
use Rattle.rw_machine.specs.Step.{Machine, Outcome, Moved, Asks, Ended, Stopped, placed_with, step_of, reply_of}

-- the machine, the events so far, the answers that are left, and the end, if it has ended
pub record Run (D V C P : Type 0) : Type 0 where
  pub machine : Machine D V C P
  pub events : List (Event V)
  pub answers : List (Reply V C)
  pub ending : Option End

abbrev pub first_run : {D V C P : Type 0} → Machine D V C P → List (Reply V C) → Run D V C P
first_run machine answers = record { machine = machine; events = []; answers = answers; ending = None }

-- a step that asked and was answered; asking and answering are one step
abbrev pub after_reply : {D V C P : Type 0} → Run D V C P → Event V → List (Reply V C) → Outcome D V C P → Option (Run D V C P)
after_reply run event rest (Moved m) = Some (record { machine = m; events = run.events ++ event ∷ []; answers = rest; ending = None })
after_reply run event rest (Ended m z) = Some (record { machine = m; events = run.events ++ event ∷ []; answers = rest; ending = Some z })
after_reply run event rest (Asks e) = None
after_reply run event rest (Stopped c) = None

module _ {D V C P R : Type 0} (dom : Domains D V C) (prog : Program P R V) where
  abbrev pub after_event : Run D V C P → Event V → List (Reply V C) → Option (Run D V C P)
  after_event run event [] = None
  after_event run event (reply ∷ rest) = after_reply run event rest (reply_of dom prog run.machine reply)

  abbrev pub after_step : Run D V C P → Outcome D V C P → Option (Run D V C P)
  after_step run (Moved m) = Some (record run { machine = m })
  after_step run (Asks event) = after_event run event run.answers
  after_step run (Ended m z) = Some (record run { machine = m; ending = Some z })
  after_step run (Stopped c) = None

  -- one more step: none comes after an end, none stops, and none asks past the list's end
  abbrev pub one_more : Run D V C P → Option End → Option (Run D V C P)
  one_more run (Some ending) = None
  one_more run None = after_step run (step_of dom prog run.machine)

  abbrev pub advance : Run D V C P → Option (Run D V C P)
  advance run = one_more run run.ending

  -- the run after n steps, where each was made
  abbrev pub made : ℕ → Run D V C P → Option (Run D V C P)
  made zero run = Some run
  made (suc n) run = option_and_then advance (made n run)

  -- The steps of another machine for the next step of a run: the step, and what that costs besides (as a probe does). It
  -- may depend on more than the point, as on whether a jump is taken.
  abbrev pub cost_of : (Run D V C P → ℕ) → Option (Run D V C P) → ℕ
  cost_of cost None = 0
  cost_of cost (Some run) = suc (cost run)

  -- and for the first n steps, where these were made
  abbrev pub total : (Run D V C P → ℕ) → ℕ → Run D V C P → ℕ
  total cost zero run = 0
  total cost (suc n) run = total cost n run + cost_of cost (made n run)

  -- whether a run is at one of some points, as a number
  abbrev pub visit : (P → Bool) → Option (Run D V C P) → ℕ
  visit is_there None = 0
  visit is_there (Some run) = if is_there run.machine.point then 1 else 0

  -- how many of the first n steps were at one of these points, where these were made
  abbrev pub entered : (P → Bool) → ℕ → Run D V C P → ℕ
  entered is_there zero run = 0
  entered is_there (suc n) run = entered is_there n run + visit is_there (made n run)

-- a cost of each step at one of some points
abbrev pub cost_at : {D V C P : Type 0} → (P → Bool) → ℕ → Run D V C P → ℕ
cost_at is_there k run = if is_there run.machine.point then k else 0

-- the data of a domain with the regions that answers bring, one by one
abbrev pub all_added : {D V C : Type 0} → Domains D V C → D → List (Reply V C) → D
all_added dom d [] = d
all_added dom d (reply ∷ rest) = all_added dom (placed_with dom d reply.fresh) rest
