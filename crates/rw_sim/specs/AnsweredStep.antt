-- One step of a simulation: the machine's step, and where it asks, the whole step with the built-in answer. All depends on the
-- machine alone, but for the bytes that are read of the input.
use Rattle.std.specs.Prelude.{◌≡◌, ◌<◌, ◌≤◌, ◌==◌, ◌++◌, ◌⊎◌, ℕ, Bool, true, false, List, [], ◌∷◌, length, Option, Some, None, IsSome, Result, Ok, Err, if◌then◌else◌}
use Rattle.std.specs.Option.{option_map_or}
use Rattle.std.specs.Io.KnownBytes.{IsAtEnd}
use Rattle.rw_domain.specs.declared.cause.Cause.{Cause}
use Rattle.rw_domain.specs.Placed.{Placed}
use Rattle.rw_machine.specs.Events.{Call, System, Import}
use Rattle.rw_machine.specs.Program.{Program, Domains}
use Rattle.rw_machine.specs.Step.{Machine, Outcome, Moved, Asks, Ended, Stopped, step_of, reply_of}
use Rattle.rw_sim.specs.declared.advance.Advance.{Advance}
use Rattle.rw_sim.specs.declared.advance.Advance.TheVariants as advance
use Rattle.rw_sim.specs.declared.advance.StepError.{StepError}
use Rattle.rw_sim.specs.declared.advance.StepError.TheVariants.{ReadFault, WriteFault, Memory}
use Rattle.rw_sim.specs.declared.callee.Callee.{Callee}
use Rattle.rw_sim.specs.declared.callee.Callee.TheVariants as callee
use Rattle.rw_sim.specs.Answers.{Answer, Sends, Takes}
use Rattle.rw_sim.specs.Asking.{answer_to, fresh_sizes}
use Rattle.rw_sim.specs.Fresh.{fresh_base}
use Rattle.rw_sim.specs.Replies.{reply_of_answer}
use Rattle.rw_sim.specs.World.{Outside, World, Rests, Fails, IsRead, IsWritten, IsCutOff}

-- what a call is a call of
abbrev pub callee_of : Call → Callee
callee_of (System number) = callee.System
callee_of (Import symbol) = callee.Import

-- the bytes of a piece that was read, if one was, and its length as a list
abbrev pub bytes_of : Option (List ℕ) → List ℕ
bytes_of None = []
bytes_of (Some piece) = piece

abbrev pub length_of : Option (List ℕ) → List ℕ
length_of None = []
length_of (Some piece) = length piece ∷ []

-- ---- what an answer needs of the surroundings

-- how many bytes an answer takes of the input at most, if it takes some
abbrev pub limit_of : {V C : Type 0} → Answer V C → Option ℕ
limit_of (Takes limit to) = Some limit
limit_of _ = None

-- the descriptor and the bytes that an answer sends, if it sends some
abbrev pub sent_by : {V C : Type 0} → Answer V C → Option (ℕ × List ℕ)
sent_by (Sends descriptor bytes result) = Some (descriptor, bytes)
sent_by _ = None

-- the bytes for one descriptor
abbrev pub sent_to : ℕ → Option (ℕ × List ℕ) → List ℕ
sent_to descriptor None = []
sent_to descriptor (Some sent) = if sent.0 == descriptor then sent.1 else []

-- a piece is read exactly where there is a limit, and has no more bytes
abbrev pub IsPiece : Option ℕ → Option (List ℕ) → Type 0
IsPiece None None = Unit {0}
IsPiece None (Some piece) = ⊥
IsPiece (Some limit) None = ⊥
IsPiece (Some limit) (Some piece) = length piece ≤ limit

-- an empty piece, where bytes were asked for, comes at the end of the input alone
abbrev pub IsLast : Option ℕ → Option (List ℕ) → Option (List ℕ) → Type 0
IsLast limit None left = Unit {0}
IsLast None (Some piece) left = Unit {0}
IsLast (Some limit) (Some piece) left = piece ≡ [] → 0 < limit → IsAtEnd left

-- ---- the step

-- what a step of the code came to, by the machine after it
abbrev pub outcome_of_advance : {V C P : Type 0} → Advance → Machine Placed V C P → Outcome Placed V C P
outcome_of_advance advance.Moved m = Moved m
outcome_of_advance (advance.Ended ending) m = Ended m ending
outcome_of_advance (advance.Stopped cause) m = Stopped cause

abbrev pub stops : Advance → Bool
stops advance.Moved = false
stops (advance.Ended ending) = false
stops (advance.Stopped cause) = true

-- a step that stops isn't made: the machine is as it was
abbrev pub StaysAt : {M : Type 0} → Advance → M → M → Type 0
StaysAt advance.Moved old new = Unit {0}
StaysAt (advance.Ended ending) old new = Unit {0}
StaysAt (advance.Stopped cause) old new = new ≡ old

-- ---- what is sent breaks off

-- the sink of the descriptor to which bytes are sent failed, and nothing happened to the other one
pub record BreaksOff (sent : Option (ℕ × List ℕ)) (out out_now err err_now : Outside) : Type 0 where
  pub descriptor : ℕ
  pub bytes : List ℕ
  pub sends : sent ≡ Some (descriptor, bytes)
  pub done : ℕ
  pub sinks :
      ((descriptor ≡ 1) × IsCutOff out out_now bytes done × Rests err err_now)
      ⊎ ((descriptor ≡ 2) × IsCutOff err err_now bytes done × Rests out out_now)

-- A domain, a program, the names of its imported symbols, and the address of the first byte of the next region, with the base of
-- that region, by where the layout rule puts it.
module _ {V C P R : Type 0} (dom : Domains Placed V C) (prog : Program P R V) (name : ℕ → List ℕ) (first_byte : Placed → ℕ → V × ℕ) where
  module _ (m : Machine Placed V C P) where
    -- the address of the first byte of the next region, with its base: the regions that came during the run lie in a row
    abbrev pub next_first_byte : V × ℕ
    next_first_byte = first_byte m.placed (fresh_base (fresh_sizes m.placed))

    -- the whole step with an answer, for which these bytes were read; a cause stops it
    abbrev pub with_answer : List ℕ → Call → Result (Answer V C) Cause → Outcome Placed V C P
    with_answer taken call (Err cause) = Stopped cause
    with_answer taken call (Ok answer) =
        reply_of dom prog m (reply_of_answer (dom.over m.placed) (callee_of call) next_first_byte taken answer)

    abbrev pub answered_outcome : List ℕ → Outcome Placed V C P → Outcome Placed V C P
    answered_outcome taken (Moved n) = Moved n
    answered_outcome taken (Asks event) = with_answer taken event.call (answer_to dom prog m name event)
    answered_outcome taken (Ended n ending) = Ended n ending
    answered_outcome taken (Stopped cause) = Stopped cause

    -- one step, for which these bytes were read
    unfoldable pub answered_step : List ℕ → Outcome Placed V C P
    answered_step taken = answered_outcome taken (step_of dom prog m)

    -- the answer in a step, where the step asks and there is one
    abbrev pub answer_if : Result (Answer V C) Cause → Option (Answer V C)
    answer_if (Ok answer) = Some answer
    answer_if (Err cause) = None

    abbrev pub answer_in : Outcome Placed V C P → Option (Answer V C)
    answer_in (Asks event) = answer_if (answer_to dom prog m name event)
    answer_in _ = None

    -- how many bytes a step reads at most, if it reads
    unfoldable pub limit_at : Option ℕ
    limit_at = option_map_or limit_of (answer_in (step_of dom prog m)) None

    -- what is written in a step that comes to this: what its answer sends, and nothing where it stops
    unfoldable pub sends_at : Advance → Option (ℕ × List ℕ)
    sends_at advance = if stops advance then None else option_map_or sent_by (answer_in (step_of dom prog m)) None

  -- ---- from a world to a world

  -- A step with a piece, or none, comes to this. Nothing is said yet of what is written.
  pub record Makes (w v : World V C P) (advance : Advance) (taken : Option (List ℕ)) : Type 0 where
    pub piece : IsPiece (limit_at w.machine) taken
    pub last : IsLast (limit_at w.machine) taken v.input.bytes
    pub comes : outcome_of_advance advance v.machine ≡ answered_step w.machine (bytes_of taken)
    pub stays : StaysAt advance w.machine v.machine
    pub reads : v.reads ≡ w.reads ++ length_of taken
    pub input : IsRead w.input v.input (bytes_of taken)

  -- a step is done: it comes to this, and its bytes are written
  pub record StepsTo (w v : World V C P) (advance : Advance) : Type 0 where
    pub piece : Option (List ℕ)
    pub makes : Makes w v advance piece
    pub out : IsWritten w.out v.out (sent_to 1 (sends_at w.machine advance))
    pub err : IsWritten w.err v.err (sent_to 2 (sends_at w.machine advance))

  -- there was no memory for the step: it isn't made, but a piece may have been read for it
  pub record Starves (w v : World V C P) : Type 0 where
    pub piece : Option (List ℕ)
    pub asked : (piece ≡ None) ⊎ IsPiece (limit_at w.machine) piece
    pub last : IsLast (limit_at w.machine) piece v.input.bytes
    pub machine : v.machine ≡ w.machine
    pub reads : v.reads ≡ w.reads ++ length_of piece
    pub input : IsRead w.input v.input (bytes_of piece)
    pub out : Rests w.out v.out
    pub err : Rests w.err v.err

  -- the input could not be read, where the step asks for some: the step isn't made
  pub record LosesInput (w v : World V C P) : Type 0 where
    pub asked : IsSome (limit_at w.machine)
    pub machine : v.machine ≡ w.machine
    pub reads : v.reads ≡ w.reads
    pub input : Fails w.input v.input
    pub out : Rests w.out v.out
    pub err : Rests w.err v.err

  -- The sink to which the step sends failed. The step is made, and of its bytes the first ones are written.
  pub record LosesOutput (w v : World V C P) : Type 0 where
    pub advance : Advance
    pub piece : Option (List ℕ)
    pub makes : Makes w v advance piece
    pub broken : BreaksOff (sends_at w.machine advance) w.out v.out w.err v.err

  -- what a step comes to, or what its failure leaves
  abbrev pub Comes : World V C P → World V C P → Result Advance StepError → Type 0
  Comes w v (Ok advance) = StepsTo w v advance
  Comes w v (Err Memory) = Starves w v
  Comes w v (Err ReadFault) = LosesInput w v
  Comes w v (Err WriteFault) = LosesOutput w v
