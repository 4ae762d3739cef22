-- A machine, and its step.
use Rattle.std.specs.Prelude.{ℕ, ◌==◌, ◌+◌, ◌%◌, pos, negsuc, List, [], ◌∷◌, ◌++◌, take, drop, map, replicate, Option, Some, None, Result, Ok, Err, Bool, true, false, if◌then◌else◌, slice_index_or, slice_set}
use Rattle.std.specs.List.{list_any}
use Rattle.rw_base.specs.declared.width.Width.TheVariants.{Q}
use Rattle.rw_base.specs.Width.{byte_count}
use Rattle.x86_insn.specs.declared.kinds.Reg.{Reg}
use Rattle.x86_insn.specs.declared.kinds.Reg.TheVariants.{Rax, Rsp}
use Rattle.x86_insn.specs.declared.instruction.Insn.{Insn}
use Rattle.x86_insn.specs.declared.instruction.Insn.TheVariants as insn
use Rattle.x86_insn.specs.References.{reference_of}
use Rattle.x86_insn.specs.WellFormed.{code_of}
use Rattle.x86_meaning.specs.Meaning.{micro_of}
use Rattle.rw_domain.specs.declared.cause.Cause.{Cause}
use Rattle.rw_domain.specs.declared.cause.Cause.TheVariants.{TargetNoPoint, NumberUnknown, StackLow}
use Rattle.rw_domain.specs.declared.flags.Flags.{Flags}
use Rattle.rw_domain.specs.declared.place.Access.TheVariants.{Read}
use Rattle.rw_domain.specs.declared.place.Place.{Place}
use Rattle.rw_domain.specs.declared.place.Region.{Region}
use Rattle.rw_domain.specs.Operators.{Operators}
use Rattle.rw_machine.specs.declared.ending.End.{End}
use Rattle.rw_machine.specs.declared.ending.End.TheVariants.{Returned, Trapped}
use Rattle.rw_machine.specs.declared.goal.Goal.{Goal}
use Rattle.rw_machine.specs.declared.goal.Goal.TheVariants.{At, Import, Finish}
use Rattle.rw_machine.specs.declared.running.Due.TheVariants.{Word, Elements}
use Rattle.rw_machine.specs.Program.{Program, Domains}
use Rattle.rw_machine.specs.Running.{Due, Ask, Serve, Halt, Running, Here, unknown_flags, range_at, written_at, register, bytes_from, zero_byte, undefined_byte, elements_written, after_all}
use Rattle.rw_machine.specs.Operations.{takes_next, takes_reference}
use Rattle.rw_machine.specs.Events.{Event, Reply, lost_to_system, lost_to_import, system_event, import_event}

-- sixteen registers by their codes, the flags, a row of bytes for each region, the data of the domain, and the point
pub record Machine (D V C P : Type 0) : Type 0 where
  pub registers : List V
  pub flags : Flags
  pub memory : List (List C)
  pub placed : D
  pub point : P

-- what a step comes to; where it asks or stops, the machine is as it was
pub data Outcome (D V C P : Type 0) : Type 0 where
  Moved : (machine : Machine D V C P) → Outcome D V C P
  Asks : (event : Event V) → Outcome D V C P
  Ended : (machine : Machine D V C P) (ending : End) → Outcome D V C P
  Stopped : (cause : Cause) → Outcome D V C P

-- calls, returns and indirect jumps leave no flag known where the domain forgets
abbrev pub loses_flags : {R : Type 0} → Insn R → Bool
loses_flags (insn.Call _) = true
loses_flags (insn.CallTo _ _) = true
loses_flags (insn.JmpTo _ _) = true
loses_flags insn.Ret = true
loses_flags _ = false

module _ {V C : Type 0} (ops : Operators V C) where
  abbrev pub one_written : List (List C) → Due V → List (List C)
  one_written memory (Word place width word) = written_at memory place (bytes_from ops (byte_count width) 0 word)
  one_written memory (Elements step count source target) = elements_written ops step count memory source target

  abbrev pub due_written : List (List C) → List (Due V) → List (List C)
  due_written memory [] = memory
  due_written memory (d ∷ dues) = due_written (one_written memory d) dues

  abbrev pub flags_forgotten : Flags → Flags
  flags_forgotten flags = if ops.forgets then unknown_flags else flags

  abbrev pub flags_left : {R : Type 0} → Insn R → Flags → Flags
  flags_left i flags = if loses_flags i then flags_forgotten flags else flags

  -- the bytes of the stack up to a place in it are forgotten; in another region none are
  abbrev pub row_forgotten : List (List C) → Result Place Cause → List (List C)
  row_forgotten memory (Err c) = memory
  row_forgotten memory (Ok p) =
      if p.region == ops.stack then
      slice_set memory p.region
      (map (λ _. undefined_byte ops) (take (p.offset + 1) (slice_index_or memory p.region [])) ++ drop (p.offset + 1) (slice_index_or memory p.region []))
      else memory

  -- the place of one byte so far from the stack pointer
  abbrev pub from_stack : List V → ℕ → Result Place Cause
  from_stack registers below = ops.place (ops.sum (Some (register ops registers Rsp)) None (negsuc below)) 1 Read

  -- Nothing is kept below the red zone of 128 bytes (System V AMD64 psABI, 3.2.2).
  abbrev pub stack_forgotten : List V → List (List C) → List (List C)
  stack_forgotten registers memory = if ops.forgets then row_forgotten memory (from_stack registers 128) else memory

  -- A function may leave anything below the stack pointer.
  abbrev pub frame_forgotten : List V → List (List C) → List (List C)
  frame_forgotten registers memory = if ops.forgets then row_forgotten memory (from_stack registers 0) else memory

  -- first bytes of a region
  abbrev pub filling : Region → C
  filling region = if region.zero then zero_byte ops else undefined_byte ops

  abbrev pub fresh_row : Option (Region × ℕ) → List (List C)
  fresh_row None = []
  fresh_row (Some f) = replicate f.0.size (filling f.0) ∷ []

  abbrev pub all_written : List (Place × List C) → List (List C) → List (List C)
  all_written [] memory = memory
  all_written (w ∷ ws) memory = all_written ws (written_at memory w.0 w.1)

  -- registers with words put one by one
  abbrev pub all_put : List Reg → List V → List V → List V
  all_put [] words registers = registers
  all_put (k ∷ ks) words registers = all_put ks (drop 1 words) (slice_set registers (code_of k) (slice_index_or words 0 (ops.undef Q)))

  abbrev pub registers_after_reply : List Reg → Reply V C → List V → List V
  registers_after_reply lost reply registers = all_put lost reply.scratch (slice_set registers (code_of Rax) reply.result)

  abbrev pub memory_after_reply : Reply V C → List (List C) → List (List C)
  memory_after_reply reply memory = all_written reply.writes memory ++ fresh_row reply.fresh

  -- %rsp above the word that it points to
  abbrev pub raised_registers : List V → List V
  raised_registers registers = slice_set registers (code_of Rsp) (ops.sum (Some (register ops registers Rsp)) None (pos 8))

  abbrev pub first_running : List V → Flags → Running V
  first_running registers flags = record {
    temps = replicate 8 (ops.undef Q);
    registers = registers;
    flags = flags;
    due = [];
    goal = None;
    ask = None;
    cause = None;
  }

  -- The stack rule comes last: %rsp has to be inside the stack, with room below it.
  abbrev pub fits_stack : List V → Bool
  fits_stack registers = ops.stack_fits (register ops registers Rsp)

  module _ {D P : Type 0} where
    abbrev pub swept_machine : Machine D V C P → Machine D V C P
    swept_machine m = record m { memory = stack_forgotten m.registers m.memory }

    abbrev pub settled_outcome : Machine D V C P → Outcome D V C P
    settled_outcome m = if fits_stack m.registers then Moved (swept_machine m) else Stopped StackLow

    abbrev pub finished_outcome : Machine D V C P → End → Outcome D V C P
    finished_outcome m ending = if fits_stack m.registers then Ended (swept_machine m) ending else Stopped StackLow

    -- a return from the program ends with the low byte of rax
    abbrev pub returned_outcome_with : Machine D V C P → Option ℕ → Outcome D V C P
    returned_outcome_with m None = Stopped NumberUnknown
    returned_outcome_with m (Some n) = finished_outcome m (Returned (n % 256))

    abbrev pub returned_outcome : Machine D V C P → Outcome D V C P
    returned_outcome m = returned_outcome_with m (ops.number Q (register ops m.registers Rax))

abbrev pub placed_with : {D V C : Type 0} → Domains D V C → D → Option (Region × ℕ) → D
placed_with dom d None = d
placed_with dom d (Some f) = dom.add d f.0 f.1

-- A step runs over the operators from before it. It takes an answer, or none: without one it comes to its event, if it
-- has one.
module _ {D V C P R : Type 0} (dom : Domains D V C) (ops : Operators V C) (prog : Program P R V) where
  abbrev pub resolved_word : Option R → Bool → V
  resolved_word None direct = ops.undef Q
  resolved_word (Some r) direct = prog.resolve r direct

  -- what an instruction's list takes of its point; what it doesn't take is undefined
  abbrev pub here_at : P → Insn R → Here V
  here_at p i = record {
    next = if list_any takes_next (micro_of i) then prog.address_of (prog.next p) else ops.undef Q;
    direct = if list_any (takes_reference true) (micro_of i) then resolved_word (reference_of i) true else ops.undef Q;
    indirect = if list_any (takes_reference false) (micro_of i) then resolved_word (reference_of i) false else ops.undef Q;
  }

  -- the run of an instruction's small operations
  abbrev pub run_of : Machine D V C P → Insn R → Running V
  run_of m i = after_all ops m.memory (here_at m.point i) (micro_of i) (first_running ops m.registers m.flags)

  -- the machine after an instruction, at a point
  abbrev pub machine_after : Machine D V C P → Insn R → Running V → P → Machine D V C P
  machine_after m i r p = record {
    registers = r.registers;
    flags = flags_left ops i r.flags;
    memory = due_written ops m.memory r.due;
    placed = m.placed;
    point = p;
  }

  -- the machine after an answered system call
  abbrev pub machine_after_reply : Machine D V C P → Reply V C → Machine D V C P
  machine_after_reply m reply = record {
    registers = registers_after_reply ops lost_to_system reply m.registers;
    flags = m.flags;
    memory = memory_after_reply ops reply m.memory;
    placed = placed_with dom m.placed reply.fresh;
    point = prog.next m.point;
  }

  -- an answer with an end ends the run, and then the stack isn't looked at
  abbrev pub replied_outcome : Machine D V C P → Option End → Outcome D V C P
  replied_outcome m None = settled_outcome ops m
  replied_outcome m (Some ending) = Ended m ending

  abbrev pub served_outcome : Machine D V C P → Option (Reply V C) → Result (Event V) Cause → Outcome D V C P
  served_outcome m reply (Err c) = Stopped c
  served_outcome m None (Ok event) = Asks event
  served_outcome m (Some reply) (Ok event) = replied_outcome (machine_after_reply m reply) reply.ending

  -- the machine after the answer of a function that was entered, with these registers, at a point
  abbrev pub machine_after_import : Machine D V C P → Reply V C → List V → P → Machine D V C P
  machine_after_import m reply registers p = record {
    registers = registers_after_reply ops lost_to_import reply registers;
    flags = flags_forgotten ops m.flags;
    memory = frame_forgotten ops registers (memory_after_reply ops reply m.memory);
    placed = placed_with dom m.placed reply.fresh;
    point = p;
  }

  -- it returns to a point or from the program, and not into another function
  abbrev pub return_to_outcome : Machine D V C P → Reply V C → Result (Goal P) Cause → Outcome D V C P
  return_to_outcome m reply (Err c) = Stopped c
  return_to_outcome m reply (Ok (At p)) = settled_outcome ops (machine_after_import m reply (raised_registers ops m.registers) p)
  return_to_outcome m reply (Ok Finish) = returned_outcome ops (machine_after_import m reply (raised_registers ops m.registers) m.point)
  return_to_outcome m reply (Ok (Import k)) = Stopped TargetNoPoint

  -- to the word at the stack pointer, as it was before the answer
  abbrev pub return_from_outcome : Machine D V C P → Reply V C → Result Place Cause → Outcome D V C P
  return_from_outcome m reply (Err c) = Stopped c
  return_from_outcome m reply (Ok p) = return_to_outcome m reply (prog.target (ops.join Q (range_at m.memory p 8)))

  abbrev pub import_outcome : Machine D V C P → Reply V C → Option End → Outcome D V C P
  import_outcome m reply None = return_from_outcome m reply (ops.place (register ops m.registers Rsp) 8 Read)
  import_outcome m reply (Some ending) = Ended (machine_after_import m reply m.registers m.point) ending

  -- a function is entered: m is the machine after the call or the jump
  abbrev pub entered_outcome : Machine D V C P → ℕ → Option (Reply V C) → Outcome D V C P
  entered_outcome m symbol None = Asks (import_event ops m.registers m.memory symbol)
  entered_outcome m symbol (Some reply) = import_outcome m reply reply.ending

  abbrev pub goal_of : P → Option V → Result (Goal P) Cause
  goal_of p None = Ok (At (prog.next p))
  goal_of p (Some w) = prog.target w

  abbrev pub reached_outcome : Machine D V C P → Option (Reply V C) → Insn R → Running V → Result (Goal P) Cause → Outcome D V C P
  reached_outcome m reply i r (Err c) = Stopped c
  reached_outcome m reply i r (Ok (At p)) = settled_outcome ops (machine_after m i r p)
  reached_outcome m reply i r (Ok Finish) = returned_outcome ops (machine_after m i r m.point)
  reached_outcome m reply i r (Ok (Import symbol)) = entered_outcome (machine_after m i r m.point) symbol reply

  -- a trap leaves the machine as it was before the instruction
  abbrev pub asked_outcome : Machine D V C P → Option (Reply V C) → Insn R → Running V → Option Ask → Outcome D V C P
  asked_outcome m reply i r None = reached_outcome m reply i r (goal_of m.point r.goal)
  asked_outcome m reply i r (Some (Halt kind)) = finished_outcome ops m (Trapped kind)
  asked_outcome m reply i r (Some Serve) = served_outcome m reply (system_event ops m.registers m.memory)

  abbrev pub decided_outcome : Machine D V C P → Option (Reply V C) → Insn R → Running V → Option Cause → Outcome D V C P
  decided_outcome m reply i r None = asked_outcome m reply i r r.ask
  decided_outcome m reply i r (Some c) = Stopped c

  abbrev pub insn_outcome : Machine D V C P → Option (Reply V C) → Option (Insn R) → Outcome D V C P
  insn_outcome m reply None = Stopped TargetNoPoint
  insn_outcome m reply (Some i) = decided_outcome m reply i (run_of m i) (run_of m i).cause

module _ {D V C P R : Type 0} (dom : Domains D V C) (prog : Program P R V) where
  abbrev pub step_outcome : Machine D V C P → Option (Reply V C) → Outcome D V C P
  step_outcome m reply = insn_outcome dom (dom.over m.placed) prog m reply (prog.insn m.point)

  -- the step up to its event
  abbrev pub step_of : Machine D V C P → Outcome D V C P
  step_of m = step_outcome m None

  -- the whole step of a machine that asks
  abbrev pub reply_of : Machine D V C P → Reply V C → Outcome D V C P
  reply_of m reply = step_outcome m (Some reply)
