-- When a machine stands for another: R ties words, Byte ties bytes, Named ties imported symbols, Near ties points, and Laid
-- ties the data of domains. A spare region may have bytes in the second alone.
use Rattle.std.specs.Prelude.{◌≡◌, ◌==◌, ℕ, ◌+◌, List, [], length, min, filter, All, slice_get, slice_set, slice_index_or, Option, Some, None, Result, Ok, Err, is_ok, Bool, true, false, not, ◌&&◌, nat_eq, nat_le, if◌then◌else◌}
use Rattle.std.specs.List.{list_any}
use Rattle.rw_base.specs.Width.{byte_count}
use Rattle.x86_insn.specs.declared.instruction.Insn.{Insn}
use Rattle.x86_insn.specs.References.{reference_of}
use Rattle.x86_meaning.specs.Meaning.{micro_of}
use Rattle.rw_domain.specs.declared.cause.Cause.{Cause}
use Rattle.rw_domain.specs.declared.place.Access.{Access}
use Rattle.rw_domain.specs.declared.place.Place.{Place}
use Rattle.rw_domain.specs.Operators.{Operators}
use Rattle.rw_domain.specs.Stands.{FlagsStand, Both, OptionStands, ResultStands, OperatorsStand}
use Rattle.rw_domain.specs.OtherOperators.{OtherOperatorsStand}
use Rattle.rw_machine.specs.declared.ending.End.{End}
use Rattle.rw_machine.specs.declared.goal.Goal.{Goal}
use Rattle.rw_machine.specs.declared.goal.Goal.TheVariants.{At, Import, Finish}
use Rattle.rw_machine.specs.declared.running.Due.TheVariants.{Word, Elements}
use Rattle.rw_machine.specs.Program.{Program, Domains}
use Rattle.rw_machine.specs.Running.{Due, StringStep, Ask, Running, Here, elements_permitted}
use Rattle.rw_machine.specs.Events.{Call, Event, Reply}
use Rattle.rw_machine.specs.Events as events
use Rattle.rw_machine.specs.Operations.{takes_next, takes_reference}
use Rattle.rw_machine.specs.Step.{Machine, Outcome, Moved, Asks, Ended, Stopped, raised_registers, from_stack, run_of, machine_after, goal_of}

-- ---- memory

-- A region whose bytes the first machine doesn't have, as the counters of a printed program: its number, and the bytes that
-- the second has there.
abbrev pub Spare : Type 0 → Type 0
Spare F = Option (ℕ × List F)

-- rows without these bytes
abbrev pub rows_without : {F : Type 0} → Spare F → List (List F) → List (List F)
rows_without None rows = rows
rows_without (Some spare) rows = slice_set rows spare.0 []

-- rows that have these bytes
abbrev pub Keeps : {F : Type 0} → Spare F → List (List F) → Type 0
Keeps None rows = Unit {0}
Keeps (Some spare) rows = slice_get rows spare.0 ≡ Some spare.1

-- rows that stand byte by byte; that of the spare region is empty in the first
pub record RowsStand {E F : Type 0} (Byte : E → F → Type 0) (spare : Spare F) (x : List (List E)) (y : List (List F)) : Type 0 where
  pub bytes : Both (Both Byte) x (rows_without spare y)
  pub kept : Keeps spare y

-- a range has no byte in the spare region
abbrev pub Misses : {F : Type 0} → Spare F → Place → ℕ → Type 0
Misses None place len = Unit {0}
Misses (Some spare) place len = place.region ≡ spare.0 → len ≡ 0

-- no address is one of a byte in the spare region
abbrev pub PlacesMiss : {V C F : Type 0} → Spare F → Operators V C → Type 0
PlacesMiss {V} spare ops = (a : V) (len : ℕ) (access : Access) (place : Place) → ops.place a len access ≡ Ok place → Misses spare place len

-- ---- events and answers

-- one system call, or imported symbols of one name
abbrev pub CallStands : (ℕ → ℕ → Type 0) → Call → Call → Type 0
CallStands Named (events.System i) (events.System j) = i ≡ j
CallStands Named (events.System i) (events.Import j) = ⊥
CallStands Named (events.Import i) (events.System j) = ⊥
CallStands Named (events.Import i) (events.Import j) = Named i j

-- two calls, words that stand, and the same bytes
pub record EventStands {V W : Type 0} (R : V → W → Type 0) (Named : ℕ → ℕ → Type 0) (e : Event V) (f : Event W) : Type 0 where
  pub call : CallStands Named e.call f.call
  pub words : Both R e.words f.words
  pub range : e.range ≡ f.range
  pub bytes : e.bytes ≡ f.bytes

-- The first bytes of a region's row, where there are such: a region, and how many of its bytes.
abbrev pub Room : Type 0
Room = Option (ℕ × ℕ)

-- a write inside the room, and those of a list that aren't
abbrev pub is_under : {C : Type 0} → Room → Place × List C → Bool
is_under None write = false
is_under (Some room) write = nat_eq write.0.region room.0 && nat_le (write.0.offset + length write.1) room.1

abbrev pub writes_outside : {C : Type 0} → Room → List (Place × List C) → List (Place × List C)
writes_outside room writes = filter (λ write. not (is_under room write)) writes

-- the same place outside the spare region, and bytes that stand
pub record WriteStands {E F : Type 0} (Byte : E → F → Type 0) (spare : Spare F) (u : Place × List E) (v : Place × List F) : Type 0 where
  pub place : u.0 ≡ v.0
  pub bytes : Both Byte u.1 v.1
  pub misses : Misses spare u.0 (length u.1)

-- The same regions and ends, with words and bytes that stand. Outside the room the writes of the second are those of the
-- first, one by one; in the room it may write anything for which some byte stands.
pub record ReplyStands {V W E F : Type 0} (R : V → W → Type 0) (Byte : E → F → Type 0) (spare : Spare F) (room : Room) (r : Reply V E) (q : Reply W F) : Type 0 where
  pub result : R r.result q.result
  pub scratch : Both R r.scratch q.scratch
  pub writes : Both (WriteStands Byte spare) (writes_outside room r.writes) (writes_outside room q.writes)
  pub under : All (λ v. is_under room v ≡ true → All (λ b. (a : E) × Byte a b) v.1) q.writes
  pub fresh : OptionStands (λ u v. u.0 ≡ v.0) r.fresh q.fresh
  pub ending : r.ending ≡ q.ending

-- ---- machines and outcomes

pub record MachineStands {D T V W E F P O : Type 0} (R : V → W → Type 0) (Byte : E → F → Type 0) (spare : Spare F) (Laid : D → T → Type 0) (Near : P → O → Type 0) (m : Machine D V E P) (o : Machine T W F O) : Type 0 where
  pub registers : Both R m.registers o.registers
  pub flags : FlagsStand m.flags o.flags
  pub memory : RowsStand Byte spare m.memory o.memory
  pub placed : Laid m.placed o.placed
  pub point : Near m.point o.point

module _ {D T V W E F P O : Type 0} (R : V → W → Type 0) (Byte : E → F → Type 0) (spare : Spare F) (Named : ℕ → ℕ → Type 0) (Laid : D → T → Type 0) (Near : P → O → Type 0) where
  -- machines whose runs have ended: it doesn't matter at which points
  abbrev pub EndStands : Machine D V E P → Machine T W F O → Type 0
  EndStands m o = MachineStands R Byte spare Laid (λ p q. Unit {0}) m o

  -- where the first doesn't stop, the second doesn't, and what they come to stands
  abbrev pub OutcomeStands : Outcome D V E P → Outcome T W F O → Type 0
  OutcomeStands (Stopped c) b = Unit {0}
  OutcomeStands (Moved m) (Moved n) = MachineStands R Byte spare Laid Near m n
  OutcomeStands (Moved m) (Asks f) = ⊥
  OutcomeStands (Moved m) (Ended n z) = ⊥
  OutcomeStands (Moved m) (Stopped c) = ⊥
  OutcomeStands (Asks e) (Moved n) = ⊥
  OutcomeStands (Asks e) (Asks f) = EventStands R Named e f
  OutcomeStands (Asks e) (Ended n z) = ⊥
  OutcomeStands (Asks e) (Stopped c) = ⊥
  OutcomeStands (Ended m y) (Moved n) = ⊥
  OutcomeStands (Ended m y) (Asks f) = ⊥
  OutcomeStands (Ended m y) (Ended n z) = (y ≡ z) × EndStands m n
  OutcomeStands (Ended m y) (Stopped c) = ⊥

-- ---- programs, with points that are near before a step (Near) and after it (Near')

abbrev pub GoalStands : {P O : Type 0} → (ℕ → ℕ → Type 0) → (P → O → Type 0) → Goal P → Goal O → Type 0
GoalStands Named Near' (At p) (At q) = Near' p q
GoalStands Named Near' (At p) (Import j) = ⊥
GoalStands Named Near' (At p) Finish = ⊥
GoalStands Named Near' (Import i) (At q) = ⊥
GoalStands Named Near' (Import i) (Import j) = Named i j
GoalStands Named Near' (Import i) Finish = ⊥
GoalStands Named Near' Finish (At q) = ⊥
GoalStands Named Near' Finish (Import j) = ⊥
GoalStands Named Near' Finish Finish = Unit {0}

-- Two instructions of one list of small operations, behind which the points stand. Their references and the words of the
-- next points stand where the list takes them.
pub record InsnStands {V W A B P O : Type 0} (R : V → W → Type 0) (Near' : P → O → Type 0) (s : Program P A V) (n : Program O B W) (p : P) (q : O) (i : Insn A) (j : Insn B) : Type 0 where
  pub micro : micro_of i ≡ micro_of j
  pub reference : (direct : Bool) → list_any (takes_reference direct) (micro_of i) ≡ true →
      OptionStands (λ a b. R (s.resolve a direct) (n.resolve b direct)) (reference_of i) (reference_of j)
  pub next : Near' (s.next p) (n.next q)
  pub address : list_any takes_next (micro_of i) ≡ true → R (s.address_of (s.next p)) (n.address_of (n.next q))

-- where the first program has an instruction, the second has one for which it stands
abbrev pub InsnFollows : {V W A B P O : Type 0} → (V → W → Type 0) → (P → O → Type 0) → Program P A V → Program O B W → P → O → Option (Insn A) → Option (Insn B) → Type 0
InsnFollows R Near' s n p q None o = Unit {0}
InsnFollows R Near' s n p q (Some i) None = ⊥
InsnFollows R Near' s n p q (Some i) (Some j) = InsnStands R Near' s n p q i j

pub record ProgramsStand {V W A B P O : Type 0} (R : V → W → Type 0) (Named : ℕ → ℕ → Type 0) (Near Near' : P → O → Type 0) (s : Program P A V) (n : Program O B W) : Type 0 where
  pub insn : (p : P) (q : O) → Near p q → InsnFollows R Near' s n p q (s.insn p) (n.insn q)
  pub target : (a : V) (b : W) → R a b → ResultStands (GoalStands Named Near') (s.target a) (n.target b)

-- the operators over data that are laid stand, and nothing is accessed in the spare region
abbrev pub DomainsStand : {D T V W E F : Type 0} → (V → W → Type 0) → (E → F → Type 0) → Spare F → (D → T → Type 0) → Domains D V E → Domains T W F → Type 0
DomainsStand {D} {T} R Byte spare Laid s n =
    (d : D) (t : T) → Laid d t → OperatorsStand R Byte (s.over d) (n.over t) × OtherOperatorsStand R (s.over d) (n.over t) × PlacesMiss spare (s.over d)

-- ---- what an instruction has done, where the first has no cause to stop

-- a word at one place outside the spare region; a string step of which each element is permitted
pub record ElementsStand {V W E : Type 0} (R : V → W → Type 0) (ops : Operators V E) (s : StringStep V) (i : ℕ) (x y : V) (t : StringStep W) (j : ℕ) (v w : W) : Type 0 where
  pub moves : s.moves ≡ t.moves
  pub width : s.width ≡ t.width
  pub word : R s.word t.word
  pub count : i ≡ j
  pub source : R x v
  pub target : R y w
  pub permitted : is_ok (elements_permitted ops s i x y) ≡ true

abbrev pub DueStands : {V W E F : Type 0} → (V → W → Type 0) → Operators V E → Spare F → Due V → Due W → Type 0
DueStands R ops spare (Word p v a) (Word q w b) = (p ≡ q) × (v ≡ w) × R a b × Misses spare p (byte_count v)
DueStands R ops spare (Word p v a) (Elements t j x y) = ⊥
DueStands R ops spare (Elements s i x y) (Word q w b) = ⊥
DueStands R ops spare (Elements s i x y) (Elements t j v w) = ElementsStand R ops s i x y t j v w

pub record HereStands {V W : Type 0} (R : V → W → Type 0) (a : Here V) (b : Here W) : Type 0 where
  pub next : R a.next b.next
  pub direct : R a.direct b.direct
  pub indirect : R a.indirect b.indirect

pub record RunningStands {V W E F : Type 0} (R : V → W → Type 0) (ops : Operators V E) (spare : Spare F) (a : Running V) (b : Running W) : Type 0 where
  pub temps : Both R a.temps b.temps
  pub registers : Both R a.registers b.registers
  pub flags : FlagsStand a.flags b.flags
  pub due : Both (DueStands R ops spare) a.due b.due
  pub goal : OptionStands R a.goal b.goal
  pub ask : a.ask ≡ b.ask
  pub goes_on : b.cause ≡ None

abbrev pub StandsUnlessStopped : {V W E F : Type 0} → (V → W → Type 0) → Operators V E → Spare F → Running V → Running W → Type 0
StandsUnlessStopped R ops spare a b = a.cause ≡ None → RunningStands R ops spare a b

-- ---- the room of an answer to a machine that asks

-- What a function leaves in the stack below the stack pointer is kept by nobody when it has returned, or when the run ends
-- in it. The first machine forgets these bytes where its domain forgets.
abbrev pub room_up_to : {V C : Type 0} → Operators V C → List (List C) → Result Place Cause → Room
room_up_to ops memory (Err c) = None
room_up_to ops memory (Ok p) =
    if p.region == ops.stack then Some (p.region, min (p.offset + 1) (length (slice_index_or memory p.region []))) else None

-- the registers after the return, or those at the entry where there is none
abbrev pub registers_at_end : {V C : Type 0} → Operators V C → List V → Option End → List V
registers_at_end ops registers None = raised_registers ops registers
registers_at_end ops registers (Some ending) = registers

abbrev pub frame_room : {V C : Type 0} → Operators V C → List V → List (List C) → Room
frame_room ops registers memory = if ops.forgets then room_up_to ops memory (from_stack ops registers 0) else None

-- m is the machine after the call or the jump
abbrev pub room_at_entry : {D V C P : Type 0} → Operators V C → Machine D V C P → Option End → Room
room_at_entry ops m ending = frame_room ops (registers_at_end ops m.registers ending) m.memory

module _ {D V C P R : Type 0} (dom : Domains D V C) (ops : Operators V C) (prog : Program P R V) where
  abbrev pub room_at_goal : Machine D V C P → Option End → Insn R → Running V → Result (Goal P) Cause → Room
  room_at_goal m ending i r (Ok (Import k)) = room_at_entry ops (machine_after dom ops prog m i r m.point) ending
  room_at_goal m ending i r (Ok (At p)) = None
  room_at_goal m ending i r (Ok Finish) = None
  room_at_goal m ending i r (Err c) = None

  abbrev pub room_of_ask : Machine D V C P → Option End → Insn R → Running V → Option Ask → Room
  room_of_ask m ending i r None = room_at_goal m ending i r (goal_of dom ops prog m.point r.goal)
  room_of_ask m ending i r (Some ask) = None

  abbrev pub room_of_insn : Machine D V C P → Option End → Option (Insn R) → Room
  room_of_insn m ending None = None
  room_of_insn m ending (Some i) = room_of_ask m ending i (run_of dom ops prog m i) (run_of dom ops prog m i).ask

-- the room of an answer with this end
abbrev pub reply_room : {D V C P R : Type 0} → Domains D V C → Program P R V → Machine D V C P → Option End → Room
reply_room dom prog m ending = room_of_insn dom (dom.over m.placed) prog m ending (prog.insn m.point)
