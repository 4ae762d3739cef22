-- What contracts see of a state, of answers and of replies.
use Rattle.std.specs.Prelude.{◌≡◌, ℕ, List, [], ◌∷◌, map, replicate, Option, Some, None, Result, Ok, Err}
use Rattle.std.specs.Option.{unwrap_or}
use Rattle.rw_base.specs.declared.width.Width.TheVariants.{Q}
use Rattle.rw_domain.specs.declared.cause.Cause.{Cause}
use Rattle.rw_domain.specs.declared.domain.Domain.{Ghosts}
use Rattle.rw_domain.specs.declared.place.Place.{Place}
use Rattle.rw_domain.specs.Operators.{Operators}
use Rattle.rw_domain.specs.Placed.{Placed, with_region}
use Rattle.rw_machine.specs.declared.asks.Query.{Query}
use Rattle.rw_machine.specs.declared.asks.Query.TheVariants as query
use Rattle.rw_machine.specs.declared.event.Six.{Six}
use Rattle.rw_machine.specs.declared.event.Event.{Event as EventCode}
use Rattle.rw_machine.specs.declared.event.Event.TheVariants as event
use Rattle.rw_machine.specs.declared.event.Answer.{Answer}
use Rattle.rw_machine.specs.declared.event.Answer.TheVariants as answer
use Rattle.rw_machine.specs.declared.event.Reply.{Reply as ReplyCode}
use Rattle.rw_machine.specs.declared.state.State.{State}
use Rattle.rw_machine.specs.Running.{range_at, unknown_flags}
use Rattle.rw_machine.specs.Events.{Event, Reply, System, Import, known_bytes, six_words, import_event}
use Rattle.rw_machine.specs.Program.{Domains}
use Rattle.rw_machine.specs.Step.{Machine, Outcome, Moved, Asks, Ended, Stopped, filling}
use Rattle.rw_machine.specs.Views.{registers_of, rows_of}

-- the operators of a domain over what is placed, and what is placed with a fresh region
abbrev pub domain_over : {V C : Type 0} → (Placed → Operators V C) → Domains Placed V C
domain_over over = record { over = over; add = with_region }

abbrev pub machine_of : {D P V C : Type 0} {g : Ghosts D V C} → State D P V C g → Machine Placed V C P
machine_of {g = g} s = record {
  registers = registers_of s.registers;
  flags = s.flags;
  memory = rows_of s.memory;
  placed = g.placed s.domain;
  point = s.point;
}

-- nothing is known of a machine at its start but the first bytes of its regions
abbrev pub first_machine : {V C P : Type 0} → Operators V C → Placed → P → Machine Placed V C P
first_machine ops placed point = record {
  registers = replicate 16 (ops.undef Q);
  flags = unknown_flags;
  memory = map (λ region. replicate region.size (filling ops region)) placed.regions;
  placed = placed;
  point = point;
}

abbrev pub six_of : {V : Type 0} → Six V → List V
six_of s = s.w0 ∷ s.w1 ∷ s.w2 ∷ s.w3 ∷ s.w4 ∷ s.w5 ∷ []

-- the numbers of the bytes of a range
abbrev pub numbers_at : {V C : Type 0} → Operators V C → List (List C) → Option (Place × ℕ) → List ℕ
numbers_at ops memory None = []
numbers_at ops memory (Some r) = unwrap_or (known_bytes ops (range_at memory r.0 r.1)) []

-- an event has the bytes that memory has at its range
abbrev pub event_of : {V C : Type 0} → Operators V C → List (List C) → EventCode V → Event V
event_of ops memory (event.System number words range) =
    record { call = System number; words = six_of words; range = range; bytes = numbers_at ops memory range }
event_of ops memory (event.Import symbol words) =
    record { call = Import symbol; words = six_of words; range = None; bytes = [] }

-- a query has words of the registers, and the bytes that memory has at its range
abbrev pub event_of_query : {V C : Type 0} → Operators V C → List V → List (List C) → Query → Event V
event_of_query ops registers memory (query.System number range) =
    record { call = System number; words = six_words ops registers memory; range = range; bytes = numbers_at ops memory range }
event_of_query ops registers memory (query.Import symbol) = import_event ops registers memory symbol

abbrev pub query_result : {V C : Type 0} → Operators V C → List V → List (List C) → Result Query Cause → Result (Event V) Cause
query_result ops registers memory (Ok q) = Ok (event_of_query ops registers memory q)
query_result ops registers memory (Err c) = Err c

abbrev pub reply_value : {V C : Type 0} → ReplyCode V C → Reply V C
reply_value r = record {
  result = r.result;
  scratch = r.scratch.items;
  writes = map (λ w. (w.0, w.1.items)) r.writes.items;
  fresh = r.fresh;
  ending = r.end;
}

-- what a step came to, by its answer, the machine before it and the machine after it
abbrev pub outcome_of : {D V C P : Type 0} → Operators V C → Machine D V C P → Answer V → Machine D V C P → Outcome D V C P
outcome_of ops old answer.Moved new = Moved new
outcome_of ops old (answer.Asks e) new = Asks (event_of ops old.memory e)
outcome_of ops old (answer.Ended ending) new = Ended new ending
outcome_of ops old (answer.Stopped c) new = Stopped c

-- a step that asks or stops changes nothing
abbrev pub Stays : {V S : Type 0} → Answer V → S → S → Type 0
Stays answer.Moved old new = Unit {0}
Stays (answer.Asks _) old new = new ≡ old
Stays (answer.Ended _) old new = Unit {0}
Stays (answer.Stopped _) old new = new ≡ old

-- an answered step that stops leaves the machine as it was, and no answered step asks
abbrev pub IsMade : {V M : Type 0} → Answer V → M → M → Type 0
IsMade answer.Moved old new = Unit {0}
IsMade (answer.Asks _) old new = ⊥
IsMade (answer.Ended _) old new = Unit {0}
IsMade (answer.Stopped _) old new = new ≡ old
