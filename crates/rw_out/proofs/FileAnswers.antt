-- Lawful answers write nothing to the counters, of which a file has no bytes.
use Rattle.std.proofs.Common.{◌≡◌, ℕ, zero, suc, ◌+◌, List, [], ◌∷◌, length, All, Option, Some, None, Result, Ok, Err, Bool, true, false, nat_le, refl, sym, ap, subst, ◌∙◌, arith}
use Rattle.std.specs.Prelude.{if◌then◌else◌, slice_get}
use Rattle.std.proofs.lemmas.Bool.{and_parts, leb-true}
use Rattle.std.proofs.lemmas.List.Elements.{All-replicate}
use Rattle.rw_base.proofs.Lists.{slice_get-append_left}
use Rattle.rw_base.specs.declared.width.Width.TheVariants.{Q}
use Rattle.x86_insn.specs.declared.kinds.Reg.TheVariants.{Rsp}
use Rattle.x86_insn.specs.declared.instruction.Insn.{Insn}
use Rattle.rw_words.specs.declared.atom.Cell.{Cell}
use Rattle.rw_words.specs.Words.{undefined_cells}
use Rattle.rw_domain.specs.declared.cause.Cause.{Cause}
use Rattle.rw_domain.specs.declared.cause.Cause.TheVariants.{StackLow}
use Rattle.rw_domain.specs.declared.place.Access.TheVariants.{Read}
use Rattle.rw_domain.specs.declared.place.Place.{Place}
use Rattle.rw_domain.specs.declared.place.Region.{Region}
use Rattle.rw_domain.specs.Operators.{Operators}
use Rattle.rw_domain.specs.Placed.{Placed}
use Rattle.rw_machine.specs.declared.ending.End.{End}
use Rattle.rw_machine.specs.declared.goal.Goal.{Goal}
use Rattle.rw_machine.specs.declared.goal.Goal.TheVariants.{At, Import, Finish}
use Rattle.rw_machine.specs.Domains.{symbols}
use Rattle.rw_machine.specs.Events.{Event, Reply}
use Rattle.rw_machine.specs.Program.{Domains, Program}
use Rattle.rw_machine.specs.Running.{Running, range_at, register}
use Rattle.rw_machine.specs.Step.{Asks, Ended, Machine, Moved, Outcome, Stopped, asked_outcome, decided_outcome, entered_outcome, finished_outcome, fits_stack, goal_of, import_outcome, insn_outcome, machine_after, machine_after_import, machine_after_reply, placed_with, raised_registers, reached_outcome, replied_outcome, reply_of, return_from_outcome, return_to_outcome, returned_outcome, returned_outcome_with, run_of, served_outcome, settled_outcome, step_of, step_outcome, swept_machine}
use Rattle.rw_runs.specs.Runs.{Run, after_event, after_reply, after_step, first_run, made, one_more}
use Rattle.rw_runs.proofs.Made.{made-before}
use Rattle.rw_code.specs.declared.point.FilePoint.{FilePoint}
use Rattle.rw_code.specs.Ground.{Ground}
use Rattle.rw_code.specs.Known.{Labels}
use Rattle.rw_code.specs.Replies.{AreLawful, IsWrite, lost_to}
use Rattle.rw_code.specs.Start.{Start, counters_number, regions_of, start_regions, words_start}
use Rattle.rw_probe.specs.ProbedRuns.{AllFitBeside}
use Rattle.rw_out.proofs.FileStart.{at-behind}

-- ---- what holds of the data of a domain, and still holds with a fresh region, holds along a run

module _ {D V C P R : Type 0} (dom : Domains D V C) (prog : Program P R V) (Holds : D → Type 0) (grows : (d : D) (region : Region) (base : ℕ) → Holds d → Holds (dom.add d region base)) where
  abbrev HoldsAfter : Outcome D V C P → Type 0
  HoldsAfter (Moved m) = Holds m.placed
  HoldsAfter (Ended m z) = Holds m.placed
  HoldsAfter (Asks e) = Unit {0}
  HoldsAfter (Stopped c) = Unit {0}

  fresh-holds : (d : D) (fresh : Option (Region × ℕ)) → Holds d → Holds (placed_with dom d fresh)
  fresh-holds d None h = h
  fresh-holds d (Some f) h = grows d f.0 f.1 h

  module _ (ops : Operators V C) where
    settled-holds : (m : Machine D V C P) → Holds m.placed → HoldsAfter (settled_outcome ops m)
    settled-holds m h = by (fits_stack ops m.registers)
      where
        by : (t : Bool) → HoldsAfter (if t then Moved (swept_machine ops m) else Stopped StackLow)
        by true = h
        by false = tt

    finished-holds : (m : Machine D V C P) (z : End) → Holds m.placed → HoldsAfter (finished_outcome ops m z)
    finished-holds m z h = by (fits_stack ops m.registers)
      where
        by : (t : Bool) → HoldsAfter (if t then Ended (swept_machine ops m) z else Stopped StackLow)
        by true = h
        by false = tt

    returned-with-holds : (m : Machine D V C P) (o : Option ℕ) → Holds m.placed → HoldsAfter (returned_outcome_with ops m o)
    returned-with-holds m None h = tt
    returned-with-holds m (Some n) h = finished-holds m _ h

    returned-holds : (m : Machine D V C P) → Holds m.placed → HoldsAfter (returned_outcome ops m)
    returned-holds m h = returned-with-holds m _ h

    replied-holds : (m : Machine D V C P) (z : Option End) → Holds m.placed → HoldsAfter (replied_outcome dom ops prog m z)
    replied-holds m None h = settled-holds m h
    replied-holds m (Some z) h = h

    served-holds : (m : Machine D V C P) (reply : Option (Reply V C)) (o : Result (Event V) Cause) → Holds m.placed → HoldsAfter (served_outcome dom ops prog m reply o)
    served-holds m reply (Err c) h = tt
    served-holds m None (Ok event) h = tt
    served-holds m (Some reply) (Ok event) h = replied-holds (machine_after_reply dom ops prog m reply) reply.ending (fresh-holds m.placed reply.fresh h)

    return-to-holds : (m : Machine D V C P) (reply : Reply V C) (o : Result (Goal P) Cause) → Holds m.placed → HoldsAfter (return_to_outcome dom ops prog m reply o)
    return-to-holds m reply (Err c) h = tt
    return-to-holds m reply (Ok (At p)) h = settled-holds (machine_after_import dom ops prog m reply (raised_registers ops m.registers) p) (fresh-holds m.placed reply.fresh h)
    return-to-holds m reply (Ok Finish) h = returned-holds (machine_after_import dom ops prog m reply (raised_registers ops m.registers) m.point) (fresh-holds m.placed reply.fresh h)
    return-to-holds m reply (Ok (Import k)) h = tt

    return-from-holds : (m : Machine D V C P) (reply : Reply V C) (o : Result Place Cause) → Holds m.placed → HoldsAfter (return_from_outcome dom ops prog m reply o)
    return-from-holds m reply (Err c) h = tt
    return-from-holds m reply (Ok p) h = return-to-holds m reply (prog.target (ops.join Q (range_at m.memory p 8))) h

    import-holds : (m : Machine D V C P) (reply : Reply V C) (z : Option End) → Holds m.placed → HoldsAfter (import_outcome dom ops prog m reply z)
    import-holds m reply None h = return-from-holds m reply (ops.place (register ops m.registers Rsp) 8 Read) h
    import-holds m reply (Some z) h = fresh-holds m.placed reply.fresh h

    entered-holds : (m : Machine D V C P) (symbol : ℕ) (reply : Option (Reply V C)) → Holds m.placed → HoldsAfter (entered_outcome dom ops prog m symbol reply)
    entered-holds m symbol None h = tt
    entered-holds m symbol (Some reply) h = import-holds m reply reply.ending h

    reached-holds : (m : Machine D V C P) (reply : Option (Reply V C)) (i : Insn R) (r : Running V) (o : Result (Goal P) Cause) → Holds m.placed → HoldsAfter (reached_outcome dom ops prog m reply i r o)
    reached-holds m reply i r (Err c) h = tt
    reached-holds m reply i r (Ok (At p)) h = settled-holds (machine_after dom ops prog m i r p) h
    reached-holds m reply i r (Ok Finish) h = returned-holds (machine_after dom ops prog m i r m.point) h
    reached-holds m reply i r (Ok (Import symbol)) h = entered-holds (machine_after dom ops prog m i r m.point) symbol reply h

    asked-holds : (m : Machine D V C P) (reply : Option (Reply V C)) (i : Insn R) (r : Running V) (o : _) → Holds m.placed → HoldsAfter (asked_outcome dom ops prog m reply i r o)
    asked-holds m reply i r None h = reached-holds m reply i r (goal_of dom ops prog m.point r.goal) h
    asked-holds m reply i r (Some ask) h = grind (arith, finished-holds, served-holds)

    decided-holds : (m : Machine D V C P) (reply : Option (Reply V C)) (i : Insn R) (r : Running V) (o : Option Cause) → Holds m.placed → HoldsAfter (decided_outcome dom ops prog m reply i r o)
    decided-holds m reply i r None h = asked-holds m reply i r r.ask h
    decided-holds m reply i r (Some c) h = tt

    insn-holds : (m : Machine D V C P) (reply : Option (Reply V C)) (o : Option (Insn R)) → Holds m.placed → HoldsAfter (insn_outcome dom ops prog m reply o)
    insn-holds m reply None h = tt
    insn-holds m reply (Some i) h = decided-holds m reply i (run_of dom ops prog m i) (run_of dom ops prog m i).cause h

  step-holds : (m : Machine D V C P) (reply : Option (Reply V C)) → Holds m.placed → HoldsAfter (step_outcome dom prog m reply)
  step-holds m reply h = insn-holds (dom.over m.placed) m reply (prog.insn m.point) h

  abbrev HoldsIn : Option (Run D V C P) → Type 0
  HoldsIn None = Unit {0}
  HoldsIn (Some run) = Holds run.machine.placed

  reply-holds : (run : Run D V C P) (event : Event V) (rest : List (Reply V C)) (x : Outcome D V C P) → HoldsAfter x → HoldsIn (after_reply run event rest x)
  reply-holds run event rest (Moved m) h = h
  reply-holds run event rest (Ended m z) h = h
  reply-holds run event rest (Asks e) h = tt
  reply-holds run event rest (Stopped c) h = tt

  event-holds : (run : Run D V C P) (event : Event V) (answers : List (Reply V C)) → Holds run.machine.placed → HoldsIn (after_event dom prog run event answers)
  event-holds run event [] h = tt
  event-holds run event (reply ∷ rest) h = reply-holds run event rest (reply_of dom prog run.machine reply) (step-holds run.machine (Some reply) h)

  outcome-holds : (run : Run D V C P) (x : Outcome D V C P) → Holds run.machine.placed → HoldsAfter x → HoldsIn (after_step dom prog run x)
  outcome-holds run (Moved m) h k = k
  outcome-holds run (Asks event) h k = event-holds run event run.answers h
  outcome-holds run (Ended m z) h k = k
  outcome-holds run (Stopped c) h k = tt

  more-holds : (run : Run D V C P) (z : Option End) → Holds run.machine.placed → HoldsIn (one_more dom prog run z)
  more-holds run None h = outcome-holds run (step_of dom prog run.machine) h (step-holds run.machine None h)
  more-holds run (Some z) h = tt

  pub made-holds : (n : ℕ) (first run : Run D V C P) → Holds first.machine.placed → made dom prog n first ≡ Some run → Holds run.machine.placed
  made-holds zero first run h e = subst HoldsIn e h
  made-holds (suc n) first run h e =
      let before = made-before dom prog n first run e in
      subst HoldsIn before.2 (more-holds before.0 before.0.ending (made-holds n first before.0 h before.1))

-- ---- answers

-- a region of no bytes
abbrev pub IsEmpty : ℕ → Placed → Type 0
IsEmpty number placed = (region : Region) × (slice_get placed.regions number ≡ Some region) × (region.size ≡ 0)

empty-grows : (number : ℕ) (placed : Placed) (region : Region) (base : ℕ) → IsEmpty number placed → IsEmpty number (symbols.add placed region base)
empty-grows number placed region base h = (h.0, slice_get-append_left placed.regions (region ∷ []) number h.0 h.1, h.2)

same-region : (a b : Region) → ◌≡◌ {A = Option Region} (Some a) (Some b) → a ≡ b
same-region a b e = cc

-- a write inside an empty region has no bytes
empty-write : (labels : Labels) (number : ℕ) (placed : Placed) (write : Place × List Cell) → IsEmpty number placed → IsWrite labels placed write → write.0.region ≡ number → length write.1 ≡ 0
empty-write labels number placed write empty is same =
    let there : slice_get placed.regions number ≡ Some is.region = subst (λ n. slice_get placed.regions n ≡ Some is.region) same is.is_there in
    let one : empty.0 ≡ is.region = same-region empty.0 is.region (sym empty.1 ∙ there) in
    let size : is.region.size ≡ 0 = ap (λ (r : Region). r.size) (sym one) ∙ empty.2 in
    let within = leb-true (write.0.offset + length write.1) is.region.size (and_parts (nat_le (write.0.offset + length write.1) is.region.size) _ is.inside).0 in
    omega (arith, size, within)

pub answers-fit : (labels : Labels) (prog : Program FilePoint ℕ (List Cell)) (m : Machine Placed (List Cell) Cell FilePoint) (number : ℕ) (answers : List (Reply (List Cell) Cell)) → IsEmpty number m.placed → AreLawful labels prog m answers → AllFitBeside number prog m answers
answers-fit labels prog m number answers empty lawful k run event reply is_made goes_on asks answer =
    let is = lawful k run event reply is_made goes_on asks answer in
    let still = made-holds symbols prog (IsEmpty number) (empty-grows number) k (first_run m answers) run empty is_made in
    record {
      result = is.wide;
      scratch = subst (All (λ word. length word ≡ 8)) (sym is.scratch) (All-replicate (λ word. length word ≡ 8) (length (lost_to event.call)) (undefined_cells Q) refl);
      writes = λ i d within same. empty-write labels number run.machine.placed _ still (is.writes i d within) same;
    }

-- at the start there are no bytes of counters
pub start-empty : (file_ground : Ground) (start : Start) → file_ground.counters ≡ 0 → IsEmpty (counters_number file_ground) (words_start file_ground start).placed
start-empty file_ground start none =
    let number : counters_number file_ground ≡ length file_ground.regions + 0 = omega arith in
    (record { size = file_ground.counters; align = 8; writable = true; zero = true }, ap (slice_get (regions_of file_ground start)) number ∙ at-behind file_ground.regions (start_regions file_ground start) 0, none)
