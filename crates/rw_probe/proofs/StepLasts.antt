-- After a step of a machine over words it has registers of eight cells, the stack, and the room that a spill needs.
use Rattle.std.proofs.Common.{◌≡◌, ◌≢◌, ℕ, pos, negsuc, ◌+◌, ◌%◌, ◌^◌, ◌<◌, List, [], ◌∷◌, ◌++◌, slice_get, All, Option, Some, None, Result, Ok, Err, Bool, true, false, if◌then◌else◌, refl, sym, ap, subst, ◌∙◌, arith}
use Rattle.std.specs.Prelude.{option_and_then}
use Rattle.std.specs.Option.{option_map, unwrap_or}
use Rattle.rw_base.proofs.Lists.{slice_get-append_left}
use Rattle.rw_base.specs.declared.width.Width.TheVariants.{Q}
use Rattle.x86_insn.specs.declared.kinds.Reg.{Reg}
use Rattle.x86_insn.specs.declared.kinds.Reg.TheVariants.{Rax, Rsp}
use Rattle.x86_insn.specs.declared.instruction.Insn.{Insn}
use Rattle.x86_insn.specs.WellFormed.{code_of}
use Rattle.x86_meaning.specs.Meaning.{micro_of}
use Rattle.rw_words.specs.declared.atom.Atom.TheVariants.{Ptr, Code, Past, Import, End, Diff}
use Rattle.rw_words.specs.declared.atom.Cell.{Cell}
use Rattle.rw_words.specs.declared.kind.Kind.{Kind}
use Rattle.rw_words.specs.declared.kind.Kind.TheVariants.{Number, Whole, Mixed}
use Rattle.rw_words.specs.Kinds.{kind_of}
use Rattle.rw_domain.specs.declared.cause.Cause.{Cause}
use Rattle.rw_domain.specs.declared.cause.Cause.TheVariants.{NotWritable, StackLow}
use Rattle.rw_domain.specs.declared.place.Access.{Access}
use Rattle.rw_domain.specs.declared.place.Access.TheVariants.{Read, Write}
use Rattle.rw_domain.specs.declared.place.Place.{Place}
use Rattle.rw_domain.specs.declared.place.Region.{Region}
use Rattle.rw_domain.specs.declared.place.Hole.{Hole}
use Rattle.rw_domain.specs.Placed.{Placed}
use Rattle.rw_domain.specs.NumberPlaces.{accessed_place, is_inside, place_inside, pointed_place}
use Rattle.rw_domain.specs.Symbols.{kind_place, symbols_over, word_sum}
use Rattle.rw_machine.specs.declared.ending as run_end
use Rattle.rw_machine.specs.declared.ending.End.TheVariants.{Returned}
use Rattle.rw_machine.specs.declared.goal.Goal.{Goal}
use Rattle.rw_machine.specs.declared.goal.Goal.TheVariants as goal
use Rattle.rw_machine.specs.Program.{Program}
use Rattle.rw_machine.specs.Domains.{symbols}
use Rattle.rw_machine.specs.Running.{Running, register}
use Rattle.rw_machine.specs.Events.{Event, Reply, lost_to_system, lost_to_import}
use Rattle.rw_machine.specs.Step.{Machine, Outcome, Moved, Asks, Ended, Stopped, raised_registers, registers_after_reply, first_running, fits_stack, swept_machine, settled_outcome, finished_outcome, returned_outcome_with, returned_outcome, placed_with, here_at, run_of, machine_after, machine_after_reply, replied_outcome, served_outcome, machine_after_import, return_to_outcome, return_from_outcome, import_outcome, reached_outcome, asked_outcome, decided_outcome, insn_outcome, step_outcome}
use Rattle.rw_machine.specs.Views.{HasRange}
use Rattle.rw_probe.specs.Forgetting.{HasFreeRoom, HasStack, HasWords}
use Rattle.rw_probe.proofs.Lasting.{IsWide, AllWide, AreWords, Keeps, Lasts, all-wide, answered-keeps, due-keeps, frame-keeps, put-all-wide, register-wide, set-words, stack-keeps, sum-wide, wide-all}
use Rattle.rw_probe.proofs.Room.{has-room}

-- ---- places stay where a region is added

module _ (regions more : List Region) (holes : List Hole) (r o len : ℕ) (access : Access) (p : Place) where
  abbrev here : Place
  here = record { region = r; offset = o }

  stays : (g : Option Region) → slice_get regions r ≡ g → accessed_place regions access (pointed_place regions holes r o len) ≡ Ok p → accessed_place (regions ++ more) access (pointed_place (regions ++ more) holes r o len) ≡ Ok p
  stays None e h = let none = sym (ap (λ g. accessed_place regions access (option_and_then (λ region. place_inside holes r region o len) g)) e) ∙ h in absurd (cc)
  stays (Some g) e h =
      let later = slice_get-append_left regions more r g e in
      ap (λ x. accessed_place (regions ++ more) access (option_and_then (λ region. place_inside holes r region o len) x)) later
      ∙ by_test (is_inside holes g r o (o + len)) (sym (ap (λ x. accessed_place regions access (option_and_then (λ region. place_inside holes r region o len) x)) e) ∙ h)
    where
      by_access : (a : Access) → accessed_place regions a (Some here) ≡ Ok p → accessed_place (regions ++ more) a (Some here) ≡ Ok p
      by_access Read k = k
      by_access Write k = ap (λ x. if unwrap_or (option_map (λ region. region.writable) x) false then Ok here else Err NotWritable) (slice_get-append_left regions more r g e ∙ sym e) ∙ k

      by_test : (t : Bool) → accessed_place regions access (if t then Some here else None) ≡ Ok p → accessed_place (regions ++ more) access (if t then Some here else None) ≡ Ok p
      by_test true k = by_access access k
      by_test false k = absurd (cc)

kind-stays : (regions more : List Region) (holes : List Hole) (k : Kind) (len : ℕ) (access : Access) (p : Place) → kind_place regions holes k len access ≡ Ok p → kind_place (regions ++ more) holes k len access ≡ Ok p
kind-stays regions more holes (Number n) len access p h = absurd (cc)
kind-stays regions more holes Mixed len access p h = absurd (cc)
kind-stays regions more holes (Whole (Ptr r o)) len access p h = stays regions more holes r o len access p (slice_get regions r) refl h
kind-stays regions more holes (Whole (Code c)) len access p h = absurd (cc)
kind-stays regions more holes (Whole (Past c)) len access p h = absurd (cc)
kind-stays regions more holes (Whole (Import i)) len access p h = absurd (cc)
kind-stays regions more holes (Whole End) len access p h = absurd (cc)
kind-stays regions more holes (Whole (Diff c r o)) len access p h = absurd (cc)

place-stays : (before : Placed) (fresh : Option (Region × ℕ)) (w : List Cell) (len : ℕ) (access : Access) (p : Place) → (symbols_over before).place w len access ≡ Ok p → (symbols_over (placed_with symbols before fresh)).place w len access ≡ Ok p
place-stays before None w len access p h = h
place-stays before (Some f) w len access p h = kind-stays before.regions (f.0 ∷ []) before.holes (kind_of w) len access p h

-- ---- the stack and the room

-- an answer has words of eight cells
abbrev pub AnswerIsWide : Option (Reply (List Cell) Cell) → Type 0
AnswerIsWide None = Unit {0}
AnswerIsWide (Some reply) = IsWide reply.result × AllWide reply.scratch

module _ {P : Type 0} (number : ℕ) (stack : Region) where
  stack-in : (n : Machine Placed (List Cell) Cell P) (d : Placed) → n.placed ≡ d → number + 2 ≡ d.canary → slice_get d.regions number ≡ Some stack → stack.writable ≡ true → stack.size < 2 ^ 64
      → All (λ hole. hole.region ≢ number) d.holes → HasRange n.memory (record { region = number; offset = 0 }) stack.size → HasStack n number stack
  stack-in n d e before region writable small whole range = record {
    before = subst (λ x. number + 2 ≡ x.canary) (sym e) before;
    region = subst (λ x. slice_get x.regions number ≡ Some stack) (sym e) region;
    writable = writable;
    small = small;
    whole = subst (λ x. All (λ hole. hole.region ≢ number) x.holes) (sym e) whole;
    range = range;
  }

  stack-stays : (m n : Machine Placed (List Cell) Cell P) (fresh : Option (Region × ℕ)) → n.placed ≡ placed_with symbols m.placed fresh → Keeps m.memory n.memory → HasStack m number stack → HasStack n number stack
  stack-stays m n None e keeps h = stack-in n m.placed e h.before h.region h.writable h.small h.whole (keeps (record { region = number; offset = 0 }) stack.size h.range)
  stack-stays m n (Some f) e keeps h =
      stack-in n _ e h.before (slice_get-append_left m.placed.regions (f.0 ∷ []) number stack h.region) h.writable h.small h.whole (keeps (record { region = number; offset = 0 }) stack.size h.range)

  -- where a machine goes on
  abbrev pub GoesOnWell : Outcome Placed (List Cell) Cell P → Type 0
  GoesOnWell (Moved n) = HasWords n × HasStack n number stack × ((saved : Place) × HasFreeRoom n saved)
  GoesOnWell (Asks e) = Unit {0}
  GoesOnWell (Ended n z) = Unit {0}
  GoesOnWell (Stopped c) = Unit {0}

  settled-well : (before : Placed) (fresh : Option (Region × ℕ)) (x : Machine Placed (List Cell) Cell P) → x.placed ≡ placed_with symbols before fresh → AreWords x.registers → HasStack (record x { placed = before }) number stack
      → GoesOnWell (settled_outcome (symbols_over before) x)
  settled-well before fresh x placed words has = by (fits_stack (symbols_over before) x.registers) refl
    where
      by : (t : Bool) → fits_stack (symbols_over before) x.registers ≡ t → GoesOnWell (if t then Moved (swept_machine (symbols_over before) x) else Stopped StackLow)
      by false e = tt
      by true e =
          let room = has-room (record x { placed = before }) number stack has e in (
            record { count = words.count; wide = wide-all x.registers words.wide },
            stack-stays (record x { placed = before }) (swept_machine (symbols_over before) x) fresh placed (stack-keeps (symbols_over before) x.registers x.memory) has,
            (
              room.0,
              record {
                below = subst (λ d. (symbols_over d).place (word_sum (Some (register (symbols_over before) x.registers Rsp)) None (negsuc 135)) 8 Write ≡ Ok room.0) (sym placed)
                    (place-stays before fresh (word_sum (Some (register (symbols_over before) x.registers Rsp)) None (negsuc 135)) 8 Write room.0 room.1.below);
                unknown = room.1.unknown;
              },
            ),
          )

  module _ (before : Placed) where
    finished-well : (x : Machine Placed (List Cell) Cell P) (z : run_end.End.End) → GoesOnWell (finished_outcome (symbols_over before) x z)
    finished-well x z = by (fits_stack (symbols_over before) x.registers)
      where
        by : (t : Bool) → GoesOnWell (if t then Ended (swept_machine (symbols_over before) x) z else Stopped StackLow)
        by true = tt
        by false = tt

    with-well : (x : Machine Placed (List Cell) Cell P) (o : Option ℕ) → GoesOnWell (returned_outcome_with (symbols_over before) x o)
    with-well x None = tt
    with-well x (Some k) = finished-well x (Returned (k % 256))

    returned-well : (x : Machine Placed (List Cell) Cell P) → GoesOnWell (returned_outcome (symbols_over before) x)
    returned-well x = with-well x ((symbols_over before).number Q (register (symbols_over before) x.registers Rax))

  -- ---- a step

  module _ {R : Type 0} (prog : Program P R (List Cell)) (m : Machine Placed (List Cell) Cell P) (words : AreWords m.registers) (has : HasStack m number stack) where
    answered-words : (lost : List Reg) (reply : Reply (List Cell) Cell) (registers : List (List Cell)) → AnswerIsWide (Some reply) → AreWords registers → AreWords (registers_after_reply (symbols_over m.placed) lost reply registers)
    answered-words lost reply registers wide h = put-all-wide m.placed lost reply.scratch _ wide.1 (set-words registers (code_of Rax) reply.result h wide.0)

    module _ (i : Insn R) where
      abbrev run : Running (List Cell)
      run = run_of symbols (symbols_over m.placed) prog m i

      abbrev behind : P → Machine Placed (List Cell) Cell P
      behind p = machine_after symbols (symbols_over m.placed) prog m i (run_of symbols (symbols_over m.placed) prog m i) p

      lasts : Lasts m.placed (run_of symbols (symbols_over m.placed) prog m i)
      lasts = all-wide m.placed m.memory (here_at symbols (symbols_over m.placed) prog m.point i) (micro_of i) (first_running (symbols_over m.placed) m.registers m.flags) (words, tt)

      stack-behind : (p : P) → HasStack (behind p) number stack
      stack-behind p = stack-stays m (behind p) None refl (due-keeps (symbols_over m.placed) m.memory run.due lasts.1) has

      raised-words : AreWords (raised_registers (symbols_over m.placed) run.registers)
      raised-words = set-words run.registers (code_of Rsp) _ lasts.0 (sum-wide m.placed (register (symbols_over m.placed) run.registers Rsp) (pos 8) (register-wide m.placed run.registers Rsp lasts.0))

      to-well : (reply : Reply (List Cell) Cell) → AnswerIsWide (Some reply) → (g : Result (Goal P) Cause) → GoesOnWell (return_to_outcome symbols (symbols_over m.placed) prog (behind m.point) reply g)
      to-well reply wide (Err c) = tt
      to-well reply wide (Ok (goal.Import k)) = tt
      to-well reply wide (Ok goal.Finish) = returned-well m.placed (machine_after_import symbols (symbols_over m.placed) prog (behind m.point) reply (raised_registers (symbols_over m.placed) run.registers) m.point)
      to-well reply wide (Ok (goal.At p)) =
          settled-well m.placed reply.fresh (machine_after_import symbols (symbols_over m.placed) prog (behind m.point) reply (raised_registers (symbols_over m.placed) run.registers) p) refl
          (answered-words lost_to_import reply _ wide raised-words)
          (stack-stays (behind m.point) _ None refl
          (λ q len k.
          frame-keeps (symbols_over m.placed) (raised_registers (symbols_over m.placed) run.registers) _ q len (answered-keeps (symbols_over m.placed) reply.writes reply.fresh (behind m.point).memory q len k))
          (stack-behind m.point))

      from-well : (reply : Reply (List Cell) Cell) → AnswerIsWide (Some reply) → (p : Result Place Cause) → GoesOnWell (return_from_outcome symbols (symbols_over m.placed) prog (behind m.point) reply p)
      from-well reply wide (Err c) = tt
      from-well reply wide (Ok p) = to-well reply wide _

      import-well : (reply : Reply (List Cell) Cell) → AnswerIsWide (Some reply) → (z : Option run_end.End.End) → GoesOnWell (import_outcome symbols (symbols_over m.placed) prog (behind m.point) reply z)
      import-well reply wide None = from-well reply wide _
      import-well reply wide (Some z) = tt

      reached-well : (reply : Option (Reply (List Cell) Cell)) → AnswerIsWide reply → (g : Result (Goal P) Cause) → GoesOnWell (reached_outcome symbols (symbols_over m.placed) prog m reply i run g)
      reached-well reply wide (Err c) = tt
      reached-well reply wide (Ok (goal.At p)) = settled-well m.placed None (behind p) refl lasts.0 (stack-behind p)
      reached-well reply wide (Ok goal.Finish) = returned-well m.placed (behind m.point)
      reached-well None wide (Ok (goal.Import k)) = tt
      reached-well (Some reply) wide (Ok (goal.Import k)) = import-well reply wide reply.ending

      replied-well : (reply : Reply (List Cell) Cell) → AnswerIsWide (Some reply) → (z : Option run_end.End.End) → GoesOnWell (replied_outcome symbols (symbols_over m.placed) prog (machine_after_reply symbols (symbols_over m.placed) prog m reply) z)
      replied-well reply wide (Some z) = tt
      replied-well reply wide None =
          settled-well m.placed reply.fresh (machine_after_reply symbols (symbols_over m.placed) prog m reply) refl (answered-words lost_to_system reply m.registers wide words)
          (stack-stays m _ None refl (answered-keeps (symbols_over m.placed) reply.writes reply.fresh m.memory) has)

      served-well : (reply : Option (Reply (List Cell) Cell)) → AnswerIsWide reply → (e : Result (Event (List Cell)) Cause) → GoesOnWell (served_outcome symbols (symbols_over m.placed) prog m reply e)
      served-well reply wide (Err c) = tt
      served-well None wide (Ok e) = tt
      served-well (Some reply) wide (Ok e) = replied-well reply wide reply.ending

      asked-well : (reply : Option (Reply (List Cell) Cell)) → AnswerIsWide reply → (z : _) → GoesOnWell (asked_outcome symbols (symbols_over m.placed) prog m reply i run z)
      asked-well reply wide None = reached-well reply wide _
      asked-well reply wide (Some ask) =
          let ends = finished-well m.placed m in
          let serves = served-well reply wide in
          grind (arith, ends, serves)

      decided-well : (reply : Option (Reply (List Cell) Cell)) → AnswerIsWide reply → (z : Option Cause) → GoesOnWell (decided_outcome symbols (symbols_over m.placed) prog m reply i run z)
      decided-well reply wide None = asked-well reply wide _
      decided-well reply wide (Some c) = tt

    insn-well : (reply : Option (Reply (List Cell) Cell)) → AnswerIsWide reply → (i : Option (Insn R)) → GoesOnWell (insn_outcome symbols (symbols_over m.placed) prog m reply i)
    insn-well reply wide None = tt
    insn-well reply wide (Some i) = decided-well i reply wide _

    pub step-well : (reply : Option (Reply (List Cell) Cell)) → AnswerIsWide reply → GoesOnWell (step_outcome symbols prog m reply)
    step-well reply wide = insn-well reply wide (prog.insn m.point)
