-- A step of the first run is followed by a step of the second.
use Rattle.std.proofs.Common.{◌≡◌, ℕ, zero, ◌+◌, List, [], ◌∷◌, ◌++◌, length, Option, Some, None, true, false, refl, sym, ap, subst, ◌∙◌, arith}
use Rattle.rw_domain.specs.Stands.{Both}
use Rattle.rw_machine.specs.declared.ending.End.{End}
use Rattle.rw_machine.specs.Program.{Program, Domains}
use Rattle.rw_machine.specs.Events.{Event, Reply}
use Rattle.rw_machine.specs.Step.{Machine, Outcome, Moved, Asks, Ended, Stopped, placed_with, step_of, reply_of}
use Rattle.rw_machine.specs.Stands.{Spare, EventStands, ReplyStands, MachineStands, OutcomeStands, ProgramsStand, DomainsStand, reply_room}
use Rattle.rw_machine.proofs.StepCorresponds.{asks, stepped-stands}
use Rattle.rw_runs.specs.Runs.{Run, after_reply, after_event, after_step, one_more, advance, all_added}
use Rattle.rw_runs.specs.RunStands.{NearWhile, RunStands, RunFollows}
use Rattle.rw_runs.proofs.Lists.{length-one-more}

append_both : {A B : Type 0} (R : A → B → Type 0) (a : A) (b : B) → R a b → (xs : List A) (ys : List B) → Both R xs ys → Both R (xs ++ a ∷ []) (ys ++ b ∷ [])
append_both R a b r [] [] h = (r, tt)
append_both R a b r [] (y ∷ ys) h = absurd h
append_both R a b r (x ∷ xs) [] h = absurd h
append_both R a b r (x ∷ xs) (y ∷ ys) h = (h.0, append_both R a b r xs ys h.1)

-- the answers that the second run has used since, and the regions that they brought
pub record Uses {D V T U E F P O : Type 0} (N : Domains T U F) (q : Run T U F O) (r' : Run D V E P) (q' : Run T U F O) (before : ℕ) : Type 0 where
  pub taken : List (Reply U F)
  pub answers : q.answers ≡ taken ++ q'.answers
  pub count : length r'.events ≡ before + length taken
  pub placed : q'.machine.placed ≡ all_added N q.machine.placed taken

-- points are near before a step (Near) and after it (Near')
module _ {D T V U E F A G P O : Type 0} (R : V → U → Type 0) (Byte : E → F → Type 0) (spare : Spare F) (Named : ℕ → ℕ → Type 0) (Laid : D → T → Type 0) (Near Near' : P → O → Type 0)
    (S : Domains D V E) (N : Domains T U F) (domains : DomainsStand R Byte spare Laid S N) (c : Program P A V) (d : Program O G U) (programs : ProgramsStand R Named Near Near' c d) where
  -- the second run has an answer for the next answer of the first, where that asks
  abbrev pub NextStands : Run D V E P → Run T U F O → Type 0
  NextStands r q =
      (e : Event V) (a : Reply V E) (rest : List (Reply V E)) → r.ending ≡ None → step_of S c r.machine ≡ Asks e → r.answers ≡ a ∷ rest
      → (b : Reply U F) × (others : List (Reply U F)) × (q.answers ≡ b ∷ others)
      × ReplyStands R Byte spare (reply_room S c r.machine a.ending) a b × Laid (placed_with S r.machine.placed a.fresh) (placed_with N q.machine.placed b.fresh)

  -- data that are laid, those of the second known
  abbrev LaidAs : T → D → T → Type 0
  LaidAs y d t = (t ≡ y) × Laid d t

  relaid : (Where : P → O → Type 0) (y : T) (m : Machine D V E P) (o : Machine T U F O) → MachineStands R Byte spare (LaidAs y) Where m o → MachineStands R Byte spare Laid Where m o
  relaid Where y m o h = record { registers = h.registers; flags = h.flags; memory = h.memory; placed = h.placed.1; point = h.point }

  module _ (r : Run D V E P) (q : Run T U F O) (events : Both (EventStands R Named) r.events q.events) (before : MachineStands R Byte spare Laid Near r.machine q.machine) (goes : r.ending ≡ None) (alike : r.ending ≡ q.ending) (next : NextStands r q) where
    abbrev After : Run D V E P → Run T U F O → Type 0
    After r' q' = RunStands R Byte spare Named Laid Near' r' q' × Uses N q r' q' (length r.events)

    -- a step that asked, answered
    answer-follows : (e : Event V) (f : Event U) → EventStands R Named e f → (rs : List (Reply V E)) (b : Reply U F) (qs : List (Reply U F)) → q.answers ≡ b ∷ qs
        → (x : Outcome D V E P) (y : Outcome T U F O) → OutcomeStands R Byte spare Named (LaidAs (placed_with N q.machine.placed b.fresh)) Near' x y → RunFollows After (after_reply r e rs x) (after_reply q f qs y)
    answer-follows e f k rs b qs is (Stopped z) y g = tt
    answer-follows e f k rs b qs is (Moved m) (Moved o) g = (
      record {
        machine = relaid Near' (placed_with N q.machine.placed b.fresh) m o g;
        events = append_both (EventStands R Named) e f k r.events q.events events;
        ending = refl;
      },
      record { taken = b ∷ []; answers = is; count = counted e; placed = g.placed.0 },
    )
      where
        counted : (e : Event V) → length (r.events ++ e ∷ []) ≡ length r.events + 1
        counted e = let size = length-one-more r.events e in omega (arith, size)
    answer-follows e f k rs b qs is (Moved m) (Asks z) g = absurd g
    answer-follows e f k rs b qs is (Moved m) (Ended o z) g = absurd g
    answer-follows e f k rs b qs is (Moved m) (Stopped z) g = absurd g
    answer-follows e f k rs b qs is (Asks w) y g = tt
    answer-follows e f k rs b qs is (Ended m w) (Ended o z) g = (
      record {
        machine = relaid (λ p p'. Unit {0}) (placed_with N q.machine.placed b.fresh) m o g.1;
        events = append_both (EventStands R Named) e f k r.events q.events events;
        ending = ap (λ v. Some v) g.0;
      },
      record { taken = b ∷ []; answers = is; count = counted e; placed = g.1.placed.0 },
    )
      where
        counted : (e : Event V) → length (r.events ++ e ∷ []) ≡ length r.events + 1
        counted e = let size = length-one-more r.events e in omega (arith, size)
    answer-follows e f k rs b qs is (Ended m w) (Moved o) g = absurd g
    answer-follows e f k rs b qs is (Ended m w) (Asks z) g = absurd g
    answer-follows e f k rs b qs is (Ended m w) (Stopped z) g = absurd g

    event-follows : (e : Event V) (f : Event U) → EventStands R Named e f → step_of S c r.machine ≡ Asks e → (rs : List (Reply V E)) → r.answers ≡ rs → RunFollows After (after_event S c r e rs) (after_event N d q f q.answers)
    event-follows e f k asked [] is = tt
    event-follows e f k asked (a ∷ rs) is =
        let n = next e a rs goes asked is in
        let does : asks (step_of S c r.machine) ≡ true = ap asks asked in
        subst (λ xs. RunFollows After (after_reply r e rs (reply_of S c r.machine a)) (after_event N d q f xs)) (sym n.2)
        (answer-follows e f k rs n.0 n.1 n.2 (reply_of S c r.machine a) (reply_of N d q.machine n.0)
        (stepped-stands R Byte spare Named Laid (LaidAs (placed_with N q.machine.placed n.0.fresh)) Near Near' S N c d programs domains r.machine q.machine before (Some a) (Some n.0)
        (n.3, (refl, n.4)) (λ never. absurd (let e : true ≡ false = sym does ∙ never in cc))))

    -- a run that goes on is at points that are near
    going : (z : Option End) → z ≡ None → (m : Machine D V E P) (o : Machine T U F O) → MachineStands R Byte spare Laid Near' m o → MachineStands R Byte spare Laid (NearWhile z Near') m o
    going z e m o h = subst (λ z. MachineStands R Byte spare Laid (NearWhile z Near') m o) (sym e) h

    none_taken : length r.events ≡ length r.events + zero
    none_taken = omega arith

    step-follows : (x : Outcome D V E P) (y : Outcome T U F O) → step_of S c r.machine ≡ x → OutcomeStands R Byte spare Named (LaidAs q.machine.placed) Near' x y → RunFollows After (after_step S c r x) (after_step N d q y)
    step-follows (Stopped z) y is g = tt
    step-follows (Moved m) (Moved o) is g = (
      record { machine = going r.ending goes m o (relaid Near' q.machine.placed m o g); events = events; ending = alike },
      record { taken = []; answers = refl; count = none_taken; placed = g.placed.0 },
    )
    step-follows (Moved m) (Asks z) is g = absurd g
    step-follows (Moved m) (Ended o z) is g = absurd g
    step-follows (Moved m) (Stopped z) is g = absurd g
    step-follows (Asks e) (Asks f) is g = event-follows e f g is r.answers refl
    step-follows (Asks e) (Moved o) is g = absurd g
    step-follows (Asks e) (Ended o z) is g = absurd g
    step-follows (Asks e) (Stopped z) is g = absurd g
    step-follows (Ended m w) (Ended o z) is g = (
      record { machine = relaid (λ p p'. Unit {0}) q.machine.placed m o g.1; events = events; ending = ap (λ v. Some v) g.0 },
      record { taken = []; answers = refl; count = none_taken; placed = g.1.placed.0 },
    )
    step-follows (Ended m w) (Moved o) is g = absurd g
    step-follows (Ended m w) (Asks z) is g = absurd g
    step-follows (Ended m w) (Stopped z) is g = absurd g

  one_more-follows : (r : Run D V E P) (q : Run T U F O) → RunStands R Byte spare Named Laid Near r q → NextStands r q → (z : Option End) → r.ending ≡ z
      → RunFollows (λ r' q'. RunStands R Byte spare Named Laid Near' r' q' × Uses N q r' q' (length r.events)) (one_more S c r z) (one_more N d q z)
  one_more-follows r q h next (Some z) goes = tt
  one_more-follows r q h next None goes =
      let before = subst (λ z. MachineStands R Byte spare Laid (NearWhile z Near) r.machine q.machine) goes h.machine in
      step-follows r q h.events before goes h.ending next (step_of S c r.machine) (step_of N d q.machine) refl
      (stepped-stands R Byte spare Named Laid (LaidAs q.machine.placed) Near Near' S N c d programs domains r.machine q.machine before None None tt (λ _. (refl, before.placed)))

  pub advance-follows : (r : Run D V E P) (q : Run T U F O) → RunStands R Byte spare Named Laid Near r q → NextStands r q
      → RunFollows (λ r' q'. RunStands R Byte spare Named Laid Near' r' q' × Uses N q r' q' (length r.events)) (advance S c r) (advance N d q)
  advance-follows r q h next =
      subst (λ z. RunFollows (λ r' q'. RunStands R Byte spare Named Laid Near' r' q' × Uses N q r' q' (length r.events)) (one_more S c r r.ending) (one_more N d q z)) h.ending (one_more-follows r q h next r.ending refl)
