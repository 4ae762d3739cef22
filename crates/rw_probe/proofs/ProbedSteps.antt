-- A step of a run over words, beside one step of a run of a program with probes: the machine of the second stands for one of
-- which less is known.
use Rattle.std.proofs.Common.{◌≡◌, ℕ, List, [], ◌∷◌, length, All, Option, Some, None, refl, sym, ap, subst, ◌∙◌}
use Rattle.std.specs.Prelude.{not}
use Rattle.std.proofs.lemmas.List.Elements.{All-filter, All-head, All-tail}
use Rattle.x86_insn.specs.declared.instruction.Insn.{Insn}
use Rattle.rw_words.specs.declared.atom.Cell.{Cell}
use Rattle.rw_domain.specs.declared.place.Place.{Place}
use Rattle.rw_domain.specs.declared.place.Region.{Region}
use Rattle.rw_domain.specs.Placed.{Placed}
use Rattle.rw_domain.specs.Stands.{Both}
use Rattle.rw_funcs.specs.Points.{Point}
use Rattle.rw_machine.specs.declared.ending as run_end
use Rattle.rw_machine.specs.Domains.{symbols}
use Rattle.rw_machine.specs.Events.{Event, Reply}
use Rattle.rw_machine.specs.Program.{Program}
use Rattle.rw_machine.specs.SameSteps.{SameOutcome}
use Rattle.rw_machine.specs.Stands.{ReplyStands, Room, WriteStands, is_under, writes_outside}
use Rattle.rw_machine.specs.Step.{Machine, Outcome, Moved, Asks, Ended, Stopped, step_of}
use Rattle.rw_runs.specs.Correspond.{WordsRun}
use Rattle.rw_runs.specs.Runs.{advance, after_event, after_reply, after_step, one_more}
use Rattle.rw_probe.specs.Forgetting.{HasFreeRoom, HasStack, HasWords}
use Rattle.rw_probe.specs.ProbedPrograms.{HasFunctions}
use Rattle.rw_probe.proofs.AgreesBehind.{AgreeBeside, AgreeThere, step-agrees}
use Rattle.rw_probe.proofs.Lasting.{AreWords, wide-from}
use Rattle.rw_probe.proofs.StepLasts.{AnswerIsWide, GoesOnWell, step-well}

-- ---- two runs over words, of which the second has the other machine

module _ {P : Type 0} (around : ℕ → List Point) (at : ℕ → P) (number : ℕ) (stack : Region) where
  -- the machines agree on what is live as long as the run goes on
  abbrev pub Agreeing : Option run_end.End.End → Machine Placed (List Cell) Cell P → Machine Placed (List Cell) Cell P → Type 0
  Agreeing None s t = AgreeThere around at s t
  Agreeing (Some z) s t = AgreeBeside s t

  abbrev pub IsWell : Option run_end.End.End → Machine Placed (List Cell) Cell P → Type 0
  IsWell None t = HasWords t × HasStack t number stack × ((saved : Place) × HasFreeRoom t saved)
  IsWell (Some z) t = Unit {0}

  pub record SameRuns (x y : WordsRun P) : Type 0 where
    pub events : x.events ≡ y.events
    pub answers : x.answers ≡ y.answers
    pub ending : x.ending ≡ y.ending
    pub agrees : Agreeing x.ending x.machine y.machine
    pub well : IsWell y.ending y.machine

  abbrev pub BothRun : Option (WordsRun P) → Option (WordsRun P) → Type 0
  BothRun None None = Unit {0}
  BothRun (Some x) None = ⊥
  BothRun None (Some y) = ⊥
  BothRun (Some x) (Some y) = SameRuns x y

  module _ (prog : Program P ℕ (List Cell)) (functions : HasFunctions around at prog) (r : WordsRun P) (t : Machine Placed (List Cell) Cell P) (goes : r.ending ≡ None) (agrees : AgreeThere around at r.machine t) (words : HasWords t) (has : HasStack t number stack)
      (i : Insn ℕ) (is : prog.insn r.machine.point ≡ Some i) (fits : (e : Event (List Cell)) (a : Reply (List Cell) Cell) (rest : List (Reply (List Cell) Cell)) → step_of symbols prog r.machine ≡ Asks e → r.answers ≡ a ∷ rest → AnswerIsWide (Some a)) where
    abbrev second : WordsRun P
    second = record r { machine = t }

    its-words : AreWords t.registers
    its-words = record { count = words.count; wide = wide-from t.registers words.wide }

    reply-same : (e : Event (List Cell)) (rest : List (Reply (List Cell) Cell)) (x y : Outcome Placed (List Cell) Cell P) → SameOutcome (AgreeThere around at) AgreeBeside x y → GoesOnWell number stack y → BothRun (after_reply r e rest x) (after_reply second e rest y)
    reply-same e rest (Moved n) (Moved q) k w = record { events = refl; answers = refl; ending = refl; agrees = k; well = w }
    reply-same e rest (Moved n) (Asks f) k w = absurd k
    reply-same e rest (Moved n) (Ended q z) k w = absurd k
    reply-same e rest (Moved n) (Stopped c) k w = absurd k
    reply-same e rest (Asks d) (Moved q) k w = absurd k
    reply-same e rest (Asks d) (Asks f) k w = tt
    reply-same e rest (Asks d) (Ended q z) k w = absurd k
    reply-same e rest (Asks d) (Stopped c) k w = absurd k
    reply-same e rest (Ended n y) (Moved q) k w = absurd k
    reply-same e rest (Ended n y) (Asks f) k w = absurd k
    reply-same e rest (Ended n y) (Ended q z) k w = record { events = refl; answers = refl; ending = ap (λ v. Some v) k.0; agrees = k.1; well = tt }
    reply-same e rest (Ended n y) (Stopped c) k w = absurd k
    reply-same e rest (Stopped d) (Moved q) k w = absurd k
    reply-same e rest (Stopped d) (Asks f) k w = absurd k
    reply-same e rest (Stopped d) (Ended q z) k w = absurd k
    reply-same e rest (Stopped d) (Stopped c) k w = tt

    event-same : (e : Event (List Cell)) → step_of symbols prog r.machine ≡ Asks e → (answers : List (Reply (List Cell) Cell)) → r.answers ≡ answers → BothRun (after_event symbols prog r e answers) (after_event symbols prog second e answers)
    event-same e asked [] f = tt
    event-same e asked (a ∷ rest) f = reply-same e rest _ _ (step-agrees around at prog functions r.machine t agrees i is (Some a)) (step-well number stack prog t its-words has (Some a) (fits e a rest asked f))

    outcome-same : (x y : Outcome Placed (List Cell) Cell P) → step_of symbols prog r.machine ≡ x → SameOutcome (AgreeThere around at) AgreeBeside x y → GoesOnWell number stack y → BothRun (after_step symbols prog r x) (after_step symbols prog second y)
    outcome-same (Moved n) (Moved q) e k w = record {
      events = refl;
      answers = refl;
      ending = refl;
      agrees = subst (λ z. Agreeing z n q) (sym goes) k;
      well = subst (λ z. IsWell z q) (sym goes) w;
    }
    outcome-same (Moved n) (Asks f) e k w = absurd k
    outcome-same (Moved n) (Ended q z) e k w = absurd k
    outcome-same (Moved n) (Stopped c) e k w = absurd k
    outcome-same (Asks d) (Moved q) e k w = absurd k
    outcome-same (Asks d) (Asks f) e k w = subst (λ g. BothRun (after_event symbols prog r d r.answers) (after_event symbols prog second g r.answers)) k (event-same d e r.answers refl)
    outcome-same (Asks d) (Ended q z) e k w = absurd k
    outcome-same (Asks d) (Stopped c) e k w = absurd k
    outcome-same (Ended n y) (Moved q) e k w = absurd k
    outcome-same (Ended n y) (Asks f) e k w = absurd k
    outcome-same (Ended n y) (Ended q z) e k w = record { events = refl; answers = refl; ending = ap (λ v. Some v) k.0; agrees = k.1; well = tt }
    outcome-same (Ended n y) (Stopped c) e k w = absurd k
    outcome-same (Stopped d) (Moved q) e k w = absurd k
    outcome-same (Stopped d) (Asks f) e k w = absurd k
    outcome-same (Stopped d) (Ended q z) e k w = absurd k
    outcome-same (Stopped d) (Stopped c) e k w = tt

    pub advance-same : BothRun (advance symbols prog r) (advance symbols prog second)
    advance-same =
        subst (λ z. BothRun (one_more symbols prog r z) (one_more symbols prog second z)) (sym goes)
        (outcome-same (step_of symbols prog r.machine) (step_of symbols prog t) refl (step-agrees around at prog functions r.machine t agrees i is None) (step-well number stack prog t its-words has None tt))

-- what the second asks the first does
pub asked-too : {P : Type 0} (Next Last : Machine Placed (List Cell) Cell P → Machine Placed (List Cell) Cell P → Type 0) (x y : Outcome Placed (List Cell) Cell P) (e : Event (List Cell)) → SameOutcome Next Last x y → y ≡ Asks e → x ≡ Asks e
asked-too Next Last (Asks d) (Asks f) e k is = ap (λ g. Asks g) k ∙ is
asked-too Next Last (Moved n) (Asks f) e k is = absurd k
asked-too Next Last (Ended n y) (Asks f) e k is = absurd k
asked-too Next Last (Stopped c) (Asks f) e k is = absurd k
asked-too Next Last x (Moved q) e k is = cc
asked-too Next Last x (Ended q z) e k is = cc
asked-too Next Last x (Stopped c) e k is = cc

-- ---- answers beside a spare region

module _ {E F : Type 0} (Byte : E → F → Type 0) (region : ℕ) (kept : List F) where
  writes-miss : (us : List (Place × List E)) (vs : List (Place × List F)) → All (λ write. write.0.region ≡ region → length write.1 ≡ 0) us → Both (WriteStands Byte None) us vs → Both (WriteStands Byte (Some (region, kept))) us vs
  writes-miss [] [] h k = tt
  writes-miss [] (v ∷ vs) h k = k
  writes-miss (u ∷ us) [] h k = k
  writes-miss (u ∷ us) (v ∷ vs) h k = (
    record { place = k.0.place; bytes = k.0.bytes; misses = All-head (λ write. write.0.region ≡ region → length write.1 ≡ 0) u us h },
    writes-miss us vs (All-tail (λ write. write.0.region ≡ region → length write.1 ≡ 0) u us h) k.1,
  )

  pub reply-beside : {V U : Type 0} (R : V → U → Type 0) (room room' : Room) (r : Reply V E) (q : Reply U F) → room ≡ room' → All (λ write. write.0.region ≡ region → length write.1 ≡ 0) r.writes → ReplyStands R Byte None room r q → ReplyStands R Byte (Some (region, kept)) room' r q
  reply-beside R room room' r q same fits k =
      subst (λ x. ReplyStands R Byte (Some (region, kept)) x r q) same
      (record {
        result = k.result;
        scratch = k.scratch;
        writes = writes-miss (writes_outside room r.writes) (writes_outside room q.writes) (All-filter (λ write. not (is_under room write)) (λ write. write.0.region ≡ region → length write.1 ≡ 0) r.writes fits) k.writes;
        under = k.under;
        fresh = k.fresh;
        ending = k.ending;
      })
