-- A program with probes does what the program over words does, and its counters hold how often leaders were entered.
use Rattle.std.proofs.Common.{◌≡◌, ℕ, zero, suc, ◌+◌, ◌<◌, ◌^◌, List, [], ◌∷◌, ◌++◌, length, take, drop, replicate, slice_get, Option, Some, None, Ok, Err, Bool, true, false, refl, sym, ap, subst, ◌∙◌, arith, append_assoc, length-append}
use Rattle.std.specs.Prelude.{option_and_then, if◌then◌else◌}
use Rattle.std.specs.Option.{option_map_or}
use Rattle.rw_base.proofs.Lists.{slice_get-append_left}
use Rattle.x86_insn.specs.declared.kinds.Plain.TheVariants.{Endbr64}
use Rattle.x86_insn.specs.declared.instruction.Insn.{Insn}
use Rattle.x86_insn.specs.declared.instruction.Insn.TheVariants.{Plain}
use Rattle.x86_insn.specs.declared.kinds.Reg.{Reg}
use Rattle.x86_insn.specs.declared.kinds.Reg.TheVariants.{Rsp}
use Rattle.x86_meaning.specs.declared.sets.Flag.{Flag}
use Rattle.rw_words.specs.declared.atom.Atom.{Atom}
use Rattle.rw_words.specs.declared.atom.Atom.TheVariants.{Ptr}
use Rattle.rw_words.specs.declared.atom.Cell.{Cell}
use Rattle.rw_words.specs.Addresses.{Addresses}
use Rattle.rw_domain.specs.declared.cause.Cause.TheVariants.{StackLow, TargetUnknown}
use Rattle.rw_domain.specs.declared.place.Place.{Place}
use Rattle.rw_domain.specs.declared.place.Region.{Region}
use Rattle.rw_domain.specs.Placed.{Placed}
use Rattle.rw_domain.specs.declared.place.Access.TheVariants.{Write}
use Rattle.rw_domain.specs.NumberPlaces.{numbers_over}
use Rattle.rw_domain.specs.RegionsLaidOut.{RegionsAreLaidOut}
use Rattle.rw_domain.specs.LaidOut.{AtomsAreLaidOut, KnownByteStands, WordStands}
use Rattle.rw_domain.specs.Stands.{Both}
use Rattle.rw_domain.specs.Symbols.{symbols_over}
use Rattle.rw_funcs.specs.Points.{Point, is_point, point_at}
use Rattle.rw_machine.specs.declared.ending as run_end
use Rattle.rw_machine.specs.Agree.{Agree}
use Rattle.rw_machine.specs.Correspond.{IsEmptyOverWords, RegionsCorrespond}
use Rattle.rw_machine.specs.Domains.{numbers, symbols}
use Rattle.rw_machine.specs.Events.{Event, Reply}
use Rattle.rw_machine.specs.Program.{Program}
use Rattle.rw_machine.specs.SameSteps.{SameOutcome}
use Rattle.rw_machine.specs.Stands.{EventStands, InsnFollows, MachineStands, OutcomeStands, ReplyStands, reply_room}
use Rattle.rw_machine.specs.Step.{Machine, Outcome, Moved, Asks, Ended, Stopped, fits_stack, insn_outcome, placed_with, settled_outcome, step_of, swept_machine}
use Rattle.rw_machine.proofs.StepCorresponds.{stepped-stands}
use Rattle.rw_machine.proofs.StepLaw.{domains-stand}
use Rattle.rw_live.specs.LiveSteps.{AgreeOnLive}
use Rattle.rw_live.proofs.WeakenedAgrees.{weakened-agrees}
use Rattle.rw_runs.specs.Correspond.{NumbersRun, WordsRun}
use Rattle.rw_runs.specs.Runs.{advance, after_step, all_added, cost_of, first_run, made, one_more, total}
use Rattle.rw_runs.specs.RunStands.{NearWhile, RepliesStand, RunFollows, RunStands}
use Rattle.rw_runs.proofs.Blocks.{from-follows}
use Rattle.rw_runs.proofs.Follows.{Uses, advance-follows}
use Rattle.rw_runs.proofs.Lists.{front-taken, get-front, got-behind}
use Rattle.rw_runs.proofs.Made.{made-before, made-more}
use Rattle.rw_runs.proofs.Used.{made-used}
use Rattle.rw_probe.specs.declared.form.Probe.{Probe}
use Rattle.rw_probe.specs.declared.form.Probe.TheVariants.{Inc, Dead, Spill}
use Rattle.rw_probe.specs.Forgetting.{HasFreeRoom, HasFreeRoomFor, HasStack, HasWords, counter_bytes, counter_place, forgotten, incremented, keeps, keeps_flag}
use Rattle.rw_probe.specs.Probes.{IsProbe, step_count}
use Rattle.rw_probe.specs.ProbedPrograms.{AreProbed, HasCounters, HasFunctions, PointStands, ProbeStands, ProbedProgramStands, StandsBare, StandsProbed, TestsPoint, is_endbr64}
use Rattle.rw_probe.specs.ProbedRuns.{AllFitBeside, FlagLivesThere, LivesThere, ProbedRunStands, StartsProbed, entries, probe_cost}
use Rattle.rw_probe.proofs.AgreesBehind.{AgreeBeside, AgreeThere, at-point, none-live, step-agrees}
use Rattle.rw_probe.proofs.Corresponded.{left-stands}
use Rattle.rw_probe.proofs.CounterPlaces.{with-all}
use Rattle.rw_probe.proofs.Endbr64.{probe-behind}
use Rattle.rw_probe.proofs.Entries.{counted_by, counts-are, counts-begin, entered-below, entered_after, length-counted, none-entered, one-entered}
use Rattle.rw_probe.proofs.ForgottenLasts.{forgotten-room, forgotten-stack, forgotten-words}
use Rattle.rw_probe.proofs.KeepsLive.{keeps-stack, still-agrees}
use Rattle.rw_probe.proofs.Lasting.{wide-from}
use Rattle.rw_probe.proofs.ProbedSteps.{Agreeing, BothRun, IsWell, advance-same, asked-too, reply-beside}
use Rattle.rw_probe.proofs.SameRoom.{same-room}
use Rattle.rw_probe.proofs.StandsOn.{stands-on}
use Rattle.rw_probe.proofs.StepLasts.{AnswerIsWide, GoesOnWell, step-well}

added-more : (d : Placed) (rs qs : List (Reply ℕ ℕ)) → all_added numbers d (rs ++ qs) ≡ all_added numbers (all_added numbers d rs) qs
added-more d [] qs = refl
added-more d (r ∷ rs) qs = added-more (placed_with numbers d r.fresh) rs qs

uses-more : {P O : Type 0} (first q y : NumbersRun O) (r x : WordsRun P) → Uses numbers first r q 0 → Uses numbers q x y (length r.events) → Uses numbers first x y 0
uses-more first q y r x h k =
    let before = h.count in
    let now = k.count in
    let size = length-append h.taken k.taken in
    record {
      taken = h.taken ++ k.taken;
      answers = h.answers ∙ ap (λ xs. h.taken ++ xs) k.answers ∙ sym (append_assoc h.taken k.taken y.answers);
      count = omega (arith, before, now, size);
      placed = k.placed ∙ ap (λ t. all_added numbers t k.taken) h.placed ∙ sym (added-more first.machine.placed h.taken k.taken);
    }

-- where answers bring regions
known-with : (known : Atom → Bool) (placed : Placed) (fresh : Option (Region × ℕ)) → known (Ptr placed.canary 0) ≡ true → known (Ptr (placed_with symbols placed fresh).canary 0) ≡ true
known-with known placed None h = h
known-with known placed (Some f) h = h

empty-with : (region : ℕ) (kept : List ℕ) (placed : Placed) (fresh : Option (Region × ℕ)) → IsEmptyOverWords (Some (region, kept)) placed → IsEmptyOverWords (Some (region, kept)) (placed_with symbols placed fresh)
empty-with region kept placed None h = h
empty-with region kept placed (Some f) h = (h.0, slice_get-append_left placed.regions (f.0 ∷ []) region h.0 h.1, h.2)

free-for : {P : Type 0} (m : Machine Placed (List Cell) Cell P) (probe : Probe) (saved : Place) → HasFreeRoom m saved → HasFreeRoomFor m probe saved
free-for m Inc saved h = tt
free-for m (Dead r) saved h = tt
free-for m Spill saved h = h

-- ---- endbr64 goes to the next point

abbrev Lands : {D V C P : Type 0} → P → Outcome D V C P → Type 0
Lands p (Moved n) = n.point ≡ p
Lands p (Asks e) = ⊥
Lands p (Ended n z) = ⊥
Lands p (Stopped c) = Unit {0}

module _ {P : Type 0} (prog : Program P ℕ (List Cell)) (t : Machine Placed (List Cell) Cell P) (is : prog.insn t.point ≡ Some (Plain Endbr64)) where
  abbrev marked : Outcome Placed (List Cell) Cell P
  marked = settled_outcome (symbols_over t.placed) (record t { point = prog.next t.point })

  mark-step : step_of symbols prog t ≡ settled_outcome (symbols_over t.placed) (record t { point = prog.next t.point })
  mark-step = ap (insn_outcome symbols (symbols_over t.placed) prog t None) is

  mark-lands : Lands (prog.next t.point) (step_of symbols prog t)
  mark-lands = subst (Lands (prog.next t.point)) (sym mark-step) (by (fits_stack (symbols_over t.placed) t.registers))
    where
      by : (u : Bool) → Lands (prog.next t.point) (if u then Moved (swept_machine (symbols_over t.placed) (record t { point = prog.next t.point })) else Stopped StackLow)
      by true = refl
      by false = tt

-- without its targets
abbrev aimless : {P : Type 0} → Program P ℕ (List Cell) → Program P ℕ (List Cell)
aimless prog = record prog { target = λ w. Err TargetUnknown }

aimless-follows : {P O R : Type 0} (Words : List Cell → ℕ → Type 0) (Near' : P → O → Type 0) (c : Program P ℕ (List Cell)) (d : Program O R ℕ) (p : P) (q : O) (i : Option (Insn ℕ)) (j : Option (Insn R)) → InsnFollows Words Near' c d p q i j → InsnFollows Words Near' (aimless c) d p q i j
aimless-follows Words Near' c d p q None j h = tt
aimless-follows Words Near' c d p q (Some i) None h = h
aimless-follows Words Near' c d p q (Some i) (Some j) h = record { micro = h.micro; reference = h.reference; next = h.next; address = h.address }

pub is-mark : (i : Insn ℕ) → is_endbr64 i ≡ true → i ≡ Plain Endbr64
is-mark (Plain Endbr64) e = refl
is-mark _ e = cc

-- ---- runs

module _ {P O R : Type 0} (l : Addresses) (known : Atom → Bool) (Named : ℕ → ℕ → Type 0) (Label : P → O → Type 0) (c : Program P ℕ (List Cell)) (d : Program O R ℕ) (counter : ℕ → R) (probe_at : P → Option (ℕ × Probe))
    (around : ℕ → List Point) (at : ℕ → P) (is_there : ℕ → P → Bool) (leaders : List ℕ) (region : ℕ) (m : Machine Placed (List Cell) Cell P) (o : Machine Placed ℕ ℕ O) (answers : List (Reply (List Cell) Cell)) (replies : List (Reply ℕ ℕ))
    (atoms : AtomsAreLaidOut l known) (programs : ProbedProgramStands (WordStands l known) Named Label c d counter probe_at) (functions : HasFunctions around at c) (probed : AreProbed around at leaders probe_at) (tests : TestsPoint at is_there)
    (starts : StartsProbed m) (counters : HasCounters d counter region (length leaders) o.placed) (fits : AllFitBeside region c m answers)
    (stand : RepliesStand (WordStands l known) (KnownByteStands l known) None (RegionsAreLaidOut l) symbols numbers c m answers o.placed replies) where
  abbrev Words : List Cell → ℕ → Type 0
  Words a b = WordStands l known a b

  abbrev Bytes : Cell → ℕ → Type 0
  Bytes a b = KnownByteStands l known a b

  abbrev Laid : List ℕ → Placed → Placed → Type 0
  Laid kept words others = RegionsCorrespond l known (Some (region, kept)) words others

  abbrev Stand : List ℕ → (P → O → Type 0) → Machine Placed (List Cell) Cell P → Machine Placed ℕ ℕ O → Type 0
  Stand kept Near t n = MachineStands (WordStands l known) (KnownByteStands l known) (Some (region, kept)) (RegionsCorrespond l known (Some (region, kept))) Near t n

  abbrev Bare : P → O → Type 0
  Bare p q = StandsBare (WordStands l known) Named Label c d counter p q

  -- A run of the program with probes, with these bytes of counters: its machine stands for one of which less is known than of
  -- that of the run over words.
  pub record Reached (kept : List ℕ) (r : WordsRun P) (q : NumbersRun O) : Type 0 where
    pub t : Machine Placed (List Cell) Cell P
    pub stands : Stand kept (NearWhile r.ending Label) t q.machine
    pub agrees : Agreeing around at starts.number starts.stack r.ending r.machine t
    pub well : IsWell around at starts.number starts.stack r.ending t
    pub events : Both (EventStands (WordStands l known) Named) r.events q.events
    pub ending : r.ending ≡ q.ending
    pub used : Uses numbers (first_run o replies) r q 0

  -- ---- one step without its probe

  module _ (kept : List ℕ) (n : ℕ) (r : WordsRun P) (q : NumbersRun O) (t : Machine Placed (List Cell) Cell P) (goes : r.ending ≡ None) (first : made symbols c n (first_run m answers) ≡ Some r)
      (agrees : AgreeThere around at r.machine t) (events : Both (EventStands (WordStands l known) Named) r.events q.events) (ending : r.ending ≡ q.ending) (used : Uses numbers (first_run o replies) r q 0)
      (i : Insn ℕ) (is : c.insn r.machine.point ≡ Some i) where
    abbrev second : WordsRun P
    second = record r { machine = t }

    next-answer : (a : Reply (List Cell) Cell) (rest : List (Reply (List Cell) Cell)) → r.answers ≡ a ∷ rest → slice_get answers (length r.events) ≡ Some a
    next-answer a rest have = get-front (length r.events) answers rest a (sym (made-used symbols c m answers n r first) ∙ have)

    wide-answer : (e : Event (List Cell)) (a : Reply (List Cell) Cell) (rest : List (Reply (List Cell) Cell)) → step_of symbols c r.machine ≡ Asks e → r.answers ≡ a ∷ rest → AnswerIsWide (Some a)
    wide-answer e a rest asked have = let fit = fits n r e a first goes asked (next-answer a rest have) in (fit.result, wide-from a.scratch fit.scratch)

    relaid : (a : Reply (List Cell) Cell) (others : Placed) → Laid kept t.placed q.machine.placed → RegionsAreLaidOut l (placed_with symbols r.machine.placed a.fresh) others → Laid kept (placed_with symbols t.placed a.fresh) others
    relaid a others laid now = (
      record { atoms = atoms; known_canary = known-with known t.placed a.fresh laid.0.known_canary; laid = subst (λ p. RegionsAreLaidOut l (placed_with symbols p a.fresh) others) agrees.0.placed now },
      empty-with region kept t.placed a.fresh laid.1,
    )

    next-stands : Laid kept t.placed q.machine.placed → (e : Event (List Cell)) (a : Reply (List Cell) Cell) (rest : List (Reply (List Cell) Cell)) → r.ending ≡ None → step_of symbols c t ≡ Asks e → r.answers ≡ a ∷ rest
        → (b : Reply ℕ ℕ) × (others : List (Reply ℕ ℕ)) × (q.answers ≡ b ∷ others)
        × ReplyStands (WordStands l known) (KnownByteStands l known) (Some (region, kept)) (reply_room symbols c t a.ending) a b × Laid kept (placed_with symbols t.placed a.fresh) (placed_with numbers q.machine.placed b.fresh)
    next-stands laid e a rest going asked have =
        let asked_first : step_of symbols c r.machine ≡ Asks e = asked-too (AgreeThere around at) AgreeBeside _ _ e (step-agrees around at c functions r.machine t agrees i is None) asked in
        let given = next-answer a rest have in
        let taken = used.taken in
        let count = used.count in
        let same : length r.events ≡ length used.taken = omega (arith, count) in
        let other = stand n r e a first goes asked_first given in
        let fit = fits n r e a first goes asked_first given in
        let there : slice_get (used.taken ++ q.answers) (length used.taken) ≡ Some other.0 = ap (λ xs. slice_get xs (length used.taken)) (sym used.answers) ∙ ap (slice_get replies) (sym same) ∙ other.1 in
        let front : take (length r.events) replies ≡ used.taken = ap (λ k. take k replies) same ∙ ap (take (length used.taken)) used.answers ∙ front-taken used.taken q.answers in
        let placed : all_added numbers o.placed (take (length r.events) replies) ≡ q.machine.placed = ap (all_added numbers o.placed) front ∙ sym used.placed in
        let point = at-point around at c functions r.machine t agrees i is in
        let room = same-room (around point.0) at c functions.formed (functions.points point.0) r.machine t point.0 point.1 point.2 point.4 (agrees.1 point.0 point.2) a.ending in (
          other.0,
          drop 1 q.answers,
          got-behind used.taken q.answers other.0 there,
          reply-beside (KnownByteStands l known) region kept (WordStands l known) (reply_room symbols c r.machine a.ending) (reply_room symbols c t a.ending) a other.0 room fit.writes other.2,
          relaid a (placed_with numbers q.machine.placed other.0.fresh) laid (subst (λ x. RegionsAreLaidOut l (placed_with symbols r.machine.placed a.fresh) (placed_with numbers x other.0.fresh)) placed other.3),
        )

    together : (x y : Option (WordsRun P)) (z : Option (NumbersRun O)) → BothRun around at starts.number starts.stack x y
        → RunFollows (λ a b. RunStands (WordStands l known) (KnownByteStands l known) (Some (region, kept)) Named (RegionsCorrespond l known (Some (region, kept))) Label a b × Uses numbers q a b (length r.events)) y z
        → RunFollows (Reached kept) x z
    together None None z same follows = tt
    together None (Some y) z same follows = absurd same
    together (Some x) None z same follows = absurd same
    together (Some x) (Some y) None same follows = absurd follows
    together (Some x) (Some y) (Some z) same follows = record {
      t = y.machine;
      stands = subst (λ end. Stand kept (NearWhile end Label) y.machine z.machine) (sym same.ending) follows.0.machine;
      agrees = same.agrees;
      well = subst (λ end. IsWell around at starts.number starts.stack end y.machine) (sym same.ending) same.well;
      events = subst (λ es. Both (EventStands (WordStands l known) Named) es z.events) (sym same.events) follows.0.events;
      ending = same.ending ∙ follows.0.ending;
      used = uses-more (first_run o replies) q z r x used (record { taken = follows.1.taken; answers = follows.1.answers; count = ap length same.events ∙ follows.1.count; placed = follows.1.placed });
    }

    pub plain-step : Stand kept Bare t q.machine → HasWords t → HasStack t starts.number starts.stack → RunFollows (Reached kept) (advance symbols c r) (advance numbers d q)
    plain-step stands words has =
        together _ _ _ (advance-same around at starts.number starts.stack c functions r t goes agrees words has i is wide-answer)
        (advance-follows (WordStands l known) (KnownByteStands l known) (Some (region, kept)) Named (RegionsCorrespond l known (Some (region, kept))) Bare Label symbols numbers (domains-stand l known (Some (region, kept))) c d
        (record { insn = λ p b h. h; target = programs.target }) second q
        (record { machine = subst (λ end. Stand kept (NearWhile end Bare) t q.machine) (sym goes) stands; events = events; ending = ending }) (next-stands stands.placed))

  -- ---- a step with its probe

  abbrev counted : ℕ → List ℕ
  counted n = counted_by (entered_after c is_there (first_run m answers) n) leaders

  abbrev kept_after : ℕ → List ℕ
  kept_after n = counter_bytes (counted n)

  beside-forgotten : (probe : Probe) (s t : Machine Placed (List Cell) Cell P) → keeps probe Rsp ≡ true → AgreeBeside s t → AgreeBeside s (forgotten probe t)
  beside-forgotten probe s t e h =
      let w = weakened-agrees (keeps probe) (keeps_flag probe) t e in
      record {
        count = h.count ∙ w.count;
        stack = h.stack ∙ w.stack;
        registers = λ r v. absurd v;
        flags = λ x v. absurd v;
        memory = h.memory ∙ w.memory;
        placed = h.placed ∙ w.placed;
        point = h.point ∙ w.point;
      }

  module _ (n : ℕ) (r : WordsRun P) (q : NumbersRun O) (first : made symbols c n (first_run m answers) ≡ Some r) (h : Reached (kept_after n) r q) (goes : r.ending ≡ None) (i : Insn ℕ) (is : c.insn r.machine.point ≡ Some i) where
    agrees : AgreeThere around at r.machine h.t
    agrees = subst (λ z. Agreeing around at starts.number starts.stack z r.machine h.t) goes h.agrees

    well : HasWords h.t × HasStack h.t starts.number starts.stack × ((saved : Place) × HasFreeRoom h.t saved)
    well = subst (λ z. IsWell around at starts.number starts.stack z h.t) goes h.well

    stands : Stand (kept_after n) Label h.t q.machine
    stands = subst (λ z. Stand (kept_after n) (NearWhile z Label) h.t q.machine) goes h.stands

    with-point : (Near : P → O → Type 0) → Near h.t.point q.machine.point → Stand (kept_after n) Near h.t q.machine
    with-point Near near = record { registers = stands.registers; flags = stands.flags; memory = stands.memory; placed = stands.placed; point = near }

    label : Label r.machine.point q.machine.point
    label = subst (λ p. Label p q.machine.point) (sym agrees.0.point) stands.point

    going : q.ending ≡ None
    going = sym h.ending ∙ goes

    without-probe : probe_at r.machine.point ≡ None → Bare r.machine.point q.machine.point → RunFollows (Reached (kept_after (suc n))) (advance symbols c r) (advance numbers d q)
    without-probe none bare =
        subst (λ counts. RunFollows (Reached (counter_bytes counts)) (advance symbols c r) (advance numbers d q)) (sym (none-entered c is_there (first_run m answers) around at leaders probe_at probed tests n r first none))
        (plain-step (kept_after n) n r q h.t goes first agrees h.events h.ending h.used i is (with-point Bare (subst (λ p. Bare p q.machine.point) agrees.0.point bare)) well.0 well.1)

    module _ (k : ℕ) (probe : Probe) (e : probe_at r.machine.point ≡ Some (k, probe)) where
      entered : (k < length leaders) × (counted (suc n) ≡ incremented k (counted n))
      entered = one-entered c is_there (first_run m answers) around at leaders probe_at probed tests n r first k probe e

      low : k < length (counted n)
      low = let size = length-counted (entered_after c is_there (first_run m answers) n) leaders in let below = entered.0 in omega (arith, size, below)

      of : (a : ℕ) × (r.machine.point ≡ at a) × (slice_get leaders k ≡ Some a) × IsProbe (around a) a probe
      of = probed.probes r.machine.point k probe e

      stack_kept : keeps probe Rsp ≡ true
      stack_kept = keeps-stack (around of.0) of.0 probe of.3

      its-place : (placed : Placed) → placed ≡ q.machine.placed → (numbers_over placed).place (d.resolve (counter k) false) 8 Write ≡ Ok (counter_place region k)
      its-place placed same =
          (subst (HasCounters d counter region (length leaders)) (sym (same ∙ h.used.placed)) (with-all d counter region (length leaders) o.placed h.used.taken counters)).places k entered.0

      -- ---- before the instruction

      agrees-here : AgreeThere around at r.machine (forgotten probe h.t)
      agrees-here = (
        beside-forgotten probe r.machine h.t stack_kept agrees.0,
        λ b here. subst (λ a. AgreeOnLive (around a) a r.machine (forgotten probe h.t)) ((functions.points of.0).apart of.0 b (sym of.1 ∙ here)) (still-agrees (around of.0) of.0 probe r.machine h.t of.3 (agrees.1 of.0 of.1)),
      )

      before-insn : ProbeStands d counter (k, probe) q.machine.point (Bare r.machine.point) → RunFollows (Reached (kept_after (suc n))) (advance symbols c r) (made numbers d (suc (step_count probe)) q)
      before-insn there =
          let left =
          left-stands l known Label d (counter k) region k (counted n) h.t q low well.0 stands Bare probe well.2.0 there.behind there.insns going (its-place q.machine.placed refl) (free-for h.t probe well.2.0 well.2.1)
          (subst (λ p. Bare p there.behind) agrees.0.point there.then_holds) in
          let used : Uses numbers (first_run o replies) r (record q { machine = left.0 }) 0 = record { taken = h.used.taken; answers = h.used.answers; count = h.used.count; placed = left.3 ∙ h.used.placed } in
          subst (λ x. RunFollows (Reached (kept_after (suc n))) (advance symbols c r) x) (sym (ap (option_and_then (advance numbers d)) left.1))
          (subst (λ counts. RunFollows (Reached (counter_bytes counts)) (advance symbols c r) (advance numbers d (record q { machine = left.0 }))) (sym entered.1)
          (plain-step (counter_bytes (incremented k (counted n))) n r (record q { machine = left.0 }) (forgotten probe h.t) goes first agrees-here h.events h.ending used i is left.2 (forgotten-words h.t probe stack_kept well.0)
          (forgotten-stack h.t probe stack_kept starts.number starts.stack well.1)))

      -- ---- behind it, where that is endbr64

      module _ (mark : i ≡ Plain Endbr64) where
        abbrev Behind : P → O → Type 0
        Behind p b = ProbeStands d counter (k, probe) b (Label p)

        abbrev Before : P → O → Type 0
        Before p b = InsnFollows (WordStands l known) Behind c d p b (c.insn p) (d.insn b)

        point : (a : ℕ) × (p : Point) × (r.machine.point ≡ at a) × (is_point (around a) a ≡ true) × (point_at (around a) a ≡ Some p) × (p.insn ≡ i)
        point = at-point around at c functions r.machine h.t agrees i is

        probe-later : IsProbe (around point.0) (point.1.place + point.1.len) probe
        probe-later =
            probe-behind (around point.0) point.0 point.1 point.4 (point.5 ∙ mark) probe
            (subst (λ b. IsProbe (around b) b probe) ((functions.points of.0).apart of.0 point.0 (sym of.1 ∙ point.2)) of.3)

        agrees-later : (s t : Machine Placed (List Cell) Cell P) → s.point ≡ c.next (at point.0) → AgreeThere around at s t → AgreeThere around at s (forgotten probe t)
        agrees-later s t next k = (beside-forgotten probe s t stack_kept k.0, λ b here. by b here (is_point (around b) b) refl)
          where
            by : (b : ℕ) → s.point ≡ at b → (u : Bool) → is_point (around b) b ≡ u → AgreeOnLive (around b) b s (forgotten probe t)
            by b here false none = none-live around at (around b) b s (forgotten probe t) none (beside-forgotten probe s t stack_kept k.0)
            by b here true inside =
                let one = functions.next point.0 b point.3 inside (sym next ∙ here) in
                let there = (functions.points point.0).next point.0 b point.1 point.4 (sym next ∙ here) in
                still-agrees (around b) b probe s t (subst (λ ps. IsProbe ps b probe) (sym one) (subst (λ x. IsProbe (around point.0) x probe) (sym there) probe-later)) (k.1 b here)

        is-marked : c.insn h.t.point ≡ Some (Plain Endbr64)
        is-marked = sym (ap c.insn agrees.0.point) ∙ is ∙ ap Some mark

        abbrev LaidAs : Placed → Placed → Type 0
        LaidAs words others = (others ≡ q.machine.placed) × Laid (kept_after n) words others

        abbrev Outcomes : Outcome Placed (List Cell) Cell P → Outcome Placed ℕ ℕ O → Type 0
        Outcomes x y = OutcomeStands (WordStands l known) (KnownByteStands l known) (Some (region, kept_after n)) Named LaidAs Behind x y

        steps-stand : Before r.machine.point q.machine.point → Outcomes (step_of symbols c h.t) (step_of numbers d q.machine)
        steps-stand there =
            subst (λ x. Outcomes x (step_of numbers d q.machine)) (mark-step (aimless c) h.t is-marked ∙ sym (mark-step c h.t is-marked))
            (stepped-stands (WordStands l known) (KnownByteStands l known) (Some (region, kept_after n)) Named (RegionsCorrespond l known (Some (region, kept_after n))) LaidAs Before Behind symbols numbers (aimless c) d
            (record { insn = λ p b k. aimless-follows (WordStands l known) Behind c d p b (c.insn p) (d.insn b) k; target = λ a b k. tt }) (domains-stand l known (Some (region, kept_after n))) h.t q.machine
            (with-point Before (subst (λ p. Before p q.machine.point) agrees.0.point there)) None None tt (λ u. (refl, stands.placed)))

        -- the step goes on, and then its probe is made
        moved : (s t : Machine Placed (List Cell) Cell P) (z : Machine Placed ℕ ℕ O) → step_of numbers d q.machine ≡ Moved z → AgreeThere around at s t → t.point ≡ c.next h.t.point
            → HasWords t × HasStack t starts.number starts.stack × ((saved : Place) × HasFreeRoom t saved) → MachineStands (WordStands l known) (KnownByteStands l known) (Some (region, kept_after n)) LaidAs Behind t z
            → RunFollows (Reached (kept_after (suc n))) (Some (record r { machine = s })) (made numbers d (suc (step_count probe)) q)
        moved s t z does same lands goes_well there =
            let relaid : Stand (kept_after n) Behind t z = record { registers = there.registers; flags = there.flags; memory = there.memory; placed = there.placed.1; point = there.point } in
            let left =
            left-stands l known Behind d (counter k) region k (counted n) t (record q { machine = z }) low goes_well.0 relaid Label probe goes_well.2.0 there.point.behind there.point.insns going (its-place z.placed there.placed.0)
            (free-for t probe goes_well.2.0 goes_well.2.1) there.point.then_holds in
            let one : advance numbers d q ≡ Some (record q { machine = z }) = ap (one_more numbers d q) going ∙ ap (after_step numbers d q) does in
            let number : suc (step_count probe) ≡ 1 + step_count probe = omega arith in
            let all : made numbers d (suc (step_count probe)) q ≡ Some (record q { machine = left.0 }) =
            ap (λ x. made numbers d x q) number ∙ made-more numbers d 1 (step_count probe) q ∙ ap (option_and_then (made numbers d (step_count probe))) one ∙ left.1 in
            let next : s.point ≡ c.next (at point.0) = same.0.point ∙ lands ∙ ap c.next (sym agrees.0.point ∙ point.2) in
            subst (λ x. RunFollows (Reached (kept_after (suc n))) (Some (record r { machine = s })) x) (sym all)
            (subst (λ counts. Reached (counter_bytes counts) (record r { machine = s }) (record q { machine = left.0 })) (sym entered.1)
            (record {
              t = forgotten probe t;
              stands = subst (λ end. Stand (counter_bytes (incremented k (counted n))) (NearWhile end Label) (forgotten probe t) left.0) (sym goes) left.2;
              agrees = subst (λ end. Agreeing around at starts.number starts.stack end s (forgotten probe t)) (sym goes) (agrees-later s t next same);
              well = subst (λ end. IsWell around at starts.number starts.stack end (forgotten probe t)) (sym goes) (
                forgotten-words t probe stack_kept goes_well.0,
                forgotten-stack t probe stack_kept starts.number starts.stack goes_well.1,
                (goes_well.2.0, forgotten-room t probe stack_kept goes_well.2.0 goes_well.2.1),
              );
              events = h.events;
              ending = h.ending;
              used = record { taken = h.used.taken; answers = h.used.answers; count = h.used.count; placed = left.3 ∙ there.placed.0 ∙ h.used.placed };
            }))

        outcomes : (x y : Outcome Placed (List Cell) Cell P) (z : Outcome Placed ℕ ℕ O) → step_of numbers d q.machine ≡ z → SameOutcome (AgreeThere around at) AgreeBeside x y → Lands (c.next h.t.point) y
            → GoesOnWell starts.number starts.stack y → Outcomes y z → RunFollows (Reached (kept_after (suc n))) (after_step symbols c r x) (made numbers d (suc (step_count probe)) q)
        outcomes (Moved s) (Moved t) (Moved z) does same lands goes_well there = moved s t z does same lands goes_well there
        outcomes (Moved s) (Moved t) (Asks f) does same lands goes_well there = absurd there
        outcomes (Moved s) (Moved t) (Ended z w) does same lands goes_well there = absurd there
        outcomes (Moved s) (Moved t) (Stopped w) does same lands goes_well there = absurd there
        outcomes (Moved s) (Asks f) z does same lands goes_well there = absurd same
        outcomes (Moved s) (Ended t w) z does same lands goes_well there = absurd same
        outcomes (Moved s) (Stopped w) z does same lands goes_well there = absurd same
        outcomes (Asks f) (Moved t) z does same lands goes_well there = absurd same
        outcomes (Asks f) (Asks g) z does same lands goes_well there = absurd lands
        outcomes (Asks f) (Ended t w) z does same lands goes_well there = absurd same
        outcomes (Asks f) (Stopped w) z does same lands goes_well there = absurd same
        outcomes (Ended s w) (Moved t) z does same lands goes_well there = absurd same
        outcomes (Ended s w) (Asks g) z does same lands goes_well there = absurd same
        outcomes (Ended s w) (Ended t x) z does same lands goes_well there = absurd lands
        outcomes (Ended s w) (Stopped x) z does same lands goes_well there = absurd same
        outcomes (Stopped w) y z does same lands goes_well there = tt

        behind-insn : Before r.machine.point q.machine.point → RunFollows (Reached (kept_after (suc n))) (advance symbols c r) (made numbers d (suc (step_count probe)) q)
        behind-insn there =
            subst (λ end. RunFollows (Reached (kept_after (suc n))) (one_more symbols c r end) (made numbers d (suc (step_count probe)) q)) (sym goes)
            (outcomes (step_of symbols c r.machine) (step_of symbols c h.t) (step_of numbers d q.machine) refl (step-agrees around at c functions r.machine h.t agrees i is None) (mark-lands c h.t is-marked)
            (step-well starts.number starts.stack c h.t (record { count = well.0.count; wide = wide-from h.t.registers well.0.wide }) well.1 None tt) (steps-stand there))

      with-probe : (u : Bool) → is_endbr64 i ≡ u → StandsProbed (WordStands l known) Named Label c d counter (k, probe) u r.machine.point q.machine.point → RunFollows (Reached (kept_after (suc n))) (advance symbols c r) (made numbers d (suc (step_count probe)) q)
      with-probe false u there = before-insn there
      with-probe true u there = behind-insn (is-mark i u) there

    abbrev There : Option (ℕ × Probe) → Type 0
    There o = RunFollows (Reached (kept_after (suc n))) (advance symbols c r) (made numbers d (suc (option_map_or (λ f. step_count f.1) o 0)) q)

    by-probe : (f : Option (ℕ × Probe)) → probe_at r.machine.point ≡ f → There f
    by-probe None e = without-probe e (subst (λ f. PointStands (WordStands l known) Named Label c d counter f r.machine.point q.machine.point) e (programs.points r.machine.point q.machine.point label))
    by-probe (Some (k, probe)) e =
        with-probe k probe e (is_endbr64 i) refl
        (subst (λ j. StandsProbed (WordStands l known) Named Label c d counter (k, probe) (option_map_or is_endbr64 j false) r.machine.point q.machine.point) is
        (subst (λ f. PointStands (WordStands l known) Named Label c d counter f r.machine.point q.machine.point) e (programs.points r.machine.point q.machine.point label)))

  block : (n : ℕ) (r : WordsRun P) (q : NumbersRun O) → made symbols c n (first_run m answers) ≡ Some r → Reached (kept_after n) r q
      → RunFollows (Reached (kept_after (suc n))) (advance symbols c r) (made numbers d (suc (probe_cost probe_at r)) q)
  block n r q first h = by_end r.ending refl
    where
      by_insn : r.ending ≡ None → (i : Option (Insn ℕ)) → c.insn r.machine.point ≡ i → RunFollows (Reached (kept_after (suc n))) (advance symbols c r) (made numbers d (suc (probe_cost probe_at r)) q)
      by_insn goes None e =
          subst (λ x. RunFollows (Reached (kept_after (suc n))) x (made numbers d (suc (probe_cost probe_at r)) q))
          (sym (ap (one_more symbols c r) goes ∙ ap (λ j. after_step symbols c r (insn_outcome symbols (symbols_over r.machine.placed) c r.machine None j)) e)) tt
      by_insn goes (Some i) e = by-probe n r q first h goes i e (probe_at r.machine.point) refl

      by_end : (z : Option run_end.End.End) → r.ending ≡ z → RunFollows (Reached (kept_after (suc n))) (advance symbols c r) (made numbers d (suc (probe_cost probe_at r)) q)
      by_end None e = by_insn e (c.insn r.machine.point) refl
      by_end (Some z) e = subst (λ end. RunFollows (Reached (kept_after (suc n))) (one_more symbols c r end) (made numbers d (suc (probe_cost probe_at r)) q)) (sym e) tt

  -- ---- n steps

  module _ (begins : Reached (kept_after 0) (first_run m answers) (first_run o replies)) where
    pub runs-reach : (n : ℕ) (run : WordsRun P) → made symbols c n (first_run m answers) ≡ Some run
        → (other : NumbersRun O) × (made numbers d (total symbols c (probe_cost probe_at) n (first_run m answers)) (first_run o replies) ≡ Some other) × Reached (kept_after n) run other
    runs-reach zero run e = (first_run o replies, refl, (let same : first_run m answers ≡ run = cc in subst (λ x. Reached (kept_after 0) x (first_run o replies)) same begins))
    runs-reach (suc n) run e =
        let before = made-before symbols c n (first_run m answers) run e in
        let found = runs-reach n before.0 before.1 in
        let next = from-follows (Reached (kept_after (suc n))) _ _ run (block n before.0 found.0 before.1 found.2) before.2 in
        let all : made numbers d (total symbols c (probe_cost probe_at) (suc n) (first_run m answers)) (first_run o replies) ≡ Some next.0 =
        ap (λ x. made numbers d (total symbols c (probe_cost probe_at) n (first_run m answers) + cost_of symbols c (probe_cost probe_at) x) (first_run o replies)) before.1
        ∙ made-more numbers d (total symbols c (probe_cost probe_at) n (first_run m answers)) (suc (probe_cost probe_at before.0)) (first_run o replies)
        ∙ ap (option_and_then (made numbers d (suc (probe_cost probe_at before.0)))) found.1 ∙ next.1 in
        (next.0, all, next.2)

-- ---- what is live stands

beside-of : {P : Type 0} (around : ℕ → List Point) (at : ℕ → P) (number : ℕ) (stack : Region) (z : Option run_end.End.End) (s t : Machine Placed (List Cell) Cell P) → Agreeing around at number stack z s t → AgreeBeside s t
beside-of around at number stack None s t h = h.0
beside-of around at number stack (Some z) s t h = h

module _ {P : Type 0} (around : ℕ → List Point) (at : ℕ → P) (number : ℕ) (stack : Region) (run : WordsRun P) (t : Machine Placed (List Cell) Cell P) where
  agrees-live : (z : Option run_end.End.End) → run.ending ≡ z → Agreeing around at number stack z run.machine t → Agree (LivesThere around at run) (FlagLivesThere around at run) run.machine t
  agrees-live None e h = record {
    count = h.0.count;
    stack = h.0.stack;
    registers = λ r live. (h.1 live.1.0 live.1.1).registers r live.1.2;
    flags = λ x live. (h.1 live.1.0 live.1.1).flags x live.1.2;
    memory = h.0.memory;
    placed = h.0.placed;
    point = h.0.point;
  }
  agrees-live (Some z) e h = record {
    count = h.count;
    stack = h.stack;
    registers = λ r live. absurd (let never : None ≡ Some z = sym live.0 ∙ e in cc);
    flags = λ x live. absurd (let never : None ≡ Some z = sym live.0 ∙ e in cc);
    memory = h.memory;
    placed = h.placed;
    point = h.point;
  }

agrees-itself : {P : Type 0} (on : Reg → Type 0) (and_on : Flag → Type 0) (m : Machine Placed (List Cell) Cell P) → Agree on and_on m m
agrees-itself on and_on m = record { count = refl; stack = refl; registers = λ r k. refl; flags = λ x k. refl; memory = refl; placed = refl; point = refl }

-- ---- the law

pub probed-runs-stand : {P O R : Type 0} (l : Addresses) (known : Atom → Bool) (Named : ℕ → ℕ → Type 0) (Label : P → O → Type 0) (c : Program P ℕ (List Cell)) (d : Program O R ℕ) (counter : ℕ → R) (probe_at : P → Option (ℕ × Probe))
    (around : ℕ → List Point) (at : ℕ → P) (is_there : ℕ → P → Bool) (leaders : List ℕ) (region : ℕ) (m : Machine Placed (List Cell) Cell P) (o : Machine Placed ℕ ℕ O) (answers : List (Reply (List Cell) Cell)) (replies : List (Reply ℕ ℕ))
    → AtomsAreLaidOut l known → known (Ptr m.placed.canary 0) ≡ true → ProbedProgramStands (WordStands l known) Named Label c d counter probe_at
    → HasFunctions around at c → AreProbed around at leaders probe_at → TestsPoint at is_there → StartsProbed m → HasCounters d counter region (length leaders) o.placed
    → (r : Region) × (slice_get m.placed.regions region ≡ Some r) × (r.size ≡ 0)
    → MachineStands (WordStands l known) (KnownByteStands l known) (Some (region, counter_bytes (replicate (length leaders) 0))) (RegionsAreLaidOut l) Label m o
    → AllFitBeside region c m answers → RepliesStand (WordStands l known) (KnownByteStands l known) None (RegionsAreLaidOut l) symbols numbers c m answers o.placed replies
    → (n : ℕ) (run : WordsRun P) → n < 2 ^ 64 → made symbols c n (first_run m answers) ≡ Some run
    → (other : NumbersRun O) × (made numbers d (total symbols c (probe_cost probe_at) n (first_run m answers)) (first_run o replies) ≡ Some other)
    × ProbedRunStands (WordStands l known) (KnownByteStands l known) (Some (region, counter_bytes (entries is_there leaders c n (first_run m answers)))) Named (RegionsAreLaidOut l) Label around at run other
probed-runs-stand {P} {O} l known Named Label c d counter probe_at around at is_there leaders region m o answers replies atoms canary programs functions probed tests starts counters empty first fits stand n run small is_made =
    let none : counted_by (entered_after c is_there (first_run m answers) 0) leaders ≡ replicate (length leaders) 0 = counts-begin (entered_after c is_there (first_run m answers) 0) leaders (λ a. refl) in
    let found =
    runs-reach l known Named Label c d counter probe_at around at is_there leaders region m o answers replies atoms programs functions probed tests starts counters fits stand
    (record {
      t = m;
      stands = subst (λ counts. MachineStands (WordStands l known) (KnownByteStands l known) (Some (region, counter_bytes counts)) (RegionsCorrespond l known (Some (region, counter_bytes counts))) Label m o) (sym none)
          (record {
            registers = first.registers;
            flags = first.flags;
            memory = first.memory;
            placed = (record { atoms = atoms; known_canary = canary; laid = first.placed }, empty);
            point = first.point;
          });
      agrees = (agrees-itself (λ r. ⊥) (λ x. ⊥) m, λ a e. agrees-itself _ _ m);
      well = (starts.words, starts.has_stack, (starts.saved, starts.room));
      events = tt;
      ending = refl;
      used = record { taken = []; answers = refl; count = refl; placed = refl };
    }) n run is_made in
    let h = found.2 in
    let counts : counted_by (entered_after c is_there (first_run m answers) n) leaders ≡ entries is_there leaders c n (first_run m answers) =
    counts-are (entered_after c is_there (first_run m answers) n) leaders (λ a. let below = entered-below c is_there (first_run m answers) n a in omega (arith, below, small)) in
    let beside = beside-of around at starts.number starts.stack run.ending run.machine found.2.t found.2.agrees in (
      found.0,
      found.1,
      subst
          (λ counters_now. ProbedRunStands (WordStands l known) (KnownByteStands l known) (Some (region, counter_bytes counters_now)) Named (RegionsAreLaidOut l) Label around at run found.0) counts
          (record {
            machine = stands-on l known region (counter_bytes (counted_by (entered_after c is_there (first_run m answers) n) leaders)) (NearWhile run.ending Label) (LivesThere around at run) (FlagLivesThere around at run) run.machine found.2.t found.0.machine
                (agrees-live around at starts.number starts.stack run found.2.t run.ending refl found.2.agrees) found.2.stands;
            point = subst (λ p. NearWhile run.ending Label p found.0.machine.point) (sym beside.point) found.2.stands.point;
            events = found.2.events;
            ending = found.2.ending;
          }),
    )
