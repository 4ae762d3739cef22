-- A file whose symbolic machine asks once, for exit with a number, exits with it; so does each program that mirrors it.
use Rattle.std.proofs.Common.{◌≡◌, ◌⊎◌, inl, inr, ℕ, zero, suc, ◌+◌, ◌-◌, ◌^◌, ◌<◌, ◌≤◌, List, [], ◌∷◌, length, map, take, Option, Some, None, Bool, true, false, not, refl, sym, ap, subst, ◌∙◌, arith, lit<}
use Rattle.std.specs.Prelude.{option_map, replicate, slice_get, slice_index, slice_index_or}
use Rattle.std.proofs.lemmas.Bool.{cases_lt}
use Rattle.std.proofs.lemmas.List.Elements.{All-nil}
use Rattle.rw_base.specs.declared.width.Width.TheVariants.{Q}
use Rattle.rw_words.specs.declared.atom.Atom.{Atom}
use Rattle.rw_words.specs.declared.atom.Cell.{Cell}
use Rattle.rw_words.specs.declared.kind.Kind.{Kind}
use Rattle.rw_words.specs.declared.kind.Kind.TheVariants.{Number}
use Rattle.rw_words.specs.Addresses.{Addresses, CellsStand}
use Rattle.rw_words.specs.Kinds.{kind_of, KindStands}
use Rattle.rw_words.proofs.WordLemmas.{kind-stands}
use Rattle.rw_domain.specs.Placed.{Placed}
use Rattle.rw_domain.specs.Stands.{Both}
use Rattle.rw_domain.specs.LaidOut.{WordStands}
use Rattle.rw_domain.specs.RegionsLaidOut.{ByteStands, RegionsAreLaidOut}
use Rattle.rw_domain.proofs.WordsStand.{any-stands, fitting-stands}
use Rattle.rw_machine.specs.declared.ending.End.{End}
use Rattle.rw_machine.specs.declared.ending.End.TheVariants.{Exited}
use Rattle.rw_machine.specs.Program.{Program}
use Rattle.rw_machine.specs.Events.{Call, System, Import, Event, Reply}
use Rattle.rw_machine.specs.Step.{Machine, Asks, placed_with, step_of}
use Rattle.rw_machine.specs.Stands.{Room, CallStands, EventStands, ReplyStands, reply_room}
use Rattle.rw_machine.specs.Domains.{symbols, numbers}
use Rattle.rw_machine.proofs.StepCorresponds.{asks}
use Rattle.rw_runs.specs.Runs.{first_run, all_added, made, total}
use Rattle.rw_runs.specs.RunStands.{RepliesStand}
use Rattle.rw_runs.specs.Correspond.{NumbersRun}
use Rattle.rw_runs.proofs.RunLaw.{total-steps}
use Rattle.rw_code.specs.declared.point.FilePoint.{FilePoint}
use Rattle.rw_code.specs.Ground.{Ground}
use Rattle.rw_code.specs.Known.{Labels, has_address}
use Rattle.rw_code.specs.Replies.{IsWrite, IsLawful, AreLawful}
use Rattle.rw_code.specs.Start.{Start, words_placed, words_start}
use Rattle.rw_code.specs.File.{labels_of, symbolic}
use Rattle.rw_code.specs.Mirrors.{SymbolicRun, Alike, Mirrors, no_cost}
use Rattle.rw_code.proofs.ExampleRuns.{said, there, call_of}
use Rattle.rw_out_examples.specs.DataExample.{exits_with, exits_too_with, ExitsWith}
use Rattle.rw_out_examples.proofs.Made.{none-after, part-of, seen, seen-at}

module _ (prog : Program FilePoint ℕ (List Cell)) (m : Machine Placed (List Cell) Cell FilePoint) (n v : ℕ) where
  abbrev pub run_to : ℕ → Option SymbolicRun
  run_to k = made symbols prog k (first_run m (exits_with v ∷ []))

  abbrev pub is_quiet : Option SymbolicRun → Bool
  is_quiet None = false
  is_quiet (Some run) = not (asks (step_of symbols prog run.machine))

  -- It makes n steps that don't ask, and then asks for exit with the number.
  pub record ExitsAfter : Type 0 where
    pub quiet : (k : ℕ) → k < n → is_quiet (run_to k) ≡ true
    pub none_so_far : option_map (λ run. length run.events) (run_to n) ≡ Some 0
    pub placed_there : option_map (λ run. run.machine.placed) (run_to n) ≡ Some m.placed
    pub call_there : option_map (λ run. call_of (step_of symbols prog run.machine)) (run_to n) ≡ Some (Some (System 60))
    pub ends : option_map {U = Option End} (λ run. run.ending) (run_to (suc n)) ≡ Some (Some (Exited v))
    pub told : option_map {U = List (Call × Kind)} (λ run. map {B = Call × Kind} (λ event. (event.call, kind_of (slice_index_or event.words 0 []))) run.events) (run_to (suc n)) ≡ Some ((System 60, Number v) ∷ [])

  -- It is enough to look at each step from the one before it, and once at the last two.
  abbrev Asking : Type 0
  Asking = ℕ × Placed × Option Call

  abbrev pub asking_of : SymbolicRun → Asking
  asking_of run = (length run.events, run.machine.placed, call_of (step_of symbols prog run.machine))

  abbrev Ended : Type 0
  Ended = Option End × List (Call × Kind)

  abbrev pub ended_of : SymbolicRun → Ended
  ended_of run = (run.ending, map {B = Call × Kind} (λ event. (event.call, kind_of (slice_index_or event.words 0 []))) run.events)

  pub exits-by-steps : seen prog is_quiet n (run_to 0) ≡ replicate n true → option_map asking_of (run_to n) ≡ Some (0, m.placed, Some (System 60)) → option_map ended_of (run_to (suc n)) ≡ Some (Some (Exited v), (System 60, Number v) ∷ []) → ExitsAfter
  exits-by-steps quiet asking ended = record {
    quiet = λ k low. (let same : 0 + k ≡ k = omega arith in subst (λ i. is_quiet (run_to i) ≡ true) same (seen-at prog is_quiet true (first_run m (exits_with v ∷ [])) n 0 k quiet low));
    none_so_far = part-of asking_of (λ x. x.0) (run_to n) (0, m.placed, Some (System 60)) asking;
    placed_there = part-of asking_of (λ x. x.1) (run_to n) (0, m.placed, Some (System 60)) asking;
    call_there = part-of asking_of (λ x. x.2) (run_to n) (0, m.placed, Some (System 60)) asking;
    ends = part-of ended_of (λ x. x.0) (run_to (suc n)) (Some (Exited v), (System 60, Number v) ∷ []) ended;
    told = part-of ended_of (λ x. x.1) (run_to (suc n)) (Some (Exited v), (System 60, Number v) ∷ []) ended;
  }

  module _ (h : ExitsAfter) where
    -- where it asks, it has had no answer, its regions are those of the start, and it asks for system call 60
    record AsksFirst (run : SymbolicRun) (event : Event (List Cell)) : Type 0 where
      events : length run.events ≡ 0
      placed : run.machine.placed ≡ m.placed
      call : event.call ≡ System 60

    asks-first : (k : ℕ) (run : SymbolicRun) (event : Event (List Cell)) → run_to k ≡ Some run → run.ending ≡ None → step_of symbols prog run.machine ≡ Asks event → AsksFirst run event
    asks-first k run event e goes asked = by (cases_lt k n)
      where
        is-quiet : k < n → AsksFirst run event
        is-quiet low =
            let quiet : not (asks (step_of symbols prog run.machine)) ≡ true = subst (λ o. is_quiet o ≡ true) e (h.quiet k low) in
            let does : not true ≡ true = ap not (sym (ap asks asked)) ∙ quiet in absurd (let f : false ≡ true = does in cc)

        late : (j : ℕ) → k ≡ suc (suc n + j) → AsksFirst run event
        late j same = let none = sym e ∙ ap run_to same ∙ none-after prog (first_run m (exits_with v ∷ [])) (suc n) (Exited v) h.ends j in absurd (let f : Some run ≡ None = none in cc)

        exact : k ≡ n → AsksFirst run event
        exact same =
            let at : run_to n ≡ Some run = ap run_to (sym same) ∙ e in
            record {
              events = said (λ run. length run.events) (run_to n) 0 run h.none_so_far at;
              placed = said (λ run. run.machine.placed) (run_to n) m.placed run h.placed_there at;
              call = (let is = said (λ run. call_of (step_of symbols prog run.machine)) (run_to n) (Some (System 60)) run h.call_there at in let both : Some event.call ≡ Some (System 60) = sym (ap call_of asked) ∙ is in cc);
            }

        next : k ≡ suc n → AsksFirst run event
        next same =
            let ended : run.ending ≡ Some (Exited v) = said (λ run. run.ending) (run_to (suc n)) (Some (Exited v)) run h.ends (ap run_to (sym same) ∙ e) in
            absurd (let f : None ≡ Some (Exited v) = sym goes ∙ ended in cc)

        more : n ≤ k → (k < suc n) ⊎ (suc n ≤ k) → AsksFirst run event
        more low (inl high) = exact (omega (arith, low, high))
        more low (inr high) = further high (cases_lt k (suc (suc n)))
          where
            further : suc n ≤ k → (k < suc (suc n)) ⊎ (suc (suc n) ≤ k) → AsksFirst run event
            further low (inl high) = next (omega (arith, low, high))
            further low (inr high) = late (k - (suc (suc n))) (omega (arith, high))

        by : (k < n) ⊎ (n ≤ k) → AsksFirst run event
        by (inl low) = is-quiet low
        by (inr high) = more high (cases_lt k (suc n))

    reply-stands : (l : Addresses) (room : Room) → ReplyStands (CellsStand l) (ByteStands l) None room (exits_with v) (exits_too_with v)
    reply-stands l room = record {
      result = fitting-stands l Q 0 (lit< tt);
      scratch = (any-stands l Q 0 (lit< tt), (any-stands l Q 0 (lit< tt), tt));
      writes = tt;
      under = λ k d inside. absurd (omega (arith, inside));
      fresh = tt;
      ending = refl;
    }

    only : (r : Reply (List Cell) Cell) (i : ℕ) → i ≡ 0 → slice_get (exits_with v ∷ []) i ≡ Some r → exits_with v ≡ r
    only r zero g e = cc
    only r (suc i) g e = absurd (omega (arith, g))

    exit-lawful : (labels : Labels) (placed : Placed) → v < 256 → IsLawful labels placed (System 60) (exits_with v)
    exit-lawful labels placed small =
        record { wide = refl; cells = (tt, (tt, (tt, (tt, (tt, (tt, (tt, (tt, tt)))))))); scratch = refl; writes = All-nil (IsWrite labels placed); fresh = tt; ending = small }

    lawful : v < 256 → (labels : Labels) → AreLawful labels prog m (exits_with v ∷ [])
    lawful small labels =
        λ k run event r e goes asked is.
        let at = asks-first k run event e goes asked in
        subst (IsLawful labels run.machine.placed event.call) (only r (length run.events) at.events is)
        (subst (λ call. IsLawful labels run.machine.placed call (exits_with v)) (sym at.call) (exit-lawful labels run.machine.placed small))

    answers-stand : (l : Addresses) (placed : Placed) → RegionsAreLaidOut l m.placed placed → RepliesStand (CellsStand l) (ByteStands l) None (RegionsAreLaidOut l) symbols numbers prog m (exits_with v ∷ []) placed (exits_too_with v ∷ [])
    answers-stand l placed laid =
        λ k run event r e goes asked is.
        let at = asks-first k run event e goes asked in (
          exits_too_with v,
          ap (slice_get (exits_too_with v ∷ [])) at.events,
          subst (λ x. ReplyStands (CellsStand l) (ByteStands l) None (reply_room symbols prog run.machine x.ending) x (exits_too_with v)) (only r (length run.events) at.events is) (reply-stands l (reply_room symbols prog run.machine (Some (Exited v)))),
          subst (λ x. RegionsAreLaidOut l (placed_with symbols run.machine.placed x.fresh) (all_added numbers placed (take (length run.events) (exits_too_with v ∷ [])))) (only r (length run.events) at.events is)
              (subst (λ i. RegionsAreLaidOut l run.machine.placed (all_added numbers placed (take i (exits_too_with v ∷ [])))) (sym at.events) (subst (λ d. RegionsAreLaidOut l d placed) (sym at.placed) laid)),
        )

-- ---- the theorem at work

pub one-event : (l : Addresses) (known : Atom → Bool) (Named : ℕ → ℕ → Type 0) (v : ℕ) (es : List (Event (List Cell))) (fs : List (Event ℕ)) → Both (EventStands (WordStands l known) Named) es fs
    → map {B = Call × Kind} (λ event. (event.call, kind_of (slice_index_or event.words 0 []))) es ≡ (System 60, Number v) ∷ [] → map {B = Call × ℕ} (λ event. (event.call, slice_index event.words 0)) fs ≡ (System 60, v) ∷ []
one-event l known Named v [] fs h e = cc
one-event l known Named v (a ∷ []) [] h e = absurd h
one-event l known Named v (a ∷ []) (b ∷ []) h e = by a.words b.words h.0.words is.1
  where
    is : (a.call ≡ System 60) × (kind_of (slice_index_or a.words 0 []) ≡ Number v)
    is =
        let head : ◌≡◌ {A = Call × Kind} (a.call, kind_of (slice_index_or a.words 0 [])) (System 60, Number v) = ap (λ xs. slice_index_or xs 0 (System 60, Number v)) e in
        (ap (λ x. x.0) head, ap (λ x. x.1) head)

    same_call : (c : Call) → CallStands Named (System 60) c → c ≡ System 60
    same_call (System j) g = ap System (sym g)
    same_call (Import j) g = absurd g

    call : b.call ≡ System 60
    call = same_call b.call (subst (λ c. CallStands Named c b.call) is.0 h.0.call)

    by : (x : List (List Cell)) (y : List ℕ) → Both (WordStands l known) x y → kind_of (slice_index_or x 0 []) ≡ Number v → ◌≡◌ {A = List (Call × ℕ)} ((b.call, slice_index y 0) ∷ []) ((System 60, v) ∷ [])
    by [] [] g k = let none : 0 ≡ v = cc in ap (λ c. (c, 0) ∷ []) call ∙ ap (λ z. (System 60, z) ∷ []) none
    by [] (y ∷ ys) g k = absurd g
    by (x ∷ xs) [] g k = absurd g
    by (x ∷ xs) (y ∷ ys) g k =
        let number : y ≡ v = subst (λ z. KindStands l z y) k (kind-stands l x y g.0.cells) in
        ap (λ c. (c, y) ∷ []) call ∙ ap (λ z. (System 60, z) ∷ []) number
one-event l known Named v (a ∷ []) (b ∷ c ∷ fs) h e = absurd h.1
one-event l known Named v (a ∷ d ∷ es) fs h e = cc

-- what a program that mirrors it does, where the machines begin
pub record Mirrored {P : Type 0} (prog : Program FilePoint ℕ (List Cell)) (m : Machine Placed (List Cell) Cell FilePoint) (n v : ℕ) (Makes : NumbersRun P → Type 0) (Same : SymbolicRun → NumbersRun P → Type 0) : Type 0 where
  pub run : SymbolicRun
  pub is_made : run_to prog m n v (suc n) ≡ Some run
  pub ending : run.ending ≡ Some (Exited v)
  pub asked : map {B = Call × Kind} (λ event. (event.call, kind_of (slice_index_or event.words 0 []))) run.events ≡ (System 60, Number v) ∷ []
  pub other : NumbersRun P
  pub makes : Makes other
  pub same : Same run other

pub mirrored : {R P : Type 0} (file : List ℕ) (file_ground : Ground) (start : Start) (n v : ℕ) → v < 256 → suc n < 2 ^ 64 → ExitsAfter (symbolic file) (words_start file_ground start) n v
    → (cost : SymbolicRun → ℕ) (other : Program P R ℕ) (l : Addresses) (Begin : Machine Placed ℕ ℕ P → Type 0) (Same : List (Reply (List Cell) Cell) → ℕ → SymbolicRun → NumbersRun P → Type 0)
    → Mirrors file file_ground start cost other l Begin Same
    → (machine : Machine Placed ℕ ℕ P) → Begin machine → RegionsAreLaidOut l (words_placed file_ground start) machine.placed
    → Mirrored (symbolic file) (words_start file_ground start) n v (λ run. made numbers other (total symbols (symbolic file) cost (suc n) (first_run (words_start file_ground start) (exits_with v ∷ []))) (first_run machine (exits_too_with v ∷ [])) ≡ Some run)
    (Same (exits_with v ∷ []) (suc n))
mirrored file file_ground start n v small few h cost other l Begin Same mirrors machine begins laid =
    let m = words_start file_ground start in
    let run = there (λ run. run.ending) (run_to (symbolic file) m n v (suc n)) (Some (Exited v)) h.ends in
    let found = mirrors (exits_with v ∷ []) (suc n) run.0 (lawful (symbolic file) m n v h small (labels_of file file_ground)) few run.1 machine (exits_too_with v ∷ []) begins (answers-stand (symbolic file) m n v h l machine.placed laid) in
    record {
      run = run.0;
      is_made = run.1;
      ending = said (λ run. run.ending) (run_to (symbolic file) m n v (suc n)) (Some (Exited v)) run.0 h.ends run.1;
      asked = said (λ run. map {B = Call × Kind} (λ event. (event.call, kind_of (slice_index_or event.words 0 []))) run.events) (run_to (symbolic file) m n v (suc n)) ((System 60, Number v) ∷ []) run.0 h.told run.1;
      other = found.0;
      makes = found.1;
      same = found.2;
    }

pub mirror-exits : {R P : Type 0} (file : List ℕ) (file_ground : Ground) (start : Start) (n v : ℕ) → v < 256 → suc n < 2 ^ 64 → ExitsAfter (symbolic file) (words_start file_ground start) n v
    → (other : Program P R ℕ) (l : Addresses) (Begin : Machine Placed ℕ ℕ P → Type 0) (Named : ℕ → ℕ → Type 0) (Near : FilePoint → P → Type 0)
    → Mirrors file file_ground start no_cost other l Begin (λ answers n. Alike l (labels_of file file_ground) None Named Near)
    → ((machine : Machine Placed ℕ ℕ P) → Begin machine → RegionsAreLaidOut l (words_placed file_ground start) machine.placed) → (machine : Machine Placed ℕ ℕ P) → Begin machine → ExitsWith (suc n) v other machine
mirror-exits file file_ground start n v small few h other l Begin Named Near mirrors laid machine begins =
    let m = words_start file_ground start in
    let found = mirrored file file_ground start n v small few h no_cost other l Begin (λ answers n. Alike l (labels_of file file_ground) None Named Near) mirrors machine begins (laid machine begins) in
    let steps = total-steps symbols (symbolic file) (first_run m (exits_with v ∷ [])) found.run (suc n) found.is_made in (
      found.other,
      subst (λ k. made numbers other k (first_run machine (exits_too_with v ∷ [])) ≡ Some found.other) steps found.makes,
      one-event l (has_address (labels_of file file_ground)) Named v found.run.events found.other.events found.same.events found.asked,
      sym found.same.ending ∙ found.ending,
    )
