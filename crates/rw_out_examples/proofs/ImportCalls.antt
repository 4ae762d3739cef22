-- A symbolic machine that calls imported functions, each of which answers 10, and returns 0; and a program that mirrors it.
use Rattle.std.proofs.Common.{◌≡◌, ◌⊎◌, inl, inr, ℕ, zero, suc, ◌+◌, ◌-◌, ◌^◌, ◌<◌, ◌≤◌, List, [], ◌∷◌, length, take, Option, Some, None, Bool, true, false, refl, sym, ap, subst, ◌∙◌, arith, lit<}
use Rattle.std.specs.Prelude.{option_map, replicate, slice_get, slice_index}
use Rattle.std.proofs.lemmas.Bool.{cases_lt}
use Rattle.std.proofs.lemmas.List.Elements.{All-nil}
use Rattle.rw_base.specs.declared.width.Width.TheVariants.{Q}
use Rattle.rw_words.specs.declared.atom.Atom.{Atom}
use Rattle.rw_words.specs.declared.atom.Cell.{Cell}
use Rattle.rw_words.specs.Addresses.{Addresses, CellsStand, address_of}
use Rattle.rw_words.specs.Words.{atom_cells, number_cells, undefined_cells}
use Rattle.rw_words.proofs.WordLemmas.{atom-only}
use Rattle.rw_domain.specs.Placed.{Placed}
use Rattle.rw_domain.specs.Stands.{Both}
use Rattle.rw_domain.specs.LaidOut.{WordStands}
use Rattle.rw_domain.specs.RegionsLaidOut.{ByteStands, RegionsAreLaidOut}
use Rattle.rw_domain.proofs.WordsStand.{any-stands, fitting-stands}
use Rattle.rw_machine.specs.declared.ending.End.{End}
use Rattle.rw_machine.specs.declared.ending.End.TheVariants.{Returned}
use Rattle.rw_machine.specs.Program.{Program}
use Rattle.rw_machine.specs.Events.{Call, System, Import, Event, Reply}
use Rattle.rw_machine.specs.Step.{Machine, Asks, placed_with, step_of}
use Rattle.rw_machine.specs.Stands.{Room, EventStands, ReplyStands, reply_room}
use Rattle.rw_machine.specs.Domains.{symbols, numbers}
use Rattle.rw_runs.specs.Runs.{first_run, all_added, made}
use Rattle.rw_runs.specs.RunStands.{RepliesStand}
use Rattle.rw_runs.specs.Correspond.{NumbersRun}
use Rattle.rw_runs.proofs.RunLaw.{total-steps}
use Rattle.rw_code.specs.declared.point.FilePoint.{FilePoint}
use Rattle.rw_code.specs.Ground.{Ground}
use Rattle.rw_code.specs.Known.{Labels, has_address}
use Rattle.rw_code.specs.Replies.{IsWrite, IsLawful, AreLawful}
use Rattle.rw_code.specs.Start.{Start, words_placed, words_start}
use Rattle.rw_code.specs.File.{labels_of, symbolic}
use Rattle.rw_code.specs.Mirrors.{SymbolicRun, Alike, Mirrors, no_cost}
use Rattle.rw_code.proofs.ExampleRuns.{said, there, call_of}
use Rattle.rw_out_examples.proofs.Made.{none-after, part-of, seen, seen-at}

-- ---- the answers

abbrev ten : Reply (List Cell) Cell
ten = record { result = number_cells Q 10; scratch = replicate 8 (undefined_cells Q); writes = []; fresh = None; ending = None }

abbrev ten_too : Reply ℕ ℕ
ten_too = record { result = 10; scratch = replicate 8 0; writes = []; fresh = None; ending = None }

-- an answer is this one, its number that of the same reply, and no reply brings a region
record IsAnswer (c i : ℕ) (r : Reply (List Cell) Cell) : Type 0 where
  answer : ten ≡ r
  reply : slice_get (replicate c ten_too) i ≡ Some ten_too
  adds : (placed : Placed) → all_added numbers placed (take i (replicate c ten_too)) ≡ placed

answer-at : (c i : ℕ) (r : Reply (List Cell) Cell) → slice_get (replicate c ten) i ≡ Some r → IsAnswer c i r
answer-at zero i r e = cc
answer-at (suc c) zero r e = let same : ten ≡ r = cc in record { answer = same; reply = refl; adds = λ placed. refl }
answer-at (suc c) (suc i) r e = let rest = answer-at c i r e in record { answer = rest.answer; reply = rest.reply; adds = λ placed. rest.adds placed }

is-lawful : (labels : Labels) (placed : Placed) (i : ℕ) → IsLawful labels placed (Import i) ten
is-lawful labels placed i = record { wide = refl; cells = (tt, (tt, (tt, (tt, (tt, (tt, (tt, (tt, tt)))))))); scratch = refl; writes = All-nil (IsWrite labels placed); fresh = tt; ending = tt }

reply-stands : (l : Addresses) (room : Room) → ReplyStands (CellsStand l) (ByteStands l) None room ten ten_too
reply-stands l room =
    let any = any-stands l Q 0 (lit< tt) in
    record { result = fitting-stands l Q 10 (lit< tt); scratch = (any, (any, (any, (any, (any, (any, (any, (any, tt)))))))); writes = tt; under = λ k d inside. absurd (omega (arith, inside)); fresh = tt; ending = refl }

-- ---- the run

-- of a machine that asks, only for imported functions
abbrev only_imports : Option Call → Bool
only_imports None = true
only_imports (Some (System i)) = false
only_imports (Some (Import i)) = true

module _ {T : Type 0} (prog : Program FilePoint ℕ (List Cell)) (m : Machine Placed (List Cell) Cell FilePoint) (c n : ℕ) (told_of : SymbolicRun → T) (told : T) where
  abbrev pub run_to : ℕ → Option SymbolicRun
  run_to k = made symbols prog k (first_run m (replicate c ten))

  abbrev pub calls_import : Option SymbolicRun → Bool
  calls_import None = false
  calls_import (Some run) = only_imports (call_of (step_of symbols prog run.machine))

  abbrev pub look : Option SymbolicRun → Bool × Option Placed
  look run = (calls_import run, option_map (λ run. run.machine.placed) run)

  abbrev pub end_of : SymbolicRun → Option End × T
  end_of run = (run.ending, told_of run)

  -- Before each of n steps it calls imported functions only, with the regions of the start, and then it has returned 0.
  pub record ReturnsAfter : Type 0 where
    pub before : seen prog look n (run_to 0) ≡ replicate n (true, Some m.placed)
    pub behind : option_map end_of (run_to n) ≡ Some (Some (Returned 0), told)

  -- where it asks, it calls an imported function, and its regions are those of the start
  record AsksImport (run : SymbolicRun) (event : Event (List Cell)) : Type 0 where
    number : ℕ
    asked : event.call ≡ Import number
    placed : run.machine.placed ≡ m.placed

  import-of : (call : Call) → only_imports (Some call) ≡ true → (i : ℕ) × (call ≡ Import i)
  import-of (System i) e = cc
  import-of (Import i) e = (i, refl)

  module _ (h : ReturnsAfter) where
    asks-before : (k : ℕ) (run : SymbolicRun) (event : Event (List Cell)) → k < n → run_to k ≡ Some run → step_of symbols prog run.machine ≡ Asks event → AsksImport run event
    asks-before k run event low e asked =
        let same : 0 + k ≡ k = omega arith in
        let at : look (run_to k) ≡ (true, Some m.placed) = subst (λ i. look (run_to i) ≡ (true, Some m.placed)) same (seen-at prog look (true, Some m.placed) (first_run m (replicate c ten)) n 0 k h.before low) in
        let test : calls_import (run_to k) ≡ true = ap (λ x. x.0) at in
        let here : only_imports (call_of (step_of symbols prog run.machine)) ≡ true = subst (λ o. calls_import o ≡ true) e test in
        let called = import-of event.call (subst (λ s. only_imports (call_of s) ≡ true) asked here) in
        record { number = called.0; asked = called.1; placed = said (λ run. run.machine.placed) (run_to k) m.placed run (ap (λ x. x.1) at) e }

    ends : option_map {U = Option End} (λ run. run.ending) (run_to n) ≡ Some (Some (Returned 0))
    ends = part-of end_of (λ x. x.0) (run_to n) (Some (Returned 0), told) h.behind

    asks-where : (k : ℕ) (run : SymbolicRun) (event : Event (List Cell)) → run_to k ≡ Some run → run.ending ≡ None → step_of symbols prog run.machine ≡ Asks event → AsksImport run event
    asks-where k run event e goes asked = by (cases_lt k n)
      where
        exact : k ≡ n → AsksImport run event
        exact same =
            let ended : run.ending ≡ Some (Returned 0) = said (λ run. run.ending) (run_to n) (Some (Returned 0)) run ends (ap run_to (sym same) ∙ e) in
            absurd (let f : None ≡ Some (Returned 0) = sym goes ∙ ended in cc)

        late : (j : ℕ) → k ≡ suc (n + j) → AsksImport run event
        late j same = let none = sym e ∙ ap run_to same ∙ none-after prog (first_run m (replicate c ten)) n (Returned 0) ends j in absurd (let f : Some run ≡ None = none in cc)

        further : n ≤ k → (k < suc n) ⊎ (suc n ≤ k) → AsksImport run event
        further low (inl high) = exact (omega (arith, low, high))
        further low (inr high) = late (k - suc n) (omega (arith, high))

        by : (k < n) ⊎ (n ≤ k) → AsksImport run event
        by (inl low) = asks-before k run event low e asked
        by (inr high) = further high (cases_lt k (suc n))

    pub lawful : (labels : Labels) → AreLawful labels prog m (replicate c ten)
    lawful labels =
        λ k run event r e goes asked is.
        let at = asks-where k run event e goes asked in
        subst (IsLawful labels run.machine.placed event.call) (answer-at c (length run.events) r is).answer
        (subst (λ call. IsLawful labels run.machine.placed call ten) (sym at.asked) (is-lawful labels run.machine.placed at.number))

    answers-stand : (l : Addresses) (placed : Placed) → RegionsAreLaidOut l m.placed placed → RepliesStand (CellsStand l) (ByteStands l) None (RegionsAreLaidOut l) symbols numbers prog m (replicate c ten) placed (replicate c ten_too)
    answers-stand l placed laid =
        λ k run event r e goes asked is.
        let at = asks-where k run event e goes asked in
        let known = answer-at c (length run.events) r is in (
          ten_too,
          known.reply,
          subst (λ x. ReplyStands (CellsStand l) (ByteStands l) None (reply_room symbols prog run.machine x.ending) x ten_too) known.answer (reply-stands l (reply_room symbols prog run.machine None)),
          subst (λ x. RegionsAreLaidOut l (placed_with symbols run.machine.placed x.fresh) (placed_with numbers (all_added numbers placed (take (length run.events) (replicate c ten_too))) None)) known.answer
              (subst (RegionsAreLaidOut l run.machine.placed) (sym (known.adds placed)) (subst (λ d. RegionsAreLaidOut l d placed) (sym at.placed) laid)),
        )

-- ---- the theorem at work

-- the place that a first word names corresponds to its address
pub first-word : (l : Addresses) (known : Atom → Bool) (place : Atom) (xs : List (List Cell)) (ys : List ℕ) → Both (WordStands l known) xs ys → slice_get xs 0 ≡ Some (atom_cells place) → slice_index ys 0 ≡ address_of l place
first-word l known place [] ys h e = cc
first-word l known place (x ∷ xs) [] h e = absurd h
first-word l known place (x ∷ xs) (y ∷ ys) h e = let same : x ≡ atom_cells place = cc in atom-only l place y (subst (λ z. CellsStand l z y) same h.0.cells)

-- what a program that mirrors it does
pub record CallsToo {T P R : Type 0} (known : Atom → Bool) (l : Addresses) (Named : ℕ → ℕ → Type 0) (other : Program P R ℕ) (machine : Machine Placed ℕ ℕ P) (c n : ℕ) (told_of : SymbolicRun → T) (told : T) : Type 0 where
  pub run : SymbolicRun
  pub tells : told_of run ≡ told
  pub other_run : NumbersRun P
  pub makes : made numbers other n (first_run machine (replicate c ten_too)) ≡ Some other_run
  pub events : Both (EventStands (WordStands l known) Named) run.events other_run.events
  pub ending : other_run.ending ≡ Some (Returned 0)

pub calls-too : {T P R : Type 0} (file : List ℕ) (file_ground : Ground) (start : Start) (c n : ℕ) (told_of : SymbolicRun → T) (told : T) → n < 2 ^ 64 → ReturnsAfter (symbolic file) (words_start file_ground start) c n told_of told
    → (other : Program P R ℕ) (l : Addresses) (Begin : Machine Placed ℕ ℕ P → Type 0) (Named : ℕ → ℕ → Type 0) (Near : FilePoint → P → Type 0)
    → Mirrors file file_ground start no_cost other l Begin (λ answers n. Alike l (labels_of file file_ground) None Named Near)
    → (machine : Machine Placed ℕ ℕ P) → Begin machine → RegionsAreLaidOut l (words_placed file_ground start) machine.placed → CallsToo (has_address (labels_of file file_ground)) l Named other machine c n told_of told
calls-too file file_ground start c n told_of told few h other l Begin Named Near mirrors machine begins laid =
    let m = words_start file_ground start in
    let prog = symbolic file in
    let run = there (end_of prog m c n told_of told) (run_to prog m c n told_of told n) (Some (Returned 0), told) h.behind in
    let last = said (end_of prog m c n told_of told) (run_to prog m c n told_of told n) (Some (Returned 0), told) run.0 h.behind run.1 in
    let found = mirrors (replicate c ten) n run.0 (lawful prog m c n told_of told h (labels_of file file_ground)) few run.1 machine (replicate c ten_too) begins (answers-stand prog m c n told_of told h l machine.placed laid) in
    let steps = total-steps symbols prog (first_run m (replicate c ten)) run.0 n run.1 in
    record {
      run = run.0;
      tells = ap (λ x. x.1) last;
      other_run = found.0;
      makes = subst (λ k. made numbers other k (first_run machine (replicate c ten_too)) ≡ Some found.0) steps found.1;
      events = found.2.events;
      ending = sym found.2.ending ∙ ap (λ x. x.0) last;
    }
