-- The symbolic machine of the example file exits with 0, and so by the law do the original and each program that mirrors it.
use Rattle.std.proofs.Common.{◌≡◌, ℕ, zero, suc, ◌+◌, List, [], ◌∷◌, length, map, take, Option, Some, None, true, false, refl, sym, ap, subst, ◌∙◌, arith, lit<}
use Rattle.std.specs.Prelude.{option_map, option_and_then, slice_get}
use Rattle.rw_base.specs.declared.width.Width.TheVariants.{Q}
use Rattle.rw_words.specs.declared.atom.Cell.{Cell}
use Rattle.rw_words.specs.Addresses.{Addresses, CellsStand}
use Rattle.rw_domain.specs.Placed.{Placed}
use Rattle.rw_domain.specs.Stands.{Both}
use Rattle.rw_domain.specs.LaidOut.{WordStands}
use Rattle.rw_domain.specs.RegionsLaidOut.{ByteStands, RegionsAreLaidOut}
use Rattle.rw_domain.proofs.WordsStand.{any-stands, fitting-stands}
use Rattle.rw_funcs.specs.Functions.{function_at, functions_of}
use Rattle.rw_machine.specs.declared.ending.End.{End}
use Rattle.rw_machine.specs.declared.ending.End.TheVariants.{Exited}
use Rattle.rw_machine.specs.Program.{Program}
use Rattle.rw_machine.specs.Events.{Call, System, Import, Event, Reply}
use Rattle.rw_machine.specs.Step.{Machine, Outcome, Moved, Asks, Ended, Stopped, placed_with, step_of}
use Rattle.rw_machine.specs.Stands.{Room, CallStands, EventStands, ReplyStands, reply_room}
use Rattle.rw_machine.specs.Domains.{symbols, numbers}
use Rattle.rw_machine.proofs.StepCorresponds.{asks}
use Rattle.rw_runs.specs.Runs.{first_run, advance, made, all_added}
use Rattle.rw_runs.specs.RunStands.{RepliesStand}
use Rattle.rw_code.specs.declared.point.FilePoint.{FilePoint}
use Rattle.rw_runs.proofs.RunLaw.{total-steps}
use Rattle.rw_code.specs.Known.{Labels, has_address}
use Rattle.rw_code.specs.Imports.{have_one_name, is_copied}
use Rattle.rw_code.specs.Replies.{IsLawful, AreLawful}
use Rattle.rw_code.specs.Start.{words_placed, numbers_placed, words_start}
use Rattle.rw_code.specs.File.{labels_of, refers, symbolic_of, symbolic}
use Rattle.rw_code.specs.Placing.{placing_addresses, IsPlaceOf}
use Rattle.rw_code.specs.Original.{original}
use Rattle.rw_code.proofs.Rows.{exit_points, first_ground}
use Rattle.rw_code.specs.Mirrors.{SymbolicRun, Begins, Alike, Mirrors, no_cost}
use Rattle.rw_code.proofs.Clean.{are-functions}
use Rattle.rw_code.proofs.Mirrors.{are-laid, original-mirrors}
use Rattle.rw_code.proofs.ExampleFile.{exit_symbol, functions-are, entry-is, points-are, elf-clean, functions-clean, points-clean, references-clean, ground-is}
use Rattle.rw_code.specs.Example.{exit_file, exit_ground, exit_start, exit_placing, exits, exits_too, Exits}
use Rattle.rw_code.proofs.Example.{is-start, is-placing, fits-file, exit-lawful}

-- ---- the run of the symbolic machine

-- its program, and its first run
abbrev prog : Program FilePoint ℕ (List Cell)
prog = symbolic_of exit_points (function_at exit_symbol ∷ []) (refers exit_file) (is_copied exit_file)

abbrev first_machine : Machine Placed (List Cell) Cell FilePoint
first_machine = words_start first_ground exit_start

abbrev begin : SymbolicRun
begin = first_run first_machine (exits ∷ [])

program-is : symbolic exit_file ≡ prog
program-is =
    ap (λ ps. symbolic_of ps (functions_of exit_file) (refers exit_file) (is_copied exit_file)) points-are
    ∙ ap (λ fs. symbolic_of exit_points (map function_at fs) (refers exit_file) (is_copied exit_file)) functions-are

machine-is : words_start exit_ground exit_start ≡ first_machine
machine-is = ap (λ g. words_start g exit_start) ground-is

-- what is said of a run that is made
pub said : {A B : Type 0} (f : A → B) (o : Option A) (b : B) (a : A) → option_map f o ≡ Some b → o ≡ Some a → f a ≡ b
said f None b a e h = cc
said f (Some x) b a e h = let same : x ≡ a = cc in let told : f x ≡ b = cc in subst (λ z. f z ≡ b) same told

quiet_first : option_map (λ run. asks (step_of symbols prog run.machine)) (made symbols prog 0 begin) ≡ Some false
quiet_first = refl

quiet_second : option_map (λ run. asks (step_of symbols prog run.machine)) (made symbols prog 1 begin) ≡ Some false
quiet_second = refl

none_so_far : option_map (λ run. length run.events) (made symbols prog 2 begin) ≡ Some 0
none_so_far = refl

placed_there : option_map (λ run. run.machine.placed) (made symbols prog 2 begin) ≡ Some (words_placed first_ground exit_start)
placed_there = refl

-- the call that a step asks for
abbrev pub call_of : {D V C P : Type 0} → Outcome D V C P → Option Call
call_of (Moved m) = None
call_of (Asks event) = Some event.call
call_of (Ended m ending) = None
call_of (Stopped cause) = None

call_there : option_map (λ run. call_of (step_of symbols prog run.machine)) (made symbols prog 2 begin) ≡ Some (Some (System 60))
call_there = refl

pub ends : option_map {U = Option End} (λ run. run.ending) (made symbols prog 3 begin) ≡ Some (Some (Exited 0))
ends = refl

-- no step comes after the end
none_after : (j : ℕ) → made symbols prog (suc (suc (suc (suc j)))) begin ≡ None
none_after zero = refl
none_after (suc j) = ap (λ o. option_and_then (advance symbols prog) o) (none_after j)

-- where it asks, it has had no answer, its regions are those of the start, and it asks for system call 60
record AsksFirst (run : SymbolicRun) (event : Event (List Cell)) : Type 0 where
  events : length run.events ≡ 0
  placed : run.machine.placed ≡ words_placed first_ground exit_start
  call : event.call ≡ System 60

never_asks : (run : SymbolicRun) (event : Event (List Cell)) → asks (step_of symbols prog run.machine) ≡ false → step_of symbols prog run.machine ≡ Asks event → AsksFirst run event
never_asks run event quiet asked = let does : true ≡ false = sym (ap asks asked) ∙ quiet in cc

asks-first : (k : ℕ) (run : SymbolicRun) (event : Event (List Cell)) → made symbols prog k begin ≡ Some run → run.ending ≡ None → step_of symbols prog run.machine ≡ Asks event → AsksFirst run event
asks-first zero run event e goes asked = never_asks run event (said (λ run. asks (step_of symbols prog run.machine)) (made symbols prog 0 begin) false run quiet_first e) asked
asks-first (suc zero) run event e goes asked = never_asks run event (said (λ run. asks (step_of symbols prog run.machine)) (made symbols prog 1 begin) false run quiet_second e) asked
asks-first (suc (suc zero)) run event e goes asked = record {
  events = said (λ run. length run.events) (made symbols prog 2 begin) 0 run none_so_far e;
  placed = said (λ run. run.machine.placed) (made symbols prog 2 begin) (words_placed first_ground exit_start) run placed_there e;
  call = (let is = said (λ run. call_of (step_of symbols prog run.machine)) (made symbols prog 2 begin) (Some (System 60)) run call_there e in let both : Some event.call ≡ Some (System 60) = sym (ap call_of asked) ∙ is in cc);
}
asks-first (suc (suc (suc zero))) run event e goes asked = let ended : run.ending ≡ Some (Exited 0) = said (λ run. run.ending) (made symbols prog 3 begin) (Some (Exited 0)) run ends e in cc
asks-first (suc (suc (suc (suc j)))) run event e goes asked = let none = none_after j in cc

-- ---- the answer

reply-stands : (l : Addresses) (room : Room) → ReplyStands (CellsStand l) (ByteStands l) None room exits exits_too
reply-stands l room = record {
  result = fitting-stands l Q 0 (lit< tt);
  scratch = (any-stands l Q 0 (lit< tt), (any-stands l Q 0 (lit< tt), tt));
  writes = tt;
  under = λ k d inside. absurd (omega (arith, inside));
  fresh = tt;
  ending = refl;
}

only : (r : Reply (List Cell) Cell) (i : ℕ) → i ≡ 0 → slice_get (exits ∷ []) i ≡ Some r → exits ≡ r
only r zero h e = cc
only r (suc i) h e = absurd (omega (arith, h))

-- it is lawful, and stands along the run
lawful : (labels : Labels) → AreLawful labels prog first_machine (exits ∷ [])
lawful labels =
    λ k run event r e goes asked is.
    let at = asks-first k run event e goes asked in
    subst (IsLawful labels run.machine.placed event.call) (only r (length run.events) at.events is)
    (subst (λ call. IsLawful labels run.machine.placed call exits) (sym at.call) (exit-lawful labels run.machine.placed))

pub answers-lawful : AreLawful (labels_of exit_file exit_ground) (symbolic exit_file) (words_start exit_ground exit_start) (exits ∷ [])
answers-lawful =
    subst (λ p. AreLawful (labels_of exit_file exit_ground) p (words_start exit_ground exit_start) (exits ∷ [])) (sym program-is)
    (subst (λ m. AreLawful (labels_of exit_file exit_ground) prog m (exits ∷ [])) (sym machine-is) (lawful (labels_of exit_file exit_ground)))

abbrev Stand : Addresses → Program FilePoint ℕ (List Cell) → Machine Placed (List Cell) Cell FilePoint → Placed → Type 0
Stand l p m placed = RepliesStand (CellsStand l) (ByteStands l) None (RegionsAreLaidOut l) symbols numbers p m (exits ∷ []) placed (exits_too ∷ [])

answers-stand : (l : Addresses) (placed : Placed) → RegionsAreLaidOut l (words_placed first_ground exit_start) placed → Stand l prog first_machine placed
answers-stand l placed laid =
    λ k run event r e goes asked is.
    let at = asks-first k run event e goes asked in
    let same : exits ≡ r = only r (length run.events) at.events is in (
      exits_too,
      ap (slice_get (exits_too ∷ [])) at.events,
      subst (λ x. ReplyStands (CellsStand l) (ByteStands l) None (reply_room symbols prog run.machine x.ending) x exits_too) same (reply-stands l (reply_room symbols prog run.machine exits.ending)),
      subst (λ x. RegionsAreLaidOut l (placed_with symbols run.machine.placed x.fresh) (placed_with numbers (all_added numbers placed (take (length run.events) (exits_too ∷ []))) None)) same
          (subst (λ i. RegionsAreLaidOut l run.machine.placed (all_added numbers placed (take i (exits_too ∷ [])))) (sym at.events)
          (subst (λ d. RegionsAreLaidOut l d placed) (sym at.placed) laid)),
    )

file-answers : (l : Addresses) (placed : Placed) → RegionsAreLaidOut l (words_placed exit_ground exit_start) placed → Stand l (symbolic exit_file) (words_start exit_ground exit_start) placed
file-answers l placed laid =
    subst (λ p. Stand l p (words_start exit_ground exit_start) placed) (sym program-is)
    (subst (λ m. Stand l prog m placed) (sym machine-is) (answers-stand l placed (subst (λ g. RegionsAreLaidOut l (words_placed g exit_start) placed) ground-is laid)))

-- ---- the theorem at work

pub there : {A B : Type 0} (f : A → B) (o : Option A) (b : B) → option_map f o ≡ Some b → (a : A) × (o ≡ Some a)
there f None b e = cc
there f (Some x) b e = (x, refl)

calls : option_map {U = List Call} (λ run. map (λ event. event.call) run.events) (made symbols prog 3 begin) ≡ Some (System 60 ∷ [])
calls = refl

-- one system call corresponds to one with its number
same_call : (Named : ℕ → ℕ → Type 0) (n : ℕ) (b : Call) → CallStands Named (System n) b → b ≡ System n
same_call Named n (System j) h = ap System (sym h)
same_call Named n (Import j) h = absurd h

one_call : {V W : Type 0} (R : V → W → Type 0) (Named : ℕ → ℕ → Type 0) (n : ℕ) (es : List (Event V)) (fs : List (Event W)) → Both (EventStands R Named) es fs → map (λ event. event.call) es ≡ System n ∷ [] → map (λ event. event.call) fs ≡ System n ∷ []
one_call R Named n [] fs h e = cc
one_call R Named n (a ∷ []) [] h e = absurd h
one_call R Named n (a ∷ []) (b ∷ []) h e =
    let is : a.call ≡ System n = cc in
    ap (λ c. c ∷ []) (same_call Named n b.call (subst (λ c. CallStands Named c b.call) is h.0.call))
one_call R Named n (a ∷ []) (b ∷ c ∷ fs) h e = absurd h.1
one_call R Named n (a ∷ d ∷ es) fs h e = cc

abbrev run_of : Program FilePoint ℕ (List Cell) → Machine Placed (List Cell) Cell FilePoint → Option SymbolicRun
run_of p m = made symbols p 3 (first_run m (exits ∷ []))

run-is : run_of (symbolic exit_file) (words_start exit_ground exit_start) ≡ made symbols prog 3 begin
run-is = ap (λ p. run_of p (words_start exit_ground exit_start)) program-is ∙ ap (run_of prog) machine-is

-- a program that mirrors the symbolic one exits as well
pub mirror-exits : {R P : Type 0} (other : Program P R ℕ) (l : Addresses) (Begin : Machine Placed ℕ ℕ P → Type 0) (Named : ℕ → ℕ → Type 0) (Near : FilePoint → P → Type 0)
    → Mirrors exit_file exit_ground exit_start no_cost other l Begin (λ answers n. Alike l (labels_of exit_file exit_ground) None Named Near)
    → ((machine : Machine Placed ℕ ℕ P) → Begin machine → RegionsAreLaidOut l (words_placed exit_ground exit_start) machine.placed) → (machine : Machine Placed ℕ ℕ P) → Begin machine → Exits other machine
mirror-exits other l Begin Named Near mirrors laid machine begins =
    let run = there (λ run. run.ending) (made symbols prog 3 begin) (Some (Exited 0)) ends in
    let is_made : run_of (symbolic exit_file) (words_start exit_ground exit_start) ≡ Some run.0 = run-is ∙ run.1 in
    let ending : run.0.ending ≡ Some (Exited 0) = said (λ run. run.ending) (made symbols prog 3 begin) (Some (Exited 0)) run.0 ends run.1 in
    let asked : map (λ event. event.call) run.0.events ≡ System 60 ∷ [] = said (λ run. map (λ event. event.call) run.events) (made symbols prog 3 begin) (System 60 ∷ []) run.0 calls run.1 in
    let found = mirrors (exits ∷ []) 3 run.0 answers-lawful (lit< tt) is_made machine (exits_too ∷ []) begins (file-answers l machine.placed (laid machine begins)) in
    let steps = total-steps symbols (symbolic exit_file) (first_run (words_start exit_ground exit_start) (exits ∷ [])) run.0 3 is_made in (
      found.0,
      subst (λ n. made numbers other n (first_run machine (exits_too ∷ [])) ≡ Some found.0) steps found.1,
      one_call (WordStands l (has_address (labels_of exit_file exit_ground))) Named 60 run.0.events found.0.events found.2.events asked,
      sym found.2.ending ∙ ending,
    )

pub original-exits : (machine : Machine Placed ℕ ℕ ℕ) → Begins (placing_addresses exit_file exit_placing) exit_ground exit_start (numbers_placed exit_ground exit_start exit_placing.region) 0x11000 machine → Exits (original exit_file exit_placing) machine
original-exits machine begins =
    let l = placing_addresses exit_file exit_placing in
    let at : exit_placing.base + exit_ground.entry ≡ 0x11000 = ap (λ a. exit_placing.base + a) entry-is in
    let laid = numbers_placed exit_ground exit_start exit_placing.region in
    mirror-exits (original exit_file exit_placing) l (Begins l exit_ground exit_start laid (exit_placing.base + exit_ground.entry)) (λ i j. have_one_name exit_file i j ≡ true) (IsPlaceOf exit_file exit_placing.base)
    (original-mirrors exit_file exit_ground elf-clean (are-functions exit_file elf-clean functions-clean points-clean) references-clean fits-file exit_start exit_placing is-start is-placing)
    (λ m h. subst (RegionsAreLaidOut l (words_placed exit_ground exit_start)) (sym h.placed) (are-laid l exit_ground exit_start is-placing.regions)) machine
    (subst (λ a. Begins l exit_ground exit_start laid a machine) (sym at) begins)
