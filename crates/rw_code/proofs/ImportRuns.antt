-- The symbolic machine of the file that imports calls the imported function and exits with 7, and so by the law does the original.
use Rattle.std.proofs.Common.{◌≡◌, ◌⊎◌, inl, inr, ℕ, zero, suc, ◌+◌, List, [], ◌∷◌, length, map, take, Option, Some, None, Bool, true, false, refl, sym, ap, subst, ◌∙◌, arith, lit<}
use Rattle.std.specs.Prelude.{filter, replicate, option_map, option_and_then, slice_get}
use Rattle.std.specs.List.{range_with_len}
use Rattle.std.proofs.lemmas.List.Elements.{All-nil}
use Rattle.rw_base.specs.declared.width.Width.TheVariants.{Q}
use Rattle.rw_words.specs.declared.atom.Atom.TheVariants as atom
use Rattle.rw_words.specs.declared.atom.Cell.{Cell}
use Rattle.rw_words.specs.Addresses.{Addresses, address_of, CellsStand}
use Rattle.rw_words.specs.Words.{atom_cells, number_cells, undefined_cells}
use Rattle.rw_words.proofs.WordLemmas.{atom-stands}
use Rattle.rw_domain.specs.Placed.{Placed}
use Rattle.rw_domain.specs.Stands.{Both}
use Rattle.rw_domain.specs.LaidOut.{WordStands}
use Rattle.rw_domain.specs.RegionsLaidOut.{ByteStands, RegionsAreLaidOut}
use Rattle.rw_domain.proofs.WordsStand.{any-stands, fitting-stands}
use Rattle.rw_elf.specs.declared.symbol.Symbol.{Symbol}
use Rattle.rw_reloc.specs.Slots.{copies_of}
use Rattle.rw_funcs.specs.Functions.{function_at, functions_of}
use Rattle.rw_funcs.specs.Points.{file_points, is_one_of}
use Rattle.rw_machine.specs.declared.ending.End.{End}
use Rattle.rw_machine.specs.declared.ending.End.TheVariants.{Exited}
use Rattle.rw_machine.specs.Program.{Program}
use Rattle.rw_machine.specs.Events.{Call, System, Import, Event, Reply}
use Rattle.rw_machine.specs.Step.{Machine, Asks, placed_with, step_of}
use Rattle.rw_machine.specs.Stands.{Room, CallStands, EventStands, ReplyStands, reply_room}
use Rattle.rw_machine.specs.Domains.{symbols, numbers}
use Rattle.rw_machine.proofs.StepCorresponds.{asks}
use Rattle.rw_runs.specs.Runs.{first_run, advance, made, all_added}
use Rattle.rw_runs.specs.RunStands.{RepliesStand}
use Rattle.rw_runs.proofs.RunLaw.{total-steps}
use Rattle.rw_code.specs.declared.point.FilePoint.{FilePoint}
use Rattle.rw_code.specs.Ground.{Ground}
use Rattle.rw_code.specs.Imports.{have_one_name}
use Rattle.rw_code.specs.Known.{has_address}
use Rattle.rw_code.specs.Replies.{IsWrite, IsLawful, AreLawful}
use Rattle.rw_code.specs.Start.{words_placed, numbers_placed, words_start}
use Rattle.rw_code.specs.File.{labels_of, refers, symbolic_of, symbolic}
use Rattle.rw_code.specs.Placing.{placing_addresses}
use Rattle.rw_code.specs.Original.{original}
use Rattle.rw_code.specs.Mirrors.{SymbolicRun, Begins}
use Rattle.rw_code.specs.Example.{exit_start}
use Rattle.rw_code.specs.ImportExample.{import_answers, import_contents, import_file, import_ground, import_placing, import_replies, CallsImport}
use Rattle.rw_code.proofs.Clean.{are-functions}
use Rattle.rw_code.proofs.Example.{is-start}
use Rattle.rw_code.proofs.ExampleRuns.{said, there, call_of}
use Rattle.rw_code.proofs.ImportFile.{copies-are, dynamic-are, elf-clean, entry-is, functions-are, functions-clean, import_copies, import_dynamic_symbols, import_points, import_symbol, not-hosted, points-are, points-clean, references-clean}
use Rattle.rw_code.proofs.ImportExample.{fits-file, import_tables, is-placing}
use Rattle.rw_code.proofs.KnownTables as known
use Rattle.rw_code.proofs.Mirrors.{are-laid, original-mirrors}

-- ---- its program and its start

abbrev copied : List Symbol → ℕ → Bool
copied symbols i = known.copied_in import_file symbols import_copies i

abbrev prog : Program FilePoint ℕ (List Cell)
prog = symbolic_of import_points (function_at import_symbol ∷ []) (refers import_file) (copied import_dynamic_symbols)

program-is : symbolic import_file ≡ prog
program-is =
    ap (λ symbols. symbolic_of (file_points import_file) (functions_of import_file) (refers import_file) (known.copied_in import_file symbols (copies_of import_file))) dynamic-are
    ∙ ap (λ copies. symbolic_of (file_points import_file) (functions_of import_file) (refers import_file) (known.copied_in import_file import_dynamic_symbols copies)) copies-are
    ∙ ap (λ ps. symbolic_of ps (functions_of import_file) (refers import_file) (copied import_dynamic_symbols)) points-are
    ∙ ap (λ fs. symbolic_of import_points (map function_at fs) (refers import_file) (copied import_dynamic_symbols)) functions-are

abbrev plain_ground : Ground
plain_ground = known.known_ground import_file import_tables import_contents false 0x1000

ground-is : import_ground ≡ plain_ground
ground-is = known.ground-is import_file import_tables import_contents import_contents false 0x1000 refl not-hosted entry-is

abbrev first_machine : Machine Placed (List Cell) Cell FilePoint
first_machine = words_start plain_ground exit_start

machine-is : words_start import_ground exit_start ≡ first_machine
machine-is = ap (λ g. words_start g exit_start) ground-is

abbrev begin : SymbolicRun
begin = first_run first_machine import_answers

-- ---- the run of the symbolic machine

quiet_first : option_map (λ run. asks (step_of symbols prog run.machine)) (made symbols prog 0 begin) ≡ Some false
quiet_first = refl

asks_system : option_map {U = Option Call × ℕ × Placed} (λ run. (call_of (step_of symbols prog run.machine), length run.events, run.machine.placed)) (made symbols prog 1 begin) ≡ Some (Some (System 39), 0, words_placed plain_ground exit_start)
asks_system = refl

asks_import : option_map {U = Option Call × ℕ × Placed} (λ run. (call_of (step_of symbols prog run.machine), length run.events, run.machine.placed)) (made symbols prog 2 begin) ≡ Some (Some (Import 1), 1, words_placed plain_ground exit_start)
asks_import = refl

ends : option_map {U = Option End} (λ run. run.ending) (made symbols prog 3 begin) ≡ Some (Some (Exited 7))
ends = refl

calls : option_map {U = List Call} (λ run. map (λ event. event.call) run.events) (made symbols prog 3 begin) ≡ Some (System 39 ∷ Import 1 ∷ [])
calls = refl

none_after : (j : ℕ) → made symbols prog (suc (suc (suc (suc j)))) begin ≡ None
none_after zero = refl
none_after (suc j) = ap (λ o. option_and_then (advance symbols prog) o) (none_after j)

-- what it asks, when it has had so many answers
record AsksFor (call : Call) (count : ℕ) (run : SymbolicRun) (event : Event (List Cell)) : Type 0 where
  asked : event.call ≡ call
  events : length run.events ≡ count
  placed : run.machine.placed ≡ words_placed plain_ground exit_start

abbrev Either : SymbolicRun → Event (List Cell) → Type 0
Either run event = AsksFor (System 39) 0 run event ⊎ AsksFor (Import 1) 1 run event

asks-for : (o : Option SymbolicRun) (call : Call) (count : ℕ) (run : SymbolicRun) (event : Event (List Cell))
    → option_map {U = Option Call × ℕ × Placed} (λ run. (call_of (step_of symbols prog run.machine), length run.events, run.machine.placed)) o ≡ Some (Some call, count, words_placed plain_ground exit_start)
    → o ≡ Some run → step_of symbols prog run.machine ≡ Asks event → AsksFor call count run event
asks-for o call count run event e is asked =
    let all = said (λ run. (call_of (step_of symbols prog run.machine), length run.events, run.machine.placed)) o (Some call, count, words_placed plain_ground exit_start) run e is in
    record {
      asked = (let both : Some event.call ≡ Some call = sym (ap call_of asked) ∙ ap (λ x. x.0) all in cc);
      events = ap (λ x. x.1) all;
      placed = ap (λ x. x.2) all;
    }

asks-where : (k : ℕ) (run : SymbolicRun) (event : Event (List Cell)) → made symbols prog k begin ≡ Some run → run.ending ≡ None → step_of symbols prog run.machine ≡ Asks event → Either run event
asks-where zero run event e goes asked = let quiet = said (λ run. asks (step_of symbols prog run.machine)) (made symbols prog 0 begin) false run quiet_first e in let does : true ≡ false = sym (ap asks asked) ∙ quiet in absurd (cc)
asks-where (suc zero) run event e goes asked = inl (asks-for (made symbols prog 1 begin) (System 39) 0 run event asks_system e asked)
asks-where (suc (suc zero)) run event e goes asked = inr (asks-for (made symbols prog 2 begin) (Import 1) 1 run event asks_import e asked)
asks-where (suc (suc (suc zero))) run event e goes asked = let ended : run.ending ≡ Some (Exited 7) = said (λ run. run.ending) (made symbols prog 3 begin) (Some (Exited 7)) run ends e in absurd (cc)
asks-where (suc (suc (suc (suc j)))) run event e goes asked = let none = none_after j in absurd (cc)

-- ---- its answers

abbrev first_answer : Reply (List Cell) Cell
first_answer = record { result = atom_cells (atom.Import 1); scratch = replicate 2 (undefined_cells Q); writes = []; fresh = None; ending = None }

abbrev second_answer : Reply (List Cell) Cell
second_answer = record { result = number_cells Q 0; scratch = replicate 8 (undefined_cells Q); writes = []; fresh = None; ending = Some (Exited 7) }

import-known : has_address (labels_of import_file import_ground) (atom.Import 1) ≡ true
import-known = ap (λ symbols. is_one_of (filter (known.import_in symbols) (range_with_len 0 (length symbols))) 1) dynamic-are ∙ refl

first-lawful : (placed : Placed) → IsLawful (labels_of import_file import_ground) placed (System 39) first_answer
first-lawful placed =
    let k = import-known in
    record { wide = refl; cells = (k, (k, (k, (k, (k, (k, (k, (k, tt)))))))); scratch = refl; writes = All-nil (IsWrite (labels_of import_file import_ground) placed); fresh = tt; ending = tt }

second-lawful : (placed : Placed) → IsLawful (labels_of import_file import_ground) placed (Import 1) second_answer
second-lawful placed =
    record { wide = refl; cells = (tt, (tt, (tt, (tt, (tt, (tt, (tt, (tt, tt)))))))); scratch = refl; writes = All-nil (IsWrite (labels_of import_file import_ground) placed); fresh = tt; ending = lit< tt }

answer-at : (run : SymbolicRun) (n : ℕ) (a r : Reply (List Cell) Cell) → length run.events ≡ n → slice_get import_answers n ≡ Some a → slice_get import_answers (length run.events) ≡ Some r → a ≡ r
answer-at run n a r count first is = let both : Some a ≡ Some r = sym first ∙ ap (slice_get import_answers) (sym count) ∙ is in cc

lawful : AreLawful (labels_of import_file import_ground) prog first_machine import_answers
lawful k run event r e goes asked is = by (asks-where k run event e goes asked)
  where
    by : Either run event → IsLawful (labels_of import_file import_ground) run.machine.placed event.call r
    by (inl at) =
        subst (IsLawful (labels_of import_file import_ground) run.machine.placed event.call) (answer-at run 0 first_answer r at.events refl is)
        (subst (λ call. IsLawful (labels_of import_file import_ground) run.machine.placed call first_answer) (sym at.asked) (first-lawful run.machine.placed))
    by (inr at) =
        subst (IsLawful (labels_of import_file import_ground) run.machine.placed event.call) (answer-at run 1 second_answer r at.events refl is)
        (subst (λ call. IsLawful (labels_of import_file import_ground) run.machine.placed call second_answer) (sym at.asked) (second-lawful run.machine.placed))

pub answers-lawful : AreLawful (labels_of import_file import_ground) (symbolic import_file) (words_start import_ground exit_start) import_answers
answers-lawful =
    subst (λ p. AreLawful (labels_of import_file import_ground) p (words_start import_ground exit_start) import_answers) (sym program-is)
    (subst (λ m. AreLawful (labels_of import_file import_ground) prog m import_answers) (sym machine-is) lawful)

-- ---- answers over numbers, for which they stand

first-stands : (l : Addresses) (room : Room) (q : Reply ℕ ℕ) → slice_get (import_replies l) 0 ≡ Some q → ReplyStands (CellsStand l) (ByteStands l) None room first_answer q
first-stands l room q e =
    let any = any-stands l Q 0 (lit< tt) in
    let same : record { result = address_of l (atom.Import 1); scratch = 0 ∷ 0 ∷ []; writes = []; fresh = None; ending = None } ≡ q = cc in
    subst (ReplyStands (CellsStand l) (ByteStands l) None room first_answer) same
    (record { result = atom-stands l (atom.Import 1); scratch = (any, (any, tt)); writes = tt; under = λ k d inside. absurd (omega (arith, inside)); fresh = tt; ending = refl })

second-stands : (l : Addresses) (room : Room) (q : Reply ℕ ℕ) → slice_get (import_replies l) 1 ≡ Some q → ReplyStands (CellsStand l) (ByteStands l) None room second_answer q
second-stands l room q e =
    let any = any-stands l Q 0 (lit< tt) in
    let same : record { result = 0; scratch = replicate 8 0; writes = []; fresh = None; ending = Some (Exited 7) } ≡ q = cc in
    subst (ReplyStands (CellsStand l) (ByteStands l) None room second_answer) same
    (record { result = fitting-stands l Q 0 (lit< tt); scratch = (any, (any, (any, (any, (any, (any, (any, (any, tt)))))))); writes = tt; under = λ k d inside. absurd (omega (arith, inside)); fresh = tt; ending = refl })

abbrev Stand : Addresses → Program FilePoint ℕ (List Cell) → Machine Placed (List Cell) Cell FilePoint → Placed → Type 0
Stand l p m placed = RepliesStand (CellsStand l) (ByteStands l) None (RegionsAreLaidOut l) symbols numbers p m import_answers placed (import_replies l)

-- the answer over numbers with a number
abbrev Answered : Addresses → Placed → SymbolicRun → Reply (List Cell) Cell → ℕ → Type 0
Answered l placed run r n =
    (q : Reply ℕ ℕ) × (slice_get (import_replies l) n ≡ Some q) × ReplyStands (CellsStand l) (ByteStands l) None (reply_room symbols prog run.machine r.ending) r q
    × RegionsAreLaidOut l (placed_with symbols run.machine.placed r.fresh) (placed_with numbers (all_added numbers placed (take n (import_replies l))) q.fresh)

answers-stand : (l : Addresses) (placed : Placed) → RegionsAreLaidOut l (words_placed plain_ground exit_start) placed → Stand l prog first_machine placed
answers-stand l placed laid k run event r e goes asked is = by (asks-where k run event e goes asked)
  where
    by : Either run event → Answered l placed run r (length run.events)
    by (inl at) =
        subst (Answered l placed run r) (sym at.events)
        (subst (λ x. Answered l placed run x 0) (answer-at run 0 first_answer r at.events refl is) (
          record { result = address_of l (atom.Import 1); scratch = 0 ∷ 0 ∷ []; writes = []; fresh = None; ending = None },
          refl,
          first-stands l (reply_room symbols prog run.machine None) _ refl,
          subst (λ d. RegionsAreLaidOut l d placed) (sym at.placed) laid,
        ))
    by (inr at) =
        subst (Answered l placed run r) (sym at.events)
        (subst (λ x. Answered l placed run x 1) (answer-at run 1 second_answer r at.events refl is) (
          record { result = 0; scratch = replicate 8 0; writes = []; fresh = None; ending = Some (Exited 7) },
          refl,
          second-stands l (reply_room symbols prog run.machine (Some (Exited 7))) _ refl,
          subst (λ d. RegionsAreLaidOut l d placed) (sym at.placed) laid,
        ))

file-answers : (l : Addresses) (placed : Placed) → RegionsAreLaidOut l (words_placed import_ground exit_start) placed → Stand l (symbolic import_file) (words_start import_ground exit_start) placed
file-answers l placed laid =
    subst (λ p. Stand l p (words_start import_ground exit_start) placed) (sym program-is)
    (subst (λ m. Stand l prog m placed) (sym machine-is) (answers-stand l placed (subst (λ g. RegionsAreLaidOut l (words_placed g exit_start) placed) ground-is laid)))

-- ---- the theorem at work

calls-stand : {V W : Type 0} (R : V → W → Type 0) (Named : ℕ → ℕ → Type 0) (es : List (Event V)) (fs : List (Event W)) → Both (EventStands R Named) es fs → Both (CallStands Named) (map (λ event. event.call) es) (map (λ event. event.call) fs)
calls-stand R Named [] [] h = tt
calls-stand R Named [] (f ∷ fs) h = absurd h
calls-stand R Named (e ∷ es) [] h = absurd h
calls-stand R Named (e ∷ es) (f ∷ fs) h = (h.0.call, calls-stand R Named es fs h.1)

abbrev run_of : Program FilePoint ℕ (List Cell) → Machine Placed (List Cell) Cell FilePoint → Option SymbolicRun
run_of p m = made symbols p 3 (first_run m import_answers)

run-is : run_of (symbolic import_file) (words_start import_ground exit_start) ≡ made symbols prog 3 begin
run-is = ap (λ p. run_of p (words_start import_ground exit_start)) program-is ∙ ap (run_of prog) machine-is

pub original-calls : (machine : Machine Placed ℕ ℕ ℕ) → Begins (placing_addresses import_file import_placing) import_ground exit_start (numbers_placed import_ground exit_start import_placing.region) 0x11000 machine
    → CallsImport (original import_file import_placing) (placing_addresses import_file import_placing) machine
original-calls machine begins =
    let l = placing_addresses import_file import_placing in
    let Named : ℕ → ℕ → Type 0 = λ i j. have_one_name import_file i j ≡ true in
    let at : import_placing.base + import_ground.entry ≡ 0x11000 = ap (λ a. import_placing.base + a) entry-is in
    let laid = numbers_placed import_ground exit_start import_placing.region in
    let run = there (λ run. run.ending) (made symbols prog 3 begin) (Some (Exited 7)) ends in
    let is_made : run_of (symbolic import_file) (words_start import_ground exit_start) ≡ Some run.0 = run-is ∙ run.1 in
    let ending : run.0.ending ≡ Some (Exited 7) = said (λ run. run.ending) (made symbols prog 3 begin) (Some (Exited 7)) run.0 ends run.1 in
    let asked : map (λ event. event.call) run.0.events ≡ System 39 ∷ Import 1 ∷ [] = said (λ run. map (λ event. event.call) run.events) (made symbols prog 3 begin) (System 39 ∷ Import 1 ∷ []) run.0 calls run.1 in
    let stands : RegionsAreLaidOut l (words_placed import_ground exit_start) machine.placed = subst (RegionsAreLaidOut l (words_placed import_ground exit_start)) (sym begins.placed) (are-laid l import_ground exit_start is-placing.regions) in
    let found =
    original-mirrors import_file import_ground elf-clean (are-functions import_file elf-clean functions-clean points-clean) references-clean fits-file exit_start import_placing is-start is-placing
    import_answers 3 run.0 answers-lawful (lit< tt) is_made machine (import_replies l) (subst (λ a. Begins l import_ground exit_start laid a machine) (sym at) begins) (file-answers l machine.placed stands) in
    let steps = total-steps symbols (symbolic import_file) (first_run (words_start import_ground exit_start) import_answers) run.0 3 is_made in (
      found.0,
      subst (λ n. made numbers (original import_file import_placing) n (first_run machine (import_replies l)) ≡ Some found.0) steps found.1,
      subst (λ cs. Both (CallStands Named) cs (map (λ event. event.call) found.0.events)) asked
          (calls-stand (WordStands l (has_address (labels_of import_file import_ground))) Named run.0.events found.0.events found.2.events),
      sym found.2.ending ∙ ending,
    )
