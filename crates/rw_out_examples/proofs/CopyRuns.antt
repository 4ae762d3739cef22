-- The symbolic machine of the file into which a symbol is copied traps at ud2, and so by the theorem do the original and the printed
-- program.
use Rattle.std.proofs.Common.{◌≡◌, ℕ, ◌+◌, ◌<◌, List, [], ◌∷◌, length, Option, Some, None, true, false, All, nat_lt, refl, sym, ap, subst, ◌∙◌, arith, lit<}
use Rattle.std.specs.Prelude.{option_map, slice_get}
use Rattle.std.proofs.lemmas.Bool.{ltb-true}
use Rattle.std.proofs.lemmas.Option.{slice_get_past}
use Rattle.rw_words.specs.declared.atom.Cell.{Cell}
use Rattle.rw_words.specs.Addresses.{Addresses, CellsStand}
use Rattle.rw_domain.specs.Placed.{Placed}
use Rattle.rw_domain.specs.Stands.{Both}
use Rattle.rw_domain.specs.RegionsLaidOut.{ByteStands, RegionsAreLaidOut}
use Rattle.rw_machine.specs.declared.ending.End.{End}
use Rattle.rw_machine.specs.declared.ending.End.TheVariants.{Trapped}
use Rattle.rw_machine.specs.declared.ending.Trap.TheVariants.{Ud2}
use Rattle.rw_machine.specs.Program.{Program}
use Rattle.rw_machine.specs.Events.{Event, Reply}
use Rattle.rw_machine.specs.Step.{Machine}
use Rattle.rw_machine.specs.Domains.{symbols, numbers}
use Rattle.rw_runs.specs.Runs.{first_run, made}
use Rattle.rw_runs.specs.RunStands.{RepliesStand}
use Rattle.rw_runs.proofs.RunLaw.{total-steps}
use Rattle.rw_code.specs.declared.point.FilePoint.{FilePoint}
use Rattle.rw_code.specs.Ground.{Ground}
use Rattle.rw_code.specs.Imports.{have_one_name, import_name}
use Rattle.rw_code.specs.Known.{Labels}
use Rattle.rw_code.specs.Replies.{AreLawful}
use Rattle.rw_code.specs.Start.{numbers_placed, words_start}
use Rattle.rw_code.specs.File.{labels_of, symbolic}
use Rattle.rw_code.specs.Placing.{placing_addresses, IsPlaceOf}
use Rattle.rw_code.specs.Original.{original}
use Rattle.rw_code.specs.Printed.{printed, PrintedBegins, IsNamed, IsLabelOf}
use Rattle.rw_code.specs.Mirrors.{SymbolicRun, Begins, Alike, Mirrors, no_cost}
use Rattle.rw_code.specs.Example.{exit_start}
use Rattle.rw_code.proofs.Example.{is-start, tested-all}
use Rattle.rw_code.proofs.ExampleRuns.{said, there}
use Rattle.rw_code.proofs.KnownTables as known
use Rattle.rw_data.specs.Regions.{start_contents}
use Rattle.rw_out.specs.Items.{items_of}
use Rattle.rw_out.specs.Simulates.{names_of, text_addresses}
use Rattle.rw_out_examples.specs.CopyExample.{copy_file, copy_ground, copy_layout, copy_placing, TrapsAtUd2}
use Rattle.rw_out_examples.proofs.CopyFile.{copy_points, entry-is, file_copies, file-points-are, functions-are, not-hosted, start_symbol, copy_tables, slots-are}
use Rattle.rw_out_examples.proofs.CopyItems.{contents-are, file_contents, no-fault}
use Rattle.rw_out_examples.proofs.ProgramByLists as known_list
use Rattle.rw_out_examples.proofs.ProgramByLists.{known_program}
use Rattle.rw_out_examples.proofs.CopyPlaces.{is-layout, is-placing}
use Rattle.rw_out.proofs.FileLaw.{originals-file, plain-mirrors}

-- ---- its program and its start

abbrev prog : Program FilePoint ℕ (List Cell)
prog = known_program copy_file copy_tables file_copies copy_points (start_symbol ∷ [])

program-is : symbolic copy_file ≡ prog
program-is = known_list.program-is copy_file copy_tables file_copies copy_points (start_symbol ∷ []) slots-are file-points-are functions-are

abbrev plain_ground : Ground
plain_ground = known.known_ground copy_file copy_tables file_contents false 0x1000

ground-is : copy_ground ≡ plain_ground
ground-is = known.ground-is copy_file copy_tables (start_contents copy_file) file_contents false 0x1000 contents-are not-hosted entry-is

abbrev run_of : Program FilePoint ℕ (List Cell) → Machine Placed (List Cell) Cell FilePoint → Option SymbolicRun
run_of p m = made symbols p 2 (first_run m [])

abbrev first_machine : Machine Placed (List Cell) Cell FilePoint
first_machine = words_start plain_ground exit_start

run-is : run_of (symbolic copy_file) (words_start copy_ground exit_start) ≡ run_of prog first_machine
run-is = ap (λ p. run_of p (words_start copy_ground exit_start)) program-is ∙ ap (λ g. run_of prog (words_start g exit_start)) ground-is

-- ---- the run of the symbolic machine

ends : option_map {U = Option End} (λ run. run.ending) (run_of prog first_machine) ≡ Some (Some (Trapped Ud2))
ends = refl

calls : option_map {U = List (Event (List Cell))} (λ run. run.events) (run_of prog first_machine) ≡ Some []
calls = refl

-- with no answer each is lawful, and each stands for one over numbers
none-answers : (i : ℕ) (r : Reply (List Cell) Cell) → slice_get [] i ≡ Some r → ⊥
none-answers i r e = let none : ◌≡◌ {A = Option (Reply (List Cell) Cell)} (slice_get [] i) None = slice_get_past [] i (omega arith) in cc

lawful : (labels : Labels) → AreLawful labels (symbolic copy_file) (words_start copy_ground exit_start) []
lawful labels k run event r e goes asked is = absurd (none-answers (length run.events) r is)

answers-stand : (l : Addresses) (placed : Placed) → RepliesStand (CellsStand l) (ByteStands l) None (RegionsAreLaidOut l) symbols numbers (symbolic copy_file) (words_start copy_ground exit_start) [] placed []
answers-stand l placed k run event r e goes asked is = absurd (none-answers (length run.events) r is)

-- ---- the theorem at work

no-events : {A B : Type 0} (R : A → B → Type 0) (es : List A) (fs : List B) → Both R es fs → es ≡ [] → fs ≡ []
no-events R [] [] h e = refl
no-events R [] (f ∷ fs) h e = absurd h
no-events R (a ∷ es) fs h e = cc

-- a program that mirrors the symbolic one traps as well
mirror-traps : {R P : Type 0} (other : Program P R ℕ) (l : Addresses) (Begin : Machine Placed ℕ ℕ P → Type 0) (Named : ℕ → ℕ → Type 0) (Near : FilePoint → P → Type 0)
    → Mirrors copy_file copy_ground exit_start no_cost other l Begin (λ answers n. Alike l (labels_of copy_file copy_ground) None Named Near) → (machine : Machine Placed ℕ ℕ P) → Begin machine → TrapsAtUd2 other machine
mirror-traps other l Begin Named Near mirrors machine begins =
    let run = there (λ run. run.ending) (run_of prog first_machine) (Some (Trapped Ud2)) ends in
    let is_made : run_of (symbolic copy_file) (words_start copy_ground exit_start) ≡ Some run.0 = run-is ∙ run.1 in
    let ending : run.0.ending ≡ Some (Trapped Ud2) = said (λ run. run.ending) (run_of prog first_machine) (Some (Trapped Ud2)) run.0 ends run.1 in
    let silent : run.0.events ≡ [] = said (λ run. run.events) (run_of prog first_machine) [] run.0 calls run.1 in
    let found = mirrors [] 2 run.0 (lawful (labels_of copy_file copy_ground)) (lit< tt) is_made machine [] begins (answers-stand l machine.placed) in
    let steps = total-steps symbols (symbolic copy_file) (first_run (words_start copy_ground exit_start) []) run.0 2 is_made in (
      found.0,
      subst (λ n. made numbers other n (first_run machine []) ≡ Some found.0) steps found.1,
      no-events _ run.0.events found.0.events found.2.events silent,
      sym found.2.ending ∙ ending,
    )

bytes : All (λ b. b < 256) copy_file
bytes = tested-all (λ b. nat_lt b 256) (λ b. b < 256) (λ b h. ltb-true b 256 h) copy_file refl

pub original-traps : (machine : Machine Placed ℕ ℕ ℕ)
    → Begins (placing_addresses copy_file copy_placing) copy_ground exit_start (numbers_placed copy_ground exit_start copy_placing.region) (copy_placing.base + copy_ground.entry) machine
    → TrapsAtUd2 (original copy_file copy_placing) machine
original-traps =
    let l = placing_addresses copy_file copy_placing in
    mirror-traps (original copy_file copy_placing) l (Begins l copy_ground exit_start (numbers_placed copy_ground exit_start copy_placing.region) (copy_placing.base + copy_ground.entry)) (λ i j. have_one_name copy_file i j ≡ true)
    (IsPlaceOf copy_file copy_placing.base) (originals-file copy_file no-fault bytes exit_start copy_placing is-start is-placing)

pub printed-traps : (machine : Machine Placed ℕ ℕ ℕ) → PrintedBegins (text_addresses copy_file copy_layout) (items_of copy_file) copy_layout exit_start machine
    → TrapsAtUd2 (printed (items_of copy_file) (names_of copy_file (items_of copy_file)) copy_layout) machine
printed-traps =
    let l = text_addresses copy_file copy_layout in
    let items = items_of copy_file in
    mirror-traps (printed items (names_of copy_file items) copy_layout) l (PrintedBegins l items copy_layout exit_start) (IsNamed (import_name copy_file) (names_of copy_file items)) (IsLabelOf items)
    (plain-mirrors copy_file no-fault bytes exit_start copy_layout is-start is-layout)
