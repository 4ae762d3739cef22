-- The symbolic machine of the hosted file into which a symbol is copied calls two functions and returns 0, and so by the theorem do
-- the original and the printed program.
use Rattle.std.proofs.Common.{◌≡◌, ℕ, ◌+◌, ◌<◌, List, [], ◌∷◌, map, Option, Some, None, Bool, true, All, nat_lt, refl, sym, ap, subst, lit<}
use Rattle.std.specs.Prelude.{slice_get, slice_index}
use Rattle.std.proofs.lemmas.Bool.{ltb-true}
use Rattle.rw_words.specs.declared.atom.Atom.{Atom}
use Rattle.rw_words.specs.declared.atom.Atom.TheVariants as atom
use Rattle.rw_words.specs.declared.atom.Cell.{Cell}
use Rattle.rw_words.specs.Addresses.{Addresses, address_of}
use Rattle.rw_words.specs.Words.{atom_cells}
use Rattle.rw_domain.specs.Placed.{Placed}
use Rattle.rw_domain.specs.Stands.{Both}
use Rattle.rw_domain.specs.LaidOut.{WordStands}
use Rattle.rw_domain.specs.RegionsLaidOut.{RegionsAreLaidOut}
use Rattle.rw_machine.specs.Program.{Program}
use Rattle.rw_machine.specs.Events.{Call, Import, Event}
use Rattle.rw_machine.specs.Step.{Machine}
use Rattle.rw_machine.specs.Stands.{CallStands, EventStands}
use Rattle.rw_code.specs.declared.point.FilePoint.{FilePoint}
use Rattle.rw_code.specs.Ground.{Ground}
use Rattle.rw_code.specs.Imports.{have_one_name, import_name}
use Rattle.rw_code.specs.Known.{has_address}
use Rattle.rw_code.specs.Replies.{AreLawful}
use Rattle.rw_code.specs.Start.{words_placed, numbers_placed, words_start}
use Rattle.rw_code.specs.File.{labels_of, symbolic}
use Rattle.rw_code.specs.Placing.{placing_addresses, IsPlaceOf}
use Rattle.rw_code.specs.Original.{original}
use Rattle.rw_code.specs.Printed.{printed, PrintedBegins, IsNamed, IsLabelOf}
use Rattle.rw_code.specs.Mirrors.{SymbolicRun, Begins, Alike, Mirrors, no_cost}
use Rattle.rw_code.specs.Example.{exit_start}
use Rattle.rw_code.proofs.Example.{is-start, tested-all}
use Rattle.rw_code.proofs.Mirrors.{are-laid}
use Rattle.rw_code.proofs.KnownTables as known
use Rattle.rw_data.specs.Regions.{start_contents}
use Rattle.rw_out.specs.Items.{no_probes, items_of}
use Rattle.rw_out.specs.Simulates.{names_of, text_addresses}
use Rattle.rw_out_examples.specs.CopyHostedExample.{hosted_answers, hosted_file, hosted_ground, hosted_layout, hosted_placing, CallsBoth}
use Rattle.rw_out_examples.proofs.CopyHostedFile.{entry-is, file-points-are, functions-are, hosted, hosted_points, hosted_slots, main_symbol, slots-are, hosted_tables}
use Rattle.rw_out_examples.proofs.CopyHostedItems.{contents-are, file_contents, no-fault}
use Rattle.rw_out_examples.proofs.ProgramByLists as known_list
use Rattle.rw_out_examples.proofs.ProgramByLists.{known_program}
use Rattle.rw_out_examples.proofs.ImportCalls.{ReturnsAfter, calls-too, first-word, lawful}
use Rattle.rw_out_examples.proofs.CopyHostedPlaces.{is-layout, is-placing}
use Rattle.rw_out.proofs.FileLaw.{originals-file, plain-mirrors, text-regions}

-- ---- its program and its start

abbrev prog : Program FilePoint ℕ (List Cell)
prog = known_program hosted_file hosted_tables hosted_slots hosted_points (main_symbol ∷ [])

program-is : symbolic hosted_file ≡ prog
program-is = known_list.program-is hosted_file hosted_tables hosted_slots hosted_points (main_symbol ∷ []) slots-are file-points-are functions-are

abbrev plain_ground : Ground
plain_ground = known.known_ground hosted_file hosted_tables file_contents true 0x1000

ground-is : hosted_ground ≡ plain_ground
ground-is = known.ground-is hosted_file hosted_tables (start_contents hosted_file) file_contents true 0x1000 contents-are hosted entry-is

abbrev first_machine : Machine Placed (List Cell) Cell FilePoint
first_machine = words_start plain_ground exit_start

machine-is : words_start hosted_ground exit_start ≡ first_machine
machine-is = ap (λ g. words_start g exit_start) ground-is

-- ---- the run of the symbolic machine

-- the first word of the first call
abbrev first_word : List (Event (List Cell)) → Option (Option (List Cell))
first_word es = slice_get (map (λ event. slice_get event.words 0) es) 0

-- what it has called, and that word
abbrev Told : Type 0
Told = List Call × Option (Option (List Cell))

abbrev told_of : SymbolicRun → Told
told_of run = (map (λ event. event.call) run.events, first_word run.events)

abbrev all_told : Told
all_told = (Import 1 ∷ Import 2 ∷ [], Some (Some (atom_cells (atom.Ptr 2 0))))

returns : ReturnsAfter prog first_machine 2 7 told_of all_told
returns = record { before = refl; behind = refl }

file-returns : ReturnsAfter (symbolic hosted_file) (words_start hosted_ground exit_start) 2 7 told_of all_told
file-returns =
    subst (λ p. ReturnsAfter p (words_start hosted_ground exit_start) 2 7 told_of all_told) (sym program-is)
    (subst (λ m. ReturnsAfter prog m 2 7 told_of all_told) (sym machine-is) returns)

pub answers-lawful : AreLawful (labels_of hosted_file hosted_ground) (symbolic hosted_file) (words_start hosted_ground exit_start) hosted_answers
answers-lawful = lawful (symbolic hosted_file) (words_start hosted_ground exit_start) 2 7 told_of all_told file-returns (labels_of hosted_file hosted_ground)

-- ---- the theorem at work

calls-stand : {V W : Type 0} (R : V → W → Type 0) (Named : ℕ → ℕ → Type 0) (es : List (Event V)) (fs : List (Event W)) → Both (EventStands R Named) es fs → Both (CallStands Named) (map (λ event. event.call) es) (map (λ event. event.call) fs)
calls-stand R Named [] [] h = tt
calls-stand R Named [] (f ∷ fs) h = absurd h
calls-stand R Named (e ∷ es) [] h = absurd h
calls-stand R Named (e ∷ es) (f ∷ fs) h = (h.0.call, calls-stand R Named es fs h.1)

-- the place of the copy as the first word of the first call corresponds to its address
word-stands : (l : Addresses) (known : Atom → Bool) (Named : ℕ → ℕ → Type 0) (es : List (Event (List Cell))) (fs : List (Event ℕ)) → Both (EventStands (WordStands l known) Named) es fs
    → first_word es ≡ Some (Some (atom_cells (atom.Ptr 2 0))) → slice_get (map (λ event. slice_index event.words 0) fs) 0 ≡ Some (address_of l (atom.Ptr 2 0))
word-stands l known Named [] fs h e = cc
word-stands l known Named (a ∷ es) [] h e = absurd h
word-stands l known Named (a ∷ es) (b ∷ fs) h e =
    let is : slice_get a.words 0 ≡ Some (atom_cells (atom.Ptr 2 0)) = cc in
    ap Some (first-word l known (atom.Ptr 2 0) a.words b.words h.0.words is)

-- a program that mirrors the symbolic one makes the calls and returns as well
mirror-calls : {R P : Type 0} (other : Program P R ℕ) (l : Addresses) (Begin : Machine Placed ℕ ℕ P → Type 0) (Named : ℕ → ℕ → Type 0) (Near : FilePoint → P → Type 0)
    → Mirrors hosted_file hosted_ground exit_start no_cost other l Begin (λ answers n. Alike l (labels_of hosted_file hosted_ground) None Named Near)
    → (machine : Machine Placed ℕ ℕ P) → Begin machine → RegionsAreLaidOut l (words_placed hosted_ground exit_start) machine.placed → CallsBoth Named (address_of l (atom.Ptr 2 0)) other machine
mirror-calls other l Begin Named Near mirrors machine begins laid =
    let known = has_address (labels_of hosted_file hosted_ground) in
    let found = calls-too hosted_file hosted_ground exit_start 2 7 told_of all_told (lit< tt) file-returns other l Begin Named Near mirrors machine begins laid in
    let asked : map (λ event. event.call) found.run.events ≡ Import 1 ∷ Import 2 ∷ [] = ap (λ x. x.0) found.tells in
    let word : first_word found.run.events ≡ Some (Some (atom_cells (atom.Ptr 2 0))) = ap (λ x. x.1) found.tells in (
      found.other_run,
      found.makes,
      subst (λ cs. Both (CallStands Named) cs (map (λ event. event.call) found.other_run.events)) asked (calls-stand (WordStands l known) Named found.run.events found.other_run.events found.events),
      word-stands l known Named found.run.events found.other_run.events found.events word,
      found.ending,
    )

bytes : All (λ b. b < 256) hosted_file
bytes = tested-all (λ b. nat_lt b 256) (λ b. b < 256) (λ b h. ltb-true b 256 h) hosted_file refl

pub original-calls : (machine : Machine Placed ℕ ℕ ℕ) → Begins (placing_addresses hosted_file hosted_placing) hosted_ground exit_start (numbers_placed hosted_ground exit_start hosted_placing.region) 0x11000 machine
    → CallsBoth (λ i j. have_one_name hosted_file i j ≡ true) 0x14000 (original hosted_file hosted_placing) machine
original-calls machine begins =
    let l = placing_addresses hosted_file hosted_placing in
    let at : hosted_placing.base + hosted_ground.entry ≡ 0x11000 = ap (λ a. hosted_placing.base + a) entry-is in
    let laid = numbers_placed hosted_ground exit_start hosted_placing.region in
    mirror-calls (original hosted_file hosted_placing) l (Begins l hosted_ground exit_start laid (hosted_placing.base + hosted_ground.entry)) (λ i j. have_one_name hosted_file i j ≡ true) (IsPlaceOf hosted_file hosted_placing.base)
    (originals-file hosted_file no-fault bytes exit_start hosted_placing is-start is-placing) machine (subst (λ a. Begins l hosted_ground exit_start laid a machine) (sym at) begins)
    (subst (RegionsAreLaidOut l (words_placed hosted_ground exit_start)) (sym begins.placed) (are-laid l hosted_ground exit_start is-placing.regions))

pub printed-calls : (machine : Machine Placed ℕ ℕ ℕ) → PrintedBegins (text_addresses hosted_file hosted_layout) (items_of hosted_file) hosted_layout exit_start machine
    → CallsBoth (IsNamed (import_name hosted_file) (names_of hosted_file (items_of hosted_file))) 0x300000 (printed (items_of hosted_file) (names_of hosted_file (items_of hosted_file)) hosted_layout) machine
printed-calls machine begins =
    let l = text_addresses hosted_file hosted_layout in
    let items = items_of hosted_file in
    mirror-calls (printed items (names_of hosted_file items) hosted_layout) l (PrintedBegins l items hosted_layout exit_start) (IsNamed (import_name hosted_file) (names_of hosted_file items)) (IsLabelOf items)
    (plain-mirrors hosted_file no-fault bytes exit_start hosted_layout is-start is-layout) machine begins
    (subst (RegionsAreLaidOut l (words_placed hosted_ground exit_start)) (sym begins.placed)
    (text-regions hosted_file no_probes no-fault bytes exit_start hosted_layout is-layout))
