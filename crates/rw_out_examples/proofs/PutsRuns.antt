-- The symbolic machine of the file that calls an imported function returns 0, and so by the theorem do the original and the printed
-- program.
use Rattle.std.proofs.Common.{◌≡◌, ℕ, ◌+◌, ◌<◌, List, [], ◌∷◌, map, Option, Some, None, Bool, true, All, nat_lt, refl, sym, ap, subst, lit<}
use Rattle.std.specs.Prelude.{slice_get, slice_index}
use Rattle.std.proofs.lemmas.Bool.{ltb-true}
use Rattle.rw_words.specs.declared.atom.Atom.{Atom}
use Rattle.rw_words.specs.declared.atom.Atom.TheVariants as atom
use Rattle.rw_words.specs.declared.atom.Cell.{Cell}
use Rattle.rw_words.specs.Addresses.{Addresses, address_of}
use Rattle.rw_words.specs.Words.{atom_cells}
use Rattle.rw_domain.specs.Placed.{Placed}
use Rattle.rw_domain.specs.Stands.{Both}
use Rattle.rw_domain.specs.LaidOut.{WordStands}
use Rattle.rw_domain.specs.RegionsLaidOut.{RegionsAreLaidOut}
use Rattle.rw_machine.specs.Program.{Program}
use Rattle.rw_machine.specs.Events.{Call, Import, Event}
use Rattle.rw_machine.specs.Step.{Machine}
use Rattle.rw_machine.specs.Stands.{CallStands, EventStands}
use Rattle.rw_code.specs.declared.point.FilePoint.{FilePoint}
use Rattle.rw_code.specs.Ground.{Ground}
use Rattle.rw_code.specs.Imports.{have_one_name, import_name}
use Rattle.rw_code.specs.Known.{has_address}
use Rattle.rw_code.specs.Replies.{AreLawful}
use Rattle.rw_code.specs.Start.{words_placed, numbers_placed, words_start}
use Rattle.rw_code.specs.File.{labels_of, symbolic}
use Rattle.rw_code.specs.Placing.{placing_addresses, IsPlaceOf}
use Rattle.rw_code.specs.Original.{original}
use Rattle.rw_code.specs.Printed.{printed, PrintedBegins, IsNamed, IsLabelOf}
use Rattle.rw_code.specs.Mirrors.{SymbolicRun, Begins, Alike, Mirrors, no_cost}
use Rattle.rw_code.specs.Example.{exit_start}
use Rattle.rw_code.proofs.Example.{is-start, tested-all}
use Rattle.rw_code.proofs.Mirrors.{are-laid}
use Rattle.rw_code.proofs.KnownTables as known
use Rattle.rw_data.specs.Regions.{start_contents}
use Rattle.rw_out.specs.Items.{no_probes, items_of}
use Rattle.rw_out.specs.Simulates.{names_of, text_addresses}
use Rattle.rw_out_examples.specs.PutsExample.{puts_answers, puts_file, puts_ground, puts_layout, puts_placing, CallsPuts}
use Rattle.rw_out_examples.proofs.PutsFile.{entry-is, file-points-are, functions-are, hosted, main_symbol, puts_points, puts_slots, slots-are, puts_tables}
use Rattle.rw_out_examples.proofs.PutsItems.{contents-are, file_contents, no-fault}
use Rattle.rw_out_examples.proofs.ProgramByLists as known_list
use Rattle.rw_out_examples.proofs.ProgramByLists.{known_program}
use Rattle.rw_out_examples.proofs.ImportCalls.{ReturnsAfter, calls-too, first-word, lawful}
use Rattle.rw_out_examples.proofs.PutsPlaces.{is-layout, is-placing}
use Rattle.rw_out.proofs.FileLaw.{originals-file, plain-mirrors, text-regions}

-- ---- its program and its start

abbrev prog : Program FilePoint ℕ (List Cell)
prog = known_program puts_file puts_tables puts_slots puts_points (main_symbol ∷ [])

program-is : symbolic puts_file ≡ prog
program-is = known_list.program-is puts_file puts_tables puts_slots puts_points (main_symbol ∷ []) slots-are file-points-are functions-are

abbrev plain_ground : Ground
plain_ground = known.known_ground puts_file puts_tables file_contents true 0x1000

ground-is : puts_ground ≡ plain_ground
ground-is = known.ground-is puts_file puts_tables (start_contents puts_file) file_contents true 0x1000 contents-are hosted entry-is

abbrev first_machine : Machine Placed (List Cell) Cell FilePoint
first_machine = words_start plain_ground exit_start

machine-is : words_start puts_ground exit_start ≡ first_machine
machine-is = ap (λ g. words_start g exit_start) ground-is

-- ---- the run of the symbolic machine

-- a call, and its first word
abbrev first_of : Event (List Cell) → Call × Option (List Cell)
first_of event = (event.call, slice_get event.words 0)

abbrev puts_call : Call × Option (List Cell)
puts_call = (Import 1, Some (atom_cells (atom.Ptr 0 0)))

abbrev calls_of : SymbolicRun → List (Call × Option (List Cell))
calls_of run = map first_of run.events

returns : ReturnsAfter prog first_machine 1 6 calls_of (puts_call ∷ [])
returns = record { before = refl; behind = refl }

file-returns : ReturnsAfter (symbolic puts_file) (words_start puts_ground exit_start) 1 6 calls_of (puts_call ∷ [])
file-returns =
    subst (λ p. ReturnsAfter p (words_start puts_ground exit_start) 1 6 calls_of (puts_call ∷ [])) (sym program-is)
    (subst (λ m. ReturnsAfter prog m 1 6 calls_of (puts_call ∷ [])) (sym machine-is) returns)

pub answers-lawful : AreLawful (labels_of puts_file puts_ground) (symbolic puts_file) (words_start puts_ground exit_start) puts_answers
answers-lawful = lawful (symbolic puts_file) (words_start puts_ground exit_start) 1 6 calls_of (puts_call ∷ []) file-returns (labels_of puts_file puts_ground)

-- ---- the theorem at work

abbrev first_number : Event ℕ → ℕ
first_number event = slice_index event.words 0

-- one call of the imported function corresponds to one of its name, and the place of the data as its first word to the address
-- of that
record CallsAlike (l : Addresses) (Named : ℕ → ℕ → Type 0) (fs : List (Event ℕ)) : Type 0 where
  call : Both (CallStands Named) (Import 1 ∷ []) (map (λ event. event.call) fs)
  word : map first_number fs ≡ address_of l (atom.Ptr 0 0) ∷ []

one_call : (l : Addresses) (known : Atom → Bool) (Named : ℕ → ℕ → Type 0) (es : List (Event (List Cell))) (fs : List (Event ℕ)) → Both (EventStands (WordStands l known) Named) es fs
    → map first_of es ≡ puts_call ∷ [] → CallsAlike l Named fs
one_call l known Named [] fs h e = cc
one_call l known Named (a ∷ []) [] h e = absurd h
one_call l known Named (a ∷ []) (b ∷ []) h e =
    let is : first_of a ≡ puts_call = cc in
    record {
      call = (subst (λ c. CallStands Named c b.call) (ap (λ x. x.0) is) h.0.call, tt);
      word = ap (λ n. n ∷ []) (first-word l known (atom.Ptr 0 0) a.words b.words h.0.words (ap (λ x. x.1) is));
    }
one_call l known Named (a ∷ []) (b ∷ c ∷ fs) h e = absurd h.1
one_call l known Named (a ∷ d ∷ es) fs h e = cc

-- a program that mirrors the symbolic one makes the call and returns as well
mirror-calls : {R P : Type 0} (other : Program P R ℕ) (l : Addresses) (Begin : Machine Placed ℕ ℕ P → Type 0) (Named : ℕ → ℕ → Type 0) (Near : FilePoint → P → Type 0)
    → Mirrors puts_file puts_ground exit_start no_cost other l Begin (λ answers n. Alike l (labels_of puts_file puts_ground) None Named Near)
    → (machine : Machine Placed ℕ ℕ P) → Begin machine → RegionsAreLaidOut l (words_placed puts_ground exit_start) machine.placed → CallsPuts Named (address_of l (atom.Ptr 0 0)) other machine
mirror-calls other l Begin Named Near mirrors machine begins laid =
    let found = calls-too puts_file puts_ground exit_start 1 6 calls_of (puts_call ∷ []) (lit< tt) file-returns other l Begin Named Near mirrors machine begins laid in
    let alike = one_call l (has_address (labels_of puts_file puts_ground)) Named found.run.events found.other_run.events found.events found.tells in
    (found.other_run, found.makes, alike.call, alike.word, found.ending)

bytes : All (λ b. b < 256) puts_file
bytes = tested-all (λ b. nat_lt b 256) (λ b. b < 256) (λ b h. ltb-true b 256 h) puts_file refl

pub original-calls : (machine : Machine Placed ℕ ℕ ℕ) → Begins (placing_addresses puts_file puts_placing) puts_ground exit_start (numbers_placed puts_ground exit_start puts_placing.region) 0x11000 machine
    → CallsPuts (λ i j. have_one_name puts_file i j ≡ true) 0x12000 (original puts_file puts_placing) machine
original-calls machine begins =
    let l = placing_addresses puts_file puts_placing in
    let at : puts_placing.base + puts_ground.entry ≡ 0x11000 = ap (λ a. puts_placing.base + a) entry-is in
    let laid = numbers_placed puts_ground exit_start puts_placing.region in
    mirror-calls (original puts_file puts_placing) l (Begins l puts_ground exit_start laid (puts_placing.base + puts_ground.entry)) (λ i j. have_one_name puts_file i j ≡ true) (IsPlaceOf puts_file puts_placing.base)
    (originals-file puts_file no-fault bytes exit_start puts_placing is-start is-placing) machine (subst (λ a. Begins l puts_ground exit_start laid a machine) (sym at) begins)
    (subst (RegionsAreLaidOut l (words_placed puts_ground exit_start)) (sym begins.placed) (are-laid l puts_ground exit_start is-placing.regions))

pub printed-calls : (machine : Machine Placed ℕ ℕ ℕ) → PrintedBegins (text_addresses puts_file puts_layout) (items_of puts_file) puts_layout exit_start machine
    → CallsPuts (IsNamed (import_name puts_file) (names_of puts_file (items_of puts_file))) 0x100000 (printed (items_of puts_file) (names_of puts_file (items_of puts_file)) puts_layout) machine
printed-calls machine begins =
    let l = text_addresses puts_file puts_layout in
    let items = items_of puts_file in
    mirror-calls (printed items (names_of puts_file items) puts_layout) l (PrintedBegins l items puts_layout exit_start) (IsNamed (import_name puts_file) (names_of puts_file items)) (IsLabelOf items)
    (plain-mirrors puts_file no-fault bytes exit_start puts_layout is-start is-layout) machine begins
    (subst (RegionsAreLaidOut l (words_placed puts_ground exit_start)) (sym begins.placed)
    (text-regions puts_file no_probes no-fault bytes exit_start puts_layout is-layout))
