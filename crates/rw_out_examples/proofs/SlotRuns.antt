-- The symbolic machine of the file with data exits with the number that its slot leads to, and so by the theorem do the original and
-- the printed program.
use Rattle.std.proofs.Common.{◌≡◌, ℕ, ◌+◌, ◌<◌, List, [], ◌∷◌, false, All, nat_lt, refl, sym, ap, subst, lit<}
use Rattle.std.proofs.lemmas.Bool.{ltb-true}
use Rattle.rw_words.specs.declared.atom.Cell.{Cell}
use Rattle.rw_domain.specs.Placed.{Placed}
use Rattle.rw_machine.specs.Program.{Program}
use Rattle.rw_machine.specs.Step.{Machine}
use Rattle.rw_code.specs.declared.point.FilePoint.{FilePoint}
use Rattle.rw_code.specs.Ground.{Ground}
use Rattle.rw_code.specs.Start.{numbers_placed, words_start}
use Rattle.rw_code.specs.File.{symbolic}
use Rattle.rw_code.specs.Placing.{placing_addresses}
use Rattle.rw_code.specs.Original.{original}
use Rattle.rw_code.specs.Printed.{printed, PrintedBegins}
use Rattle.rw_code.specs.Mirrors.{Begins}
use Rattle.rw_code.specs.Example.{exit_start}
use Rattle.rw_code.proofs.Example.{is-start, tested-all}
use Rattle.rw_code.proofs.KnownTables as known
use Rattle.rw_data.specs.Regions.{start_contents}
use Rattle.rw_out.specs.Items.{items_of}
use Rattle.rw_out.specs.Simulates.{names_of, text_addresses}
use Rattle.rw_out_examples.specs.DataExample.{ExitsWith}
use Rattle.rw_out_examples.specs.SlotExample.{slot_file, slot_ground, slot_layout, slot_placing}
use Rattle.rw_out_examples.proofs.ExitLaw.{original-exits, printed-exits}
use Rattle.rw_out_examples.proofs.OneExit.{ExitsAfter, exits-by-steps}
use Rattle.rw_out_examples.proofs.SlotFile.{slot_points, slot_symbol, entry-is, file-points-are, functions-are, not-hosted, slot_tables, file_slots, slots-are}
use Rattle.rw_out_examples.proofs.SlotItems.{contents-are, file_contents, no-fault}
use Rattle.rw_out_examples.proofs.ProgramByLists as known_list
use Rattle.rw_out_examples.proofs.ProgramByLists.{known_program}
use Rattle.rw_out_examples.proofs.SlotPlaces.{is-layout, is-placing}

-- ---- its program and its start

abbrev prog : Program FilePoint ℕ (List Cell)
prog = known_program slot_file slot_tables file_slots slot_points (slot_symbol ∷ [])

program-is : symbolic slot_file ≡ prog
program-is = known_list.program-is slot_file slot_tables file_slots slot_points (slot_symbol ∷ []) slots-are file-points-are functions-are

abbrev plain_ground : Ground
plain_ground = known.known_ground slot_file slot_tables file_contents false 0x1000

ground-is : slot_ground ≡ plain_ground
ground-is = known.ground-is slot_file slot_tables (start_contents slot_file) file_contents false 0x1000 contents-are not-hosted entry-is

abbrev first_machine : Machine Placed (List Cell) Cell FilePoint
first_machine = words_start plain_ground exit_start

machine-is : words_start slot_ground exit_start ≡ first_machine
machine-is = ap (λ g. words_start g exit_start) ground-is

exits : ExitsAfter prog first_machine 3 9
exits = exits-by-steps prog first_machine 3 9 refl refl refl

file-exits : ExitsAfter (symbolic slot_file) (words_start slot_ground exit_start) 3 9
file-exits = subst (λ p. ExitsAfter p (words_start slot_ground exit_start) 3 9) (sym program-is) (subst (λ m. ExitsAfter prog m 3 9) (sym machine-is) exits)

-- ---- the theorem at work

bytes : All (λ b. b < 256) slot_file
bytes = tested-all (λ b. nat_lt b 256) (λ b. b < 256) (λ b h. ltb-true b 256 h) slot_file refl

pub slot-original : (machine : Machine Placed ℕ ℕ ℕ)
    → Begins (placing_addresses slot_file slot_placing) slot_ground exit_start (numbers_placed slot_ground exit_start slot_placing.region) (slot_placing.base + slot_ground.entry) machine
    → ExitsWith 4 9 (original slot_file slot_placing) machine
slot-original = original-exits slot_file no-fault bytes exit_start is-start 3 9 (lit< tt) (lit< tt) file-exits slot_placing is-placing

pub slot-printed : (machine : Machine Placed ℕ ℕ ℕ) → PrintedBegins (text_addresses slot_file slot_layout) (items_of slot_file) slot_layout exit_start machine
    → ExitsWith 4 9 (printed (items_of slot_file) (names_of slot_file (items_of slot_file)) slot_layout) machine
slot-printed = printed-exits slot_file no-fault bytes exit_start is-start 3 9 (lit< tt) (lit< tt) file-exits slot_layout is-layout
