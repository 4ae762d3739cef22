-- Where the symbolic machine of a file exits, so do the original and the printed program, by the theorem: and what that says of the
-- worked files.
use Rattle.std.proofs.Common.{◌≡◌, ℕ, suc, ◌+◌, ◌^◌, ◌<◌, List, All, None, true, refl, sym, subst, lit<}
use Rattle.std.specs.Prelude.{nat_lt}
use Rattle.std.proofs.lemmas.Bool.{ltb-true}
use Rattle.asm_items.specs.Layout.{Layout}
use Rattle.rw_domain.specs.Placed.{Placed}
use Rattle.rw_domain.specs.RegionsLaidOut.{RegionsAreLaidOut}
use Rattle.rw_machine.specs.Step.{Machine}
use Rattle.rw_code.specs.Imports.{have_one_name, import_name}
use Rattle.rw_code.specs.Start.{Start, IsStart, numbers_placed, words_placed, words_start}
use Rattle.rw_code.specs.File.{symbolic}
use Rattle.rw_code.specs.Placing.{Placing, IsPlacing, placing_addresses, IsPlaceOf}
use Rattle.rw_code.specs.Original.{original}
use Rattle.rw_code.specs.Mirrors.{Begins}
use Rattle.rw_code.specs.Printed.{printed, PrintedBegins, IsNamed, IsLabelOf}
use Rattle.rw_code.specs.Example.{exit_start}
use Rattle.rw_code.proofs.Example.{is-start, tested-all}
use Rattle.rw_code.proofs.Mirrors.{are-laid}
use Rattle.rw_data.specs.FirstFault.{first_fault}
use Rattle.rw_out.specs.Items.{no_probes, items_of}
use Rattle.rw_out.specs.Simulates.{names_of, IsTextLayout, text_addresses}
use Rattle.rw_out_examples.specs.DataExample.{data_file, data_layout, data_placing, ExitsWith}
use Rattle.rw_out_examples.specs.JumpExample.{jump_file, jump_layout}
use Rattle.rw_out_examples.proofs.DataFile as data_facts
use Rattle.rw_out_examples.proofs.DataExample as data_place
use Rattle.rw_out_examples.proofs.DataText as data_text
use Rattle.rw_out_examples.proofs.DataRuns as data_runs
use Rattle.rw_out_examples.proofs.JumpFile as jump_facts
use Rattle.rw_out_examples.proofs.JumpText as jump_text
use Rattle.rw_out_examples.proofs.JumpRuns as jump_runs
use Rattle.rw_out_examples.proofs.OneExit.{ExitsAfter, mirror-exits}
use Rattle.rw_out.proofs.FileLaw.{file_ground, originals-file, plain-mirrors, text-regions}

module _ (file : List ℕ) (no_fault : first_fault file ≡ None) (bytes : All (λ b. b < 256) file) (start : Start) (is_start : IsStart start) (n v : ℕ) (small : v < 256) (few : suc n < 2 ^ 64)
    (exits : ExitsAfter (symbolic file) (words_start (file_ground file) start) n v) where
  pub original-exits : (placing : Placing) → IsPlacing file (file_ground file) start placing → (machine : Machine Placed ℕ ℕ ℕ)
      → Begins (placing_addresses file placing) (file_ground file) start (numbers_placed (file_ground file) start placing.region) (placing.base + (file_ground file).entry) machine → ExitsWith (suc n) v (original file placing) machine
  original-exits placing is machine begins =
      let l = placing_addresses file placing in
      let g = file_ground file in
      mirror-exits file g start n v small few exits (original file placing) l (Begins l g start (numbers_placed g start placing.region) (placing.base + g.entry)) (λ i j. have_one_name file i j ≡ true) (IsPlaceOf file placing.base)
      (originals-file file no_fault bytes start placing is_start is)
      (λ m h. subst (RegionsAreLaidOut l (words_placed g start)) (sym h.placed) (are-laid l g start is.regions)) machine begins

  pub printed-exits : (layout : Layout) → IsTextLayout file (items_of file) start layout → (machine : Machine Placed ℕ ℕ ℕ)
      → PrintedBegins (text_addresses file layout) (items_of file) layout start machine → ExitsWith (suc n) v (printed (items_of file) (names_of file (items_of file)) layout) machine
  printed-exits layout is machine begins =
      let l = text_addresses file layout in
      let g = file_ground file in
      let items = items_of file in
      mirror-exits file g start n v small few exits (printed items (names_of file items) layout) l (PrintedBegins l items layout start) (IsNamed (import_name file) (names_of file items)) (IsLabelOf items)
      (plain-mirrors file no_fault bytes start layout is_start is)
      (λ m h. subst (RegionsAreLaidOut l (words_placed g start)) (sym h.placed) (text-regions file no_probes no_fault bytes start layout is)) machine begins

-- ---- the file with data

data-bytes : All (λ b. b < 256) data_file
data-bytes = tested-all (λ b. nat_lt b 256) (λ b. b < 256) (λ b h. ltb-true b 256 h) data_file refl

pub data-original : (machine : Machine Placed ℕ ℕ ℕ)
    → Begins (placing_addresses data_file data_placing) (file_ground data_file) exit_start (numbers_placed (file_ground data_file) exit_start data_placing.region) (data_placing.base + (file_ground data_file).entry) machine
    → ExitsWith 4 7 (original data_file data_placing) machine
data-original = original-exits data_file data_facts.no-fault data-bytes exit_start is-start 3 7 (lit< tt) (lit< tt) data_runs.file-exits data_placing data_place.is-placing

pub data-printed : (machine : Machine Placed ℕ ℕ ℕ) → PrintedBegins (text_addresses data_file data_layout) (items_of data_file) data_layout exit_start machine
    → ExitsWith 4 7 (printed (items_of data_file) (names_of data_file (items_of data_file)) data_layout) machine
data-printed = printed-exits data_file data_facts.no-fault data-bytes exit_start is-start 3 7 (lit< tt) (lit< tt) data_runs.file-exits data_layout data_text.is-layout

-- ---- the file with a jump table

jump-bytes : All (λ b. b < 256) jump_file
jump-bytes = tested-all (λ b. nat_lt b 256) (λ b. b < 256) (λ b h. ltb-true b 256 h) jump_file refl

pub jump-original : (machine : Machine Placed ℕ ℕ ℕ)
    → Begins (placing_addresses jump_file data_placing) (file_ground jump_file) exit_start (numbers_placed (file_ground jump_file) exit_start data_placing.region) (data_placing.base + (file_ground jump_file).entry) machine
    → ExitsWith 11 11 (original jump_file data_placing) machine
jump-original = original-exits jump_file jump_facts.no-fault jump-bytes exit_start is-start 10 11 (lit< tt) (lit< tt) jump_runs.file-exits data_placing jump_text.is-placing

pub jump-printed : (machine : Machine Placed ℕ ℕ ℕ) → PrintedBegins (text_addresses jump_file jump_layout) (items_of jump_file) jump_layout exit_start machine
    → ExitsWith 11 11 (printed (items_of jump_file) (names_of jump_file (items_of jump_file)) jump_layout) machine
jump-printed = printed-exits jump_file jump_facts.no-fault jump-bytes exit_start is-start 10 11 (lit< tt) (lit< tt) jump_runs.file-exits jump_layout jump_text.is-layout
