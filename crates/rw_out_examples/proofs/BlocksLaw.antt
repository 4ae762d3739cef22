-- The printed program of the file with probes at its blocks counts them, by the theorem.
use Rattle.std.proofs.Common.{◌<◌, ℕ, [], ◌∷◌, All, refl, lit<}
use Rattle.std.specs.Prelude.{nat_lt}
use Rattle.std.proofs.lemmas.Bool.{ltb-true}
use Rattle.rw_domain.specs.Placed.{Placed}
use Rattle.rw_machine.specs.Step.{Machine}
use Rattle.rw_code.specs.Example.{exit_start}
use Rattle.rw_code.specs.Printed.{printed, PrintedBegins}
use Rattle.rw_code.proofs.Example.{is-start, tested-all}
use Rattle.rw_out.specs.Simulates.{names_of, text_addresses}
use Rattle.rw_out_examples.specs.BlocksExample.{CountsWith, block_forms, block_items, block_layout, blocks_file}
use Rattle.rw_out_examples.proofs.BlocksFile.{no-fault}
use Rattle.rw_out_examples.proofs.BlocksText.{is-layout}
use Rattle.rw_out_examples.proofs.BlocksLive.{are-probes}
use Rattle.rw_out_examples.proofs.BlocksRuns.{counters-none-before, file-counts, file-exits, file-steps}
use Rattle.rw_out_examples.proofs.CountedExit as counted

bytes : All (λ b. b < 256) blocks_file
bytes = tested-all (λ b. nat_lt b 256) (λ b. b < 256) (λ b h. ltb-true b 256 h) blocks_file refl

pub printed-counts : (machine : Machine Placed ℕ ℕ ℕ) → PrintedBegins (text_addresses blocks_file block_layout) block_items block_layout exit_start machine
    → CountsWith 48 6 (1 ∷ 1 ∷ 4 ∷ 3 ∷ 3 ∷ 1 ∷ []) (printed block_items (names_of blocks_file block_items) block_layout) machine
printed-counts =
    counted.printed-counts blocks_file block_forms no-fault bytes are-probes exit_start is-start block_layout is-layout 32 6 48 (1 ∷ 1 ∷ 4 ∷ 3 ∷ 3 ∷ 1 ∷ []) (lit< tt) (lit< tt) file-exits counters-none-before file-counts file-steps
