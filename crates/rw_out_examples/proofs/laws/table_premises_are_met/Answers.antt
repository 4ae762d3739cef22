use Rattle.std.proofs.Common.{◌<◌, All, refl, lit<}
use Rattle.std.specs.Prelude.{nat_lt}
use Rattle.std.proofs.lemmas.Bool.{ltb-true}
use Rattle.rw_code.specs.Example.{exit_start}
use Rattle.rw_code.proofs.Example.{is-start, tested-all}
use Rattle.rw_out_examples.specs.DataExample.{data_placing}
use Rattle.rw_out_examples.specs.JumpExample.{jump_file_of, jump_layout}
use Rattle.rw_out_examples.proofs.JumpFile.{no-fault-of}
use Rattle.rw_out_examples.proofs.JumpText.{is-placing-of, is-layout-of}
use Rattle.rw_out_examples.proofs.JumpRuns.{file-exits-past}
use Rattle.rw_out_examples.proofs.ExitLaw.{jump-original, jump-printed, original-exits, printed-exits}
use Rattle.rw_out_examples.proofs.laws.table_premises_are_met.Goals as goal

bytes : All (λ b. b < 256) (jump_file_of 3)
bytes = tested-all (λ b. nat_lt b 256) (λ b. b < 256) (λ b h. ltb-true b 256 h) (jump_file_of 3) refl

pub returns : goal.returns
returns c = record {
  file = no-fault-of;
  placing = is-placing-of;
  layout = is-layout-of;
  original = jump-original;
  printed = jump-printed;
  original_past = original-exits (jump_file_of 3) (no-fault-of 3) bytes exit_start is-start 4 3 (lit< tt) (lit< tt) file-exits-past data_placing (is-placing-of 3);
  printed_past = printed-exits (jump_file_of 3) (no-fault-of 3) bytes exit_start is-start 4 3 (lit< tt) (lit< tt) file-exits-past jump_layout (is-layout-of 3);
}
