use Rattle.rw_out_examples.proofs.DataFile.{no-fault}
use Rattle.rw_out_examples.proofs.DataExample.{is-placing}
use Rattle.rw_out_examples.proofs.DataText.{is-layout}
use Rattle.rw_out_examples.proofs.ExitLaw.{data-original, data-printed}
use Rattle.rw_out_examples.proofs.laws.data_premises_are_met.Goals as goal

pub returns : goal.returns
returns c = record { file = no-fault; placing = is-placing; layout = is-layout; original = data-original; printed = data-printed }
