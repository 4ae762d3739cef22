use Rattle.rw_out_examples.proofs.PutsItems.{no-fault}
use Rattle.rw_out_examples.proofs.PutsPlaces.{is-layout, is-placing}
use Rattle.rw_out_examples.proofs.PutsRuns.{answers-lawful, original-calls, printed-calls}
use Rattle.rw_out_examples.proofs.laws.puts_is_called.Goals as goal

pub returns : goal.returns
returns c = record { file = no-fault; placing = is-placing; layout = is-layout; answers = answers-lawful; original = original-calls; printed = printed-calls }
