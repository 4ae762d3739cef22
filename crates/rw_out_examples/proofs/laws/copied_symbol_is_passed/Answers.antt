use Rattle.rw_out_examples.proofs.CopyHostedItems.{no-fault}
use Rattle.rw_out_examples.proofs.CopyHostedPlaces.{is-layout, is-placing}
use Rattle.rw_out_examples.proofs.CopyHostedRuns.{answers-lawful, original-calls, printed-calls}
use Rattle.rw_out_examples.proofs.laws.copied_symbol_is_passed.Goals as goal

pub returns : goal.returns
returns c = record { file = no-fault; placing = is-placing; layout = is-layout; answers = answers-lawful; original = original-calls; printed = printed-calls }
