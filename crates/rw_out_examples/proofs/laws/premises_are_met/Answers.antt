use Rattle.rw_out_examples.proofs.Example.{no-fault}
use Rattle.rw_out_examples.proofs.ExampleLayout.{is-layout}
use Rattle.rw_out_examples.proofs.ExampleRuns.{printed-exits}
use Rattle.rw_out_examples.proofs.laws.premises_are_met.Goals as goal

pub returns : goal.returns
returns c = record { file = no-fault; layout = is-layout; printed = printed-exits }
