use Rattle.rw_out_examples.proofs.BlocksFile.{no-fault}
use Rattle.rw_out_examples.proofs.BlocksLive.{are-probes}
use Rattle.rw_out_examples.proofs.BlocksText.{is-layout}
use Rattle.rw_out_examples.proofs.BlocksLaw.{printed-counts}
use Rattle.rw_out_examples.proofs.laws.blocks_are_counted.Goals as goal

pub returns : goal.returns
returns c = record { file = no-fault; probes = are-probes; layout = is-layout; printed = printed-counts }
