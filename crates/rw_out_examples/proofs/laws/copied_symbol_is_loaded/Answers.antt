use Rattle.rw_out_examples.proofs.CopyItems.{no-fault}
use Rattle.rw_out_examples.proofs.CopyPlaces.{is-layout, is-placing}
use Rattle.rw_out_examples.proofs.CopyRuns.{original-traps, printed-traps}
use Rattle.rw_out_examples.proofs.laws.copied_symbol_is_loaded.Goals as goal

pub returns : goal.returns
returns c = record { file = no-fault; placing = is-placing; layout = is-layout; original = original-traps; printed = printed-traps }
