use Rattle.rw_out_examples.proofs.SlotItems.{no-fault}
use Rattle.rw_out_examples.proofs.SlotPlaces.{is-layout, is-placing}
use Rattle.rw_out_examples.proofs.SlotRuns.{slot-original, slot-printed}
use Rattle.rw_out_examples.proofs.laws.slot_is_followed.Goals as goal

pub returns : goal.returns
returns c = record { file = no-fault; placing = is-placing; layout = is-layout; original = slot-original; printed = slot-printed }
