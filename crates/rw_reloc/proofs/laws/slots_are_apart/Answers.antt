use Rattle.rw_reloc.proofs.Apart.{clean_entries, slots_apart}
use Rattle.rw_reloc.proofs.SlotFacts.{one_at}
use Rattle.rw_reloc.proofs.laws.slots_are_apart.Goals as goal

pub returns : goal.returns
returns c = record { apart = λ bytes clean. slots_apart bytes (clean_entries bytes clean); one = one_at }
