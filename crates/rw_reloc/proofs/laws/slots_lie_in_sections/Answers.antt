use Rattle.rw_reloc.proofs.SlotFacts.{held, kept_told}
use Rattle.rw_reloc.proofs.laws.slots_lie_in_sections.Goals as goal

pub returns : goal.returns
returns c = record { kept = kept_told; held = held }
