use Rattle.rw_code.proofs.TextStarts.{section-holds, counters-hold}
use Rattle.rw_code.proofs.texts.sections_hold_their_bytes.Goals as goal

pub returns : goal.returns
returns c = record { sections = section-holds; counters = counters-hold }
