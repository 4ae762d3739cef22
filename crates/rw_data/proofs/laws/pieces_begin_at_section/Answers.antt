use Rattle.rw_data.proofs.Contents.{all-from_section}
use Rattle.rw_data.proofs.laws.pieces_begin_at_section.Goals as goal

pub returns : goal.returns
returns c = λ bytes s. all-from_section bytes s
