use Rattle.rw_data.proofs.Clean.{each_clean}
use Rattle.rw_data.proofs.Copied.{one-piece}
use Rattle.rw_data.proofs.laws.nobits_is_one_piece.Goals as goal

pub returns : goal.returns
returns c = λ bytes s clean here none. one-piece bytes s (each_clean bytes clean) here none
