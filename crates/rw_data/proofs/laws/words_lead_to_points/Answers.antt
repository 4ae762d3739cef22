use Rattle.rw_data.proofs.Clean.{each_clean}
use Rattle.rw_data.proofs.Good.{table-section}
use Rattle.rw_data.proofs.Words.{is-word}
use Rattle.rw_data.proofs.laws.words_lead_to_points.Goals as goal

pub returns : goal.returns
returns c = λ bytes t k clean listed low.
    let u = table-section bytes t (each_clean bytes clean) listed in
    is-word bytes u.0 t k (each_clean bytes clean) u.1 u.2 listed low
