use Rattle.x86_decode.proofs.WellFormedLaws.{spelled_good}
use Rattle.x86_decode.proofs.laws.spelled_is_well_formed.Goals as goal

pub returns : goal.returns
returns c = spelled_good
