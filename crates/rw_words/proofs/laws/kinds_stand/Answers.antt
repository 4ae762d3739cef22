use Rattle.rw_words.proofs.WordLemmas.{kind-stands}
use Rattle.rw_words.proofs.laws.kinds_stand.Goals as goal

pub returns : goal.returns
returns c = kind-stands
