use Rattle.rw_words.proofs.WordLemmas.{whole-stands, whole-only}
use Rattle.rw_words.proofs.laws.whole_words_stand.Goals as goal

pub returns-clause-stands : goal.returns-clause-stands
returns-clause-stands c = whole-stands

pub returns-clause-alone : goal.returns-clause-alone
returns-clause-alone c = whole-only
