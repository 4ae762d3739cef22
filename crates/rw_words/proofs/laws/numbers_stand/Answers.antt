use Rattle.rw_words.proofs.WordLemmas.{number-stands, number-only}
use Rattle.rw_words.proofs.laws.numbers_stand.Goals as goal

pub returns-clause-stands : goal.returns-clause-stands
returns-clause-stands c = number-stands

pub returns-clause-alone : goal.returns-clause-alone
returns-clause-alone c = number-only
