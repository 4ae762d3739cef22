use Rattle.rw_words.proofs.WordLemmas.{split-stands, join-stands}
use Rattle.rw_words.proofs.laws.split_and_join.Goals as goal

pub returns-clause-split : goal.returns-clause-split
returns-clause-split c = split-stands

pub returns-clause-join : goal.returns-clause-join
returns-clause-join c = join-stands
