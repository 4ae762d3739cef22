use Rattle.rw_words.proofs.WordLemmas.{whole-parts}
use Rattle.rw_words.proofs.laws.words_by_cells.Goals as goal

pub returns-clause-parts : goal.returns-clause-parts
returns-clause-parts c = whole-parts
