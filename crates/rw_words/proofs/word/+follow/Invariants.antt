use Rattle.std.proofs.Common.{length}
use Rattle.rw_words.proofs.word.+follow.Given as goal

abbrev pub decreases-follow : goal.decreases-follow
decreases-follow l = length l.cells.now
