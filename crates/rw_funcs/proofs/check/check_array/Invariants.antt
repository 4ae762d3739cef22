use Rattle.rw_base.proofs.First.{CleanAmong}
use Rattle.rw_funcs.specs.Functions.{word_fault, words_of}
use Rattle.rw_funcs.proofs.check.check_array.Given as goal

abbrev pub invariant-loop-k : goal.invariant-loop-k
invariant-loop-k l = CleanAmong (words_of l.section) (word_fault l.relocs) l.k
