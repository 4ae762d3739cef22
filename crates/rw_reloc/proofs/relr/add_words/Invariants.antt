use Rattle.std.proofs.Common.{◌≡◌, ◌++◌}
use Rattle.rw_reloc.specs.Relr.{words_among}
use Rattle.rw_reloc.proofs.relr.add_words.Given as goal

abbrev pub invariant-loop-place : goal.invariant-loop-place
invariant-loop-place l = l.words.items ≡ l.initial.words.items ++ words_among l.place l.base l.number
