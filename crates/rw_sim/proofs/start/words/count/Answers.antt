use Rattle.std.proofs.Common.{length, map, arith}
use Rattle.std.specs.Prelude.{string_bytes}
use Rattle.std.proofs.lemmas.List.{length-map}
use Rattle.rw_code.specs.Start.{all_words, word_count}
use Rattle.rw_sim.specs.Start.{start_of, start_with}
use Rattle.rw_sim.proofs.WordCells.{count-le, counted}
use Rattle.rw_sim.proofs.start.words.count.Goals as goal

pub returns-clause-count : goal.returns-clause-count
returns-clause-count c = let all = counted c.args.args.now in omega (arith, all)

pub returns-clause-few : goal.returns-clause-few
returns-clause-few c = let counted = counted c.args.args.now in let all = count-le (all_words (start_with c.args.args.now)) in omega (arith, all, counted, c.requires.short)
