use Rattle.std.proofs.Common.{◌≡◌, ◌++◌, drop}
use Rattle.rw_code.specs.Start.{all_words, text_cells}
use Rattle.rw_sim.specs.Start.{start_with}
use Rattle.rw_sim.proofs.start.words.push_texts.Given as goal

abbrev pub invariant-loop-number : goal.invariant-loop-number
invariant-loop-number l = l.cells.items ++ text_cells (drop l.number (all_words (start_with l.args))) ≡ l.initial.cells.items ++ text_cells (all_words (start_with l.args))
