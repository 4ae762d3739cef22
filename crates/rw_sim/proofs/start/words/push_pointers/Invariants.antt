use Rattle.std.proofs.Common.{◌≡◌, ◌+◌, ◌++◌, drop, sum_by}
use Rattle.rw_code.specs.Start.{all_words, pointers, texts_offset, words_size}
use Rattle.rw_sim.specs.Start.{start_with}
use Rattle.rw_sim.proofs.WordCells.{size_of}
use Rattle.rw_sim.proofs.start.words.push_pointers.Given as goal

abbrev pub invariant-loop-number : goal.invariant-loop-number
invariant-loop-number l =
    (l.cells.items ++ pointers l.region l.at (drop l.number (all_words (start_with l.args))) ≡ l.initial.cells.items ++ pointers l.region (texts_offset (start_with l.args)) (all_words (start_with l.args)))
    × (l.at + sum_by size_of (drop l.number (all_words (start_with l.args))) ≡ texts_offset (start_with l.args) + words_size (start_with l.args))
