use Rattle.std.proofs.Common.{◌≡◌}
use Rattle.std.specs.List.{flat_map, range_with_len}
use Rattle.rw_reloc.specs.Relr.{base_at, relr_numbers, words_at}
use Rattle.rw_reloc.proofs.relr.relr_words.Given as goal

abbrev pub invariant-loop-index : goal.invariant-loop-index
invariant-loop-index l =
    record {
      base : l.base ≡ base_at (relr_numbers l.bytes l.table) l.index;
      words : l.words.items ≡ flat_map (words_at (relr_numbers l.bytes l.table)) (range_with_len 0 l.index);
    }
