use Rattle.std.proofs.Common.{◌≡◌}
use Rattle.rw_base.proofs.First.{CleanAmong}
use Rattle.rw_reloc.specs.Relr.{base_at, number_finding, relr_numbers}
use Rattle.rw_reloc.proofs.relr.check_numbers.Given as goal

abbrev pub invariant-loop-index : goal.invariant-loop-index
invariant-loop-index l =
    record {
      base : l.base ≡ base_at (relr_numbers l.bytes l.table) l.index;
      clean : CleanAmong (relr_numbers l.bytes l.table) (number_finding l.table (relr_numbers l.bytes l.table)) l.index;
    }
