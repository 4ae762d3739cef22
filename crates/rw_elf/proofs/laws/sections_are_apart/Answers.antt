use Rattle.rw_elf.proofs.Clean.{clean_around, clean_stored, kept_pairs, code_pairs}
use Rattle.rw_elf.proofs.laws.sections_are_apart.Goals as goal

pub returns : goal.returns
returns c = record { one = clean_around; stored = clean_stored; kept = kept_pairs; code = code_pairs }
