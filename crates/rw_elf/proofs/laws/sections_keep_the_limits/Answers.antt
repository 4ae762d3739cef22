use Rattle.rw_elf.proofs.Limits.{code_total, kept_total, placed_aligned, placed_below}
use Rattle.rw_elf.proofs.laws.sections_keep_the_limits.Goals as goal

pub returns : goal.returns
returns c = record { aligned = placed_aligned; below = placed_below; kept = kept_total; code = code_total }
