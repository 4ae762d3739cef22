use Rattle.rw_elf.proofs.Clean.{clean_symbol}
use Rattle.rw_elf.proofs.laws.considered_symbols_are_good.Goals as goal

pub returns : goal.returns
returns c = record {
  section = λ bytes s clean here. (clean_symbol bytes s clean here).0;
  name = λ bytes s clean here. (clean_symbol bytes s clean here).1;
}
