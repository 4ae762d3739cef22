use Rattle.std.proofs.Common.{arith}
use Rattle.rw_tables.proofs.Registers.{has-without}
use Rattle.rw_tables.proofs.seen.cleared.Goals as goal

pub returns : goal.returns
returns c = λ r. has-without c.args.bits c.args.out r (omega arith)
