use Rattle.std.proofs.Common.{arith}
use Rattle.rw_make.proofs.Holding.{header_count}
use Rattle.rw_make.proofs.layout.Layout.next_index.Goals as goal

pub returns-clause-index : goal.returns-clause-index
returns-clause-index c pieces holds = omega (arith, header_count pieces _ holds, c.len.ensures)
