use Rattle.std.proofs.Common.{arith}
use Rattle.rw_layout.proofs.NameFacts.{none-table}
use Rattle.rw_layout.proofs.names.no_addresses.Goals as goal

pub returns : goal.returns
returns c = none-table c.args.text.now.names c.loop.list.items c.loop.counter (omega (arith, c.len-end.ensures)) c.loop.invariant
