use Rattle.std.proofs.Common.{◌≡◌, None, replicate}
use Rattle.rw_layout.proofs.names.no_addresses.Given as goal

abbrev pub invariant-loop : goal.invariant-loop
invariant-loop l = l.list.items ≡ replicate l.counter None
