use Rattle.std.proofs.Common.{◌≡◌, replicate}
use Rattle.rw_machine.proofs.first.repeated.Given as goal

abbrev pub invariant-loop : goal.invariant-loop
invariant-loop g l = l.row.items ≡ replicate l.counter l.b
