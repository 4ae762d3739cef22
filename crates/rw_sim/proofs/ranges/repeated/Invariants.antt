use Rattle.std.proofs.Common.{◌≡◌, replicate}
use Rattle.rw_sim.proofs.ranges.repeated.Given as goal

abbrev pub invariant-loop : goal.invariant-loop
invariant-loop g l = l.bytes.items ≡ replicate l.counter l.byte
