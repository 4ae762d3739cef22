use Rattle.std.proofs.Common.{◌≡◌, take}
use Rattle.rw_machine.specs.Running.{range_at}
use Rattle.rw_sim.specs.Asked.{memory_of}
use Rattle.rw_sim.proofs.asked.Asked.bytes_of.Given as goal

abbrev pub invariant-loop-i : goal.invariant-loop-i
invariant-loop-i g l = l.bytes.items ≡ take l.i (range_at (memory_of l.self) l.start l.len)
