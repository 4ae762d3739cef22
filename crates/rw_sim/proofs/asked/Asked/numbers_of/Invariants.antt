use Rattle.std.proofs.Common.{◌≡◌, take, Some}
use Rattle.rw_machine.specs.Running.{range_at}
use Rattle.rw_sim.specs.Asked.{operators_of, memory_of}
use Rattle.rw_sim.specs.Builtins.{byte_numbers}
use Rattle.rw_sim.proofs.asked.Asked.numbers_of.Given as goal

abbrev pub invariant-loop-i : goal.invariant-loop-i
invariant-loop-i g l = byte_numbers (operators_of l.self) (take l.i (range_at (memory_of l.self) l.start l.len)) ≡ Some l.numbers.items
