use Rattle.std.proofs.Common.{◌≡◌, ◌-◌}
use Rattle.rw_sim.specs.Asked.{operators_of, memory_of}
use Rattle.rw_sim.specs.Builtins.{string_length, string_within, longest}
use Rattle.rw_sim.proofs.StringBytes.{counted}
use Rattle.rw_sim.proofs.asked.Asked.length.Given as goal

abbrev pub invariant-loop-left : goal.invariant-loop-left
invariant-loop-left g l =
    string_length (operators_of l.self) (memory_of l.self) l.fn.start ≡ counted (operators_of l.self) (memory_of l.self) (longest - l.left) (string_within (operators_of l.self) (memory_of l.self) l.left l.at)

abbrev pub decreases-loop-left : goal.decreases-loop-left
decreases-loop-left g l = l.left
