use Rattle.std.proofs.Common.{◌≡◌, take}
use Rattle.rw_machine.specs.Running.{written_at}
use Rattle.rw_machine.specs.State.{machine_of}
use Rattle.rw_sim.proofs.start.cells.put.Given as goal

abbrev pub invariant-loop-i : goal.invariant-loop-i
invariant-loop-i l = machine_of l.state ≡ record (machine_of l.initial.state) { memory = written_at (machine_of l.initial.state).memory l.at (take l.i l.cells) }
