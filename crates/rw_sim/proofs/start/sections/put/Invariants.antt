use Rattle.std.proofs.Common.{◌≡◌, ◌++◌, map, take, drop}
use Rattle.rw_machine.specs.State.{machine_of}
use Rattle.rw_elf.specs.Tables.{kept_sections}
use Rattle.rw_data.specs.Regions.{start_cells}
use Rattle.rw_sim.proofs.start.sections.put.Given as goal

abbrev pub invariant-loop-number : goal.invariant-loop-number
invariant-loop-number l =
    machine_of l.state ≡ record (machine_of l.initial.state) { memory = map (start_cells l.picture) (take l.number (kept_sections l.picture)) ++ drop l.number (machine_of l.initial.state).memory }
