use Rattle.std.proofs.Common.{◌≡◌, take}
use Rattle.rw_machine.specs.Running.{written_at}
use Rattle.rw_machine.specs.State.{machine_of}
use Rattle.rw_data.specs.Regions.{start_cells}
use Rattle.rw_sim.proofs.start.sections.put_section.Given as goal

abbrev pub invariant-loop-offset : goal.invariant-loop-offset
invariant-loop-offset l =
    machine_of l.state ≡ record (machine_of l.initial.state) { memory = written_at (machine_of l.initial.state).memory (record { region = l.region; offset = 0 }) (take l.offset (start_cells l.picture l.section)) }
