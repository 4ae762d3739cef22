use Rattle.rw_machine.specs.State.{machine_of}
use Rattle.rw_machine.proofs.Ranges.{has_range}
use Rattle.rw_sim.proofs.asked.Asked.new.Goals as goal

pub invariant_of-result : goal.invariant_of-result
invariant_of-result g c = record {
  room = λ s is. has_range (machine_of c.args.state.now).placed.regions (machine_of c.args.state.now).memory s.0 8 c.args.state.now.laid_out (c.requires s is);
}
