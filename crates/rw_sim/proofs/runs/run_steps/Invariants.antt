use Rattle.rw_machine.specs.State.{domain_over}
use Rattle.rw_sim.specs.Trace.{Leads}
use Rattle.rw_sim.specs.World.{outside, world_of}
use Rattle.rw_sim.proofs.runs.run_steps.Given as goal

abbrev pub invariant-loop-steps : goal.invariant-loop-steps
invariant-loop-steps g l =
    Leads (domain_over g.D.Domain.over) (g.C.Code.program l.code) (g.C.Named.names l.code) g.D.Allots.first_byte l.steps
    (world_of l.initial.simulation (outside g.I.Source.left g.I.Source.faults l.initial.input) (outside g.O.Sink.held g.O.Sink.faults l.initial.out) (outside g.E.Sink.held g.E.Sink.faults l.initial.err))
    (world_of l.simulation (outside g.I.Source.left g.I.Source.faults l.input) (outside g.O.Sink.held g.O.Sink.faults l.out) (outside g.E.Sink.held g.E.Sink.faults l.err))
