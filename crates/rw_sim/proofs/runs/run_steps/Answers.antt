use Rattle.std.proofs.Common.{◌≡◌, ◌≤◌, arith}
use Rattle.rw_machine.specs.State.{domain_over}
use Rattle.rw_sim.specs.declared.advance.Advance.TheVariants as advance
use Rattle.rw_sim.specs.declared.advance.StepError.TheVariants.{ReadFault, WriteFault, Memory}
use Rattle.rw_sim.specs.World.{outside, world_of}
use Rattle.rw_sim.proofs.RunEnds.{step-is, failure-is, one-more, ended, cut, stopped, unread, starved, spent}
use Rattle.rw_sim.proofs.Taken.{taken-in-run}
use Rattle.rw_sim.proofs.runs.run_steps.Goals as goal

pub returns-in-Ok-Ended : goal.returns-in-Ok-Ended
returns-in-Ok-Ended g c =
    let dom = domain_over g.D.Domain.over in
    let prog = g.C.Code.program c.args.code.now in
    let name = g.C.Named.names c.args.code.now in
    let first = g.D.Allots.first_byte in
    let w =
    world_of c.args.simulation.now (outside g.I.Source.left g.I.Source.faults c.args.input.now) (outside g.O.Sink.held g.O.Sink.faults c.args.out.now)
    (outside g.E.Sink.held g.E.Sink.faults c.args.err.now) in
    let u =
    world_of c.loop-steps.simulation (outside g.I.Source.left g.I.Source.faults c.loop-steps.input) (outside g.O.Sink.held g.O.Sink.faults c.loop-steps.out)
    (outside g.E.Sink.held g.E.Sink.faults c.loop-steps.err) in
    let v =
    world_of c.answered_step.new.simulation (outside g.I.Source.left g.I.Source.faults c.answered_step.new.input)
    (outside g.O.Sink.held g.O.Sink.faults c.answered_step.new.out) (outside g.E.Sink.held g.E.Sink.faults c.answered_step.new.err) in
    let step = step-is dom prog name first c.args.fuel u v c.answered_step.result c.in-Ok-Ended.field-0 (advance.Ended c.in-Ok-Ended.ending) c.in-Ok-Ended.is c.in-Ok-Ended.field-0-is c.answered_step.ensures.comes in
    let run =
    ended dom prog name first c.args.fuel c.after.result.steps c.loop-steps.steps w u v c.after.result.end c.in-Ok-Ended.ending c.after.ensures.steps c.after.ensures.end c.loop-steps-test.true
    c.loop-steps.invariant step in
    record { ends = run; takes = taken-in-run dom prog name first c.args.fuel c.after.result.steps w v c.after.result.end run }

pub returns-in-Ok-Stopped : goal.returns-in-Ok-Stopped
returns-in-Ok-Stopped g c =
    let dom = domain_over g.D.Domain.over in
    let prog = g.C.Code.program c.args.code.now in
    let name = g.C.Named.names c.args.code.now in
    let first = g.D.Allots.first_byte in
    let w =
    world_of c.args.simulation.now (outside g.I.Source.left g.I.Source.faults c.args.input.now) (outside g.O.Sink.held g.O.Sink.faults c.args.out.now)
    (outside g.E.Sink.held g.E.Sink.faults c.args.err.now) in
    let u =
    world_of c.loop-steps.simulation (outside g.I.Source.left g.I.Source.faults c.loop-steps.input) (outside g.O.Sink.held g.O.Sink.faults c.loop-steps.out)
    (outside g.E.Sink.held g.E.Sink.faults c.loop-steps.err) in
    let v =
    world_of c.answered_step.new.simulation (outside g.I.Source.left g.I.Source.faults c.answered_step.new.input)
    (outside g.O.Sink.held g.O.Sink.faults c.answered_step.new.out) (outside g.E.Sink.held g.E.Sink.faults c.answered_step.new.err) in
    let step = step-is dom prog name first c.args.fuel u v c.answered_step.result c.in-Ok-Stopped.field-0 (advance.Stopped c.in-Ok-Stopped.cause) c.in-Ok-Stopped.is c.in-Ok-Stopped.field-0-is c.answered_step.ensures.comes in
    let run =
    stopped dom prog name first c.args.fuel c.after-in-Ok-Stopped.result.steps c.loop-steps.steps w u v c.after-in-Ok-Stopped.result.end c.in-Ok-Stopped.cause c.after-in-Ok-Stopped.ensures.steps c.after-in-Ok-Stopped.ensures.end c.loop-steps-test.true
    c.loop-steps.invariant step in
    record { ends = run; takes = taken-in-run dom prog name first c.args.fuel c.after-in-Ok-Stopped.result.steps w v c.after-in-Ok-Stopped.result.end run }

pub returns-in-Err-ReadFault : goal.returns-in-Err-ReadFault
returns-in-Err-ReadFault g c =
    let dom = domain_over g.D.Domain.over in
    let prog = g.C.Code.program c.args.code.now in
    let name = g.C.Named.names c.args.code.now in
    let first = g.D.Allots.first_byte in
    let w =
    world_of c.args.simulation.now (outside g.I.Source.left g.I.Source.faults c.args.input.now) (outside g.O.Sink.held g.O.Sink.faults c.args.out.now)
    (outside g.E.Sink.held g.E.Sink.faults c.args.err.now) in
    let u =
    world_of c.loop-steps.simulation (outside g.I.Source.left g.I.Source.faults c.loop-steps.input) (outside g.O.Sink.held g.O.Sink.faults c.loop-steps.out)
    (outside g.E.Sink.held g.E.Sink.faults c.loop-steps.err) in
    let v =
    world_of c.answered_step.new.simulation (outside g.I.Source.left g.I.Source.faults c.answered_step.new.input)
    (outside g.O.Sink.held g.O.Sink.faults c.answered_step.new.out) (outside g.E.Sink.held g.E.Sink.faults c.answered_step.new.err) in
    let step = failure-is dom prog name first c.args.fuel u v c.answered_step.result c.in-Err-ReadFault.field-0 ReadFault c.in-Err-ReadFault.is c.in-Err-ReadFault.field-0-is c.answered_step.ensures.comes in
    let run =
    unread dom prog name first c.args.fuel c.after-in-Err-ReadFault.result.steps c.loop-steps.steps w u v c.after-in-Err-ReadFault.result.end c.after-in-Err-ReadFault.ensures.steps c.after-in-Err-ReadFault.ensures.end c.loop-steps-test.true
    c.loop-steps.invariant step in
    record { ends = run; takes = taken-in-run dom prog name first c.args.fuel c.after-in-Err-ReadFault.result.steps w v c.after-in-Err-ReadFault.result.end run }

pub returns-in-Err-WriteFault : goal.returns-in-Err-WriteFault
returns-in-Err-WriteFault g c =
    let dom = domain_over g.D.Domain.over in
    let prog = g.C.Code.program c.args.code.now in
    let name = g.C.Named.names c.args.code.now in
    let first = g.D.Allots.first_byte in
    let w =
    world_of c.args.simulation.now (outside g.I.Source.left g.I.Source.faults c.args.input.now) (outside g.O.Sink.held g.O.Sink.faults c.args.out.now)
    (outside g.E.Sink.held g.E.Sink.faults c.args.err.now) in
    let u =
    world_of c.loop-steps.simulation (outside g.I.Source.left g.I.Source.faults c.loop-steps.input) (outside g.O.Sink.held g.O.Sink.faults c.loop-steps.out)
    (outside g.E.Sink.held g.E.Sink.faults c.loop-steps.err) in
    let v =
    world_of c.answered_step.new.simulation (outside g.I.Source.left g.I.Source.faults c.answered_step.new.input)
    (outside g.O.Sink.held g.O.Sink.faults c.answered_step.new.out) (outside g.E.Sink.held g.E.Sink.faults c.answered_step.new.err) in
    let step = failure-is dom prog name first c.args.fuel u v c.answered_step.result c.in-Err-WriteFault.field-0 WriteFault c.in-Err-WriteFault.is c.in-Err-WriteFault.field-0-is c.answered_step.ensures.comes in
    let run =
    cut dom prog name first c.args.fuel c.after-in-Err-WriteFault.result.steps c.loop-steps.steps w u v c.after-in-Err-WriteFault.result.end c.after-in-Err-WriteFault.ensures.steps c.after-in-Err-WriteFault.ensures.end c.loop-steps-test.true
    c.loop-steps.invariant step in
    record { ends = run; takes = taken-in-run dom prog name first c.args.fuel c.after-in-Err-WriteFault.result.steps w v c.after-in-Err-WriteFault.result.end run }

pub returns-in-Err-Memory : goal.returns-in-Err-Memory
returns-in-Err-Memory g c =
    let dom = domain_over g.D.Domain.over in
    let prog = g.C.Code.program c.args.code.now in
    let name = g.C.Named.names c.args.code.now in
    let first = g.D.Allots.first_byte in
    let w =
    world_of c.args.simulation.now (outside g.I.Source.left g.I.Source.faults c.args.input.now) (outside g.O.Sink.held g.O.Sink.faults c.args.out.now)
    (outside g.E.Sink.held g.E.Sink.faults c.args.err.now) in
    let u =
    world_of c.loop-steps.simulation (outside g.I.Source.left g.I.Source.faults c.loop-steps.input) (outside g.O.Sink.held g.O.Sink.faults c.loop-steps.out)
    (outside g.E.Sink.held g.E.Sink.faults c.loop-steps.err) in
    let v =
    world_of c.answered_step.new.simulation (outside g.I.Source.left g.I.Source.faults c.answered_step.new.input)
    (outside g.O.Sink.held g.O.Sink.faults c.answered_step.new.out) (outside g.E.Sink.held g.E.Sink.faults c.answered_step.new.err) in
    let step = failure-is dom prog name first c.args.fuel u v c.answered_step.result c.in-Err-Memory.field-0 Memory c.in-Err-Memory.is c.in-Err-Memory.field-0-is c.answered_step.ensures.comes in
    let run =
    starved dom prog name first c.args.fuel c.after-in-Err-Memory.result.steps c.loop-steps.steps w u v c.after-in-Err-Memory.result.end c.after-in-Err-Memory.ensures.steps c.after-in-Err-Memory.ensures.end c.loop-steps-test.true
    c.loop-steps.invariant step in
    record { ends = run; takes = taken-in-run dom prog name first c.args.fuel c.after-in-Err-Memory.result.steps w v c.after-in-Err-Memory.result.end run }

pub loop-steps-preserved : goal.loop-steps-preserved
loop-steps-preserved g c =
    let dom = domain_over g.D.Domain.over in
    let prog = g.C.Code.program c.args.code.now in
    let name = g.C.Named.names c.args.code.now in
    let first = g.D.Allots.first_byte in
    let w =
    world_of c.args.simulation.now (outside g.I.Source.left g.I.Source.faults c.args.input.now) (outside g.O.Sink.held g.O.Sink.faults c.args.out.now)
    (outside g.E.Sink.held g.E.Sink.faults c.args.err.now) in
    let u =
    world_of c.loop-steps.simulation (outside g.I.Source.left g.I.Source.faults c.loop-steps.input) (outside g.O.Sink.held g.O.Sink.faults c.loop-steps.out)
    (outside g.E.Sink.held g.E.Sink.faults c.loop-steps.err) in
    let v =
    world_of c.answered_step.new.simulation (outside g.I.Source.left g.I.Source.faults c.answered_step.new.input)
    (outside g.O.Sink.held g.O.Sink.faults c.answered_step.new.out) (outside g.E.Sink.held g.E.Sink.faults c.answered_step.new.err) in
    one-more dom prog name first c.args.fuel c.loop-steps.steps w u v c.loop-steps.invariant
    (step-is dom prog name first c.args.fuel u v c.answered_step.result c.in-Ok-Moved.field-0 advance.Moved c.in-Ok-Moved.is c.in-Ok-Moved.field-0-is c.answered_step.ensures.comes)

pub returns : goal.returns
returns g c =
    let dom = domain_over g.D.Domain.over in
    let prog = g.C.Code.program c.args.code.now in
    let name = g.C.Named.names c.args.code.now in
    let first = g.D.Allots.first_byte in
    let w =
    world_of c.args.simulation.now (outside g.I.Source.left g.I.Source.faults c.args.input.now) (outside g.O.Sink.held g.O.Sink.faults c.args.out.now)
    (outside g.E.Sink.held g.E.Sink.faults c.args.err.now) in
    let u =
    world_of c.loop-steps.simulation (outside g.I.Source.left g.I.Source.faults c.loop-steps.input) (outside g.O.Sink.held g.O.Sink.faults c.loop-steps.out)
    (outside g.E.Sink.held g.E.Sink.faults c.loop-steps.err) in
    let below : c.loop-steps.steps ≤ c.args.fuel = c.loop-steps.auto.steps-end in
    let all : c.loop-steps.steps ≡ c.args.fuel = omega arith in
    let run = spent dom prog name first c.args.fuel c.after-2.result.steps c.loop-steps.steps w u c.after-2.result.end c.after-2.ensures.steps c.after-2.ensures.end all c.loop-steps.invariant in
    record { ends = run; takes = taken-in-run dom prog name first c.args.fuel c.after-2.result.steps w u c.after-2.result.end run }
