use Rattle.std.proofs.Common.{◌≡◌, [], Err, sym, subst, ap, ◌∙◌, refl}
use Rattle.rw_machine.specs.State.{domain_over, machine_of, event_of, outcome_of, Stays}
use Rattle.rw_machine.specs.Step.{Moved, Asks, Ended, Stopped}
use Rattle.rw_sim.specs.declared.advance.Advance.TheVariants as advance
use Rattle.rw_sim.specs.AnsweredStep.{Comes, StepsTo, answer_if, with_answer}
use Rattle.rw_sim.specs.Answers.{Meets, answer_value}
use Rattle.rw_sim.specs.Asking.{answer_to}
use Rattle.rw_sim.specs.World.{outside}
use Rattle.rw_sim.proofs.Following.{steps-alone, world}
use Rattle.rw_sim.proofs.Sending.{rests-same}
use Rattle.rw_sim.proofs.Stepping.{asks-before, asks-behind, stays-asked}
use Rattle.rw_sim.proofs.steps.answered_step.Goals as goal

pub returns-in-Moved : goal.returns-in-Moved
returns-in-Moved g c =
    let over = g.D.Domain.over in
    let dom = domain_over over in
    let prog = g.C.Code.program c.args.code.now in
    let name = g.C.Named.names c.args.code.now in
    let first = g.D.Allots.first_byte in
    let m = machine_of c.args.simulation.now.state in
    let w =
    world m c.args.simulation.now.reads.items (outside g.I.Source.left g.I.Source.faults c.args.input.now) (outside g.O.Sink.held g.O.Sink.faults c.args.out.now)
    (outside g.E.Sink.held g.E.Sink.faults c.args.err.now) in
    let n = machine_of c.step.new.state in
    let v = world n c.args.simulation.now.reads.items w.input w.out w.err in
    record {
      comes =
          steps-alone dom prog name first w (Moved n) (sym c.in_ok-step.ensures.outcome ∙ ap (λ a. outcome_of (over m.placed) m a n) c.in-Moved.is) refl v advance.Moved refl tt refl (rests-same w.input) (rests-same w.out) (rests-same w.err);
    }

pub returns-in-Ended : goal.returns-in-Ended
returns-in-Ended g c =
    let over = g.D.Domain.over in
    let dom = domain_over over in
    let prog = g.C.Code.program c.args.code.now in
    let name = g.C.Named.names c.args.code.now in
    let first = g.D.Allots.first_byte in
    let m = machine_of c.args.simulation.now.state in
    let w =
    world m c.args.simulation.now.reads.items (outside g.I.Source.left g.I.Source.faults c.args.input.now) (outside g.O.Sink.held g.O.Sink.faults c.args.out.now)
    (outside g.E.Sink.held g.E.Sink.faults c.args.err.now) in
    let n = machine_of c.step.new.state in
    let v = world n c.args.simulation.now.reads.items w.input w.out w.err in
    record {
      comes =
          steps-alone dom prog name first w (Ended n c.in-Ended.end) (sym c.in_ok-step.ensures.outcome ∙ ap (λ a. outcome_of (over m.placed) m a n) c.in-Ended.is) refl v (advance.Ended c.in-Ended.end) refl tt refl (rests-same w.input) (rests-same w.out) (rests-same w.err);
    }

pub returns-in-Stopped : goal.returns-in-Stopped
returns-in-Stopped g c =
    let over = g.D.Domain.over in
    let dom = domain_over over in
    let prog = g.C.Code.program c.args.code.now in
    let name = g.C.Named.names c.args.code.now in
    let first = g.D.Allots.first_byte in
    let m = machine_of c.args.simulation.now.state in
    let w =
    world m c.args.simulation.now.reads.items (outside g.I.Source.left g.I.Source.faults c.args.input.now) (outside g.O.Sink.held g.O.Sink.faults c.args.out.now)
    (outside g.E.Sink.held g.E.Sink.faults c.args.err.now) in
    let n = machine_of c.step.new.state in
    let v = world n c.args.simulation.now.reads.items w.input w.out w.err in
    record {
      comes =
          steps-alone dom prog name first w (Stopped c.in-Stopped.cause) (sym c.in_ok-step.ensures.outcome ∙ ap (λ a. outcome_of (over m.placed) m a n) c.in-Stopped.is) refl v (advance.Stopped c.in-Stopped.cause) refl (ap machine_of (subst (λ a. Stays a c.args.simulation.now.state c.step.new.state) c.in-Stopped.is c.in_ok-step.ensures.stays)) refl (rests-same w.input) (rests-same w.out) (rests-same w.err);
    }

pub follow-requires-clause-asks : goal.follow-requires-clause-asks
follow-requires-clause-asks g c =
    let over = g.D.Domain.over in
    let dom = domain_over over in
    let prog = g.C.Code.program c.args.code.now in
    let name = g.C.Named.names c.args.code.now in
    let first = g.D.Allots.first_byte in
    let m = machine_of c.args.simulation.now.state in
    let w =
    world m c.args.simulation.now.reads.items (outside g.I.Source.left g.I.Source.faults c.args.input.now) (outside g.O.Sink.held g.O.Sink.faults c.args.out.now)
    (outside g.E.Sink.held g.E.Sink.faults c.args.err.now) in
    let n = machine_of c.step.new.state in
    let v = world n c.args.simulation.now.reads.items w.input w.out w.err in
    let same = ap machine_of (stays-asked c.in_ok-step.field-0 c.in-Asks.event c.args.simulation.now.state c.step.new.state c.in-Asks.is c.in_ok-step.ensures.stays) in
    asks-behind dom prog m n c.in_ok-step.field-0 c.in-Asks.event c.in_ok-step.ensures.outcome c.in-Asks.is same

pub returns-in-Ok : goal.returns-in-Ok
returns-in-Ok g c =
    let over = g.D.Domain.over in
    let dom = domain_over over in
    let prog = g.C.Code.program c.args.code.now in
    let name = g.C.Named.names c.args.code.now in
    let first = g.D.Allots.first_byte in
    let m = machine_of c.args.simulation.now.state in
    let w =
    world m c.args.simulation.now.reads.items (outside g.I.Source.left g.I.Source.faults c.args.input.now) (outside g.O.Sink.held g.O.Sink.faults c.args.out.now)
    (outside g.E.Sink.held g.E.Sink.faults c.args.err.now) in
    let n = machine_of c.step.new.state in
    let same = ap machine_of (stays-asked c.in_ok-step.field-0 c.in-Asks.event c.args.simulation.now.state c.step.new.state c.in-Asks.is c.in_ok-step.ensures.stays) in
    let v =
    world (machine_of c.follow.new.simulation.state) c.follow.new.simulation.reads.items (outside g.I.Source.left g.I.Source.faults c.follow.new.input) (outside g.O.Sink.held g.O.Sink.faults c.follow.new.out)
    (outside g.E.Sink.held g.E.Sink.faults c.follow.new.err) in
    record {
      comes =
          subst (λ x. Comes dom prog name first (world x w.reads w.input w.out w.err) v c.follow.result) same c.follow.ensures;
    }

pub returns-in-Err-Stops : goal.returns-in-Err-Stops
returns-in-Err-Stops g c =
    let over = g.D.Domain.over in
    let dom = domain_over over in
    let prog = g.C.Code.program c.args.code.now in
    let name = g.C.Named.names c.args.code.now in
    let first = g.D.Allots.first_byte in
    let m = machine_of c.args.simulation.now.state in
    let w =
    world m c.args.simulation.now.reads.items (outside g.I.Source.left g.I.Source.faults c.args.input.now) (outside g.O.Sink.held g.O.Sink.faults c.args.out.now)
    (outside g.E.Sink.held g.E.Sink.faults c.args.err.now) in
    let n = machine_of c.step.new.state in
    let v = world n c.args.simulation.now.reads.items w.input w.out w.err in
    let same = ap machine_of (stays-asked c.in_ok-step.field-0 c.in-Asks.event c.args.simulation.now.state c.step.new.state c.in-Asks.is c.in_ok-step.ensures.stays) in
    let event = event_of (over m.placed) m.memory c.in-Asks.event in
    let stopped : answer_to dom prog m name event ≡ Err c.in-Err-Stops.cause =
    subst (λ x. answer_to dom prog x name (event_of (over x.placed) x.memory c.in-Asks.event) ≡ Err c.in-Err-Stops.cause) same
    (subst (λ r. Meets answer_value (answer_to dom prog n name (event_of (over n.placed) n.memory c.in-Asks.event)) (Err r)) c.in-Err-Stops.field-0-is c.in-Err-Stops.ensures) in
    record {
      comes =
          subst (λ cause. StepsTo dom prog name first w v (advance.Stopped cause)) (sym c.in-Err-Stops.cause-is)
          (steps-alone dom prog name first w (Asks event) (asks-before dom prog m n c.in_ok-step.field-0 c.in-Asks.event c.in_ok-step.ensures.outcome c.in-Asks.is)
          (ap (λ r. answer_if dom prog name first m r) stopped) v (advance.Stopped c.in-Err-Stops.cause) (sym (ap (λ r. with_answer dom prog name first m [] event.call r) stopped)) same refl
          (rests-same w.input) (rests-same w.out) (rests-same w.err));
    }
