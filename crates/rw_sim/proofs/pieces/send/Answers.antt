use Rattle.rw_sim.proofs.Sending.{breaks-out, breaks-err}
use Rattle.rw_sim.specs.World.{outside}
use Rattle.rw_sim.proofs.pieces.send.Goals as goal

pub returns-in_err-write_all-in-Some : goal.returns-in_err-write_all-in-Some
returns-in_err-write_all-in-Some g c =
    let fault = c.in_err-write_all-in-Some in
    breaks-out c.args.sent.now c.in-Some.sent c.as_slice.result.now (outside g.O.Sink.held g.O.Sink.faults c.args.out.now) (outside g.O.Sink.held g.O.Sink.faults c.write_all.new.sink) _
    fault.field-0.0.done c.from_residual.result c.in-Some.is c.if-sent-eq1.true c.as_slice.ensures.value fault.ensures.bytes.0 fault.ensures.bytes.1 fault.ensures.cause c.from_residual.ensures.1

pub returns-in_err-write_all-in-Some-2 : goal.returns-in_err-write_all-in-Some-2
returns-in_err-write_all-in-Some-2 g c =
    let fault = c.in_err-write_all-in-Some-2 in
    breaks-err c.args.sent.now c.in-Some-2.sent c.as_slice-in-Some-2.result.now (outside g.E.Sink.held g.E.Sink.faults c.args.err.now) (outside g.E.Sink.held g.E.Sink.faults c.write_all-in-Some-2.new.sink) _
    fault.field-0.0.done c.from_residual-in_err-write_all-in-Some-2.result c.in-Some-2.is c.if-sent-eq2.true c.as_slice-in-Some-2.ensures.value fault.ensures.bytes.0 fault.ensures.bytes.1 fault.ensures.cause c.from_residual-in_err-write_all-in-Some-2.ensures.1
