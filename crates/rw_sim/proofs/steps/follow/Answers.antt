use Rattle.std.proofs.Common.{◌≤◌, ◌+◌, Ok, Err, sym, subst, ap, ◌∙◌, refl}
use Rattle.std.specs.Prelude.{IfSome, sum}
use Rattle.rw_machine.specs.Replying.{AreInside}
use Rattle.rw_machine.specs.State.{domain_over, machine_of, event_of}
use Rattle.rw_machine.specs.Step.{reply_of}
use Rattle.rw_sim.specs.AnsweredStep.{bytes_of, callee_of, limit_of, next_first_byte}
use Rattle.rw_sim.specs.Answers.{answer_value}
use Rattle.rw_sim.specs.Asking.{fresh_sizes}
use Rattle.rw_sim.specs.Pieces.{SendsOut, piece_value}
use Rattle.rw_sim.specs.World.{outside}
use Rattle.rw_sim.proofs.FollowedAnswers.{IsPlacedAnswer, answer-placed, piece-fits, piece-short, reply-fresh, reply-inside}
use Rattle.rw_sim.proofs.Following.{read-as, starved, starves-read, stopped-there, unread, unwritten, world, written}
use Rattle.rw_sim.proofs.Sending.{rests-same}
use Rattle.rw_sim.proofs.steps.follow.Goals as goal

pub piece_for-requires : goal.piece_for-requires
piece_for-requires g c =
    let over = g.D.Domain.over in
    let dom = domain_over over in
    let prog = g.C.Code.program c.args.code.now in
    let name = g.C.Named.names c.args.code.now in
    let first = g.D.Allots.first_byte in
    let m = machine_of c.args.simulation.now.state in
    let event = event_of (over m.placed) m.memory c.args.event.now in
    let answer = answer_value c.args.answer in
    let d = c.args.simulation.now.state.domain in
    let good = answer-placed dom prog m name (g.met.D.Domain.regions_placed d) (g.met.D.Domain.places_inside d) event answer c.requires.answers in
    piece-short m.placed.regions (sum (fresh_sizes m.placed)) answer good

pub carry_out-requires-clause-writes : goal.carry_out-requires-clause-writes
carry_out-requires-clause-writes g c =
    let over = g.D.Domain.over in
    let dom = domain_over over in
    let prog = g.C.Code.program c.args.code.now in
    let name = g.C.Named.names c.args.code.now in
    let first = g.D.Allots.first_byte in
    let m = machine_of c.args.simulation.now.state in
    let event = event_of (over m.placed) m.memory c.args.event.now in
    let answer = answer_value c.args.answer in
    let d = c.args.simulation.now.state.domain in
    let good = answer-placed dom prog m name (g.met.D.Domain.regions_placed d) (g.met.D.Domain.places_inside d) event answer c.requires.answers in
    let reply = c.in_ok-reply.ensures ∙ c.parted-answer.ensures.reply (over m.placed) (callee_of event.call) (next_first_byte dom prog name first m) (bytes_of (piece_value c.in_ok-piece.piece)) in
    subst (λ r. AreInside m.placed.regions r.writes) (sym reply)
    (reply-inside (over m.placed) m.placed.regions (g.met.D.Domain.regions_placed d) (g.met.D.Domain.places_inside d) (callee_of event.call) (next_first_byte dom prog name first m) (sum (fresh_sizes m.placed))
    (bytes_of (piece_value c.in_ok-piece.piece)) answer good (piece-fits (limit_of answer) (piece_value c.in_ok-piece.piece) c.in_ok-piece.ensures.piece))

pub carry_out-requires-clause-fresh : goal.carry_out-requires-clause-fresh
carry_out-requires-clause-fresh g c =
    let over = g.D.Domain.over in
    let dom = domain_over over in
    let prog = g.C.Code.program c.args.code.now in
    let name = g.C.Named.names c.args.code.now in
    let first = g.D.Allots.first_byte in
    let m = machine_of c.args.simulation.now.state in
    let event = event_of (over m.placed) m.memory c.args.event.now in
    let answer = answer_value c.args.answer in
    let d = c.args.simulation.now.state.domain in
    let good = answer-placed dom prog m name (g.met.D.Domain.regions_placed d) (g.met.D.Domain.places_inside d) event answer c.requires.answers in
    let reply = c.in_ok-reply.ensures ∙ c.parted-answer.ensures.reply (over m.placed) (callee_of event.call) (next_first_byte dom prog name first m) (bytes_of (piece_value c.in_ok-piece.piece)) in
    subst (λ r. IfSome r.fresh (λ f. (1 ≤ f.0.size) × (c.args.simulation.now.fresh.bytes + f.0.size ≤ 67108864))) (sym reply)
    (reply-fresh (over m.placed) m.placed.regions (callee_of event.call) (next_first_byte dom prog name first m) c.args.simulation.now.fresh.bytes
    (bytes_of (piece_value c.in_ok-piece.piece)) answer (subst (λ n. IsPlacedAnswer m.placed.regions n answer) (sym c.args.simulation.now.counts.bytes) good))

pub returns-in_err-piece : goal.returns-in_err-piece
returns-in_err-piece g c =
    let over = g.D.Domain.over in
    let dom = domain_over over in
    let prog = g.C.Code.program c.args.code.now in
    let name = g.C.Named.names c.args.code.now in
    let first = g.D.Allots.first_byte in
    let m = machine_of c.args.simulation.now.state in
    let w =
    world m c.args.simulation.now.reads.items (outside g.I.Source.left g.I.Source.faults c.args.input.now) (outside g.O.Sink.held g.O.Sink.faults c.args.out.now)
    (outside g.E.Sink.held g.E.Sink.faults c.args.err.now) in
    let event = event_of (over m.placed) m.memory c.args.event.now in
    let answer = answer_value c.args.answer in
    let v = world m c.piece_for.new.reads.items (outside g.I.Source.left g.I.Source.faults c.piece_for.new.input) (outside g.O.Sink.held g.O.Sink.faults c.args.out.now) (outside g.E.Sink.held g.E.Sink.faults c.args.err.now) in
    unread dom prog name first w event answer c.requires.asks c.requires.answers v c.in_err-piece.field-0.0 c.from_residual.result c.in_err-piece.ensures c.from_residual.ensures.1 refl (rests-same w.out) (rests-same w.err)

pub returns-in_err-reply : goal.returns-in_err-reply
returns-in_err-reply g c =
    let over = g.D.Domain.over in
    let dom = domain_over over in
    let prog = g.C.Code.program c.args.code.now in
    let name = g.C.Named.names c.args.code.now in
    let first = g.D.Allots.first_byte in
    let m = machine_of c.args.simulation.now.state in
    let w =
    world m c.args.simulation.now.reads.items (outside g.I.Source.left g.I.Source.faults c.args.input.now) (outside g.O.Sink.held g.O.Sink.faults c.args.out.now)
    (outside g.E.Sink.held g.E.Sink.faults c.args.err.now) in
    let event = event_of (over m.placed) m.memory c.args.event.now in
    let answer = answer_value c.args.answer in
    let v = world m c.piece_for.new.reads.items (outside g.I.Source.left g.I.Source.faults c.piece_for.new.input) (outside g.O.Sink.held g.O.Sink.faults c.args.out.now) (outside g.E.Sink.held g.E.Sink.faults c.args.err.now) in
    starved dom prog name first w v c.from_residual-in_err-reply.result c.from_residual-in_err-reply.ensures.1
    (starves-read dom prog name first w event answer c.requires.asks c.requires.answers v (piece_value c.in_ok-piece.piece) refl c.in_ok-piece.ensures (rests-same w.out) (rests-same w.err))

pub returns-in_err-advance : goal.returns-in_err-advance
returns-in_err-advance g c =
    let over = g.D.Domain.over in
    let dom = domain_over over in
    let prog = g.C.Code.program c.args.code.now in
    let name = g.C.Named.names c.args.code.now in
    let first = g.D.Allots.first_byte in
    let m = machine_of c.args.simulation.now.state in
    let w =
    world m c.args.simulation.now.reads.items (outside g.I.Source.left g.I.Source.faults c.args.input.now) (outside g.O.Sink.held g.O.Sink.faults c.args.out.now)
    (outside g.E.Sink.held g.E.Sink.faults c.args.err.now) in
    let event = event_of (over m.placed) m.memory c.args.event.now in
    let answer = answer_value c.args.answer in
    let v = world (machine_of c.carry_out.new.simulation.state) c.carry_out.new.simulation.reads.items (outside g.I.Source.left g.I.Source.faults c.piece_for.new.input) (outside g.O.Sink.held g.O.Sink.faults c.args.out.now) (outside g.E.Sink.held g.E.Sink.faults c.args.err.now) in
    let read = read-as (limit_of answer) c.args.simulation.now.reads.items c.piece_for.new.reads.items c.carry_out.new.simulation.reads.items w.input v.input (piece_value c.in_ok-piece.piece) (ap (λ xs. xs.items) c.in_err-advance.ensures.reads) c.in_ok-piece.ensures in
    starved dom prog name first w v c.from_residual-in_err-advance.result c.from_residual-in_err-advance.ensures.1
    (starves-read dom prog name first w event answer c.requires.asks c.requires.answers v (piece_value c.in_ok-piece.piece) c.in_err-advance.ensures.err read (rests-same w.out) (rests-same w.err))

pub returns-then-is_stopped : goal.returns-then-is_stopped
returns-then-is_stopped g c =
    let over = g.D.Domain.over in
    let dom = domain_over over in
    let prog = g.C.Code.program c.args.code.now in
    let name = g.C.Named.names c.args.code.now in
    let first = g.D.Allots.first_byte in
    let m = machine_of c.args.simulation.now.state in
    let w =
    world m c.args.simulation.now.reads.items (outside g.I.Source.left g.I.Source.faults c.args.input.now) (outside g.O.Sink.held g.O.Sink.faults c.args.out.now)
    (outside g.E.Sink.held g.E.Sink.faults c.args.err.now) in
    let event = event_of (over m.placed) m.memory c.args.event.now in
    let answer = answer_value c.args.answer in
    let v = world (machine_of c.carry_out.new.simulation.state) c.carry_out.new.simulation.reads.items (outside g.I.Source.left g.I.Source.faults c.piece_for.new.input) (outside g.O.Sink.held g.O.Sink.faults c.args.out.now) (outside g.E.Sink.held g.E.Sink.faults c.args.err.now) in
    let read = read-as (limit_of answer) c.args.simulation.now.reads.items c.piece_for.new.reads.items c.carry_out.new.simulation.reads.items w.input v.input (piece_value c.in_ok-piece.piece) (ap (λ xs. xs.items) c.in_ok-advance.ensures.reads) c.in_ok-piece.ensures in
    let came =
    c.in_ok-advance.ensures.comes
    ∙ ap (λ r. reply_of dom prog m r) (c.in_ok-reply.ensures ∙ c.parted-answer.ensures.reply (over m.placed) (callee_of event.call) (next_first_byte dom prog name first m) (bytes_of (piece_value c.in_ok-piece.piece))) in
    stopped-there dom prog name first w event answer c.requires.asks c.requires.answers v (piece_value c.in_ok-piece.piece) c.in_ok-advance.advance read came c.in_ok-advance.ensures.stays
    (sym c.is_stopped.ensures ∙ c.if-is_stopped.true) (rests-same w.out) (rests-same w.err)

pub returns-in_err-send : goal.returns-in_err-send
returns-in_err-send g c =
    let over = g.D.Domain.over in
    let dom = domain_over over in
    let prog = g.C.Code.program c.args.code.now in
    let name = g.C.Named.names c.args.code.now in
    let first = g.D.Allots.first_byte in
    let m = machine_of c.args.simulation.now.state in
    let w =
    world m c.args.simulation.now.reads.items (outside g.I.Source.left g.I.Source.faults c.args.input.now) (outside g.O.Sink.held g.O.Sink.faults c.args.out.now)
    (outside g.E.Sink.held g.E.Sink.faults c.args.err.now) in
    let event = event_of (over m.placed) m.memory c.args.event.now in
    let answer = answer_value c.args.answer in
    let v =
    world (machine_of c.carry_out.new.simulation.state) c.carry_out.new.simulation.reads.items (outside g.I.Source.left g.I.Source.faults c.piece_for.new.input) (outside g.O.Sink.held g.O.Sink.faults c.send.new.out) (outside g.E.Sink.held g.E.Sink.faults c.send.new.err) in
    let read = read-as (limit_of answer) c.args.simulation.now.reads.items c.piece_for.new.reads.items c.carry_out.new.simulation.reads.items w.input v.input (piece_value c.in_ok-piece.piece) (ap (λ xs. xs.items) c.in_ok-advance.ensures.reads) c.in_ok-piece.ensures in
    let came =
    c.in_ok-advance.ensures.comes
    ∙ ap (λ r. reply_of dom prog m r) (c.in_ok-reply.ensures ∙ c.parted-answer.ensures.reply (over m.placed) (callee_of event.call) (next_first_byte dom prog name first m) (bytes_of (piece_value c.in_ok-piece.piece))) in
    unwritten dom prog name first w event answer c.requires.asks c.requires.answers v (piece_value c.in_ok-piece.piece) c.in_ok-advance.advance read came c.in_ok-advance.ensures.stays
    c.in_err-send.field-0.0 c.from_residual-in_err-send.result (sym c.is_stopped.ensures ∙ c.if-is_stopped.false)
    (subst (λ s. SendsOut s w.out v.out w.err v.err (Err c.in_err-send.field-0.0)) c.parted-answer.ensures.sent c.in_err-send.ensures) c.from_residual-in_err-send.ensures.1

pub returns : goal.returns
returns g c =
    let over = g.D.Domain.over in
    let dom = domain_over over in
    let prog = g.C.Code.program c.args.code.now in
    let name = g.C.Named.names c.args.code.now in
    let first = g.D.Allots.first_byte in
    let m = machine_of c.args.simulation.now.state in
    let w =
    world m c.args.simulation.now.reads.items (outside g.I.Source.left g.I.Source.faults c.args.input.now) (outside g.O.Sink.held g.O.Sink.faults c.args.out.now)
    (outside g.E.Sink.held g.E.Sink.faults c.args.err.now) in
    let event = event_of (over m.placed) m.memory c.args.event.now in
    let answer = answer_value c.args.answer in
    let v =
    world (machine_of c.carry_out.new.simulation.state) c.carry_out.new.simulation.reads.items (outside g.I.Source.left g.I.Source.faults c.piece_for.new.input) (outside g.O.Sink.held g.O.Sink.faults c.send.new.out) (outside g.E.Sink.held g.E.Sink.faults c.send.new.err) in
    let read = read-as (limit_of answer) c.args.simulation.now.reads.items c.piece_for.new.reads.items c.carry_out.new.simulation.reads.items w.input v.input (piece_value c.in_ok-piece.piece) (ap (λ xs. xs.items) c.in_ok-advance.ensures.reads) c.in_ok-piece.ensures in
    let came =
    c.in_ok-advance.ensures.comes
    ∙ ap (λ r. reply_of dom prog m r) (c.in_ok-reply.ensures ∙ c.parted-answer.ensures.reply (over m.placed) (callee_of event.call) (next_first_byte dom prog name first m) (bytes_of (piece_value c.in_ok-piece.piece))) in
    written dom prog name first w event answer c.requires.asks c.requires.answers v (piece_value c.in_ok-piece.piece) c.in_ok-advance.advance read came c.in_ok-advance.ensures.stays
    (sym c.is_stopped.ensures ∙ c.if-is_stopped.false)
    (subst (λ s. SendsOut s w.out v.out w.err v.err (Ok tt)) c.parted-answer.ensures.sent c.in_ok-send.ensures)
