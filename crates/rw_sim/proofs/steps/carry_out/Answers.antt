use Rattle.std.proofs.Common.{sym, subst}
use Rattle.rw_machine.specs.State.{domain_over, machine_of, reply_value}
use Rattle.rw_sim.proofs.AnsweredRegions.{moved-placed, ended-placed}
use Rattle.rw_sim.proofs.FreshSizes.{IsKept, kept-grown}
use Rattle.rw_sim.proofs.steps.carry_out.Goals as goal

pub invariant_of-simulation-in-Moved : goal.invariant_of-simulation-in-Moved
invariant_of-simulation-in-Moved g c =
    let over = g.D.Domain.over in
    let old = c.args.simulation.now in
    let m = machine_of old.state in
    let placed =
    moved-placed (domain_over over) (g.C.Code.program c.args.code.now) m (machine_of c.reply.new.state) (reply_value c.args.reply.now) c.requires.asks.0 c.requires.asks.1
    c.in_ok-reply.field-0 c.in_ok-reply.ensures.outcome c.in-Moved.is in
    let kept =
    subst (λ p. IsKept c.grown-simulation.result p) (sym placed)
    (kept-grown over m.placed old.fresh c.grown-simulation.result c.args.reply.now.fresh (record { counts = old.counts; room = old.room }) c.requires.fresh c.grown-simulation.ensures) in
    record { counts = kept.counts; room = kept.room }

pub invariant_of-simulation-in-Ended : goal.invariant_of-simulation-in-Ended
invariant_of-simulation-in-Ended g c =
    let over = g.D.Domain.over in
    let old = c.args.simulation.now in
    let m = machine_of old.state in
    let placed =
    ended-placed (domain_over over) (g.C.Code.program c.args.code.now) m (machine_of c.reply.new.state) (reply_value c.args.reply.now) c.requires.asks.0 c.requires.asks.1
    c.in_ok-reply.field-0 c.in_ok-reply.ensures.outcome c.in-Ended.end c.in-Ended.is in
    let kept =
    subst (λ p. IsKept c.grown-simulation-in-Ended.result p) (sym placed)
    (kept-grown over m.placed old.fresh c.grown-simulation-in-Ended.result c.args.reply.now.fresh (record { counts = old.counts; room = old.room }) c.requires.fresh c.grown-simulation-in-Ended.ensures) in
    record { counts = kept.counts; room = kept.room }
