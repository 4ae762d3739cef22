use Rattle.std.proofs.Common.{◌∙◌, ap, sym, Some}
use Rattle.rw_machine.specs.Plans.{plan_outcome, with_run}
use Rattle.rw_machine.specs.Step as Steps
use Rattle.rw_machine.specs.State.{domain_over, machine_of, reply_value}
use Rattle.rw_machine.specs.Views.{running_of}
use Rattle.rw_machine.proofs.replies.answer_call.Goals as goal

pub returns-in-Some-clause-outcome : goal.returns-in-Some-clause-outcome
returns-in-Some-clause-outcome g c =
    let dom = domain_over g.D.Domain.over in
    let ops = g.D.Domain.over (g.D.Domain.placed c.args.state.now.domain) in
    let prog = g.C.Code.program c.args.code.now in
    let m = machine_of c.args.state.now in
    let called = with_run ops m (running_of c.args.run.now) m.point in
    let answer = reply_value c.args.reply.now in
    ap (plan_outcome dom ops (Some answer) m (running_of c.follow_call-changes.new.run)) c.ended.ensures
    ∙ ap (λ n. Steps.Ended n c.in-Some.end) (c.follow_call-changes.ensures.machine prog m.point)
    ∙ ap (Steps.import_outcome dom ops prog called answer) (sym c.in-Some.is)
