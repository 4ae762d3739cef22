use Rattle.std.proofs.Common.{◌∙◌, ap, sym, Ok, Some}
use Rattle.rw_machine.specs.Plans.{with_run}
use Rattle.rw_machine.specs.Step as Steps
use Rattle.rw_machine.specs.State.{domain_over, machine_of, reply_value}
use Rattle.rw_machine.specs.Views.{running_of}
use Rattle.rw_machine.proofs.replies.return_to.Goals as goal

pub returns-in-Ok-At-clause-outcome : goal.returns-in-Ok-At-clause-outcome
returns-in-Ok-At-clause-outcome g c =
    let dom = domain_over g.D.Domain.over in
    let ops = g.D.Domain.over (g.D.Domain.placed c.args.state.now.domain) in
    let prog = g.C.Code.program c.args.code.now in
    let m = machine_of c.args.state.now in
    let called = with_run ops m (running_of c.args.run.now) m.point in
    let answer = reply_value c.args.reply.now in
    c.close_at.ensures.outcome (Some answer)
    ∙ ap (Steps.settled_outcome ops) (c.follow_call-changes.ensures.machine prog c.in-Ok-At.p ∙ ap (λ registers. Steps.machine_after_import dom ops prog called answer registers c.in-Ok-At.p) c.raise.ensures)
    ∙ ap (Steps.return_to_outcome dom ops prog called answer) (sym (c.in-Ok-At.is ∙ ap Ok c.in-Ok-At.field-0-is) ∙ c.target.ensures)

pub returns-in-Ok-At-clause-plan : goal.returns-in-Ok-At-clause-plan
returns-in-Ok-At-clause-plan g c = c.close_at.ensures.plan (Some (reply_value c.args.reply.now)) c.follow_call-changes.ensures.changes

pub returns-in-Ok-Finish-clause-outcome : goal.returns-in-Ok-Finish-clause-outcome
returns-in-Ok-Finish-clause-outcome g c =
    let dom = domain_over g.D.Domain.over in
    let ops = g.D.Domain.over (g.D.Domain.placed c.args.state.now.domain) in
    let prog = g.C.Code.program c.args.code.now in
    let m = machine_of c.args.state.now in
    let called = with_run ops m (running_of c.args.run.now) m.point in
    let answer = reply_value c.args.reply.now in
    c.return_out.ensures.outcome (Some answer)
    ∙ ap (Steps.returned_outcome ops) (c.follow_call-changes.ensures.machine prog m.point ∙ ap (λ registers. Steps.machine_after_import dom ops prog called answer registers m.point) c.raise.ensures)
    ∙ ap (Steps.return_to_outcome dom ops prog called answer) (sym (c.in-Ok-Finish.is ∙ ap Ok c.in-Ok-Finish.field-0-is) ∙ c.target.ensures)

pub returns-in-Ok-Finish-clause-plan : goal.returns-in-Ok-Finish-clause-plan
returns-in-Ok-Finish-clause-plan g c = c.return_out.ensures.plan (Some (reply_value c.args.reply.now)) c.follow_call-changes.ensures.changes
