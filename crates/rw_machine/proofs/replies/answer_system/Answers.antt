use Rattle.std.proofs.Common.{◌∙◌, ◌++◌, ap, subst, sym, Some}
use Rattle.rw_machine.specs.Due.{FitRows, AreWords}
use Rattle.rw_machine.specs.Events.{lost_to_system}
use Rattle.rw_machine.specs.State.{domain_over, machine_of, reply_value}
use Rattle.rw_machine.specs.Step as Steps
use Rattle.rw_machine.specs.Views.{rows_of, running_of}
use Rattle.rw_machine.proofs.replies.answer_system.Goals as goal

pub returns-in-None-clause-outcome : goal.returns-in-None-clause-outcome
returns-in-None-clause-outcome g c =
    let dom = domain_over g.D.Domain.over in
    let ops = g.D.Domain.over (g.D.Domain.placed c.args.state.now.domain) in
    let prog = g.C.Code.program c.args.code.now in
    let reply = reply_value c.args.reply.now in
    let m = machine_of c.args.state.now in
    let run = running_of c.args.run.now in
    let point = c.next-point.result in
    let replied = Steps.machine_after_reply dom ops prog m reply in
    c.close_at.ensures.outcome (Some reply)
    ∙ ap (λ registers. Steps.settled_outcome ops (record replied {
      registers = registers;
      flags = run.flags;
      memory = Steps.all_written ops reply.writes (Steps.due_written ops m.memory run.due) ++ Steps.fresh_row ops reply.fresh;
      point = point;
    })) c.put_answer.ensures
    ∙ ap (λ r. Steps.settled_outcome ops (record replied {
      registers = Steps.registers_after_reply ops lost_to_system reply r.registers;
      flags = r.flags;
      memory = Steps.all_written ops reply.writes (Steps.due_written ops m.memory r.due) ++ Steps.fresh_row ops reply.fresh;
      point = point;
    })) c.requires
    ∙ ap (λ point. Steps.settled_outcome ops (record replied { point = point })) c.next-point.ensures
    ∙ ap (Steps.replied_outcome dom ops prog replied) (sym c.in-None.is)

pub returns-in-None-clause-plan : goal.returns-in-None-clause-plan
returns-in-None-clause-plan g c =
    let rows = rows_of c.args.state.now.memory in
    c.close_at.ensures.plan (Some (reply_value c.args.reply.now))
    (subst (λ r. FitRows rows r.due) (sym c.requires) tt, subst (λ r. AreWords r.due) (sym c.requires) tt, tt)
