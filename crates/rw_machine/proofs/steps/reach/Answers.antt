use Rattle.std.proofs.Common.{◌∙◌, ap, sym, Ok}
use Rattle.std.specs.Option.{option_copied}
use Rattle.rw_machine.specs.Plans.{given_reply}
use Rattle.rw_machine.specs.State.{domain_over, machine_of}
use Rattle.rw_machine.specs.Step as Steps
use Rattle.rw_machine.specs.Views.{running_of}
use Rattle.rw_machine.proofs.steps.reach.Goals as goal

pub returns-in-Ok-At-clause-outcome : goal.returns-in-Ok-At-clause-outcome
returns-in-Ok-At-clause-outcome g c =
    let dom = domain_over g.D.Domain.over in
    let ops = g.D.Domain.over (g.D.Domain.placed c.args.state.now.domain) in
    let prog = g.C.Code.program c.args.code.now in
    let m = machine_of c.args.state.now in
    let run = running_of c.args.run.now in
    let reply = given_reply (option_copied c.args.reply) in
    c.close_at.ensures.outcome reply
    ∙ ap (λ f. Steps.settled_outcome ops (record (Steps.machine_after dom ops prog m c.args.insn.now run c.in-Ok-At.p) { flags = f })) c.flags_left-run.ensures
    ∙ ap (Steps.reached_outcome dom ops prog m reply c.args.insn.now run) (sym (c.in-Ok-At.is ∙ ap Ok c.in-Ok-At.field-0-is) ∙ c.goal_of.ensures)

pub returns-in-Ok-At-clause-plan : goal.returns-in-Ok-At-clause-plan
returns-in-Ok-At-clause-plan g c = c.close_at.ensures.plan (given_reply (option_copied c.args.reply)) c.requires.placed

pub returns-in-Ok-Finish-clause-outcome : goal.returns-in-Ok-Finish-clause-outcome
returns-in-Ok-Finish-clause-outcome g c =
    let dom = domain_over g.D.Domain.over in
    let ops = g.D.Domain.over (g.D.Domain.placed c.args.state.now.domain) in
    let prog = g.C.Code.program c.args.code.now in
    let m = machine_of c.args.state.now in
    let run = running_of c.args.run.now in
    let reply = given_reply (option_copied c.args.reply) in
    c.return_out.ensures.outcome reply
    ∙ ap (λ f. Steps.returned_outcome ops (record (Steps.machine_after dom ops prog m c.args.insn.now run m.point) { flags = f })) c.flags_left-run.ensures
    ∙ ap (Steps.reached_outcome dom ops prog m reply c.args.insn.now run) (sym (c.in-Ok-Finish.is ∙ ap Ok c.in-Ok-Finish.field-0-is) ∙ c.goal_of.ensures)

pub returns-in-Ok-Finish-clause-plan : goal.returns-in-Ok-Finish-clause-plan
returns-in-Ok-Finish-clause-plan g c = c.return_out.ensures.plan (given_reply (option_copied c.args.reply)) c.requires.placed

pub returns-in-Ok-Import-clause-outcome : goal.returns-in-Ok-Import-clause-outcome
returns-in-Ok-Import-clause-outcome g c =
    let dom = domain_over g.D.Domain.over in
    let ops = g.D.Domain.over (g.D.Domain.placed c.args.state.now.domain) in
    let prog = g.C.Code.program c.args.code.now in
    let m = machine_of c.args.state.now in
    let run = running_of c.args.run.now in
    let reply = given_reply (option_copied c.args.reply) in
    c.enter.ensures.outcome
    ∙ ap (λ f. Steps.entered_outcome dom ops prog (record (Steps.machine_after dom ops prog m c.args.insn.now run m.point) { flags = f }) c.in-Ok-Import.symbol reply) c.flags_left-run.ensures
    ∙ ap (Steps.reached_outcome dom ops prog m reply c.args.insn.now run) (sym (c.in-Ok-Import.is ∙ ap Ok c.in-Ok-Import.field-0-is) ∙ c.goal_of.ensures)
