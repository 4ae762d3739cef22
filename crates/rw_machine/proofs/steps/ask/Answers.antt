use Rattle.std.proofs.Common.{◌≡◌, ◌∙◌, ap, sym, Some, rules}
use Rattle.std.specs.Option.{option_copied}
use Rattle.rw_machine.specs.declared.running.Ask.TheVariants.{Halt}
use Rattle.rw_machine.specs.Plans.{given_reply}
use Rattle.rw_machine.specs.State.{domain_over, machine_of}
use Rattle.rw_machine.specs.Step as Steps
use Rattle.rw_machine.specs.Views.{running_of}
use Rattle.rw_machine.proofs.steps.ask.Goals as goal

pub returns-in-Some-Halt-clause-outcome : goal.returns-in-Some-Halt-clause-outcome
returns-in-Some-Halt-clause-outcome g c =
    let ops = g.D.Domain.over (g.D.Domain.placed c.args.state.now.domain) in
    let reply = given_reply (option_copied c.args.reply) in
    let led : c.args.run.now.ask ≡ Some (Halt c.in-Some-Halt.kind) = search rules in
    c.halt.ensures.outcome reply
    ∙ ap (Steps.asked_outcome (domain_over g.D.Domain.over) ops (g.C.Code.program c.args.code.now) (machine_of c.args.state.now) reply c.args.insn.now (running_of c.args.run.now)) (sym led)

pub returns-in-Some-Halt-clause-plan : goal.returns-in-Some-Halt-clause-plan
returns-in-Some-Halt-clause-plan g c = c.halt.ensures.plan (given_reply (option_copied c.args.reply))
