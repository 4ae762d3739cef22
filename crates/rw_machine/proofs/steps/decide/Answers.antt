use Rattle.std.proofs.Common.{◌∙◌, ap, sym}
use Rattle.std.specs.Option.{option_copied}
use Rattle.rw_machine.specs.Plans.{given_reply}
use Rattle.rw_machine.specs.State.{domain_over, machine_of}
use Rattle.rw_machine.specs.Step as Steps
use Rattle.rw_machine.specs.Views.{running_of}
use Rattle.rw_machine.proofs.steps.decide.Goals as goal

pub returns-in-None-clause-outcome : goal.returns-in-None-clause-outcome
returns-in-None-clause-outcome g c =
    let dom = domain_over g.D.Domain.over in
    let ops = g.D.Domain.over (g.D.Domain.placed c.args.state.now.domain) in
    let decided = Steps.decided_outcome dom ops (g.C.Code.program c.args.code.now) (machine_of c.args.state.now) (given_reply (option_copied c.args.reply)) c.args.insn.now in
    c.ask.ensures.outcome ∙ ap (decided (running_of c.run_insn.new.run)) (sym c.in-None.is) ∙ ap (λ r. decided r r.cause) c.run_insn.ensures.run
