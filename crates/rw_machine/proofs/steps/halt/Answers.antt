use Rattle.std.proofs.Common.{◌∙◌, ap, subst, sym}
use Rattle.rw_machine.specs.declared.ending.End.TheVariants.{Trapped}
use Rattle.rw_machine.specs.declared.plan.Changes.TheVariants.{Due}
use Rattle.rw_machine.specs.Due.{FitRows}
use Rattle.rw_machine.specs.Plans.{changed_machine}
use Rattle.rw_machine.specs.State.{domain_over, machine_of}
use Rattle.rw_machine.specs.Step as Steps
use Rattle.rw_machine.specs.Views.{rows_of}
use Rattle.rw_machine.proofs.steps.halt.Goals as goal

pub returns-clause-outcome : goal.returns-clause-outcome
returns-clause-outcome g c reply =
    let dom = domain_over g.D.Domain.over in
    let ops = g.D.Domain.over (g.D.Domain.placed c.args.state.now.domain) in
    let m = machine_of c.args.state.now in
    c.close_at.ensures.outcome reply
    ∙ ap (λ r. Steps.finished_outcome ops (changed_machine dom ops reply r Due m.point m) (Trapped c.args.kind)) c.first_running.ensures

pub returns-clause-plan : goal.returns-clause-plan
returns-clause-plan g c reply = c.close_at.ensures.plan reply (subst (λ r. FitRows (rows_of c.args.state.now.memory) r.due) (sym c.first_running.ensures) tt)
