use Rattle.std.proofs.Common.{subst}
use Rattle.asm_print.specs.Text.{text_of}
use Rattle.rw_out.specs.Kept.{forms_of}
use Rattle.rw_out.specs.Plan.{PlanOf, plan_items}
use Rattle.rw_out.specs.Rewritten.{IsRewritten}
use Rattle.rw_out.specs.Simulates.{Simulates}
use Rattle.rw_out.proofs.FileLaw.{simulates-file}
use Rattle.rw_out.proofs.Formed.{is-rewritten}
use Rattle.rw_out.proofs.plan.Plan.is_simulated.Goals as goal

pub returns-clause-simulates : goal.returns-clause-simulates
returns-clause-simulates c =
    subst (λ (p : PlanOf). Simulates p.file p.mode (plan_items p)) c.self.view_is
    (simulates-file c.self.inside.picture c.self.inside.mode (forms_of c.self.inside.probes.items) c.self.invariant.clean c.self.invariant.bytes_are c.self.invariant.probes_are)

pub returns-clause-rewritten : goal.returns-clause-rewritten
returns-clause-rewritten c =
    subst (λ (p : PlanOf). IsRewritten p.file p.mode (text_of (plan_items p))) c.self.view_is
    (is-rewritten c.self.inside.picture c.self.inside.mode (forms_of c.self.inside.probes.items) c.self.invariant.clean c.self.invariant.bytes_are c.self.invariant.probes_are)
