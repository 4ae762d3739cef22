use Rattle.std.proofs.Common.{◌≡◌, None, subst}
use Rattle.rw_data.specs.FirstFault.{first_fault}
use Rattle.rw_out.specs.Plan.{PlanOf}
use Rattle.rw_out.specs.Probed.{AreProbes}
use Rattle.rw_out.proofs.plan.Plan.are_probes.Goals as goal

pub returns-clause-clean : goal.returns-clause-clean
returns-clause-clean c = subst (λ (p : PlanOf). first_fault p.file ≡ None) c.self.view_is c.self.invariant.clean

pub returns-clause-probes : goal.returns-clause-probes
returns-clause-probes c = subst (λ (p : PlanOf). AreProbes p.file p.mode p.forms) c.self.view_is c.self.invariant.probes_are
