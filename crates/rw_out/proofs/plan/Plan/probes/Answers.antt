use Rattle.std.proofs.Common.{ap, ◌∙◌}
use Rattle.rw_data.proofs.Clean.{each_clean}
use Rattle.rw_out.specs.Kept.{probes_by, probes_in}
use Rattle.rw_out.specs.Plan.{plan_probes}
use Rattle.rw_out.proofs.Kept.{few-counters, probes-are}
use Rattle.rw_out.proofs.plan.Plan.probes.Goals as goal

pub new-requires : goal.new-requires
new-requires c = few-counters c.self.inside.picture c.self.inside.mode (each_clean c.self.inside.picture c.self.invariant.clean) c.self.inside.leaders _ c.self.invariant.leaders_are

pub returns : goal.returns
returns c =
    ap probes_in c.new.ensures
    ∙ (ap (probes_by c.self.inside.leaders) c.deref.ensures.value
    ∙ (probes-are c.self.inside.picture c.self.inside.mode c.self.inside.leaders c.self.inside.probes.items c.self.invariant.leaders_are ∙ ap plan_probes c.self.view_is))
