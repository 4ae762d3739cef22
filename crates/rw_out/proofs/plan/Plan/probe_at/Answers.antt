use Rattle.std.proofs.Common.{ℕ, sym, ap, ◌∙◌}
use Rattle.std.specs.Prelude.{option_map}
use Rattle.rw_data.proofs.Clean.{each_clean}
use Rattle.rw_probe.specs.declared.form.Probe.{Probe}
use Rattle.rw_out.specs.Items.{Probes}
use Rattle.rw_out.proofs.Kept.{leader-at}
use Rattle.rw_out.proofs.plan.Plan.probe_at.Goals as goal

pub returns : goal.returns
returns c =
    let plan = c.args.self.now in
    let at = sym c.in_ok-probe.was ∙ (c.at.ensures ∙ ap (λ (p : Probes). p.at c.args.c) c.probes.ensures) in
    record {
      probe = ap (option_map (λ (counted : ℕ × Probe). counted.1)) at;
      none = tt;
      some = leader-at plan.file plan.mode (each_clean plan.file c.are_probes.ensures.clean) plan.forms c.are_probes.ensures.probes c.args.c _ (sym at);
    }

pub returns-in_err-probe : goal.returns-in_err-probe
returns-in_err-probe c =
    let plan = c.args.self.now in
    let at = sym c.in_err-probe.was ∙ (c.at.ensures ∙ ap (λ (p : Probes). p.at c.args.c) c.probes.ensures) in
    let none = leader-at plan.file plan.mode (each_clean plan.file c.are_probes.ensures.clean) plan.forms c.are_probes.ensures.probes c.args.c _ (sym at) in
    rw (c.from_residual.ensures)
    (record { probe = ap (option_map (λ (counted : ℕ × Probe). counted.1)) at; none = none; some = tt })
