use Rattle.std.proofs.Common.{◌≡◌, None, ap, subst, ◌∙◌}
use Rattle.rw_data.specs.FirstFault.{first_fault}
use Rattle.rw_data.proofs.Clean.{each_clean}
use Rattle.rw_out.specs.Items.{items_with}
use Rattle.rw_out.specs.Kept.{forms_of, probes_by, probes_in}
use Rattle.rw_out.specs.Plan.{names_of}
use Rattle.rw_out.specs.Positions.{IsWeak}
use Rattle.rw_out.specs.Probed.{probes_of}
use Rattle.rw_out.specs.Choosing.{AreBytesOf}
use Rattle.rw_out.proofs.Kept.{are-probes, few-counters, probes-are}
use Rattle.rw_out.proofs.plan.Plan.in_mode.Goals as goal

pub new-requires : goal.new-requires
new-requires c =
    few-counters c.args.picture c.args.mode (each_clean c.args.picture (subst (λ file. first_fault file ≡ None) c.picture.view_is c.picture.invariant.clean)) c.in_ok-leaders.leaders c.deref.result.now c.in_ok-leaders.ensures

pub made-requires : goal.made-requires
made-requires c =
    let leaders = c.in_ok-leaders.leaders in
    let bytes = c.in_ok-probes.probes.items in
    let are : AreBytesOf c.args.picture c.in_ok-leaders.leaders c.in_ok-probes.probes.items =
    subst (λ list. AreBytesOf c.args.picture list bytes) c.list.ensures.list (subst (λ file. AreBytesOf file c.list.result.now bytes) c.funcs.ensures.file c.in_ok-probes.ensures) in
    let same : probes_in c.new.result ≡ probes_of c.args.picture c.args.mode (forms_of c.in_ok-probes.probes.items) =
    ap probes_in c.new.ensures ∙ ap (probes_by leaders) c.deref.ensures.value ∙ probes-are c.args.picture c.args.mode leaders bytes c.in_ok-leaders.ensures in
    record {
      clean = subst (λ file. first_fault file ≡ None) c.picture.view_is c.picture.invariant.clean;
      bytes_are = c.requires;
      leaders_are = c.in_ok-leaders.ensures;
      probes_are = are-probes c.args.picture c.args.mode leaders bytes c.in_ok-leaders.ensures are;
      kept_are = are.kept;
      names_are = c.in_ok-listed.ensures.names ∙ ap (λ probes. names_of (items_with c.args.picture probes)) same;
      weak_are = subst (λ probes. IsWeak c.args.picture probes c.in_ok-listed.listed.weak.items) same c.in_ok-listed.ensures.weak;
    }
