use Rattle.std.proofs.Common.{sym, subst}
use Rattle.rw_out.specs.Kept.{probes_in}
use Rattle.rw_out.specs.Positions.{IsWeak}
use Rattle.rw_out.proofs.Appearance.{weak-used}
use Rattle.rw_out.proofs.plan.names_in.Goals as goal

pub returns : goal.returns
returns c =
    let file = c.args.picture.now in
    let probes = probes_in c.args.probes.now in
    let weak = weak-used file probes c.in_ok-found.found.used c.in_ok-weak.weak.items c.in_ok-found.ensures.used c.in_ok-weak.ensures in
    record {
      names = c.in_ok-names.ensures probes (subst (IsWeak file probes) (sym c.deref.ensures.value) weak) c.in_ok-found.ensures.all;
      weak = weak;
    }
