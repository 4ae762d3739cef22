use Rattle.std.proofs.Common.{◌≡◌, Some, sym, subst}
use Rattle.rw_probe.specs.declared.form.Probe.{Probe}
use Rattle.rw_out.specs.Kept.{KeptProbes, forms_of}
use Rattle.rw_out.specs.Probed.{counted}
use Rattle.rw_out.proofs.Kept.{counted-at, item-at}
use Rattle.rw_out.proofs.probes.Probes.counted.Goals as goal

pub returns : goal.returns
returns c =
    let number = c.args.number in
    let byte = c.in_ok-byte.byte.now in
    let bytes = c.self.inside.bytes.now in
    let found = counted-at bytes number byte (item-at bytes number byte c.in_ok-byte.ensures.lookup.3.0 c.in_ok-byte.ensures.lookup.1) in
    let form = subst (λ (p : Probe). counted (forms_of bytes) number ≡ Some (number, p)) (sym c.probe_of.ensures) found in
    sym (subst (λ (k : KeptProbes). counted (forms_of k.bytes) number ≡ Some (number, c.probe_of.result)) c.self.view_is form)
