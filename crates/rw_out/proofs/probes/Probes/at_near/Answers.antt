use Rattle.std.proofs.Common.{◌≡◌, ◌==◌, Some, sym, ap, subst, ◌∙◌}
use Rattle.std.specs.Prelude.{option_and_then, position}
use Rattle.rw_out.specs.Kept.{KeptProbes, forms_of}
use Rattle.rw_out.specs.Probed.{counted}
use Rattle.rw_out.proofs.probes.Probes.at_near.Goals as goal

pub returns : goal.returns
returns c =
    let number = c.in_ok-number.number in
    let place = subst (λ (k : KeptProbes). position (λ leader. leader == c.args.address) k.leaders ≡ Some number) c.self.view_is (sym c.number_near.ensures ∙ c.in_ok-number.was) in
    c.counted.ensures ∙ sym (ap (option_and_then (counted (forms_of c.args.self.now.bytes))) place)
