use Rattle.std.proofs.Common.{◌≡◌, ◌<◌, [], get_or, length, take, sym, ap, ◌∙◌, rules, subst, arith}
use Rattle.std.specs.Prelude.{slice_get, Some}
use Rattle.std.specs.List.{fold}
use Rattle.std.proofs.lemmas.Option.{get_or_from_slice_get}
use Rattle.asm_items.specs.Names.{with_name}
use Rattle.rw_out.proofs.Appearance.{list-more}
use Rattle.rw_out.proofs.naming.add_all.Goals as goal

pub loop-number-preserved : goal.loop-number-preserved
loop-number-preserved c =
    let found = c.args.found.now in
    let number = c.loop-number.number in
    let start = c.args.names.now in
    let same : c.in-Ok.id ≡ number = search rules in
    let size = c.len-number-end.ensures in
    let low : number < length found = omega (arith, size) in
    let name = c.get.result.now in
    let at : slice_get found number ≡ Some name = subst (λ i. slice_get found i ≡ Some name) same c.get.ensures.name in
    let got : get_or found number [] ≡ name = get_or_from_slice_get found number name [] at in
    c.in_ok-add.ensures
    ∙ (ap (λ ns. with_name ns name) c.loop-number.invariant
    ∙ (ap (with_name (fold with_name start (take number found))) (sym got) ∙ list-more found number start low))
