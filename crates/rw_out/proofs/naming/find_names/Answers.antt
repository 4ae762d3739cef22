use Rattle.std.proofs.Common.{◌∷◌, length, sym, ap, ◌∙◌, arith}
use Rattle.std.specs.Prelude.{flat_map}
use Rattle.std.specs.List.{fold}
use Rattle.std.proofs.lemmas.List.Sums.{fold-append}
use Rattle.asm_items.specs.Lines.{used_names}
use Rattle.asm_items.specs.Names.{with_name}
use Rattle.rw_out.specs.Kept.{probes_in}
use Rattle.rw_out.specs.Plan.{by_appearance, item_names, names_of}
use Rattle.rw_out.specs.Positions.{functions_on, rest, shown}
use Rattle.rw_out.specs.Uses.{names_used}
use Rattle.rw_out.proofs.ProbeNames.{same-names, same-used}
use Rattle.rw_out.proofs.Rests.{main_begins}
use Rattle.rw_out.proofs.naming.find_names.Goals as goal

pub loop-item-init : goal.loop-item-init
loop-item-init c =
    let file = c.args.picture.now in
    let probes = probes_in c.args.probes.now in
    let bare = probes_in c.counters_alone-bare.result in
    let same = sym c.counters_alone-bare.ensures in
    record {
      at = omega arith;
      all = ap (λ ns. fold with_name ns (flat_map item_names (functions_on file bare 0))) c.new.ensures
          ∙ sym (same-names file probes bare same ∙ ap names_of (main_begins file bare));
      used = ap (λ ns. fold with_name ns (used_names (functions_on file bare 0))) c.new-2.ensures
          ∙ sym (same-used file probes bare same ∙ ap (λ items. by_appearance (used_names items)) (main_begins file bare));
    }

pub loop-item-preserved : goal.loop-item-preserved
loop-item-preserved c =
    let file = c.args.picture.now in
    let bare = probes_in c.counters_alone-bare.result in
    let item = shown file c.in-Some.item in
    let after = rest file bare c.in-Some.next in
    record {
      at = c.in_ok-position.ensures.at;
      all = c.in_ok-position.ensures.all bare
          ∙ (ap (λ ns. fold with_name ns (flat_map item_names after)) c.in_ok-add.ensures.all
          ∙ (sym (fold-append with_name c.loop-item.found.all (item_names item) (flat_map item_names after))
          ∙ (ap (λ items. fold with_name c.loop-item.found.all (flat_map item_names items)) (sym c.in-Some.ensures.0) ∙ c.loop-item.invariant.all)));
      used = c.in_ok-position.ensures.used bare
          ∙ (ap (λ ns. fold with_name ns (used_names after)) c.in_ok-add.ensures.used
          ∙ (sym (fold-append with_name c.loop-item.found.used (names_used item) (used_names after))
          ∙ (ap (λ items. fold with_name c.loop-item.found.used (used_names items)) (sym c.in-Some.ensures.0) ∙ c.loop-item.invariant.used)));
    }

pub loop-item-smaller : goal.loop-item-smaller
loop-item-smaller c =
    let bare = probes_in c.counters_alone-bare.result in
    let fewer = c.in_ok-position.ensures.fewer bare in
    let whole = ap length c.in-Some.ensures.0 in
    omega (arith, fewer, whole)
