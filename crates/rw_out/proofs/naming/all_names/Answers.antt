use Rattle.std.proofs.Common.{[], ap, ◌∙◌}
use Rattle.std.specs.Prelude.{flat_map}
use Rattle.std.specs.List.{fold}
use Rattle.asm_items.specs.Names.{with_name}
use Rattle.rw_out.specs.Items.{copy_items, items_with, main_items, weak_items}
use Rattle.rw_out.specs.Plan.{item_names}
use Rattle.rw_out.proofs.Appearance.{names-joined}
use Rattle.rw_out.proofs.naming.all_names.Goals as goal

pub returns : goal.returns
unfolding items_with
returns c = λ probes is all.
    let file = c.args.picture.now in
    let copies = c.in_ok-add_copies.ensures ∙ ap (λ ns. fold with_name ns (flat_map item_names (copy_items file))) c.new-names.ensures in
    let weak = c.in_ok-add_weak.ensures probes is ∙ ap (λ ns. fold with_name ns (flat_map item_names (weak_items file probes))) copies in
    c.in_ok-add_all.ensures
    ∙ (ap (λ ns. fold with_name ns c.args.found.now) weak
    ∙ (ap (fold with_name (fold with_name (fold with_name [] (flat_map item_names (copy_items file))) (flat_map item_names (weak_items file probes)))) all
    ∙ names-joined (copy_items file) (weak_items file probes) (main_items file probes)))
