use Rattle.std.proofs.Common.{map, ap, ◌∙◌, arith}
use Rattle.std.specs.Prelude.{flat_map}
use Rattle.std.specs.List.{fold}
use Rattle.asm_items.specs.Names.{with_name}
use Rattle.rw_reloc.specs.Slots.{copies_of}
use Rattle.rw_out.specs.Items.{copy_item, copy_items}
use Rattle.rw_out.specs.Plan.{item_names}
use Rattle.rw_out.proofs.Appearance.{names-whole}
use Rattle.rw_out.proofs.naming.add_copies.Goals as goal

pub returns : goal.returns
unfolding copy_items
returns c =
    let file = c.args.picture.now in
    c.loop-copy.invariant
    ∙ (names-whole (copy_item file) c.copies-copy-items.result.now c.loop-copy.copy-index c.args.names.now (omega arith)
    ∙ ap (λ cs. fold with_name c.args.names.now (flat_map item_names (map (copy_item file) cs))) (c.copies-copy-items.ensures.list ∙ ap copies_of c.relocs.ensures.file))
