use Rattle.std.proofs.Common.{◌≡◌, ◌+◌, ◌++◌, false, length, arith}
use Rattle.std.specs.Prelude.{◌&&◌, ◌==◌}
use Rattle.std.proofs.lemmas.Grind.{common_steps}
use Rattle.rw_make.specs.Image.{dynamic_pieces, tables}
use Rattle.rw_make.proofs.Holding.{linked_more}
use Rattle.rw_make.proofs.layout.Layout.add_tables.Goals as goal
use Rattle.rw_make.proofs.layout.Layout.add_tables.Goals.{else-is_empty-via-then-is_empty+else-is_empty-2, else-is_empty-via-else-is_empty}

pub returns : goal.returns
unfolding tables
returns c pieces holds =
    let parts = c.args.parts.now in
    let linking : (length parts.dynamic.items == 0 && length parts.relas.items == 0) ≡ false =
    elim c.else-is_empty.branch [ else-is_empty-via-then-is_empty+else-is_empty-2 w ↦ grind (arith, common_steps) | else-is_empty-via-else-is_empty w ↦ grind (arith, common_steps) ] in
    let dynamic = c.in_ok-add_dynamic.ensures pieces holds in
    rw linking (linked_more pieces parts _ (c.in_ok-add_symbols.ensures (pieces ++ dynamic_pieces (length pieces + 1) parts) dynamic))
