use Rattle.std.proofs.Common.{◌≡◌, map, take}
use Rattle.std.specs.Prelude.{flat_map}
use Rattle.std.specs.List.{fold}
use Rattle.asm_items.specs.Names.{with_name}
use Rattle.rw_out.specs.Items.{copy_item}
use Rattle.rw_out.specs.Plan.{item_names}
use Rattle.rw_out.proofs.naming.add_copies.Given as goal

abbrev pub invariant-loop-copy : goal.invariant-loop-copy
invariant-loop-copy l = l.names ≡ fold with_name l.initial.names (flat_map item_names (map (copy_item l.picture) (take l.copy-index l.copy-items)))
