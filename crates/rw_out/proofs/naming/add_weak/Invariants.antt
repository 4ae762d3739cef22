use Rattle.std.proofs.Common.{◌≡◌, map, take}
use Rattle.std.specs.Prelude.{flat_map}
use Rattle.std.specs.List.{fold}
use Rattle.asm_items.specs.Names.{with_name}
use Rattle.asm_items.specs.declared.item.Item.TheVariants.{Weak}
use Rattle.rw_elf.specs.Name.{name_bytes}
use Rattle.rw_out.specs.Plan.{item_names}
use Rattle.rw_out.proofs.naming.add_weak.Given as goal

abbrev pub invariant-loop-name : goal.invariant-loop-name
invariant-loop-name l = l.names ≡ fold with_name l.initial.names (flat_map item_names (map (λ n. Weak (name_bytes l.picture n)) (take l.name-index l.weak)))
