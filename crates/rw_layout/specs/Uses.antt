-- Lines that name the counters.
use Rattle.std.specs.Prelude.{ℕ, Bool, false, List}
use Rattle.std.specs.Str.{bytes_eq}
use Rattle.asm_items.specs.declared.item.Item.{Item}
use Rattle.asm_items.specs.declared.item.Item.TheVariants.{Name}
use Rattle.rw_layout.specs.Order.{counts_name}

abbrev pub is_counts_line : Item (List ℕ) → Bool
is_counts_line (Name name) = bytes_eq name counts_name
is_counts_line _ = false
