-- Whether some lines of a text use a name.
use Rattle.std.specs.Prelude.{ℕ, List, flat_map, Bool}
use Rattle.std.specs.List.{list_any}
use Rattle.std.specs.Str.{bytes_eq}
use Rattle.asm_items.specs.declared.item.Item.{Item}
use Rattle.asm_items.specs.Lines.{names_in, symbols_in, used_names}

-- the names that a line uses
abbrev pub names_used : Item (List ℕ) → List (List ℕ)
names_used item = flat_map names_in (symbols_in item)

-- some line uses the name
abbrev pub uses : List (Item (List ℕ)) → List ℕ → Bool
uses items name = list_any (bytes_eq name) (used_names items)
