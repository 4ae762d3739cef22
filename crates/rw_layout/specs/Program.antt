-- Texts as contracts see them.
use Rattle.std.specs.Prelude.{ℕ, ◌<◌, ◌^◌, List, length, map}
use Rattle.asm_items.specs.declared.item.Item.{Item}
use Rattle.asm_items.specs.declared.item.NameId.{NameId}
use Rattle.asm_items.specs.Formed.{AreItems}
use Rattle.asm_items.specs.Named.{named}
use Rattle.asm_items.specs.Lines.{Items}
use Rattle.asm_read.specs.declared.text.Text.{Text}

-- the names of a text, and its items with the numbers of their names
pub record Numbered : Type 0 where
  pub names : List (List ℕ)
  pub items : List (Item NameId)

-- the items that the text shows
abbrev pub shown : Numbered → Items
shown text = map (named text.names) text.items

-- Texts whose lines are items of a text, as those that are read: fewer than 2 ^ 32.
pub record IsText (text : Numbered) : Type 0 where
  pub few : length text.items < 2 ^ 32
  pub formed : AreItems (shown text)

-- a text as contracts see it
abbrev pub seen : Text → Numbered
seen text = record { names = text.names; items = text.items.items }
