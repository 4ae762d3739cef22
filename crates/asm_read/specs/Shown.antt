-- The item of a line, by reading it and printing it again.
use Rattle.std.specs.Prelude.{◌≡◌, ℕ, List, Option, Some, None, if◌then◌else◌}
use Rattle.std.specs.Str.{bytes_eq}
use Rattle.asm_items.specs.declared.item.Item.{Item}
use Rattle.asm_items.specs.declared.item.NameId.{NameId}
use Rattle.asm_items.specs.Formed.{is_item}
use Rattle.asm_print.specs.Text.{body}
use Rattle.asm_print.specs.Pieces.{◌>>=◌}
use Rattle.asm_print.specs.Reading.{TextItem, item_in}
use Rattle.asm_read.specs.Numbered.{numbered, name_in, with_shown}

-- the item, where it is one of a text
abbrev pub formed : TextItem → Option TextItem
formed item = if is_item item then Some item else None

-- the item, where these bytes show it
abbrev pub checked : List ℕ → TextItem → Option TextItem
checked text item = if bytes_eq (body item) text then Some item else None

-- the item of a text that a line without its line feed shows, leniently
abbrev pub candidate : List ℕ → Option TextItem
candidate text = item_in text >>= formed

-- the item whose line this is, but for its line feed
abbrev pub shown_by : List ℕ → Option TextItem
shown_by text = candidate text >>= checked text

-- what a line without its line feed shows: an item with its number, whose name the new names have behind the old ones
abbrev pub Shows : List (List ℕ) → List (List ℕ) → List ℕ → Option (Item NameId) → Type 0
Shows old new text None = shown_by text ≡ None
Shows old new text (Some x) = (item : TextItem) × (shown_by text ≡ Some item) × (x ≡ numbered new item) × (new ≡ with_shown old (name_in item))
