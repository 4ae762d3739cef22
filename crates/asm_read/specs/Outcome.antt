-- What reading a text gives.
use Rattle.std.specs.Prelude.{◌≡◌, ℕ, List, [], map}
use Rattle.rw_base.specs.declared.fault.Fault.TheVariants.{BadText}
use Rattle.rw_base.specs.declared.fault.Refusal.{Refusal}
use Rattle.rw_base.specs.declared.fault.Refusal.TheVariants as refusal
use Rattle.asm_items.specs.declared.item.Item.{Item}
use Rattle.asm_items.specs.declared.item.NameId.{NameId}
use Rattle.asm_items.specs.Formed.{AreItems}
use Rattle.asm_items.specs.Named.{named}
use Rattle.asm_print.specs.Text.{text_of}
use Rattle.asm_read.specs.Lines.{lines_of, IsFirstBad}
use Rattle.asm_read.specs.Numbered.{numbered, names_by_first_use}

-- the items are items of a text, which the bytes are; the names are those that the items show, by first appearance, and each
-- name of an item has its number there
pub record IsReadAs (bytes : List ℕ) (names : List (List ℕ)) (items : List (Item NameId)) : Type 0 where
  pub text : text_of (map (named names) items) ≡ bytes
  pub formed : AreItems (map (named names) items)
  pub first_use : names ≡ names_by_first_use [] (map (named names) items)
  pub numbers : items ≡ map (numbered names) (map (named names) items)

-- a refusal tells the first line that is none, or want of memory
abbrev pub Refuses : List ℕ → Refusal → Type 0
Refuses bytes (refusal.Fault (BadText k)) = IsFirstBad (lines_of bytes) k
Refuses bytes refusal.Memory = Unit {0}
Refuses bytes _ = ⊥
