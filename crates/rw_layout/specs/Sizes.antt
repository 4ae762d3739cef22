-- Sizes of data, line by line.
use Rattle.std.specs.Prelude.{ℕ, ◌+◌, ◌≤◌, ◌^◌, Bool, true, false, List, [], ◌∷◌}
use Rattle.asm_items.specs.declared.item.Item.{Item}
use Rattle.asm_items.specs.declared.item.Item.TheVariants.{Copy, TextHead, SectionHead, CountsHead, Tail}
use Rattle.asm_items.specs.Lines.{Items, line_size}
use Rattle.rw_layout.specs.declared.sizes.Part.{Part}
use Rattle.rw_layout.specs.declared.sizes.Part.TheVariants.{Outside, InSection, InCounters}
use Rattle.rw_layout.specs.declared.sizes.Sizes.{Sizes}

-- where a line comes behind some, of which one may have begun the counters
abbrev pub part_with : Part → Bool → Item (List ℕ) → Part
part_with part counted TextHead = Outside
part_with part counted (SectionHead n writable nobits) = InSection
part_with part true CountsHead = Outside
part_with part false CountsHead = InCounters
part_with part counted Tail = Outside
part_with part counted _ = part

abbrev pub counted_with : Bool → Item (List ℕ) → Bool
counted_with counted CountsHead = true
counted_with counted _ = counted

abbrev pub in_section : Part → ℕ → ℕ
in_section InSection size = size
in_section _ size = 0

abbrev pub in_counters : Part → ℕ → ℕ
in_counters InCounters size = size
in_counters _ size = 0

abbrev pub copy_size : Item (List ℕ) → ℕ
copy_size (Copy name size) = size
copy_size _ = 0

-- the sums with one more line
abbrev pub sizes_with : Sizes → Item (List ℕ) → Sizes
sizes_with sizes item = record {
  part = part_with sizes.part sizes.counted item;
  counted = counted_with sizes.counted item;
  sections = sizes.sections + in_section sizes.part (line_size item);
  copies = sizes.copies + copy_size item;
  counters = sizes.counters + in_counters sizes.part (line_size item);
}

-- the sums with more lines
abbrev pub sizes_of : Sizes → Items → Sizes
sizes_of sizes [] = sizes
sizes_of sizes (item ∷ items) = sizes_of (sizes_with sizes item) items

abbrev pub no_sizes : Sizes
no_sizes = record { part = Outside; counted = false; sections = 0; copies = 0; counters = 0 }

-- no limit is passed
pub record AreWithin (sizes : Sizes) : Type 0 where
  pub sections : sizes.sections ≤ 2 ^ 30
  pub copies : sizes.copies ≤ 2 ^ 30
  pub counters : sizes.counters ≤ 2 ^ 27
