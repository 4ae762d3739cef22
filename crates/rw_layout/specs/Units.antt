-- The units of a text, from its last line to its first.
use Rattle.std.specs.Prelude.{ℕ, ◌+◌, ◌^◌, max, List, if◌then◌else◌, Option, Some, None}
use Rattle.asm_items.specs.declared.item.Item.{Item}
use Rattle.asm_items.specs.declared.item.Item.TheVariants.{Copy, TextHead, Align, SectionHead, CountsHead}
use Rattle.asm_items.specs.declared.item.NameId.{NameId}
use Rattle.asm_items.specs.Lines.{Items, align_of, begins_section, copies_number}
use Rattle.asm_items.specs.Layout.{Extent}
use Rattle.rw_layout.specs.Rule.{functions_number, placed_size, placed_size_of}
use Rattle.rw_layout.specs.declared.units.Counts.{Counts}
use Rattle.rw_layout.specs.declared.units.Room.{Room}

abbrev pub extent_of : Room → Extent
extent_of room = record { size = room.size; align = room.align }

-- the room of lines, with the alignment that they ask for
abbrev pub lines_room : Items → Room
lines_room lines = record { size = placed_size_of lines; align = align_of lines }

abbrev pub align_with : Item (List ℕ) → ℕ → ℕ
align_with (Align k) align = 2 ^ k
align_with item align = align

-- the room of the lines up to the next unit, with one more before them
abbrev pub room_with : Item (List ℕ) → Room → Room
room_with item room =
    if begins_section item then record { size = 0; align = 1 }
    else record { size = placed_size item + room.size; align = align_with item room.align }

-- the unit that a line begins, by the room of the lines behind it
abbrev pub unit_begun : Item (List ℕ) → Room → Option Room
unit_begun TextHead room = Some (record { size = room.size; align = 16 })
unit_begun (SectionHead n writable nobits) room = Some (record { size = room.size; align = max 16 room.align })
unit_begun CountsHead room = Some (record { size = room.size; align = max 16 room.align })
unit_begun item room = None

-- the room of a copy, if the line is one
abbrev pub copy_room : Item NameId → Option Room
copy_room (Copy id size) = Some (record { size = size; align = 16 })
copy_room item = None

-- how many functions and sections begin among lines
abbrev pub counts_of : Items → Counts
counts_of items = record { functions = functions_number items; sections = copies_number items }

-- with one line more before the others
abbrev pub counts_with : Item (List ℕ) → Counts → Counts
counts_with TextHead counts = record { functions = 1 + counts.functions; sections = counts.sections }
counts_with (SectionHead n writable nobits) counts = record { functions = counts.functions; sections = 1 + counts.sections }
counts_with item counts = counts
