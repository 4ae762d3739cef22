-- What the regions of memory that a file brings hold at the start, in their order: its kept sections, by address, and then the
-- places of its copied symbols, by address.
use Rattle.std.specs.Prelude.{ℕ, List, ◌++◌, map, replicate, is_some, if◌then◌else◌}
use Rattle.std.specs.List.{range_with_len}
use Rattle.rw_words.specs.declared.atom.Cell.{Cell}
use Rattle.rw_words.specs.declared.atom.Cell.TheVariants.{Undef}
use Rattle.rw_elf.specs.declared.section.Section.{Section}
use Rattle.rw_elf.specs.Tables.{kept_sections}
use Rattle.rw_reloc.specs.declared.slot.Slot.{Slot}
use Rattle.rw_reloc.specs.Slots.{copies_of, copy_around}
use Rattle.rw_reloc.specs.Targets.{target_size}
use Rattle.rw_data.specs.FirstCells.{cell_at}

-- the bytes under a copied symbol are no memory of the section
abbrev pub start_cell : List ℕ → Section → ℕ → Cell
start_cell bytes s a = if is_some (copy_around bytes a) then Undef else cell_at bytes s a

unfoldable pub start_cells : List ℕ → Section → List Cell
start_cells bytes s = map (start_cell bytes s) (range_with_len s.addr s.size)

-- nothing is known of what is copied
abbrev pub copy_cells : Slot → List Cell
copy_cells c = replicate (target_size c.target) Undef

abbrev pub start_contents : List ℕ → List (List Cell)
start_contents bytes = map (start_cells bytes) (kept_sections bytes) ++ map copy_cells (copies_of bytes)
