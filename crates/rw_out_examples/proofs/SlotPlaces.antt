-- The place for the file with data is a placing, and the place for its text is a layout.
use Rattle.std.proofs.Common.{◌≡◌, [], refl}
use Rattle.rw_base.specs.Rules.{first_from}
use Rattle.rw_elf.specs.Number.{number}
use Rattle.rw_elf.specs.Section.{section_at}
use Rattle.rw_elf.specs.Symbols.{of_kind, link_of, symbol_at, symbols_of}
use Rattle.rw_code.specs.Placing.{IsPlacing}
use Rattle.rw_code.specs.Example.{exit_start}
use Rattle.rw_code.proofs.PlacedByTests.{placed-by-tests}
use Rattle.rw_data.specs.Regions.{start_contents}
use Rattle.rw_out.specs.Items.{items_of}
use Rattle.rw_out.specs.Simulates.{names_of, IsTextLayout}
use Rattle.rw_out_examples.specs.SlotExample.{slot_file, slot_ground, slot_layout, slot_placing}
use Rattle.rw_out_examples.proofs.SlotFile.{slot_tables}
use Rattle.rw_out_examples.proofs.SlotItems.{file_items, items-are}
use Rattle.rw_out_examples.proofs.LaidText.{text-by-tests}

pub is-placing : IsPlacing slot_file slot_ground exit_start slot_placing
is-placing = placed-by-tests slot_file slot_tables (start_contents slot_file) exit_start slot_placing refl

-- the text uses no names, and the file imports none
names-are : names_of slot_file file_items ≡ []
unfolding symbols_of of_kind link_of symbol_at section_at number first_from
names-are = refl

pub is-layout : IsTextLayout slot_file (items_of slot_file) exit_start slot_layout
is-layout = text-by-tests slot_file (items_of slot_file) file_items [] exit_start slot_layout items-are names-are refl
