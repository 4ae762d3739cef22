-- The items of the file with data, and the layout of its text.
use Rattle.std.proofs.Common.{◌≡◌, [], refl}
use Rattle.std.specs.Int.Count.{count_trailing_zeros}
use Rattle.rw_base.specs.Rules.{first_from}
use Rattle.rw_base.specs.Order.{ordered}
use Rattle.x86_decode.specs.Fits.{row_of, opcode_row}
use Rattle.x86_decode.specs.Reading.{row_at, window_of}
use Rattle.x86_decode.specs.Value.{signed, value}
use Rattle.x86_bytes.specs.HeadReading.{front_of, head_of}
use Rattle.rw_elf.specs.Number.{number}
use Rattle.rw_elf.specs.Section.{section_at}
use Rattle.rw_elf.specs.Places.{kept_around, kept_ending, section_around}
use Rattle.rw_elf.specs.Sections.{placed_sections}
use Rattle.rw_elf.specs.Symbols.{of_kind, link_of, symbol_at, symbols_of}
use Rattle.rw_elf.specs.Tables.{kept_sections}
use Rattle.rw_reloc.specs.Entries.{entries, entries_in, entry_at}
use Rattle.rw_reloc.specs.Slots.{copies_of, copy_around, is_kept_at, slot_at, slot_of, slots_of}
use Rattle.rw_reloc.specs.Targets.{symbol_of, target_of}
use Rattle.rw_funcs.specs.Functions.{kept_functions, ranges, function_symbols, is_function, is_hosted, startup_functions, main_start, entry_of, code_of_symbol}
use Rattle.rw_funcs.specs.Points.{points_of, file_points}
use Rattle.rw_refs.specs.Stubs.{stub_at}
use Rattle.rw_refs.specs.References.{reference_at, target_at}
use Rattle.rw_tables.specs.Jumps.{jumps_of}
use Rattle.rw_tables.specs.Tables.{tables_of}
use Rattle.rw_data.specs.Pieces.{marks_in, pieces_of}
use Rattle.rw_code.specs.Example.{exit_start}
use Rattle.rw_out.specs.Items.{copy_items, data_items as items_of_data, items_of, items_with, main_items, symbol_named, weak_items, weakly_used, with_symbols}
use Rattle.rw_out.specs.Simulates.{names_of, IsTextLayout}
use Rattle.rw_out_examples.specs.DataExample.{data_file, data_layout}
use Rattle.rw_out_examples.proofs.DataExample.{data_items}
use Rattle.rw_out_examples.proofs.LaidText.{text-by-tests}

pub items-are : items_of data_file ≡ data_items
unfolding items_with copy_items weak_items weakly_used main_items items_of_data symbol_named with_symbols reference_at target_at stub_at kept_around kept_ending pieces_of marks_in copy_around copies_of slots_of slot_at slot_of is_kept_at section_around target_of symbol_of entries entries_in entry_at tables_of jumps_of kept_sections placed_sections file_points points_of code_of_symbol kept_functions ranges function_symbols is_function is_hosted startup_functions main_start entry_of symbols_of of_kind link_of symbol_at section_at number first_from ordered window_of row_at row_of opcode_row value signed front_of head_of count_trailing_zeros
items-are = refl

-- the text uses no names, and the file imports none
names-are : names_of data_file data_items ≡ []
unfolding symbols_of of_kind link_of symbol_at section_at number first_from
names-are = refl

pub is-layout : IsTextLayout data_file (items_of data_file) exit_start data_layout
is-layout = text-by-tests data_file (items_of data_file) data_items [] exit_start data_layout items-are names-are refl
