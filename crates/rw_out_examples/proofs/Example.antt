-- The items of the example file, and that it has no fault.
use Rattle.std.proofs.Common.{◌≡◌, ◌<◌, List, [], ◌∷◌, ◌++◌, All, None, get_or, nat_lt, refl, ap, ◌∙◌}
use Rattle.std.proofs.lemmas.Bool.{ltb-true}
use Rattle.std.proofs.lemmas.List.Elements.{All-from_get_or}
use Rattle.std.proofs.lemmas.List.Sums.{AllPass-from_list_all}
use Rattle.rw_elf.specs.Tables.{elf_rules}
use Rattle.rw_data.specs.Regions.{start_contents}
use Rattle.std.specs.Option.{option_or}
use Rattle.std.specs.Prelude.{codes, flat_map}
use Rattle.asm_items.specs.declared.item.Item.TheVariants.{Tail}
use Rattle.rw_base.specs.Rules.{Rule, first_from, first}
use Rattle.rw_base.proofs.First.{first_append}
use Rattle.rw_base.specs.Order.{ordered}
use Rattle.x86_decode.specs.Fits.{row_of, opcode_row}
use Rattle.x86_decode.specs.Reading.{row_at, window_of}
use Rattle.x86_decode.specs.Value.{signed, value}
use Rattle.x86_bytes.specs.HeadReading.{front_of, head_of}
use Rattle.rw_elf.specs.Number.{number}
use Rattle.rw_elf.specs.Section.{section_at}
use Rattle.rw_elf.specs.Sections.{placed_sections}
use Rattle.rw_elf.specs.Tables.{kept_sections}
use Rattle.rw_reloc.specs.Entries.{entries}
use Rattle.rw_reloc.specs.Relocations as moves
use Rattle.rw_reloc.specs.Relocations.{relocation_rules}
use Rattle.rw_refs.specs.CodeReferences.{code_rules}
use Rattle.rw_tables.specs.Jumps.{jumps_of}
use Rattle.rw_tables.specs.Tables as dispatches
use Rattle.rw_elf.specs.Symbols.{of_kind, link_of, symbol_at, symbols_of}
use Rattle.rw_funcs.specs.Functions.{kept_functions, ranges, function_symbols, is_function, is_hosted, startup_functions, main_start, entry_of, code_of_symbol, function_rules}
use Rattle.rw_funcs.specs.Points.{points_of, file_points, point_rules}
use Rattle.rw_code.proofs.Rows.{exit_points}
use Rattle.rw_data.specs.FirstFault.{first_fault}
use Rattle.rw_out.specs.Items.{no_probes, items_of, items_with, copy_items, data_items, main_items, weakly_used, weak_items, with_symbols, symbol_named, opening, entry_items, point_items, closing}
use Rattle.asm_items.specs.Lines.{Items}
use Rattle.rw_code.specs.Example.{exit_file}
use Rattle.rw_code.proofs.ExampleFile.{elf-clean, functions-clean, points-clean}
use Rattle.rw_refs.specs.DataTargets.{slot_rules}
use Rattle.rw_reloc.specs.Slots.{slots_of, copies_of}

-- the items of its text
abbrev pub exit_items : Items
exit_items = opening (codes "_start") ++ entry_items (codes "_start") ++ flat_map (point_items exit_file no_probes) exit_points ++ closing 0x1000 ++ Tail ∷ []

pub items-are : items_of exit_file ≡ exit_items
unfolding items_with copy_items data_items main_items weakly_used weak_items with_symbols symbol_named copies_of slots_of entries kept_sections placed_sections entry_of main_start file_points ordered points_of code_of_symbol kept_functions ranges function_symbols is_function is_hosted startup_functions symbols_of of_kind link_of symbol_at section_at number first_from window_of row_at row_of opcode_row value signed front_of head_of
items-are = refl

-- ---- it has no fault

relocations-clean : first (relocation_rules exit_file) ≡ None
unfolding relocation_rules moves.table_faults moves.table_fault moves.entry_faults entries symbols_of of_kind link_of symbol_at section_at number first_from ordered
relocations-clean = refl

slots-clean : first (slot_rules exit_file) ≡ None
unfolding slot_rules slots_of entries symbols_of of_kind link_of symbol_at section_at number first_from ordered
slots-clean = refl

references-clean : first (code_rules exit_file) ≡ None
unfolding code_rules file_points points_of code_of_symbol kept_functions ranges function_symbols is_function is_hosted startup_functions symbols_of of_kind link_of symbol_at section_at number first_from ordered window_of row_at row_of opcode_row value signed front_of head_of
references-clean = refl

tables-clean : first (dispatches.table_rules exit_file) ≡ None
unfolding dispatches.table_rules jumps_of points_of code_of_symbol kept_functions ranges function_symbols is_function is_hosted startup_functions symbols_of of_kind link_of symbol_at section_at number first_from ordered window_of row_at row_of opcode_row value signed front_of head_of
tables-clean = refl

pub no-faults : (a b : List Rule) → first a ≡ None → first b ≡ None → first (a ++ b) ≡ None
no-faults a b h k = first_append a b ∙ ap (λ o. option_or o (first b)) h ∙ k

pub no-fault : first_fault exit_file ≡ None
no-fault =
    let elf = elf_rules exit_file in
    let moved = relocation_rules exit_file in
    let functions = function_rules exit_file in
    let points = point_rules exit_file in
    let tables = dispatches.table_rules exit_file in
    let code = code_rules exit_file in
    no-faults (elf ++ moved ++ functions ++ points ++ tables ++ code) (slot_rules exit_file)
    (no-faults (elf ++ moved ++ functions ++ points ++ tables) code
    (no-faults (elf ++ moved ++ functions ++ points) tables
    (no-faults (elf ++ moved ++ functions) points
    (no-faults (elf ++ moved) functions (no-faults elf moved elf-clean relocations-clean) functions-clean) points-clean) tables-clean) references-clean) slots-clean

-- ---- it has no data, and its bytes are bytes

pub no-contents : start_contents exit_file ≡ []
unfolding kept_sections placed_sections copies_of slots_of entries section_at number first_from ordered
no-contents = refl

pub exit-bytes : All (λ b. b < 256) exit_file
exit-bytes = All-from_get_or (λ b. b < 256) exit_file 0 (λ i within. ltb-true (get_or exit_file i 0) 256 (AllPass-from_list_all (λ b. nat_lt b 256) exit_file refl i 0 within))
