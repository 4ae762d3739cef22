-- The items of the file into which a symbol is copied, what its data holds at first, and that it has no fault.
use Rattle.std.proofs.Common.{◌≡◌, List, [], ◌∷◌, ◌++◌, None, true, refl}
use Rattle.std.specs.Prelude.{codes, replicate}
use Rattle.asm_items.specs.declared.item.Item.TheVariants.{Copy, Comment, TextHead, Align, Globl, FuncKind, Name, Label, Ins, SectionHead, Zero, Tail}
use Rattle.asm_items.specs.declared.item.Label.TheVariants as label
use Rattle.asm_items.specs.declared.item.Sym.TheVariants as symbols
use Rattle.asm_items.specs.Lines.{Items}
use Rattle.rw_base.specs.Rules.{first_from, first}
use Rattle.rw_base.specs.Order.{ordered}
use Rattle.rw_base.specs.Name.{is_good_name, is_import_name}
use Rattle.rw_base.specs.declared.width.Width.TheVariants.{Q}
use Rattle.x86_insn.specs.declared.kinds.Plain.TheVariants.{Int3, Ud2}
use Rattle.x86_insn.specs.declared.kinds.Reg.TheVariants.{Rax}
use Rattle.x86_insn.specs.declared.operands.Mem.TheVariants.{Rel}
use Rattle.x86_insn.specs.declared.operands.Operand.TheVariants as operand
use Rattle.x86_insn.specs.declared.instruction.Insn.TheVariants as insn
use Rattle.x86_decode.specs.Fits.{row_of, opcode_row}
use Rattle.x86_decode.specs.Reading.{row_at, window_of}
use Rattle.x86_decode.specs.Value.{signed, value}
use Rattle.x86_bytes.specs.HeadReading.{front_of, head_of}
use Rattle.rw_words.specs.declared.atom.Cell.{Cell}
use Rattle.rw_words.specs.declared.atom.Cell.TheVariants.{Num, Undef}
use Rattle.rw_elf.specs.Number.{number}
use Rattle.rw_elf.specs.Section.{section_at}
use Rattle.rw_elf.specs.Places.{section_around, kept_around, kept_ending}
use Rattle.rw_elf.specs.Sections.{placed_sections}
use Rattle.rw_elf.specs.Header as header
use Rattle.rw_elf.specs.Sections as areas
use Rattle.rw_elf.specs.Symbols as names
use Rattle.rw_elf.specs.Symbols.{of_kind, link_of, symbol_at, symbols_of}
use Rattle.rw_elf.specs.Tables as tables
use Rattle.rw_elf.specs.Tables.{elf_rules, kept_sections, code_sections}
use Rattle.rw_reloc.specs.Entries.{entries, entries_in, entry_at}
use Rattle.rw_reloc.specs.Relocations as moves
use Rattle.rw_reloc.specs.Relocations.{relocation_rules}
use Rattle.rw_reloc.specs.Slots.{copies_of, copy_around, is_kept_at, slot_around, slot_of, slots_of}
use Rattle.rw_reloc.specs.Targets.{symbol_of, target_of}
use Rattle.rw_funcs.specs.Functions as found
use Rattle.rw_funcs.specs.Functions.{kept_functions, ranges, function_symbols, is_function, is_hosted, startup_functions, main_start, entry_of, code_of_symbol, function_rules}
use Rattle.rw_funcs.specs.Points.{points_of, file_points, point_rules, bad_address}
use Rattle.rw_tables.specs.Jumps.{jumps_of}
use Rattle.rw_tables.specs.Tables as dispatches
use Rattle.rw_refs.specs.CodeReferences.{code_rules}
use Rattle.rw_refs.specs.DataTargets.{slot_rules}
use Rattle.rw_refs.specs.References.{reference_at, target_at}
use Rattle.rw_data.specs.FirstCells.{cell_at, table_around}
use Rattle.rw_data.specs.Pieces.{marks_in, pieces_of}
use Rattle.rw_data.specs.Regions.{start_cells, start_contents}
use Rattle.rw_data.specs.FirstFault.{first_fault}
use Rattle.rw_out.specs.Items.{items_of, items_with, copy_items, data_items, main_items, weak_items, weakly_used, symbol_named, with_symbols}
use Rattle.rw_out_examples.specs.CopyExample.{copy_file}
use Rattle.rw_out_examples.proofs.SlotItems.{no-phase-faults}

abbrev pub copy_file_items : Items
copy_file_items =
    Copy (codes "stdout") 8 ∷ Comment (codes "_start") ∷ TextHead ∷ Align 4 ∷ Globl (codes "_start") ∷ FuncKind (codes "_start") ∷ Name (codes "_start")
    ∷ Label (label.Code 0x1000) ∷ Ins (insn.Mov Q (operand.Reg Rax) (operand.Mem (Rel (symbols.Named (codes "stdout") 0))))
    ∷ Label (label.Code 0x1007) ∷ Ins (insn.Plain Ud2)
    ∷ Label (label.Past 0x1000) ∷ Ins (insn.Plain Int3)
    ∷ SectionHead 0 true true ∷ Align 4 ∷ Label (label.Section 0) ∷ Zero 16 ∷ Tail ∷ []

pub items-are : items_of copy_file ≡ copy_file_items
unfolding items_with copy_items data_items main_items weak_items weakly_used symbol_named with_symbols pieces_of marks_in reference_at target_at copy_around kept_around kept_ending dispatches.tables_of dispatches.entry_at jumps_of lib.Count.count_trailing_zeros copies_of slots_of slot_of is_kept_at section_around target_of symbol_of entries entries_in entry_at kept_sections placed_sections entry_of main_start file_points ordered points_of code_of_symbol kept_functions ranges function_symbols is_function is_hosted startup_functions symbols_of of_kind link_of symbol_at section_at number first_from window_of row_at row_of opcode_row value signed front_of head_of
items-are = refl

-- the section's zeros, of which eight bytes belong to the copy, and the copy
abbrev pub file_contents : List (List Cell)
file_contents = (replicate 8 Undef ++ replicate 8 (Num 0)) ∷ replicate 8 Undef ∷ []

pub contents-are : start_contents copy_file ≡ file_contents
unfolding start_cells cell_at table_around reference_at target_at copy_around slot_around kept_around kept_ending dispatches.tables_of dispatches.entry_at jumps_of copies_of slots_of slot_of is_kept_at section_around target_of symbol_of entries entries_in entry_at kept_sections placed_sections file_points ordered points_of code_of_symbol kept_functions ranges function_symbols is_function is_hosted startup_functions symbols_of of_kind link_of symbol_at section_at number first_from window_of row_at row_of opcode_row value signed front_of head_of
contents-are = refl

-- ---- it has no fault

elf-clean : first (elf_rules copy_file) ≡ None
unfolding tables.size_rules header.header_rules tables.table_rules tables.section_rules tables.own_fault areas.section_fault lib.Count.ones lib.Count.ones_in tables.no_overlap placed_sections tables.kept_size kept_sections tables.code_size code_sections names.symbol_rules names.table_fault names.symbol_faults is_good_name symbols_of of_kind link_of symbol_at section_at number first_from ordered
elf-clean = refl

relocations-clean : first (relocation_rules copy_file) ≡ None
unfolding relocation_rules moves.table_faults moves.table_fault moves.entry_faults moves.entry_fault is_good_name is_import_name section_around is_kept_at target_of symbol_of entries entries_in entry_at symbols_of of_kind link_of symbol_at section_at number first_from ordered
relocations-clean = refl

functions-clean : first (function_rules copy_file) ≡ None
unfolding function_rules found.crossing_functions found.missing_entry found.constructors found.array_words entry_of placed_sections kept_functions ranges function_symbols is_function is_hosted startup_functions symbols_of of_kind link_of symbol_at section_at number first_from ordered
functions-clean = refl

points-clean : first (point_rules copy_file) ≡ None
unfolding point_rules bad_address code_of_symbol kept_functions ranges function_symbols is_function is_hosted startup_functions symbols_of of_kind link_of symbol_at section_at number first_from ordered window_of row_at row_of opcode_row value signed front_of head_of
points-clean = refl

tables-clean : first (dispatches.table_rules copy_file) ≡ None
unfolding dispatches.table_rules jumps_of points_of code_of_symbol kept_functions ranges function_symbols is_function is_hosted startup_functions symbols_of of_kind link_of symbol_at section_at number first_from ordered window_of row_at row_of opcode_row value signed front_of head_of
tables-clean = refl

references-clean : first (code_rules copy_file) ≡ None
unfolding code_rules reference_at target_at copy_around kept_around kept_ending copies_of slots_of slot_of is_kept_at section_around target_of symbol_of entries entries_in entry_at kept_sections placed_sections file_points ordered points_of code_of_symbol kept_functions ranges function_symbols is_function is_hosted startup_functions symbols_of of_kind link_of symbol_at section_at number first_from window_of row_at row_of opcode_row value signed front_of head_of
references-clean = refl

slots-clean : first (slot_rules copy_file) ≡ None
unfolding slot_rules reference_at copy_around kept_around kept_ending copies_of slots_of slot_of is_kept_at section_around target_of symbol_of entries entries_in entry_at kept_sections placed_sections symbols_of of_kind link_of symbol_at section_at number first_from ordered
slots-clean = refl

pub no-fault : first_fault copy_file ≡ None
no-fault = no-phase-faults copy_file elf-clean relocations-clean functions-clean points-clean tables-clean references-clean slots-clean
