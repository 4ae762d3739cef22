-- What the file into which a symbol is copied has, by computing.
use Rattle.std.proofs.Common.{◌≡◌, true, false, List, [], ◌∷◌, ◌++◌, refl, ap, ◌∙◌}
use Rattle.rw_base.specs.Rules.{first_from}
use Rattle.rw_base.specs.Order.{ordered}
use Rattle.rw_base.specs.declared.width.Width.TheVariants.{Q}
use Rattle.std.specs.Prelude.{flat_map, filter}
use Rattle.x86_insn.specs.declared.kinds.Plain.TheVariants.{Ud2}
use Rattle.x86_insn.specs.declared.kinds.Reg.TheVariants.{Rax}
use Rattle.x86_insn.specs.declared.operands.Mem.TheVariants.{Rel}
use Rattle.x86_insn.specs.declared.operands.Operand.TheVariants as operand
use Rattle.x86_insn.specs.declared.instruction.Insn.TheVariants as insn
use Rattle.x86_decode.specs.Fits.{row_of, opcode_row}
use Rattle.x86_decode.specs.Reading.{row_at, window_of}
use Rattle.x86_decode.specs.Value.{signed, value}
use Rattle.x86_bytes.specs.HeadReading.{front_of, head_of}
use Rattle.rw_elf.specs.declared.section.Section.{Section}
use Rattle.rw_elf.specs.declared.symbol.Symbol.{Symbol}
use Rattle.rw_elf.specs.Number.{number}
use Rattle.rw_elf.specs.Section.{sections, section_at}
use Rattle.rw_elf.specs.Places.{section_around}
use Rattle.rw_elf.specs.Sections.{placed_sections}
use Rattle.rw_elf.specs.Symbols.{dynamic_symbols, of_kind, link_of, symbol_at, symbols_of}
use Rattle.rw_elf.specs.Tables.{kept_sections}
use Rattle.rw_reloc.specs.declared.slot.Slot.{Slot}
use Rattle.rw_reloc.specs.declared.slot.Target.TheVariants.{Copy}
use Rattle.rw_reloc.specs.Entries.{entries, entries_in, entry_at}
use Rattle.rw_reloc.specs.Slots.{copies_of, is_copy_slot, is_kept_at, slot_of, slots_of}
use Rattle.rw_reloc.specs.Targets.{symbol_of, target_of}
use Rattle.rw_funcs.specs.Functions.{kept_functions, ranges, function_symbols, is_function, is_hosted, startup_functions, main_start, entry_of, code_of_symbol}
use Rattle.rw_funcs.specs.Points.{Point, points_of, file_points}
use Rattle.rw_code.proofs.KnownTables.{KnownTables}
use Rattle.rw_out_examples.specs.CopyExample.{copy_file}

abbrev pub copy_sections : List Section
copy_sections =
    record { index = 0; name = record { at = 0xd8; len = 0 }; kind = 0; flags = 0; addr = 0; offset = 0; size = 0; link = 0; align = 0 }
    ∷ record { index = 1; name = record { at = 0xd9; len = 5 }; kind = 1; flags = 6; addr = 0x1000; offset = 0x40; size = 9; link = 0; align = 16 }
    ∷ record { index = 2; name = record { at = 0xdf; len = 4 }; kind = 8; flags = 3; addr = 0x4000; offset = 0x50; size = 16; link = 0; align = 16 }
    ∷ record { index = 3; name = record { at = 0xe4; len = 7 }; kind = 2; flags = 0; addr = 0; offset = 0x50; size = 48; link = 4; align = 8 }
    ∷ record { index = 4; name = record { at = 0xec; len = 7 }; kind = 3; flags = 0; addr = 0; offset = 0x80; size = 8; link = 0; align = 8 }
    ∷ record { index = 5; name = record { at = 0xf4; len = 7 }; kind = 11; flags = 0; addr = 0; offset = 0x88; size = 48; link = 6; align = 8 }
    ∷ record { index = 6; name = record { at = 0xfc; len = 7 }; kind = 3; flags = 0; addr = 0; offset = 0xb8; size = 8; link = 0; align = 8 }
    ∷ record { index = 7; name = record { at = 0x104; len = 9 }; kind = 4; flags = 2; addr = 0x3000; offset = 0xc0; size = 24; link = 5; align = 8 }
    ∷ record { index = 8; name = record { at = 0x10e; len = 9 }; kind = 3; flags = 0; addr = 0; offset = 0xd8; size = 64; link = 0; align = 8 } ∷ []

pub sections-are : sections copy_file ≡ copy_sections
unfolding section_at number first_from
sections-are = refl

abbrev pub bss : Section
bss = record { index = 2; name = record { at = 0xdf; len = 4 }; kind = 8; flags = 3; addr = 0x4000; offset = 0x50; size = 16; link = 0; align = 16 }

pub kept-are : kept_sections copy_file ≡ bss ∷ []
unfolding kept_sections placed_sections section_at number first_from ordered
kept-are = refl

abbrev pub copy_dynamic_symbols : List Symbol
copy_dynamic_symbols =
    record { name = record { at = 0xb8; len = 0 }; bind = 0; sort = 0; section = 0; value = 0; size = 0 }
    ∷ record { name = record { at = 0xb9; len = 6 }; bind = 1; sort = 1; section = 2; value = 0x4000; size = 8 } ∷ []

pub dynamic-are : dynamic_symbols copy_file ≡ copy_dynamic_symbols
unfolding symbols_of of_kind link_of symbol_at section_at number first_from
dynamic-are = refl

abbrev pub file_copies : List Slot
file_copies = record { address = 0x4000; kind = 5; target = Copy 1 8; kept = true } ∷ []

pub slots-are : slots_of copy_file ≡ file_copies
unfolding slots_of slot_of is_kept_at section_around target_of symbol_of entries entries_in entry_at symbols_of of_kind link_of symbol_at section_at number first_from ordered
slots-are = refl

pub copies-are : copies_of copy_file ≡ file_copies
unfolding copies_of
copies-are = ap (λ slots. filter is_copy_slot slots) slots-are

abbrev pub copy_tables : KnownTables copy_file
copy_tables = record { all = copy_sections; kept = bss ∷ []; copies = file_copies; symbols = copy_dynamic_symbols; sections_are = sections-are; kept_are = kept-are; copies_are = copies-are; symbols_are = dynamic-are }

-- ---- its code

abbrev pub start_symbol : Symbol
start_symbol = record { name = record { at = 0x81; len = 6 }; bind = 1; sort = 2; section = 1; value = 0x1000; size = 9 }

pub functions-are : kept_functions copy_file ≡ start_symbol ∷ []
unfolding kept_functions ranges function_symbols is_function is_hosted startup_functions symbols_of of_kind link_of symbol_at section_at number first_from ordered
functions-are = refl

pub entry-is : entry_of copy_file ≡ 0x1000
unfolding entry_of main_start ranges function_symbols is_function is_hosted startup_functions symbols_of of_kind link_of symbol_at section_at number first_from
entry-is = refl

pub not-hosted : is_hosted copy_file ≡ false
unfolding is_hosted function_symbols is_function symbols_of of_kind link_of symbol_at section_at number first_from
not-hosted = refl

abbrev pub copy_points : List Point
copy_points =
    record { place = 0x1000; insn = insn.Mov Q (operand.Reg Rax) (operand.Mem (Rel 0x4000)); len = 7 }
    ∷ record { place = 0x1007; insn = insn.Plain Ud2; len = 2 } ∷ []

pub points-are : points_of copy_file start_symbol ≡ copy_points
unfolding points_of code_of_symbol section_at number first_from window_of row_at row_of opcode_row value signed front_of head_of
points-are = refl

pub file-points-are : file_points copy_file ≡ copy_points
unfolding file_points
file-points-are = ap (flat_map (points_of copy_file)) functions-are ∙ ap (λ ps. ps ++ []) points-are
