-- What the file with data has, by computing, and that it has no fault.
use Rattle.std.proofs.Common.{◌≡◌, true, false, List, [], ◌∷◌, ◌++◌, Some, None, refl, ap, ◌∙◌}
use Rattle.rw_base.specs.Rules.{first_from}
use Rattle.rw_base.specs.Order.{ordered}
use Rattle.rw_base.specs.declared.width.Width.TheVariants.{L, Q}
use Rattle.std.specs.Prelude.{pos, filter, flat_map}
use Rattle.x86_insn.specs.declared.kinds.Reg.TheVariants.{Rax, Rdi}
use Rattle.x86_insn.specs.declared.operands.Mem.TheVariants.{Rel, At}
use Rattle.x86_insn.specs.declared.operands.Operand.TheVariants as operand
use Rattle.x86_insn.specs.declared.instruction.Insn.TheVariants as insn
use Rattle.x86_decode.specs.Fits.{row_of, opcode_row}
use Rattle.x86_decode.specs.Reading.{row_at, window_of}
use Rattle.x86_decode.specs.Value.{signed, value}
use Rattle.x86_bytes.specs.HeadReading.{front_of, head_of}
use Rattle.rw_elf.specs.declared.section.Section.{Section}
use Rattle.rw_elf.specs.declared.symbol.Symbol.{Symbol}
use Rattle.rw_elf.specs.Number.{number}
use Rattle.rw_elf.specs.Section.{sections, section_at}
use Rattle.rw_elf.specs.Places.{section_around}
use Rattle.rw_elf.specs.Sections.{placed_sections}
use Rattle.rw_elf.specs.Symbols.{dynamic_symbols, of_kind, link_of, symbol_at, symbols_of}
use Rattle.rw_elf.specs.Tables.{kept_sections}
use Rattle.rw_reloc.specs.declared.slot.Slot.{Slot}
use Rattle.rw_reloc.specs.declared.slot.Target.TheVariants.{To}
use Rattle.rw_reloc.specs.Entries.{entries, entries_in, entry_at}
use Rattle.rw_reloc.specs.Slots.{copies_of, is_copy_slot, is_kept_at, slot_of, slots_of}
use Rattle.rw_reloc.specs.Targets.{symbol_of, target_of}
use Rattle.rw_funcs.specs.Functions.{kept_functions, ranges, function_symbols, is_function, is_hosted, startup_functions, main_start, entry_of, code_of_symbol}
use Rattle.rw_funcs.specs.Points.{Point, points_of, file_points}
use Rattle.rw_code.proofs.KnownTables.{KnownTables}
use Rattle.rw_out_examples.specs.SlotExample.{slot_file}

abbrev pub slot_sections : List Section
slot_sections =
    record { index = 0; name = record { at = 0xb0; len = 0 }; kind = 0; flags = 0; addr = 0; offset = 0; size = 0; link = 0; align = 0 }
    ∷ record { index = 1; name = record { at = 0xb1; len = 5 }; kind = 1; flags = 6; addr = 0x1000; offset = 0x40; size = 16; link = 0; align = 16 }
    ∷ record { index = 2; name = record { at = 0xb7; len = 5 }; kind = 1; flags = 3; addr = 0x3000; offset = 0x50; size = 16; link = 0; align = 8 }
    ∷ record { index = 3; name = record { at = 0xbd; len = 7 }; kind = 2; flags = 0; addr = 0; offset = 0x60; size = 48; link = 4; align = 8 }
    ∷ record { index = 4; name = record { at = 0xc5; len = 7 }; kind = 3; flags = 0; addr = 0; offset = 0x90; size = 8; link = 0; align = 8 }
    ∷ record { index = 5; name = record { at = 0xcd; len = 9 }; kind = 4; flags = 2; addr = 0x2000; offset = 0x98; size = 24; link = 0; align = 8 }
    ∷ record { index = 6; name = record { at = 0xd7; len = 9 }; kind = 3; flags = 0; addr = 0; offset = 0xb0; size = 49; link = 0; align = 8 } ∷ []

pub sections-are : sections slot_file ≡ slot_sections
unfolding section_at number first_from
sections-are = refl

abbrev pub slot_section : Section
slot_section = record { index = 2; name = record { at = 0xb7; len = 5 }; kind = 1; flags = 3; addr = 0x3000; offset = 0x50; size = 16; link = 0; align = 8 }

pub kept-are : kept_sections slot_file ≡ slot_section ∷ []
unfolding kept_sections placed_sections section_at number first_from ordered
kept-are = refl

pub none-dynamic : dynamic_symbols slot_file ≡ []
unfolding symbols_of of_kind section_at number first_from
none-dynamic = refl

abbrev pub file_slots : List Slot
file_slots = record { address = 0x3000; kind = 8; target = To 0x3008; kept = true } ∷ []

pub slots-are : slots_of slot_file ≡ file_slots
unfolding slots_of slot_of is_kept_at section_around target_of symbol_of entries entries_in entry_at symbols_of of_kind link_of symbol_at section_at number first_from ordered
slots-are = refl

pub none-copied : copies_of slot_file ≡ []
unfolding copies_of
none-copied = ap (λ slots. filter is_copy_slot slots) slots-are

abbrev pub slot_tables : KnownTables slot_file
slot_tables = record { all = slot_sections; kept = slot_section ∷ []; copies = []; symbols = []; sections_are = sections-are; kept_are = kept-are; copies_are = none-copied; symbols_are = none-dynamic }

-- ---- its code

abbrev pub slot_symbol : Symbol
slot_symbol = record { name = record { at = 0x91; len = 6 }; bind = 1; sort = 2; section = 1; value = 0x1000; size = 16 }

pub functions-are : kept_functions slot_file ≡ slot_symbol ∷ []
unfolding kept_functions ranges function_symbols is_function is_hosted startup_functions symbols_of of_kind link_of symbol_at section_at number first_from ordered
functions-are = refl

pub entry-is : entry_of slot_file ≡ 0x1000
unfolding entry_of main_start ranges function_symbols is_function is_hosted startup_functions symbols_of of_kind link_of symbol_at section_at number first_from
entry-is = refl

pub not-hosted : is_hosted slot_file ≡ false
unfolding is_hosted function_symbols is_function symbols_of of_kind link_of symbol_at section_at number first_from
not-hosted = refl

abbrev pub slot_points : List Point
slot_points =
    record { place = 0x1000; insn = insn.Mov Q (operand.Reg Rax) (operand.Mem (Rel 0x3000)); len = 7 }
    ∷ record { place = 0x1007; insn = insn.Mov L (operand.Reg Rdi) (operand.Mem (At (Some Rax) None (pos 0))); len = 2 }
    ∷ record { place = 0x1009; insn = insn.Mov L (operand.Reg Rax) (operand.Imm (pos 60)); len = 5 }
    ∷ record { place = 0x100e; insn = insn.Syscall; len = 2 } ∷ []

pub points-are : points_of slot_file slot_symbol ≡ slot_points
unfolding points_of code_of_symbol section_at number first_from window_of row_at row_of opcode_row value signed front_of head_of
points-are = refl

pub file-points-are : file_points slot_file ≡ slot_points
unfolding file_points
file-points-are = ap (flat_map (points_of slot_file)) functions-are ∙ ap (λ ps. ps ++ []) points-are
