-- What the hosted file into which a symbol is copied has, by computing.
use Rattle.std.proofs.Common.{◌≡◌, true, List, [], ◌∷◌, ◌++◌, refl, ap, ◌∙◌}
use Rattle.rw_base.specs.Rules.{first_from}
use Rattle.rw_base.specs.Order.{ordered}
use Rattle.rw_base.specs.declared.width.Width.TheVariants.{L, Q}
use Rattle.std.specs.Prelude.{pos, filter, flat_map}
use Rattle.x86_insn.specs.declared.kinds.AluOp.TheVariants.{Add, Sub, Xor}
use Rattle.x86_insn.specs.declared.kinds.Reg.TheVariants.{Rax, Rdi, Rsp}
use Rattle.x86_insn.specs.declared.operands.Mem.TheVariants.{Rel}
use Rattle.x86_insn.specs.declared.operands.Operand.TheVariants as operand
use Rattle.x86_insn.specs.declared.instruction.Insn.TheVariants as insn
use Rattle.x86_decode.specs.Fits.{row_of, opcode_row}
use Rattle.x86_decode.specs.Reading.{row_at, window_of}
use Rattle.x86_decode.specs.Value.{signed, value}
use Rattle.x86_bytes.specs.HeadReading.{front_of, head_of}
use Rattle.rw_elf.specs.declared.section.Section.{Section}
use Rattle.rw_elf.specs.declared.symbol.Symbol.{Symbol}
use Rattle.rw_elf.specs.Number.{number}
use Rattle.rw_elf.specs.Section.{sections, section_at}
use Rattle.rw_elf.specs.Places.{section_around}
use Rattle.rw_elf.specs.Sections.{placed_sections}
use Rattle.rw_elf.specs.Symbols.{dynamic_symbols, of_kind, link_of, symbol_at, symbols_of}
use Rattle.rw_elf.specs.Tables.{kept_sections}
use Rattle.rw_reloc.specs.declared.slot.Slot.{Slot}
use Rattle.rw_reloc.specs.declared.slot.Target.TheVariants.{Copy, Import}
use Rattle.rw_reloc.specs.Entries.{entries, entries_in, entry_at}
use Rattle.rw_reloc.specs.Slots.{copies_of, is_copy_slot, is_kept_at, slot_of, slots_of}
use Rattle.rw_reloc.specs.Targets.{symbol_of, target_of}
use Rattle.rw_funcs.specs.Functions.{kept_functions, ranges, function_symbols, is_function, is_hosted, startup_functions, main_start, entry_of, code_of_symbol}
use Rattle.rw_funcs.specs.Points.{Point, points_of, file_points}
use Rattle.rw_code.proofs.KnownTables.{KnownTables}
use Rattle.rw_out_examples.specs.CopyHostedExample.{hosted_file}

abbrev pub hosted_sections : List Section
hosted_sections =
    record { index = 0; name = record { at = 0x1d8; len = 0 }; kind = 0; flags = 0; addr = 0; offset = 0; size = 0; link = 0; align = 0 }
    ∷ record { index = 1; name = record { at = 0x1d9; len = 5 }; kind = 1; flags = 6; addr = 0x1000; offset = 0x40; size = 33; link = 0; align = 16 }
    ∷ record { index = 2; name = record { at = 0x1df; len = 8 }; kind = 1; flags = 6; addr = 0x1100; offset = 0x68; size = 32; link = 0; align = 16 }
    ∷ record { index = 3; name = record { at = 0x1e8; len = 4 }; kind = 1; flags = 3; addr = 0x3000; offset = 0x88; size = 16; link = 0; align = 16 }
    ∷ record { index = 4; name = record { at = 0x1ed; len = 4 }; kind = 8; flags = 3; addr = 0x4000; offset = 0x98; size = 16; link = 0; align = 16 }
    ∷ record { index = 5; name = record { at = 0x1f2; len = 7 }; kind = 2; flags = 0; addr = 0; offset = 0x98; size = 72; link = 6; align = 8 }
    ∷ record { index = 6; name = record { at = 0x1fa; len = 7 }; kind = 3; flags = 0; addr = 0; offset = 0xe0; size = 13; link = 0; align = 8 }
    ∷ record { index = 7; name = record { at = 0x202; len = 7 }; kind = 11; flags = 0; addr = 0; offset = 0xf0; size = 120; link = 8; align = 8 }
    ∷ record { index = 8; name = record { at = 0x20a; len = 7 }; kind = 3; flags = 0; addr = 0; offset = 0x168; size = 39; link = 0; align = 8 }
    ∷ record { index = 9; name = record { at = 0x212; len = 9 }; kind = 4; flags = 2; addr = 0x5000; offset = 0x190; size = 72; link = 7; align = 8 }
    ∷ record { index = 10; name = record { at = 0x21c; len = 9 }; kind = 3; flags = 0; addr = 0; offset = 0x1d8; size = 78; link = 0; align = 8 } ∷ []

pub sections-are : sections hosted_file ≡ hosted_sections
unfolding section_at number first_from
sections-are = refl

abbrev pub slot_section : Section
slot_section = record { index = 3; name = record { at = 0x1e8; len = 4 }; kind = 1; flags = 3; addr = 0x3000; offset = 0x88; size = 16; link = 0; align = 16 }

abbrev pub bss : Section
bss = record { index = 4; name = record { at = 0x1ed; len = 4 }; kind = 8; flags = 3; addr = 0x4000; offset = 0x98; size = 16; link = 0; align = 16 }

pub kept-are : kept_sections hosted_file ≡ slot_section ∷ bss ∷ []
unfolding kept_sections placed_sections section_at number first_from ordered
kept-are = refl

abbrev pub hosted_dynamic_symbols : List Symbol
hosted_dynamic_symbols =
    record { name = record { at = 0x168; len = 0 }; bind = 0; sort = 0; section = 0; value = 0; size = 0 }
    ∷ record { name = record { at = 0x169; len = 4 }; bind = 1; sort = 2; section = 0; value = 0; size = 0 }
    ∷ record { name = record { at = 0x16e; len = 7 }; bind = 1; sort = 2; section = 0; value = 0; size = 0 }
    ∷ record { name = record { at = 0x176; len = 17 }; bind = 1; sort = 2; section = 0; value = 0; size = 0 }
    ∷ record { name = record { at = 0x188; len = 6 }; bind = 1; sort = 1; section = 4; value = 0x4000; size = 8 } ∷ []

pub dynamic-are : dynamic_symbols hosted_file ≡ hosted_dynamic_symbols
unfolding symbols_of of_kind link_of symbol_at section_at number first_from
dynamic-are = refl

abbrev pub copy_slot : Slot
copy_slot = record { address = 0x4000; kind = 5; target = Copy 4 8; kept = true }

abbrev pub hosted_slots : List Slot
hosted_slots =
    record { address = 0x3000; kind = 7; target = Import 1; kept = true } ∷ record { address = 0x3008; kind = 7; target = Import 2; kept = true }
    ∷ copy_slot ∷ []

pub slots-are : slots_of hosted_file ≡ hosted_slots
unfolding slots_of slot_of is_kept_at section_around target_of symbol_of entries entries_in entry_at symbols_of of_kind link_of symbol_at section_at number first_from ordered
slots-are = refl

pub copies-are : copies_of hosted_file ≡ copy_slot ∷ []
unfolding copies_of
copies-are = ap (λ slots. filter is_copy_slot slots) slots-are

abbrev pub hosted_tables : KnownTables hosted_file
hosted_tables = record { all = hosted_sections; kept = slot_section ∷ bss ∷ []; copies = copy_slot ∷ []; symbols = hosted_dynamic_symbols; sections_are = sections-are; kept_are = kept-are; copies_are = copies-are; symbols_are = dynamic-are }

-- ---- its code

abbrev pub main_symbol : Symbol
main_symbol = record { name = record { at = 0xe1; len = 4 }; bind = 1; sort = 2; section = 1; value = 0x1000; size = 28 }

pub functions-are : kept_functions hosted_file ≡ main_symbol ∷ []
unfolding kept_functions ranges function_symbols is_function is_hosted startup_functions symbols_of of_kind link_of symbol_at section_at number first_from ordered
functions-are = refl

pub entry-is : entry_of hosted_file ≡ 0x1000
unfolding entry_of main_start ranges function_symbols is_function is_hosted startup_functions symbols_of of_kind link_of symbol_at section_at number first_from ordered
entry-is = refl

pub hosted : is_hosted hosted_file ≡ true
unfolding is_hosted function_symbols is_function symbols_of of_kind link_of symbol_at section_at number first_from
hosted = refl

abbrev pub hosted_points : List Point
hosted_points =
    record { place = 0x1000; insn = insn.Alu Sub Q (operand.Reg Rsp) (operand.Imm (pos 8)); len = 4 }
    ∷ record { place = 0x1004; insn = insn.Lea Q Rdi (Rel 0x4000); len = 7 }
    ∷ record { place = 0x100b; insn = insn.Call 0x1100; len = 5 }
    ∷ record { place = 0x1010; insn = insn.Call 0x1110; len = 5 }
    ∷ record { place = 0x1015; insn = insn.Alu Xor L (operand.Reg Rax) (operand.Reg Rax); len = 2 }
    ∷ record { place = 0x1017; insn = insn.Alu Add Q (operand.Reg Rsp) (operand.Imm (pos 8)); len = 4 }
    ∷ record { place = 0x101b; insn = insn.Ret; len = 1 } ∷ []

pub points-are : points_of hosted_file main_symbol ≡ hosted_points
unfolding points_of code_of_symbol section_at number first_from window_of row_at row_of opcode_row value signed front_of head_of
points-are = refl

pub file-points-are : file_points hosted_file ≡ hosted_points
unfolding file_points
file-points-are = ap (flat_map (points_of hosted_file)) functions-are ∙ ap (λ ps. ps ++ []) points-are
