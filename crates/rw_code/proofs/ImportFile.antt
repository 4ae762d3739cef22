-- What the file of the example that imports has, by computing, and that no rule on these parts finds a fault.
use Rattle.std.proofs.Common.{◌≡◌, true, false, List, [], ◌∷◌, None, refl, ap, ◌∙◌}
use Rattle.rw_base.specs.Rules.{first_from, first}
use Rattle.rw_base.specs.Order.{ordered}
use Rattle.rw_base.specs.Name.{is_good_name}
use Rattle.rw_base.specs.declared.width.Width.TheVariants.{L}
use Rattle.std.specs.Prelude.{pos}
use Rattle.x86_insn.specs.declared.kinds.Reg.TheVariants.{Rax}
use Rattle.x86_insn.specs.declared.operands.Operand.TheVariants as operand
use Rattle.x86_insn.specs.declared.instruction.Insn.TheVariants as insn
use Rattle.x86_decode.specs.Fits.{row_of, opcode_row}
use Rattle.x86_decode.specs.Reading.{row_at, window_of}
use Rattle.x86_decode.specs.Value.{signed, value}
use Rattle.x86_bytes.specs.HeadReading.{front_of, head_of}
use Rattle.rw_elf.specs.declared.section.Section.{Section}
use Rattle.rw_elf.specs.declared.symbol.Symbol.{Symbol}
use Rattle.rw_elf.specs.Number.{number}
use Rattle.rw_elf.specs.Section.{sections, section_at}
use Rattle.rw_elf.specs.Places.{section_around}
use Rattle.rw_elf.specs.Sections.{placed_sections}
use Rattle.rw_elf.specs.Header as header
use Rattle.rw_elf.specs.Sections as areas
use Rattle.rw_elf.specs.Symbols as names
use Rattle.rw_elf.specs.Symbols.{dynamic_symbols, of_kind, link_of, symbol_at, symbols_of}
use Rattle.rw_elf.specs.Tables as tables
use Rattle.rw_elf.specs.Tables.{elf_rules, kept_sections, code_sections}
use Rattle.rw_reloc.specs.declared.slot.Slot.{Slot}
use Rattle.rw_reloc.specs.declared.slot.Target.TheVariants.{Copy}
use Rattle.rw_reloc.specs.Entries.{entries, entries_in, entry_at}
use Rattle.rw_reloc.specs.Slots.{copies_of, is_kept_at, slot_of, slots_of}
use Rattle.rw_reloc.specs.Targets.{symbol_of, target_of}
use Rattle.rw_funcs.specs.Functions as found
use Rattle.rw_funcs.specs.Functions.{kept_functions, ranges, function_symbols, is_function, is_hosted, startup_functions, main_start, entry_of, code_of_symbol, function_rules}
use Rattle.rw_funcs.specs.Points.{Point, points_of, file_points, point_rules, bad_address}
use Rattle.rw_refs.specs.CodeReferences.{code_rules, faults_in}
use Rattle.rw_code.specs.ImportExample.{import_file}

abbrev pub import_sections : List Section
import_sections =
    record { index = 0; name = record { at = 0x120; len = 0 }; kind = 0; flags = 0; addr = 0; offset = 0; size = 0; link = 0; align = 0 }
    ∷ record { index = 1; name = record { at = 0x121; len = 5 }; kind = 1; flags = 6; addr = 0x1000; offset = 0x40; size = 9; link = 0; align = 16 }
    ∷ record { index = 2; name = record { at = 0x127; len = 4 }; kind = 8; flags = 3; addr = 0x4000; offset = 0x50; size = 24; link = 0; align = 16 }
    ∷ record { index = 3; name = record { at = 0x12c; len = 7 }; kind = 2; flags = 0; addr = 0; offset = 0x50; size = 48; link = 4; align = 8 }
    ∷ record { index = 4; name = record { at = 0x134; len = 7 }; kind = 3; flags = 0; addr = 0; offset = 0x80; size = 8; link = 0; align = 8 }
    ∷ record { index = 5; name = record { at = 0x13c; len = 7 }; kind = 11; flags = 0; addr = 0; offset = 0x88; size = 96; link = 6; align = 8 }
    ∷ record { index = 6; name = record { at = 0x144; len = 7 }; kind = 3; flags = 0; addr = 0; offset = 0xe8; size = 8; link = 0; align = 8 }
    ∷ record { index = 7; name = record { at = 0x14c; len = 9 }; kind = 4; flags = 2; addr = 0x3000; offset = 0xf0; size = 48; link = 5; align = 8 }
    ∷ record { index = 8; name = record { at = 0x156; len = 9 }; kind = 3; flags = 0; addr = 0; offset = 0x120; size = 64; link = 0; align = 8 } ∷ []

pub sections-are : sections import_file ≡ import_sections
unfolding section_at number first_from
sections-are = refl

abbrev pub bss : Section
bss = record { index = 2; name = record { at = 0x127; len = 4 }; kind = 8; flags = 3; addr = 0x4000; offset = 0x50; size = 24; link = 0; align = 16 }

pub kept-are : kept_sections import_file ≡ bss ∷ []
unfolding kept_sections placed_sections section_at number first_from ordered
kept-are = refl

abbrev pub import_dynamic_symbols : List Symbol
import_dynamic_symbols =
    record { name = record { at = 0xe8; len = 0 }; bind = 0; sort = 0; section = 0; value = 0; size = 0 }
    ∷ record { name = record { at = 0xe9; len = 4 }; bind = 1; sort = 2; section = 0; value = 0; size = 0 }
    ∷ record { name = record { at = 0xee; len = 1 }; bind = 1; sort = 1; section = 2; value = 0x4008; size = 8 }
    ∷ record { name = record { at = 0xee; len = 1 }; bind = 1; sort = 1; section = 0; value = 0; size = 0 } ∷ []

pub dynamic-are : dynamic_symbols import_file ≡ import_dynamic_symbols
unfolding symbols_of of_kind link_of symbol_at section_at number first_from
dynamic-are = refl

abbrev pub import_copies : List Slot
import_copies =
    record { address = 0x4008; kind = 5; target = Copy 2 8; kept = true }
    ∷ record { address = 0x4010; kind = 5; target = Copy 2 8; kept = true } ∷ []

pub copies-are : copies_of import_file ≡ import_copies
unfolding copies_of slots_of slot_of is_kept_at section_around target_of symbol_of entries entries_in entry_at symbols_of of_kind link_of symbol_at section_at number first_from ordered
copies-are = refl

-- ---- its code

abbrev pub import_symbol : Symbol
import_symbol = record { name = record { at = 0x81; len = 6 }; bind = 1; sort = 2; section = 1; value = 0x1000; size = 9 }

pub functions-are : kept_functions import_file ≡ import_symbol ∷ []
unfolding kept_functions ranges function_symbols is_function is_hosted startup_functions symbols_of of_kind link_of symbol_at section_at number first_from ordered
functions-are = refl

pub entry-is : entry_of import_file ≡ 0x1000
unfolding entry_of main_start ranges function_symbols is_function is_hosted startup_functions symbols_of of_kind link_of symbol_at section_at number first_from
entry-is = refl

pub not-hosted : is_hosted import_file ≡ false
unfolding is_hosted function_symbols is_function symbols_of of_kind link_of symbol_at section_at number first_from
not-hosted = refl

abbrev pub import_points : List Point
import_points =
    record { place = 0x1000; insn = insn.Mov L (operand.Reg Rax) (operand.Imm (pos 39)); len = 5 }
    ∷ record { place = 0x1005; insn = insn.Syscall; len = 2 }
    ∷ record { place = 0x1007; insn = insn.CallTo (operand.Reg Rax) false; len = 2 } ∷ []

pub points-are : file_points import_file ≡ import_points
unfolding file_points ordered points_of code_of_symbol kept_functions ranges function_symbols is_function is_hosted startup_functions symbols_of of_kind link_of symbol_at section_at number first_from window_of row_at row_of opcode_row value signed front_of head_of
points-are = refl

-- ---- it has no fault

pub elf-clean : first (elf_rules import_file) ≡ None
unfolding tables.size_rules header.header_rules tables.table_rules tables.section_rules tables.own_fault areas.section_fault lib.Count.ones lib.Count.ones_in tables.no_overlap placed_sections tables.kept_size kept_sections tables.code_size code_sections names.symbol_rules names.table_fault names.symbol_faults is_good_name symbols_of of_kind link_of symbol_at section_at number first_from ordered
elf-clean = refl

pub functions-clean : first (function_rules import_file) ≡ None
unfolding function_rules found.crossing_functions found.missing_entry found.constructors found.array_words entry_of placed_sections kept_functions ranges function_symbols is_function is_hosted startup_functions symbols_of of_kind link_of symbol_at section_at number first_from ordered
functions-clean = refl

pub points-clean : first (point_rules import_file) ≡ None
unfolding point_rules bad_address code_of_symbol kept_functions ranges function_symbols is_function is_hosted startup_functions symbols_of of_kind link_of symbol_at section_at number first_from ordered window_of row_at row_of opcode_row value signed front_of head_of
points-clean = refl

pub references-clean : first (code_rules import_file) ≡ None
unfolding code_rules first_from
references-clean = ap (λ ps. first (faults_in import_file ps ∷ [])) points-are ∙ refl
