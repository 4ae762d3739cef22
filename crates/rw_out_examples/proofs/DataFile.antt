-- What the file of the example with data has, by computing, and that no phase finds a fault in it.
use Rattle.std.proofs.Common.{◌≡◌, ◌+◌, ◌-◌, false, not, List, [], ◌∷◌, ◌++◌, length, filter, Option, Some, None, refl, ap, ◌∙◌}
use Rattle.std.specs.Prelude.{is_some, option_map, position}
use Rattle.std.specs.Option.{option_or}
use Rattle.rw_base.proofs.First.{first_append}
use Rattle.rw_base.specs.declared.fault.Fault.TheVariants.{BadReference}
use Rattle.rw_words.specs.declared.atom.Atom.{Atom}
use Rattle.rw_words.specs.declared.atom.Atom.TheVariants.{Ptr}
use Rattle.x86_insn.specs.declared.operands.Mem.TheVariants.{At, Rel}
use Rattle.rw_elf.specs.Places.{kept_around, spans}
use Rattle.rw_reloc.specs.Relocations as moves
use Rattle.rw_reloc.specs.Relocations.{relocation_rules}
use Rattle.rw_tables.specs.Jumps.{jumps_of}
use Rattle.rw_tables.specs.Tables as dispatches
use Rattle.rw_refs.specs.DataTargets.{slot_rules}
use Rattle.rw_refs.specs.References as refs
use Rattle.rw_refs.specs.References.{end_at, import_through, offset_in, reference_at, starts_at}
use Rattle.rw_data.specs.FirstFault.{first_fault}
use Rattle.rw_base.specs.Rules.{Rule, first_from, first, first_some, when}
use Rattle.rw_base.specs.Order.{ordered}
use Rattle.rw_base.specs.Name.{is_good_name}
use Rattle.rw_base.specs.declared.width.Width.TheVariants.{L, Q}
use Rattle.std.specs.Prelude.{pos}
use Rattle.x86_insn.specs.declared.kinds.Reg.TheVariants.{Rax, Rdi}
use Rattle.x86_insn.specs.declared.operands.Operand.TheVariants as operand
use Rattle.x86_insn.specs.declared.instruction.Insn.TheVariants as insn
use Rattle.x86_decode.specs.Fits.{row_of, opcode_row}
use Rattle.x86_decode.specs.Reading.{row_at, window_of}
use Rattle.x86_decode.specs.Value.{signed, value}
use Rattle.x86_bytes.specs.HeadReading.{front_of, head_of}
use Rattle.rw_elf.specs.declared.section.Section.{Section}
use Rattle.rw_elf.specs.declared.symbol.Symbol.{Symbol}
use Rattle.rw_elf.specs.Number.{number}
use Rattle.rw_elf.specs.Section.{sections, section_at}
use Rattle.rw_elf.specs.Places.{section_around}
use Rattle.rw_elf.specs.Sections.{placed_sections}
use Rattle.rw_elf.specs.Header as header
use Rattle.rw_elf.specs.Sections as areas
use Rattle.rw_elf.specs.Symbols as names
use Rattle.rw_elf.specs.Symbols.{dynamic_symbols, of_kind, link_of, symbol_at, symbols_of}
use Rattle.rw_elf.specs.Tables as tables
use Rattle.rw_elf.specs.Tables.{elf_rules, kept_sections, code_sections}
use Rattle.rw_reloc.specs.declared.slot.Slot.{Slot}
use Rattle.rw_reloc.specs.Entries.{entries, entries_in, entry_at}
use Rattle.rw_reloc.specs.Slots.{copies_of, copy_around, is_copy_slot, is_kept_at, slot_of, slots_of, takes}
use Rattle.rw_reloc.specs.Targets.{symbol_of, target_of}
use Rattle.rw_funcs.specs.Functions as found
use Rattle.rw_funcs.specs.Functions.{kept_functions, ranges, function_symbols, is_function, is_hosted, startup_functions, main_start, entry_of, code_of_symbol, function_rules}
use Rattle.rw_funcs.specs.Points.{Point, points_of, file_points, point_rules, bad_address}
use Rattle.rw_refs.specs.CodeReferences.{code_rules, faults_in}
use Rattle.rw_code.proofs.KnownTables.{KnownTables}
use Rattle.rw_out_examples.specs.DataExample.{data_file}

abbrev pub rodata : Section
rodata = record { index = 2; name = record { at = 0x97; len = 7 }; kind = 1; flags = 2; addr = 0x2000; offset = 0x50; size = 8; link = 0; align = 16 }

abbrev pub data_sections : List Section
data_sections =
    record { index = 0; name = record { at = 0x90; len = 0 }; kind = 0; flags = 0; addr = 0; offset = 0; size = 0; link = 0; align = 0 }
    ∷ record { index = 1; name = record { at = 0x91; len = 5 }; kind = 1; flags = 6; addr = 0x1139; offset = 0x40; size = 16; link = 0; align = 1 }
    ∷ rodata
    ∷ record { index = 3; name = record { at = 0x9f; len = 7 }; kind = 2; flags = 0; addr = 0; offset = 0x58; size = 48; link = 4; align = 8 }
    ∷ record { index = 4; name = record { at = 0xa7; len = 7 }; kind = 3; flags = 0; addr = 0; offset = 0x88; size = 8; link = 0; align = 8 }
    ∷ record { index = 5; name = record { at = 0xaf; len = 9 }; kind = 3; flags = 0; addr = 0; offset = 0x90; size = 41; link = 0; align = 8 } ∷ []

pub sections-are : sections data_file ≡ data_sections
unfolding section_at number first_from
sections-are = refl

pub kept-are : kept_sections data_file ≡ rodata ∷ []
unfolding kept_sections placed_sections section_at number first_from ordered
kept-are = refl

pub dynamic-are : dynamic_symbols data_file ≡ []
unfolding symbols_of of_kind link_of symbol_at section_at number first_from
dynamic-are = refl

pub slots-are : slots_of data_file ≡ []
unfolding slots_of slot_of is_kept_at section_around target_of symbol_of entries entries_in entry_at symbols_of of_kind link_of symbol_at section_at number first_from ordered
slots-are = refl

pub copies-are : copies_of data_file ≡ []
unfolding copies_of
copies-are = ap (filter is_copy_slot) slots-are

abbrev pub data_tables : KnownTables data_file
data_tables = record { all = data_sections; kept = rodata ∷ []; copies = []; symbols = []; sections_are = sections-are; kept_are = kept-are; copies_are = copies-are; symbols_are = dynamic-are }

-- ---- its code

abbrev pub data_symbol : Symbol
data_symbol = record { name = record { at = 0x89; len = 6 }; bind = 1; sort = 2; section = 1; value = 0x1139; size = 16 }

pub functions-are : kept_functions data_file ≡ data_symbol ∷ []
unfolding kept_functions ranges function_symbols is_function is_hosted startup_functions symbols_of of_kind link_of symbol_at section_at number first_from ordered
functions-are = refl

pub entry-is : entry_of data_file ≡ 0x1139
unfolding entry_of main_start ranges function_symbols is_function is_hosted startup_functions symbols_of of_kind link_of symbol_at section_at number first_from
entry-is = refl

pub not-hosted : is_hosted data_file ≡ false
unfolding is_hosted function_symbols is_function symbols_of of_kind link_of symbol_at section_at number first_from
not-hosted = refl

abbrev pub data_points : List Point
data_points =
    record { place = 0x1139; insn = insn.Lea Q Rax (Rel 0x2004); len = 7 }
    ∷ record { place = 0x1140; insn = insn.Mov L (operand.Reg Rdi) (operand.Mem (At (Some Rax) None (pos 0))); len = 2 }
    ∷ record { place = 0x1142; insn = insn.Mov L (operand.Reg Rax) (operand.Imm (pos 60)); len = 5 }
    ∷ record { place = 0x1147; insn = insn.Syscall; len = 2 } ∷ []

pub points-are : file_points data_file ≡ data_points
unfolding file_points ordered points_of code_of_symbol kept_functions ranges function_symbols is_function is_hosted startup_functions symbols_of of_kind link_of symbol_at section_at number first_from window_of row_at row_of opcode_row value signed front_of head_of
points-are = refl

-- ---- it has no fault

pub elf-clean : first (elf_rules data_file) ≡ None
unfolding tables.size_rules header.header_rules tables.table_rules tables.section_rules tables.own_fault areas.section_fault lib.Count.ones lib.Count.ones_in tables.no_overlap placed_sections tables.kept_size kept_sections tables.code_size code_sections names.symbol_rules names.table_fault names.symbol_faults is_good_name symbols_of of_kind link_of symbol_at section_at number first_from ordered
elf-clean = refl

pub functions-clean : first (function_rules data_file) ≡ None
unfolding function_rules found.crossing_functions found.missing_entry found.constructors found.array_words entry_of placed_sections kept_functions ranges function_symbols is_function is_hosted startup_functions symbols_of of_kind link_of symbol_at section_at number first_from ordered
functions-clean = refl

pub points-clean : first (point_rules data_file) ≡ None
unfolding point_rules bad_address code_of_symbol kept_functions ranges function_symbols is_function is_hosted startup_functions symbols_of of_kind link_of symbol_at section_at number first_from ordered window_of row_at row_of opcode_row value signed front_of head_of
points-clean = refl

relocations-clean : first (relocation_rules data_file) ≡ None
unfolding relocation_rules moves.table_faults moves.table_fault moves.entry_faults entries symbols_of of_kind link_of symbol_at section_at number first_from ordered
relocations-clean = refl

tables-clean : first (dispatches.table_rules data_file) ≡ None
unfolding dispatches.table_rules jumps_of points_of code_of_symbol kept_functions ranges function_symbols is_function is_hosted startup_functions symbols_of of_kind link_of symbol_at section_at number first_from ordered window_of row_at row_of opcode_row value signed front_of head_of
tables-clean = refl

-- the one address that code names is the fifth byte of the data
pub names-data : reference_at data_file 0x2004 ≡ Some (Ptr 0 4)
unfolding reference_at copy_around kept_around
names-data =
    ap (λ copies. option_or (option_map (λ k. Ptr (length (kept_sections data_file) + k) (offset_in copies (λ (s : Slot). 0x2004 - s.address) k)) (position (takes 0x2004) copies)) (rest (kept_sections data_file))) copies-are
    ∙ ap rest kept-are
  where
    rest : List Section → Option Atom
    rest kept =
        option_or (option_map (λ k. Ptr k 0) (position (starts_at 0x2004) kept))
        (option_or (option_map (λ k. Ptr k (offset_in kept (λ (s : Section). 0x2004 - s.addr) k)) (position (spans 0x2004) kept))
        (option_or (end_at data_file 0x2004) (option_or (refs.point_at data_file 0x2004) (option_or (import_through data_file 0x2004) None))))

pub references-clean : first (code_rules data_file) ≡ None
unfolding code_rules first_from
references-clean =
    ap (λ ps. first (faults_in data_file ps ∷ [])) points-are
    ∙ ap (λ o. option_or (first_some (when (not (is_some o)) (BadReference 0x1139) ∷ [])) None) names-data

slots-clean : first (slot_rules data_file) ≡ None
unfolding slot_rules first_from slots_of entries ordered number section_at
slots-clean = refl

no-faults : (a b : List Rule) → first a ≡ None → first b ≡ None → first (a ++ b) ≡ None
no-faults a b h k = first_append a b ∙ ap (λ o. option_or o (first b)) h ∙ k

pub no-fault : first_fault data_file ≡ None
no-fault =
    let e = elf_rules data_file in
    let r = relocation_rules data_file in
    let f = function_rules data_file in
    let p = point_rules data_file in
    let t = dispatches.table_rules data_file in
    let c = code_rules data_file in
    no-faults (e ++ r ++ f ++ p ++ t ++ c) (slot_rules data_file)
    (no-faults (e ++ r ++ f ++ p ++ t) c (no-faults (e ++ r ++ f ++ p) t (no-faults (e ++ r ++ f) p (no-faults (e ++ r) f (no-faults e r elf-clean relocations-clean) functions-clean) points-clean) tables-clean) references-clean) slots-clean
