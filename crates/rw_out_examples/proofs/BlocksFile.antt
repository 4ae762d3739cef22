-- What the file with probes at its blocks has, by computing, and that no phase finds a fault in it.
use Rattle.std.proofs.Common.{◌≡◌, false, List, [], ◌∷◌, ◌++◌, filter, None, refl, ap, ◌∙◌}
use Rattle.std.specs.Prelude.{pos}
use Rattle.std.specs.Option.{option_or}
use Rattle.rw_base.specs.Rules.{Rule, first_from, first}
use Rattle.rw_base.specs.Order.{ordered}
use Rattle.rw_base.specs.Name.{is_good_name}
use Rattle.rw_base.specs.declared.width.Width.TheVariants.{L}
use Rattle.rw_base.proofs.First.{first_append}
use Rattle.x86_insn.specs.declared.kinds.Reg.TheVariants.{Rax, Rdi}
use Rattle.x86_insn.specs.declared.kinds.AluOp.TheVariants.{Add, Xor}
use Rattle.x86_insn.specs.declared.kinds.OneOp.TheVariants.{Dec}
use Rattle.x86_insn.specs.declared.kinds.Cond.TheVariants.{E}
use Rattle.x86_insn.specs.declared.operands.Operand.TheVariants as operand
use Rattle.x86_insn.specs.declared.instruction.Insn.TheVariants as insn
use Rattle.x86_decode.specs.Fits.{row_of, opcode_row}
use Rattle.x86_decode.specs.Reading.{row_at, window_of}
use Rattle.x86_decode.specs.Value.{signed, value}
use Rattle.x86_bytes.specs.HeadReading.{front_of, head_of}
use Rattle.rw_elf.specs.declared.symbol.Symbol.{Symbol}
use Rattle.rw_elf.specs.Number.{number}
use Rattle.rw_elf.specs.Section.{section_at}
use Rattle.rw_elf.specs.Sections.{placed_sections}
use Rattle.rw_elf.specs.Header as header
use Rattle.rw_elf.specs.Places.{kept_around}
use Rattle.rw_elf.specs.Sections as areas
use Rattle.rw_elf.specs.Symbols as names
use Rattle.rw_elf.specs.Symbols.{of_kind, link_of, symbol_at, symbols_of}
use Rattle.rw_elf.specs.Tables as tables
use Rattle.rw_elf.specs.Tables.{elf_rules, kept_sections, code_sections}
use Rattle.rw_reloc.specs.Entries.{entries, entries_in, entry_at}
use Rattle.rw_reloc.specs.Relocations as moves
use Rattle.rw_reloc.specs.Relocations.{relocation_rules}
use Rattle.rw_reloc.specs.Slots.{copies_of, copy_around, is_copy_slot, slot_of, slots_of}
use Rattle.rw_funcs.specs.Functions as found
use Rattle.rw_funcs.specs.Functions.{kept_functions, ranges, function_symbols, is_function, is_hosted, startup_functions, main_start, entry_of, code_of_symbol, function_rules}
use Rattle.rw_funcs.specs.Points.{Point, points_of, file_points, point_rules, bad_address}
use Rattle.rw_tables.specs.Jumps.{jumps_of}
use Rattle.rw_tables.specs.Tables as dispatches
use Rattle.rw_refs.specs.CodeReferences.{code_rules}
use Rattle.rw_refs.specs.DataTargets.{slot_rules}
use Rattle.rw_refs.specs.References.{reference_at, target_at}
use Rattle.rw_data.specs.FirstFault.{first_fault}
use Rattle.rw_out_examples.specs.BlocksExample.{blocks_file}

pub kept-are : kept_sections blocks_file ≡ []
unfolding kept_sections placed_sections section_at number first_from ordered
kept-are = refl

pub slots-are : slots_of blocks_file ≡ []
unfolding slots_of entries symbols_of of_kind link_of symbol_at section_at number first_from ordered
slots-are = refl

pub copies-are : copies_of blocks_file ≡ []
unfolding copies_of
copies-are = ap (filter is_copy_slot) slots-are

-- ---- its code

abbrev pub start_symbol : Symbol
start_symbol = record { name = record { at = 0xc1; len = 6 }; bind = 1; sort = 2; section = 1; value = 0x1000; size = 19 }

abbrev pub sum_symbol : Symbol
sum_symbol = record { name = record { at = 0xc8; len = 1 }; bind = 1; sort = 2; section = 1; value = 0x1020; size = 19 }

pub functions-are : kept_functions blocks_file ≡ start_symbol ∷ sum_symbol ∷ []
unfolding kept_functions ranges function_symbols is_function is_hosted startup_functions symbols_of of_kind link_of symbol_at section_at number first_from ordered
functions-are = refl

pub entry-is : entry_of blocks_file ≡ 0x1000
unfolding entry_of main_start ranges function_symbols is_function is_hosted startup_functions symbols_of of_kind link_of symbol_at section_at number first_from
entry-is = refl

pub not-hosted : is_hosted blocks_file ≡ false
unfolding is_hosted function_symbols is_function symbols_of of_kind link_of symbol_at section_at number first_from
not-hosted = refl

abbrev pub start_points : List Point
start_points =
    record { place = 0x1000; insn = insn.Mov L (operand.Reg Rdi) (operand.Imm (pos 3)); len = 5 }
    ∷ record { place = 0x1005; insn = insn.Call 0x1020; len = 5 }
    ∷ record { place = 0x100a; insn = insn.Mov L (operand.Reg Rdi) (operand.Reg Rax); len = 2 }
    ∷ record { place = 0x100c; insn = insn.Mov L (operand.Reg Rax) (operand.Imm (pos 60)); len = 5 }
    ∷ record { place = 0x1011; insn = insn.Syscall; len = 2 } ∷ []

abbrev pub sum_points : List Point
sum_points =
    record { place = 0x1020; insn = insn.Test L (operand.Reg Rdi) (operand.Reg Rdi); len = 2 }
    ∷ record { place = 0x1022; insn = insn.Jcc E 0x1030; len = 2 }
    ∷ record { place = 0x1024; insn = insn.Push (operand.Reg Rdi); len = 1 }
    ∷ record { place = 0x1025; insn = insn.One Dec L (operand.Reg Rdi); len = 2 }
    ∷ record { place = 0x1027; insn = insn.Call 0x1020; len = 5 }
    ∷ record { place = 0x102c; insn = insn.Pop (operand.Reg Rdi); len = 1 }
    ∷ record { place = 0x102d; insn = insn.Alu Add L (operand.Reg Rax) (operand.Reg Rdi); len = 2 }
    ∷ record { place = 0x102f; insn = insn.Ret; len = 1 }
    ∷ record { place = 0x1030; insn = insn.Alu Xor L (operand.Reg Rax) (operand.Reg Rax); len = 2 }
    ∷ record { place = 0x1032; insn = insn.Ret; len = 1 } ∷ []

pub points-are : file_points blocks_file ≡ start_points ++ sum_points
unfolding file_points ordered points_of code_of_symbol kept_functions ranges function_symbols is_function is_hosted startup_functions symbols_of of_kind link_of symbol_at section_at number first_from window_of row_at row_of opcode_row value signed front_of head_of
points-are = refl

-- ---- it has no fault

elf-clean : first (elf_rules blocks_file) ≡ None
unfolding tables.size_rules header.header_rules tables.table_rules tables.section_rules tables.own_fault areas.section_fault lib.Count.ones lib.Count.ones_in tables.no_overlap placed_sections tables.kept_size kept_sections tables.code_size code_sections names.symbol_rules names.table_fault names.symbol_faults is_good_name symbols_of of_kind link_of symbol_at section_at number first_from ordered
elf-clean = refl

functions-clean : first (function_rules blocks_file) ≡ None
unfolding function_rules found.crossing_functions found.missing_entry found.constructors found.array_words entry_of placed_sections kept_functions ranges function_symbols is_function is_hosted startup_functions symbols_of of_kind link_of symbol_at section_at number first_from ordered
functions-clean = refl

points-clean : first (point_rules blocks_file) ≡ None
unfolding point_rules bad_address code_of_symbol kept_functions ranges function_symbols is_function is_hosted startup_functions symbols_of of_kind link_of symbol_at section_at number first_from ordered window_of row_at row_of opcode_row value signed front_of head_of
points-clean = refl

relocations-clean : first (relocation_rules blocks_file) ≡ None
unfolding relocation_rules moves.table_faults moves.table_fault moves.entry_faults entries symbols_of of_kind link_of symbol_at section_at number first_from ordered
relocations-clean = refl

tables-clean : first (dispatches.table_rules blocks_file) ≡ None
unfolding dispatches.table_rules jumps_of points_of code_of_symbol kept_functions ranges function_symbols is_function is_hosted startup_functions symbols_of of_kind link_of symbol_at section_at number first_from ordered window_of row_at row_of opcode_row value signed front_of head_of
tables-clean = refl

references-clean : first (code_rules blocks_file) ≡ None
unfolding code_rules first_from reference_at target_at copy_around copies_of kept_around kept_sections slots_of slot_of file_points placed_sections points_of code_of_symbol kept_functions ranges function_symbols is_function is_hosted startup_functions entries entries_in entry_at symbols_of of_kind link_of symbol_at section_at number ordered window_of row_at row_of opcode_row value signed front_of head_of
references-clean = refl

slots-clean : first (slot_rules blocks_file) ≡ None
unfolding slot_rules first_from slots_of entries ordered number section_at
slots-clean = refl

no-faults : (a b : List Rule) → first a ≡ None → first b ≡ None → first (a ++ b) ≡ None
no-faults a b h k = first_append a b ∙ ap (λ o. option_or o (first b)) h ∙ k

pub no-fault : first_fault blocks_file ≡ None
no-fault =
    let e = elf_rules blocks_file in
    let r = relocation_rules blocks_file in
    let f = function_rules blocks_file in
    let p = point_rules blocks_file in
    let t = dispatches.table_rules blocks_file in
    let c = code_rules blocks_file in
    no-faults (e ++ r ++ f ++ p ++ t ++ c) (slot_rules blocks_file)
    (no-faults (e ++ r ++ f ++ p ++ t) c (no-faults (e ++ r ++ f ++ p) t (no-faults (e ++ r ++ f) p (no-faults (e ++ r) f (no-faults e r elf-clean relocations-clean) functions-clean) points-clean) tables-clean) references-clean) slots-clean
