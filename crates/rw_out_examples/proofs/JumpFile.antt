-- What the file with a jump table has for each index, by computing, and that no phase finds a fault in it.
use Rattle.std.proofs.Common.{◌≡◌, ℕ, true, false, List, [], ◌∷◌, ◌++◌, filter, Some, None, refl, ap, ◌∙◌}
use Rattle.std.specs.Option.{option_or}
use Rattle.rw_base.proofs.First.{first_append}
use Rattle.x86_insn.specs.declared.operands.Mem.TheVariants.{At, Rel}
use Rattle.rw_elf.specs.Places.{kept_around}
use Rattle.rw_reloc.specs.Relocations as moves
use Rattle.rw_reloc.specs.Relocations.{relocation_rules}
use Rattle.rw_tables.specs.Jumps.{jumps_of}
use Rattle.rw_tables.specs.Tables as dispatches
use Rattle.rw_refs.specs.DataTargets.{slot_rules}
use Rattle.rw_refs.specs.References.{reference_at, target_at}
use Rattle.rw_data.specs.FirstFault.{first_fault}
use Rattle.rw_base.specs.Rules.{Rule, first_from, first}
use Rattle.rw_base.specs.Order.{ordered}
use Rattle.rw_base.specs.Name.{is_good_name}
use Rattle.rw_base.specs.declared.width.Width.TheVariants.{L, Q}
use Rattle.std.specs.Prelude.{ℤ, pos}
use Rattle.std.specs.Int.{cast_signed, from_le_bytes, w32}
use Rattle.x86_insn.specs.declared.kinds.Reg.TheVariants.{Rax, Rdi, Rdx}
use Rattle.x86_insn.specs.declared.kinds.AluOp.TheVariants.{Cmp, Add}
use Rattle.x86_insn.specs.declared.kinds.Cond.TheVariants.{A}
use Rattle.x86_insn.specs.declared.operands.Operand.TheVariants as operand
use Rattle.x86_insn.specs.declared.instruction.Insn.TheVariants as insn
use Rattle.x86_decode.specs.Fits.{row_of, opcode_row}
use Rattle.x86_decode.specs.Reading.{row_at, window_of}
use Rattle.x86_decode.specs.Value.{signed, value}
use Rattle.x86_bytes.specs.HeadReading.{front_of, head_of}
use Rattle.rw_elf.specs.declared.section.Section.{Section}
use Rattle.rw_elf.specs.declared.symbol.Symbol.{Symbol}
use Rattle.rw_elf.specs.Number.{number}
use Rattle.rw_elf.specs.Section.{sections, section_at}
use Rattle.rw_elf.specs.Places.{section_around}
use Rattle.rw_elf.specs.Sections.{placed_sections}
use Rattle.rw_elf.specs.Header as header
use Rattle.rw_elf.specs.Sections as areas
use Rattle.rw_elf.specs.Symbols as names
use Rattle.rw_elf.specs.Symbols.{dynamic_symbols, of_kind, link_of, symbol_at, symbols_of}
use Rattle.rw_elf.specs.Tables as tables
use Rattle.rw_elf.specs.Tables.{elf_rules, kept_sections, code_sections}
use Rattle.rw_reloc.specs.Entries.{entries, entries_in, entry_at}
use Rattle.rw_reloc.specs.Slots.{copies_of, copy_around, is_copy_slot, is_kept_at, slot_of, slots_of}
use Rattle.rw_reloc.specs.Targets.{symbol_of, target_of}
use Rattle.rw_funcs.specs.Functions as found
use Rattle.rw_funcs.specs.Functions.{kept_functions, ranges, function_symbols, is_function, is_hosted, startup_functions, main_start, entry_of, code_of_symbol, function_rules}
use Rattle.rw_funcs.specs.Points.{Point, points_of, file_points, point_rules, bad_address}
use Rattle.rw_refs.specs.CodeReferences.{code_rules}
use Rattle.rw_code.proofs.KnownTables.{KnownTables}
use Rattle.rw_out_examples.specs.JumpExample.{jump_file, jump_file_of}

abbrev pub rodata : Section
rodata = record { index = 2; name = record { at = 0xc7; len = 7 }; kind = 1; flags = 2; addr = 0x2000; offset = 0x78; size = 12; link = 0; align = 16 }

abbrev pub jump_sections : List Section
jump_sections =
    record { index = 0; name = record { at = 0xc0; len = 0 }; kind = 0; flags = 0; addr = 0; offset = 0; size = 0; link = 0; align = 0 }
    ∷ record { index = 1; name = record { at = 0xc1; len = 5 }; kind = 1; flags = 6; addr = 0x1000; offset = 0x40; size = 53; link = 0; align = 16 }
    ∷ rodata
    ∷ record { index = 3; name = record { at = 0xcf; len = 7 }; kind = 2; flags = 0; addr = 0; offset = 0x88; size = 48; link = 4; align = 8 }
    ∷ record { index = 4; name = record { at = 0xd7; len = 7 }; kind = 3; flags = 0; addr = 0; offset = 0xb8; size = 8; link = 0; align = 8 }
    ∷ record { index = 5; name = record { at = 0xdf; len = 9 }; kind = 3; flags = 0; addr = 0; offset = 0xc0; size = 41; link = 0; align = 8 } ∷ []

pub sections-are : (k : ℕ) → sections (jump_file_of k) ≡ jump_sections
unfolding section_at number first_from
sections-are k = refl

pub kept-are : (k : ℕ) → kept_sections (jump_file_of k) ≡ rodata ∷ []
unfolding kept_sections placed_sections section_at number first_from ordered
kept-are k = refl

pub dynamic-are : (k : ℕ) → dynamic_symbols (jump_file_of k) ≡ []
unfolding symbols_of of_kind link_of symbol_at section_at number first_from
dynamic-are k = refl

pub slots-are : (k : ℕ) → slots_of (jump_file_of k) ≡ []
unfolding slots_of slot_of is_kept_at section_around target_of symbol_of entries entries_in entry_at symbols_of of_kind link_of symbol_at section_at number first_from ordered
slots-are k = refl

pub copies-are : (k : ℕ) → copies_of (jump_file_of k) ≡ []
unfolding copies_of
copies-are k = ap (filter is_copy_slot) (slots-are k)

abbrev pub jump_tables : (k : ℕ) → KnownTables (jump_file_of k)
jump_tables k = record { all = jump_sections; kept = rodata ∷ []; copies = []; symbols = []; sections_are = sections-are k; kept_are = kept-are k; copies_are = copies-are k; symbols_are = dynamic-are k }

-- ---- its code

abbrev pub jump_symbol : Symbol
jump_symbol = record { name = record { at = 0xb9; len = 6 }; bind = 1; sort = 2; section = 1; value = 0x1000; size = 53 }

pub functions-are : (k : ℕ) → kept_functions (jump_file_of k) ≡ jump_symbol ∷ []
unfolding kept_functions ranges function_symbols is_function is_hosted startup_functions symbols_of of_kind link_of symbol_at section_at number first_from ordered
functions-are k = refl

pub entry-is : (k : ℕ) → entry_of (jump_file_of k) ≡ 0x1000
unfolding entry_of main_start ranges function_symbols is_function is_hosted startup_functions symbols_of of_kind link_of symbol_at section_at number first_from
entry-is k = refl

pub not-hosted : (k : ℕ) → is_hosted (jump_file_of k) ≡ false
unfolding is_hosted function_symbols is_function symbols_of of_kind link_of symbol_at section_at number first_from
not-hosted k = refl

-- the index as the instruction has it: a number of four bytes with its sign
abbrev pub index_value : ℕ → ℤ
index_value k = cast_signed w32 (from_le_bytes w32 (k ∷ 0 ∷ 0 ∷ 0 ∷ []))

abbrev pub jump_points : ℕ → List Point
jump_points k =
    record { place = 0x1000; insn = insn.Mov L (operand.Reg Rdi) (operand.Imm (index_value k)); len = 5 }
    ∷ record { place = 0x1005; insn = insn.Alu Cmp L (operand.Reg Rdi) (operand.Imm (pos 2)); len = 3 }
    ∷ record { place = 0x1008; insn = insn.Jcc A 0x102e; len = 2 }
    ∷ record { place = 0x100a; insn = insn.Lea Q Rdx (Rel 0x2000); len = 7 }
    ∷ record { place = 0x1011; insn = insn.MovSx L Q Rax (operand.Mem (At (Some Rdx) (Some (Rdi, 4)) (pos 0))); len = 4 }
    ∷ record { place = 0x1015; insn = insn.Alu Add Q (operand.Reg Rax) (operand.Reg Rdx); len = 3 }
    ∷ record { place = 0x1018; insn = insn.JmpTo (operand.Reg Rax) true; len = 3 }
    ∷ record { place = 0x101b; insn = insn.Mov L (operand.Reg Rdi) (operand.Imm (pos 10)); len = 5 }
    ∷ record { place = 0x1020; insn = insn.Jmp 0x102e; len = 2 }
    ∷ record { place = 0x1022; insn = insn.Mov L (operand.Reg Rdi) (operand.Imm (pos 11)); len = 5 }
    ∷ record { place = 0x1027; insn = insn.Jmp 0x102e; len = 2 }
    ∷ record { place = 0x1029; insn = insn.Mov L (operand.Reg Rdi) (operand.Imm (pos 12)); len = 5 }
    ∷ record { place = 0x102e; insn = insn.Mov L (operand.Reg Rax) (operand.Imm (pos 60)); len = 5 }
    ∷ record { place = 0x1033; insn = insn.Syscall; len = 2 } ∷ []

pub points-are : (k : ℕ) → file_points (jump_file_of k) ≡ jump_points k
unfolding file_points ordered points_of code_of_symbol kept_functions ranges function_symbols is_function is_hosted startup_functions symbols_of of_kind link_of symbol_at section_at number first_from window_of row_at row_of opcode_row value signed front_of head_of
points-are k = refl

-- ---- it has no fault

pub elf-clean : (k : ℕ) → first (elf_rules (jump_file_of k)) ≡ None
unfolding tables.size_rules header.header_rules tables.table_rules tables.section_rules tables.own_fault areas.section_fault lib.Count.ones lib.Count.ones_in tables.no_overlap placed_sections tables.kept_size kept_sections tables.code_size code_sections names.symbol_rules names.table_fault names.symbol_faults is_good_name symbols_of of_kind link_of symbol_at section_at number first_from ordered
elf-clean k = refl

pub functions-clean : (k : ℕ) → first (function_rules (jump_file_of k)) ≡ None
unfolding function_rules found.crossing_functions found.missing_entry found.constructors found.array_words entry_of placed_sections kept_functions ranges function_symbols is_function is_hosted startup_functions symbols_of of_kind link_of symbol_at section_at number first_from ordered
functions-clean k = refl

pub points-clean : (k : ℕ) → first (point_rules (jump_file_of k)) ≡ None
unfolding point_rules bad_address code_of_symbol kept_functions ranges function_symbols is_function is_hosted startup_functions symbols_of of_kind link_of symbol_at section_at number first_from ordered window_of row_at row_of opcode_row value signed front_of head_of
points-clean k = refl

relocations-clean : (k : ℕ) → first (relocation_rules (jump_file_of k)) ≡ None
unfolding relocation_rules moves.table_faults moves.table_fault moves.entry_faults entries symbols_of of_kind link_of symbol_at section_at number first_from ordered
relocations-clean k = refl

tables-clean : (k : ℕ) → first (dispatches.table_rules (jump_file_of k)) ≡ None
unfolding dispatches.table_rules kept_sections placed_sections section_around file_points jumps_of points_of code_of_symbol kept_functions ranges function_symbols is_function is_hosted startup_functions symbols_of of_kind link_of symbol_at section_at number first_from ordered window_of row_at row_of opcode_row value signed front_of head_of
tables-clean k = refl

pub references-clean : (k : ℕ) → first (code_rules (jump_file_of k)) ≡ None
unfolding code_rules first_from reference_at target_at copy_around copies_of kept_around kept_sections slots_of slot_of file_points placed_sections points_of code_of_symbol kept_functions ranges function_symbols is_function is_hosted startup_functions entries entries_in entry_at symbols_of of_kind link_of symbol_at section_at number ordered window_of row_at row_of opcode_row value signed front_of head_of
references-clean k = refl

slots-clean : (k : ℕ) → first (slot_rules (jump_file_of k)) ≡ None
unfolding slot_rules first_from slots_of entries ordered number section_at
slots-clean k = refl

no-faults : (a b : List Rule) → first a ≡ None → first b ≡ None → first (a ++ b) ≡ None
no-faults a b h k = first_append a b ∙ ap (λ o. option_or o (first b)) h ∙ k

pub no-fault-of : (k : ℕ) → first_fault (jump_file_of k) ≡ None
no-fault-of k =
    let e = elf_rules (jump_file_of k) in
    let r = relocation_rules (jump_file_of k) in
    let f = function_rules (jump_file_of k) in
    let p = point_rules (jump_file_of k) in
    let t = dispatches.table_rules (jump_file_of k) in
    let c = code_rules (jump_file_of k) in
    no-faults (e ++ r ++ f ++ p ++ t ++ c) (slot_rules (jump_file_of k))
    (no-faults (e ++ r ++ f ++ p ++ t) c (no-faults (e ++ r ++ f ++ p) t (no-faults (e ++ r ++ f) p (no-faults (e ++ r) f (no-faults e r (elf-clean k) (relocations-clean k)) (functions-clean k)) (points-clean k)) (tables-clean k)) (references-clean k)) (slots-clean k)

pub no-fault : first_fault jump_file ≡ None
no-fault = no-fault-of 1
