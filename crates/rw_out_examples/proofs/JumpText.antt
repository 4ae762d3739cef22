-- The place for the file with a jump table, its contents, its items, and the layout of its text.
use Rattle.std.proofs.Common.{◌≡◌, ℕ, List, [], ◌∷◌, ◌++◌, take, Some, true, false, refl}
use Rattle.std.specs.Prelude.{codes}
use Rattle.asm_items.specs.declared.item.Item.TheVariants.{Label, Ins, SectionHead, Align, LongDiff, Tail}
use Rattle.asm_items.specs.declared.item.Label.TheVariants as label
use Rattle.asm_items.specs.declared.item.Sym.TheVariants as syms
use Rattle.asm_items.specs.Lines.{Items}
use Rattle.rw_base.specs.declared.width.Width.TheVariants.{L, Q}
use Rattle.std.specs.Prelude.{pos}
use Rattle.x86_insn.specs.declared.kinds.Plain.TheVariants.{Int3}
use Rattle.x86_insn.specs.declared.kinds.Reg.TheVariants.{Rax, Rdi, Rdx}
use Rattle.x86_insn.specs.declared.operands.Mem.TheVariants.{At, Rel}
use Rattle.x86_insn.specs.declared.operands.Operand.TheVariants as operand
use Rattle.x86_insn.specs.declared.instruction.Insn.TheVariants as insn
use Rattle.rw_words.specs.declared.atom.Cell.{Cell}
use Rattle.rw_elf.specs.Places.{kept_around}
use Rattle.rw_elf.specs.Tables.{kept_sections}
use Rattle.rw_reloc.specs.Slots.{copies_of}
use Rattle.rw_code.specs.Placing.{IsPlacing}
use Rattle.rw_code.specs.Example.{exit_start}
use Rattle.rw_code.proofs.PlacedByTests.{placed-by-tests}
use Rattle.rw_base.specs.Rules.{first_from}
use Rattle.rw_base.specs.Order.{ordered}
use Rattle.x86_decode.specs.Fits.{row_of, opcode_row}
use Rattle.x86_decode.specs.Reading.{row_at, window_of}
use Rattle.x86_decode.specs.Value.{signed, value}
use Rattle.x86_bytes.specs.HeadReading.{front_of, head_of}
use Rattle.rw_elf.specs.Number.{number}
use Rattle.rw_elf.specs.Section.{section_at}
use Rattle.rw_elf.specs.Places.{section_around}
use Rattle.rw_elf.specs.Sections.{placed_sections}
use Rattle.rw_elf.specs.Symbols.{of_kind, link_of, symbol_at, symbols_of}
use Rattle.rw_reloc.specs.Entries.{entries, entries_in, entry_at}
use Rattle.rw_reloc.specs.Slots.{copy_around, is_kept_at, slot_around, slot_of, slots_of}
use Rattle.rw_reloc.specs.Targets.{symbol_of, target_of}
use Rattle.rw_funcs.specs.Functions.{kept_functions, ranges, function_symbols, is_function, is_hosted, startup_functions, code_of_symbol}
use Rattle.rw_funcs.specs.Points.{points_of}
use Rattle.rw_tables.specs.Jumps.{jumps_of}
use Rattle.rw_tables.specs.Tables.{tables_of}
use Rattle.rw_data.specs.FirstCells.{cell_at, table_around}
use Rattle.rw_data.specs.Regions.{start_cells, start_contents}
use Rattle.rw_out.specs.Items.{opening, entry_items}
use Rattle.rw_out_examples.specs.DataExample.{data_placing}
use Rattle.rw_out_examples.specs.JumpExample.{jump_file, jump_file_of, jump_ground, jump_ground_of, jump_layout}
use Rattle.rw_out_examples.proofs.LaidText.{text-by-tests}
use Rattle.rw_out_examples.proofs.JumpFile.{index_value, jump_tables}
use Rattle.std.specs.Int.Count.{count_trailing_zeros}
use Rattle.x86_insn.specs.declared.kinds.AluOp.TheVariants.{Cmp, Add}
use Rattle.x86_insn.specs.declared.kinds.Cond.TheVariants as cond_kind
use Rattle.rw_words.specs.declared.atom.Atom.TheVariants.{Diff}
use Rattle.rw_words.specs.Words.{atom_cells}
use Rattle.rw_elf.specs.Places.{kept_ending}
use Rattle.rw_reloc.specs.Slots.{slot_at}
use Rattle.rw_funcs.specs.Functions.{main_start, entry_of}
use Rattle.rw_funcs.specs.Points.{file_points}
use Rattle.rw_refs.specs.Stubs.{stub_at}
use Rattle.rw_refs.specs.References.{reference_at, target_at}
use Rattle.rw_data.specs.Pieces.{marks_in, pieces_of}
use Rattle.rw_tables.specs.Tables as tables
use Rattle.rw_out.specs.Items.{copy_items, data_items as items_of_data, items_of, items_with, main_items, symbol_named, weak_items, weakly_used, with_symbols}
use Rattle.rw_out.specs.Simulates.{names_of, IsTextLayout}

-- ---- where it lies

pub is-placing-of : (k : ℕ) → IsPlacing (jump_file_of k) (jump_ground_of k) exit_start data_placing
is-placing-of k = placed-by-tests (jump_file_of k) (jump_tables k) (start_contents (jump_file_of k)) exit_start data_placing refl

pub is-placing : IsPlacing jump_file jump_ground exit_start data_placing
is-placing = is-placing-of 1

-- ---- its contents: three distances

abbrev pub jump_cells : List Cell
jump_cells = take 4 (atom_cells (Diff 0x101b 0 0)) ++ take 4 (atom_cells (Diff 0x1022 0 0)) ++ take 4 (atom_cells (Diff 0x1029 0 0))

pub contents-are : (k : ℕ) → start_contents (jump_file_of k) ≡ jump_cells ∷ []
unfolding start_cells cell_at table_around slot_around copy_around copies_of slots_of slot_of is_kept_at section_around target_of symbol_of entries entries_in entry_at tables_of jumps_of kept_sections placed_sections points_of code_of_symbol kept_functions ranges function_symbols is_function is_hosted startup_functions symbols_of of_kind link_of symbol_at section_at number first_from ordered window_of row_at row_of opcode_row value signed front_of head_of kept_around kept_ending reference_at target_at stub_at slot_at file_points tables.entry_at
contents-are k = refl

-- ---- the items

abbrev pub jump_items : ℕ → Items
jump_items k =
    opening (codes "_start") ++ entry_items (codes "_start")
    ++ Label (label.Code 0x1000) ∷ Ins (insn.Mov L (operand.Reg Rdi) (operand.Imm (index_value k)))
    ∷ Label (label.Code 0x1005) ∷ Ins (insn.Alu Cmp L (operand.Reg Rdi) (operand.Imm (pos 2)))
    ∷ Label (label.Code 0x1008) ∷ Ins (insn.Jcc cond_kind.A (syms.Code 0x102e))
    ∷ Label (label.Code 0x100a) ∷ Ins (insn.Lea Q Rdx (Rel (syms.Section 0 0)))
    ∷ Label (label.Code 0x1011) ∷ Ins (insn.MovSx L Q Rax (operand.Mem (At (Some Rdx) (Some (Rdi, 4)) (pos 0))))
    ∷ Label (label.Code 0x1015) ∷ Ins (insn.Alu Add Q (operand.Reg Rax) (operand.Reg Rdx))
    ∷ Label (label.Code 0x1018) ∷ Ins (insn.JmpTo (operand.Reg Rax) true)
    ∷ Label (label.Code 0x101b) ∷ Ins (insn.Mov L (operand.Reg Rdi) (operand.Imm (pos 10)))
    ∷ Label (label.Code 0x1020) ∷ Ins (insn.Jmp (syms.Code 0x102e))
    ∷ Label (label.Code 0x1022) ∷ Ins (insn.Mov L (operand.Reg Rdi) (operand.Imm (pos 11)))
    ∷ Label (label.Code 0x1027) ∷ Ins (insn.Jmp (syms.Code 0x102e))
    ∷ Label (label.Code 0x1029) ∷ Ins (insn.Mov L (operand.Reg Rdi) (operand.Imm (pos 12)))
    ∷ Label (label.Code 0x102e) ∷ Ins (insn.Mov L (operand.Reg Rax) (operand.Imm (pos 60)))
    ∷ Label (label.Code 0x1033) ∷ Ins insn.Syscall
    ∷ Label (label.Past 0x1000) ∷ Ins (insn.Plain Int3)
    ∷ SectionHead 0 false false ∷ Align 4 ∷ Label (label.Section 0)
    ∷ Label (label.Table 0x2000) ∷ LongDiff 0x101b 0x2000 ∷ LongDiff 0x1022 0x2000 ∷ LongDiff 0x1029 0x2000 ∷ Tail ∷ []

pub items-are : (k : ℕ) → items_of (jump_file_of k) ≡ jump_items k
unfolding items_with copy_items weak_items weakly_used main_items items_of_data symbol_named with_symbols reference_at target_at stub_at kept_around kept_ending pieces_of marks_in copy_around copies_of slots_of slot_at slot_of is_kept_at section_around target_of symbol_of entries entries_in entry_at tables_of jumps_of kept_sections placed_sections file_points points_of code_of_symbol kept_functions ranges function_symbols is_function is_hosted startup_functions main_start entry_of symbols_of of_kind link_of symbol_at section_at number first_from ordered window_of row_at row_of opcode_row value signed front_of head_of count_trailing_zeros tables.entry_at
items-are k = refl

-- the text uses no names, and the file imports none
names-are : (k : ℕ) → names_of (jump_file_of k) (jump_items k) ≡ []
unfolding symbols_of of_kind link_of symbol_at section_at number first_from
names-are k = refl

pub is-layout-of : (k : ℕ) → IsTextLayout (jump_file_of k) (items_of (jump_file_of k)) exit_start jump_layout
is-layout-of k = text-by-tests (jump_file_of k) (items_of (jump_file_of k)) (jump_items k) [] exit_start jump_layout (items-are k) (names-are k) refl

pub is-layout : IsTextLayout jump_file (items_of jump_file) exit_start jump_layout
is-layout = is-layout-of 1
