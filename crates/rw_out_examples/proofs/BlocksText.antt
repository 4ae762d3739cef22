-- The items of the file with probes at its blocks, and the layout of its text.
use Rattle.std.proofs.Common.{◌≡◌, ℕ, List, [], ◌∷◌, ◌++◌, Some, None, refl, ap, ◌∙◌}
use Rattle.std.specs.Prelude.{◌==◌, codes, pos, length, position, option_and_then}
use Rattle.asm_items.specs.declared.item.Item.TheVariants.{Label, Ins, Comment, TextHead, Align, CountsHead, Globl, Name, Zero, Tail}
use Rattle.asm_items.specs.declared.item.Label.TheVariants as label
use Rattle.asm_items.specs.declared.item.Sym.TheVariants as syms
use Rattle.asm_items.specs.Lines.{Items}
use Rattle.rw_base.specs.declared.width.Width.TheVariants.{L, Q}
use Rattle.rw_base.specs.Rules.{first_from}
use Rattle.rw_base.specs.Order.{ordered}
use Rattle.x86_insn.specs.declared.kinds.Plain.TheVariants.{Int3}
use Rattle.x86_insn.specs.declared.kinds.Reg.TheVariants.{Rax, Rdi}
use Rattle.x86_insn.specs.declared.kinds.AluOp.TheVariants.{Add, Xor}
use Rattle.x86_insn.specs.declared.kinds.OneOp.TheVariants.{Dec}
use Rattle.x86_insn.specs.declared.kinds.OneOp.TheVariants as one
use Rattle.x86_insn.specs.declared.kinds.Cond.TheVariants.{E}
use Rattle.x86_insn.specs.declared.operands.Mem.TheVariants.{At, Rel}
use Rattle.x86_insn.specs.declared.operands.Operand.TheVariants as operand
use Rattle.x86_insn.specs.declared.instruction.Insn.TheVariants as insn
use Rattle.x86_decode.specs.Fits.{row_of, opcode_row}
use Rattle.x86_decode.specs.Reading.{row_at, window_of}
use Rattle.x86_decode.specs.Value.{signed, value}
use Rattle.x86_bytes.specs.HeadReading.{front_of, head_of}
use Rattle.rw_elf.specs.Number.{number}
use Rattle.rw_elf.specs.Section.{section_at}
use Rattle.rw_elf.specs.Places.{kept_around, kept_ending, section_around}
use Rattle.rw_elf.specs.Sections.{placed_sections}
use Rattle.rw_elf.specs.Symbols.{of_kind, link_of, symbol_at, symbols_of}
use Rattle.rw_elf.specs.Tables.{kept_sections}
use Rattle.rw_reloc.specs.Entries.{entries, entries_in, entry_at}
use Rattle.rw_reloc.specs.Slots.{copies_of, copy_around, is_kept_at, slot_at, slot_of, slots_of}
use Rattle.rw_reloc.specs.Targets.{symbol_of, target_of}
use Rattle.rw_funcs.specs.Functions.{kept_functions, ranges, function_symbols, is_function, is_hosted, startup_functions, main_start, entry_of, code_of_symbol}
use Rattle.rw_funcs.specs.Points.{points_of, file_points}
use Rattle.rw_refs.specs.Stubs.{stub_at}
use Rattle.rw_refs.specs.References.{reference_at, target_at}
use Rattle.rw_tables.specs.Jumps.{jumps_of}
use Rattle.rw_tables.specs.Tables.{tables_of}
use Rattle.rw_tables.specs.Tables as tables
use Rattle.rw_probe.specs.declared.leaders.Mode.TheVariants.{Blocks}
use Rattle.rw_probe.specs.Leaders.{leaders_of}
use Rattle.rw_code.specs.Example.{exit_start}
use Rattle.rw_out.specs.Items.{Probes, copy_items, counters_name, data_items as items_of_data, entry_items, items_with, main_items, opening, symbol_named, weak_items, weakly_used, with_symbols}
use Rattle.rw_out.specs.Probed.{counted}
use Rattle.rw_out.specs.Simulates.{names_of, IsTextLayout}
use Rattle.rw_out_examples.specs.BlocksExample.{block_forms, block_items, block_layout, block_leaders, block_probes, blocks_file}
use Rattle.rw_out_examples.proofs.LaidText.{text-by-tests}

-- ---- the leaders

pub leaders-are : leaders_of blocks_file Blocks ≡ block_leaders
unfolding leaders_of reference_at target_at stub_at kept_around kept_ending copy_around copies_of slots_of slot_at slot_of is_kept_at section_around target_of symbol_of entries entries_in entry_at tables_of jumps_of kept_sections placed_sections file_points points_of code_of_symbol kept_functions ranges function_symbols is_function is_hosted startup_functions main_start entry_of symbols_of of_kind link_of symbol_at section_at number first_from ordered window_of row_at row_of opcode_row value signed front_of head_of tables.entry_at
leaders-are = refl

-- the probes of a list of leaders
abbrev pub probes_at : List ℕ → Probes
probes_at leaders = record { counters = length leaders; at = λ a. option_and_then (counted block_forms) (position (λ leader. leader == a) leaders) }

pub probes-are : block_probes ≡ probes_at block_leaders
probes-are = ap probes_at leaders-are

-- ---- the items

abbrev pub text_items : Items
text_items =
    opening (codes "_start") ++ entry_items (codes "_start")
    ++ Label (label.Code 0x1000) ∷ Ins (insn.One one.Inc Q (operand.Mem (Rel (syms.Counter 0)))) ∷ Ins (insn.Mov L (operand.Reg Rdi) (operand.Imm (pos 3)))
    ∷ Label (label.Code 0x1005) ∷ Ins (insn.Call (syms.Code 0x1020))
    ∷ Label (label.Code 0x100a)
    ∷ Ins (insn.Mov Q (operand.Reg Rdi) (operand.Mem (Rel (syms.Counter 1)))) ∷ Ins (insn.Lea Q Rdi (At (Some Rdi) None (pos 1))) ∷ Ins (insn.Mov Q (operand.Mem (Rel (syms.Counter 1))) (operand.Reg Rdi))
    ∷ Ins (insn.Mov L (operand.Reg Rdi) (operand.Reg Rax))
    ∷ Label (label.Code 0x100c) ∷ Ins (insn.Mov L (operand.Reg Rax) (operand.Imm (pos 60)))
    ∷ Label (label.Code 0x1011) ∷ Ins insn.Syscall
    ∷ Label (label.Past 0x1000) ∷ Ins (insn.Plain Int3)
    ∷ Comment (codes "f") ∷ TextHead ∷ Align 4
    ∷ Label (label.Code 0x1020) ∷ Ins (insn.One one.Inc Q (operand.Mem (Rel (syms.Counter 2)))) ∷ Ins (insn.Test L (operand.Reg Rdi) (operand.Reg Rdi))
    ∷ Label (label.Code 0x1022) ∷ Ins (insn.Jcc E (syms.Code 0x1030))
    ∷ Label (label.Code 0x1024) ∷ Ins (insn.One one.Inc Q (operand.Mem (Rel (syms.Counter 3)))) ∷ Ins (insn.Push (operand.Reg Rdi))
    ∷ Label (label.Code 0x1025) ∷ Ins (insn.One Dec L (operand.Reg Rdi))
    ∷ Label (label.Code 0x1027) ∷ Ins (insn.Call (syms.Code 0x1020))
    ∷ Label (label.Code 0x102c) ∷ Ins (insn.One one.Inc Q (operand.Mem (Rel (syms.Counter 4)))) ∷ Ins (insn.Pop (operand.Reg Rdi))
    ∷ Label (label.Code 0x102d) ∷ Ins (insn.Alu Add L (operand.Reg Rax) (operand.Reg Rdi))
    ∷ Label (label.Code 0x102f) ∷ Ins insn.Ret
    ∷ Label (label.Code 0x1030) ∷ Ins (insn.One one.Inc Q (operand.Mem (Rel (syms.Counter 5)))) ∷ Ins (insn.Alu Xor L (operand.Reg Rax) (operand.Reg Rax))
    ∷ Label (label.Code 0x1032) ∷ Ins insn.Ret
    ∷ Label (label.Past 0x1020) ∷ Ins (insn.Plain Int3)
    ∷ CountsHead ∷ Globl counters_name ∷ Align 3 ∷ Name counters_name ∷ Zero 48 ∷ Tail ∷ []

plain-items-are : items_with blocks_file (probes_at block_leaders) ≡ text_items
unfolding items_with copy_items weak_items weakly_used main_items items_of_data symbol_named with_symbols reference_at target_at stub_at kept_around kept_ending copy_around copies_of slots_of slot_at slot_of is_kept_at section_around target_of symbol_of entries entries_in entry_at tables_of jumps_of kept_sections placed_sections file_points points_of code_of_symbol kept_functions ranges function_symbols is_function is_hosted startup_functions main_start entry_of symbols_of of_kind link_of symbol_at section_at number first_from ordered window_of row_at row_of opcode_row value signed front_of head_of tables.entry_at
plain-items-are = refl

pub items-are : block_items ≡ text_items
items-are = ap (items_with blocks_file) probes-are ∙ plain-items-are

-- the text uses no names, and the file imports none
names-are : names_of blocks_file text_items ≡ []
unfolding symbols_of of_kind link_of symbol_at section_at number first_from
names-are = refl

pub is-layout : IsTextLayout blocks_file block_items exit_start block_layout
is-layout = text-by-tests blocks_file block_items text_items [] exit_start block_layout items-are names-are refl
