-- The place for the file with data is a placing, that for its text is a layout, and its contents are the bytes of the file.
use Rattle.std.proofs.Common.{◌≡◌, [], ◌∷◌, ◌++◌, map, Some, None, false, refl}
use Rattle.std.specs.Prelude.{codes}
use Rattle.asm_items.specs.declared.item.Item.TheVariants.{Label, Ins, SectionHead, Align, Bytes, Tail}
use Rattle.asm_items.specs.declared.item.Label.TheVariants as label
use Rattle.asm_items.specs.declared.item.Sym.TheVariants as syms
use Rattle.asm_items.specs.Lines.{Items}
use Rattle.rw_base.specs.declared.width.Width.TheVariants.{L, Q}
use Rattle.std.specs.Prelude.{pos}
use Rattle.x86_insn.specs.declared.kinds.Plain.TheVariants.{Int3}
use Rattle.x86_insn.specs.declared.kinds.Reg.TheVariants.{Rax, Rdi}
use Rattle.x86_insn.specs.declared.operands.Mem.TheVariants.{At, Rel}
use Rattle.x86_insn.specs.declared.operands.Operand.TheVariants as operand
use Rattle.x86_insn.specs.declared.instruction.Insn.TheVariants as insn
use Rattle.rw_words.specs.declared.atom.Cell.TheVariants.{Num}
use Rattle.rw_elf.specs.Tables.{kept_sections}
use Rattle.rw_reloc.specs.Slots.{copies_of}
use Rattle.rw_code.specs.Placing.{IsPlacing}
use Rattle.rw_code.specs.Example.{exit_start}
use Rattle.rw_code.proofs.PlacedByTests.{placed-by-tests}
use Rattle.rw_base.specs.Rules.{first_from}
use Rattle.rw_base.specs.Order.{ordered}
use Rattle.x86_decode.specs.Fits.{row_of, opcode_row}
use Rattle.x86_decode.specs.Reading.{row_at, window_of}
use Rattle.x86_decode.specs.Value.{signed, value}
use Rattle.x86_bytes.specs.HeadReading.{front_of, head_of}
use Rattle.rw_elf.specs.Number.{number}
use Rattle.rw_elf.specs.Section.{section_at}
use Rattle.rw_elf.specs.Places.{section_around}
use Rattle.rw_elf.specs.Sections.{placed_sections}
use Rattle.rw_elf.specs.Symbols.{of_kind, link_of, symbol_at, symbols_of}
use Rattle.rw_reloc.specs.Entries.{entries, entries_in, entry_at}
use Rattle.rw_reloc.specs.Slots.{copy_around, is_kept_at, slot_around, slot_of, slots_of}
use Rattle.rw_reloc.specs.Targets.{symbol_of, target_of}
use Rattle.rw_funcs.specs.Functions.{kept_functions, ranges, function_symbols, is_function, is_hosted, startup_functions, code_of_symbol}
use Rattle.rw_funcs.specs.Points.{points_of}
use Rattle.rw_tables.specs.Jumps.{jumps_of}
use Rattle.rw_tables.specs.Tables.{tables_of}
use Rattle.rw_data.specs.FirstCells.{cell_at, table_around}
use Rattle.rw_data.specs.Regions.{start_cells, start_contents}
use Rattle.rw_out.specs.Items.{opening, entry_items}
use Rattle.rw_out_examples.specs.DataExample.{data_bytes, data_file, data_ground, data_placing}
use Rattle.rw_out_examples.proofs.DataFile.{data_tables}

-- ---- where it lies

pub is-placing : IsPlacing data_file data_ground exit_start data_placing
is-placing = placed-by-tests data_file data_tables (start_contents data_file) exit_start data_placing refl

-- ---- its contents

pub contents-are : start_contents data_file ≡ map Num data_bytes ∷ []
unfolding start_cells cell_at table_around slot_around copy_around copies_of slots_of slot_of is_kept_at section_around target_of symbol_of entries entries_in entry_at tables_of jumps_of kept_sections placed_sections points_of code_of_symbol kept_functions ranges function_symbols is_function is_hosted startup_functions symbols_of of_kind link_of symbol_at section_at number first_from ordered window_of row_at row_of opcode_row value signed front_of head_of
contents-are = refl

-- ---- the items

abbrev pub data_items : Items
data_items =
    opening (codes "_start") ++ entry_items (codes "_start")
    ++ Label (label.Code 0x1139) ∷ Ins (insn.Lea Q Rax (Rel (syms.Section 0 4)))
    ∷ Label (label.Code 0x1140) ∷ Ins (insn.Mov L (operand.Reg Rdi) (operand.Mem (At (Some Rax) None (pos 0))))
    ∷ Label (label.Code 0x1142) ∷ Ins (insn.Mov L (operand.Reg Rax) (operand.Imm (pos 60)))
    ∷ Label (label.Code 0x1147) ∷ Ins insn.Syscall
    ∷ Label (label.Past 0x1139) ∷ Ins (insn.Plain Int3)
    ∷ SectionHead 0 false false ∷ Align 4 ∷ Label (label.Section 0) ∷ Bytes (record { items = data_bytes }) ∷ Tail ∷ []
