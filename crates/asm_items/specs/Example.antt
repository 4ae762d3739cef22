-- A small text with data, a copied symbol, a called one, a jump table and a counter, and a place for it.
use Rattle.std.specs.Prelude.{ℕ, ◌+◌, List, [], ◌∷◌, ◌++◌, codes, replicate, slice_index, false, true, if◌then◌else◌, ◌==◌}
use Rattle.std.specs.Str.{bytes_eq}
use Rattle.rw_base.specs.declared.width.Width.TheVariants.{Q}
use Rattle.x86_insn.specs.declared.kinds.OneOp.TheVariants.{Inc}
use Rattle.x86_insn.specs.declared.kinds.Plain.TheVariants.{Int3}
use Rattle.x86_insn.specs.declared.kinds.Reg.TheVariants.{Rax}
use Rattle.x86_insn.specs.declared.operands.Mem.TheVariants.{Rel}
use Rattle.x86_insn.specs.declared.operands.Operand.TheVariants as operand
use Rattle.x86_insn.specs.declared.instruction.Insn.TheVariants as insn
use Rattle.asm_items.specs.declared.item.Sym.TheVariants as syms
use Rattle.asm_items.specs.declared.item.Label as label_type
use Rattle.asm_items.specs.declared.item.Label.TheVariants as label
use Rattle.asm_items.specs.declared.item.Item.TheVariants.{Copy, Comment, TextHead, Align, Globl, FuncKind, Name, Label, Ins, SectionHead, Bytes, Quad, LongDiff, Zero, CountsHead, Tail}
use Rattle.asm_items.specs.Lines.{Items}
use Rattle.asm_items.specs.Layout.{Extent, Layout}

abbrev pub start_name : List ℕ
start_name = codes "_start"

abbrev pub counts_name : List ℕ
counts_name = codes "__retro_counts"

-- a copied symbol and a called one
abbrev pub copied_name : List ℕ
copied_name = codes "stdout"

abbrev pub called_name : List ℕ
called_name = codes "puts"

-- incq __retro_counts(%rip); leaq .Ls0+2(%rip), %rax; call puts; ret; and int3 past the function
abbrev pub function_lines : Items
function_lines =
    Comment start_name ∷ TextHead ∷ Align 4 ∷ Globl start_name ∷ FuncKind start_name ∷ Name start_name
    ∷ Label (label.Code 0x1000) ∷ Ins (insn.One Inc Q (operand.Mem (Rel (syms.Counter 0)))) ∷ Ins (insn.Lea Q Rax (Rel (syms.Section 0 2)))
    ∷ Label (label.Code 0x1007) ∷ Ins (insn.Call (syms.Named called_name 0))
    ∷ Label (label.Code 0x100c) ∷ Ins insn.Ret
    ∷ Label (label.Past 0x1000) ∷ Ins (insn.Plain Int3) ∷ []

-- two bytes, the address of the copied symbol, and a table of one word
abbrev pub data_lines : Items
data_lines =
    Align 3 ∷ Label (label.Section 0) ∷ Bytes (record { items = 7 ∷ 9 ∷ [] }) ∷ Quad (syms.Named copied_name 4)
    ∷ Label (label.Table 0x200a) ∷ LongDiff 0x1007 0x200a ∷ []

-- a section without bytes in the file
abbrev pub zero_lines : Items
zero_lines = Align 5 ∷ Label (label.Section 1) ∷ Zero 16 ∷ []

abbrev pub count_lines : Items
count_lines = Globl counts_name ∷ Align 3 ∷ Name counts_name ∷ Zero 8 ∷ []

abbrev pub example_items : Items
example_items =
    Copy copied_name 8 ∷ (function_lines ++ SectionHead 0 false false ∷ (data_lines ++ SectionHead 1 true true ∷ (zero_lines ++ CountsHead ∷ (count_lines ++ Tail ∷ []))))

-- ---- a place for it

-- the sections, the copy, the counter, and a stack
abbrev pub example_regions : List Extent
example_regions =
    record { size = 14; align = 8 } ∷ record { size = 16; align = 32 } ∷ record { size = 8; align = 16 } ∷ record { size = 8; align = 8 }
    ∷ record { size = 65536; align = 4096 } ∷ []

abbrev pub example_names : List (List ℕ)
example_names = called_name ∷ copied_name ∷ []

-- the function lies at 0x20000, and its instructions are 7, 7, 5, 1 and 1 bytes long
abbrev pub example_offsets : List ℕ
example_offsets = replicate 8 0 ++ 0 ∷ 7 ∷ 0 ∷ 14 ∷ 0 ∷ 19 ∷ 0 ∷ 20 ∷ []

abbrev pub example_sizes : List ℕ
example_sizes = replicate 8 0 ++ 7 ∷ 7 ∷ 0 ∷ 5 ∷ 0 ∷ 1 ∷ 0 ∷ 1 ∷ []

abbrev pub example_bases : List ℕ
example_bases = 0x30000 ∷ 0x30020 ∷ 0x30010 ∷ 0x30040 ∷ 0x40000 ∷ []

abbrev pub example_label : label_type.Label → ℕ
example_label (label.Code a) = if a == 0x1000 then 0x20000 else if a == 0x1007 then 0x2000e else 0x20013
example_label (label.Past a) = 0x20014
example_label (label.Section n) = slice_index example_bases n
example_label (label.Table a) = 0x3000a

-- the copied symbol has the address of its copy
abbrev pub example_name : List ℕ → ℕ
example_name name = if bytes_eq name copied_name then 0x30010 else 0x60000

abbrev pub example_layout : Layout
example_layout = record {
  insn = λ q. 0x20000 + slice_index example_offsets q;
  size = λ q. slice_index example_sizes q;
  label = example_label;
  region = λ r. slice_index example_bases r;
  name = example_name;
  finish = 0x8000;
}
