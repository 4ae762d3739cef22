-- A small file with data: a slot that holds the address of the number behind it. A place for the file and one for its text.
use Rattle.std.specs.Prelude.{ℕ, zero, suc, ◌+◌, ◌*◌, List, [], ◌∷◌, ◌++◌, codes, replicate, slice_index}
use Rattle.asm_items.specs.declared.item.Label as label_type
use Rattle.asm_items.specs.declared.item.Label.TheVariants as label
use Rattle.asm_items.specs.Layout.{Layout}
use Rattle.rw_code.specs.Ground.{Ground, ground_of}
use Rattle.rw_code.specs.Placing.{Placing}
use Rattle.rw_code.specs.Example.{half, word, xword, section_header}
use Rattle.rw_data.specs.Regions.{start_contents}

-- movq 0x3000(%rip), %rax by its distance; movl (%rax), %edi; movl $60, %eax; syscall
abbrev pub slot_code : List ℕ
slot_code = 0x48 ∷ 0x8b ∷ 0x05 ∷ 0xf9 ∷ 0x1f ∷ 0 ∷ 0 ∷ 0x8b ∷ 0x38 ∷ 0xb8 ∷ 0x3c ∷ 0 ∷ 0 ∷ 0 ∷ 0x0f ∷ 0x05 ∷ []

-- eight bytes that the relocation fills, and 9
abbrev pub slot_bytes : List ℕ
slot_bytes = replicate 8 0 ++ 9 ∷ replicate 7 0

-- a shared object for x86-64 that is entered at 0x1000, with seven section headers at 0xe8, the last of which is that of the
-- section names
abbrev pub slot_header : List ℕ
slot_header =
    0x7f ∷ codes "ELF" ++ 2 ∷ 1 ∷ 1 ∷ replicate 9 0 ++ half 3 ++ half 62 ++ word 1 ++ xword 0x1000 ++ xword 0 ++ xword 0xe8
    ++ word 0 ++ half 64 ++ half 0 ++ half 0 ++ half 64 ++ half 7 ++ half 6

-- the null symbol and _start, a global function in section 1
abbrev pub slot_symbols : List ℕ
slot_symbols = replicate 24 0 ++ word 1 ++ 0x12 ∷ 0 ∷ half 1 ++ xword 0x1000 ++ xword 16

-- the slot at 0x3000 holds the address 0x3008 (psABI, "Relocation Types": R_X86_64_RELATIVE is 8)
abbrev pub slot_relocations : List ℕ
slot_relocations = xword 0x3000 ++ word 8 ++ word 0 ++ xword 0x3008

abbrev pub slot_section_names : List ℕ
slot_section_names =
    0 ∷ codes ".text" ++ 0 ∷ codes ".data" ++ 0 ∷ codes ".symtab" ++ 0 ∷ codes ".strtab" ++ 0 ∷ codes ".rela.dyn" ++ 0 ∷ codes ".shstrtab" ++ 0 ∷ []

abbrev pub slot_section_headers : List ℕ
slot_section_headers =
    replicate 64 0
    ++ section_header 1 1 6 0x1000 0x40 16 0 0 16 0
    ++ section_header 7 1 3 0x3000 0x50 16 0 0 8 0
    ++ section_header 13 2 0 0 0x60 48 4 0 8 24
    ++ section_header 21 3 0 0 0x90 8 0 0 8 0
    ++ section_header 29 4 2 0x2000 0x98 24 0 0 8 24
    ++ section_header 39 3 0 0 0xb0 49 0 0 8 0

abbrev pub slot_file : List ℕ
slot_file =
    slot_header ++ slot_code ++ slot_bytes ++ slot_symbols ++ 0 ∷ codes "_start" ++ 0 ∷ slot_relocations ++ slot_section_names
    ++ replicate 7 0 ++ slot_section_headers

-- what a start takes of it
abbrev pub slot_ground : Ground
slot_ground = ground_of slot_file (start_contents slot_file)

-- ---- where the file lies: its data, and the other regions a megabyte apart

abbrev pub slot_regions : ℕ → ℕ
slot_regions zero = 0x13000
slot_regions (suc r) = 0x100000 * (r + 1)

abbrev pub slot_placing : Placing
slot_placing = record { base = 0x10000; region = slot_regions; name = λ name. 0; finish = 0x8000 }

-- ---- where its text lies

-- The items are a comment, four directives, a name, and then by turns a label and an instruction: four of the function, and int3
-- behind it; then the data. The function lies at 0x20000, and its instructions are as long as in the file.
abbrev pub slot_offsets : List ℕ
slot_offsets = replicate 7 0 ++ 0 ∷ 0 ∷ 7 ∷ 0 ∷ 9 ∷ 0 ∷ 14 ∷ 0 ∷ 16 ∷ []

abbrev pub slot_sizes : List ℕ
slot_sizes = replicate 7 0 ++ 7 ∷ 0 ∷ 2 ∷ 0 ∷ 5 ∷ 0 ∷ 2 ∷ 0 ∷ 1 ∷ []

abbrev pub slot_label : label_type.Label → ℕ
slot_label (label.Code a) = 0x1f000 + a
slot_label (label.Past s) = 0x20010
slot_label (label.Section n) = 0x100000
slot_label (label.Table a) = 0

abbrev pub slot_layout : Layout
slot_layout = record {
  insn = λ q. 0x20000 + slice_index slot_offsets q;
  size = λ q. slice_index slot_sizes q;
  label = slot_label;
  region = λ r. 0x100000 * (r + 1);
  name = λ name. 0;
  finish = 0x8000;
}
