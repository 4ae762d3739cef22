-- A small file with a jump table: where it lies, and where its text does.
use Rattle.std.specs.Prelude.{ℕ, ◌+◌, ◌*◌, List, [], ◌∷◌, ◌++◌, codes, replicate, slice_index}
use Rattle.asm_items.specs.declared.item.Label as label_type
use Rattle.asm_items.specs.declared.item.Label.TheVariants as label
use Rattle.asm_items.specs.Layout.{Layout}
use Rattle.rw_code.specs.Ground.{Ground, ground_of}
use Rattle.rw_code.specs.Example.{half, word, xword, section_header}
use Rattle.rw_data.specs.Regions.{start_contents}
use Rattle.rw_out_examples.specs.DataExample.{data_section_names}

-- at 0x1000, with an index k, a byte: movl $k, %edi; cmpl $2, %edi; ja to the exit; leaq of the table, %rdx;
-- movslq (%rdx,%rdi,4), %rax; addq %rdx, %rax; notrack jmp *%rax; three times movl of a number, %edi, and the first two jump to the
-- exit; movl $60, %eax; syscall
abbrev pub jump_code : ℕ → List ℕ
jump_code k =
    0xbf ∷ k ∷ 0 ∷ 0 ∷ 0 ∷ 0x83 ∷ 0xff ∷ 2 ∷ 0x77 ∷ 0x24 ∷ 0x48 ∷ 0x8d ∷ 0x15 ∷ 0xef ∷ 0x0f ∷ 0 ∷ 0 ∷ 0x48 ∷ 0x63 ∷ 0x04 ∷ 0xba ∷ 0x48 ∷ 0x01 ∷ 0xd0 ∷ 0x3e ∷ 0xff ∷ 0xe0
    ∷ 0xbf ∷ 10 ∷ 0 ∷ 0 ∷ 0 ∷ 0xeb ∷ 0x0c ∷ 0xbf ∷ 11 ∷ 0 ∷ 0 ∷ 0 ∷ 0xeb ∷ 0x05 ∷ 0xbf ∷ 12 ∷ 0 ∷ 0 ∷ 0 ∷ 0xb8 ∷ 0x3c ∷ 0 ∷ 0 ∷ 0 ∷ 0x0f ∷ 0x05 ∷ []

-- the table, at 0x2000: the distances of 0x101b, 0x1022 and 0x1029 from it
abbrev pub jump_table : List ℕ
jump_table = 0x1b ∷ 0xf0 ∷ 0xff ∷ 0xff ∷ 0x22 ∷ 0xf0 ∷ 0xff ∷ 0xff ∷ 0x29 ∷ 0xf0 ∷ 0xff ∷ 0xff ∷ []

abbrev pub jump_header : List ℕ
jump_header =
    0x7f ∷ codes "ELF" ++ 2 ∷ 1 ∷ 1 ∷ replicate 9 0 ++ half 3 ++ half 62 ++ word 1 ++ xword 0x1000 ++ xword 0 ++ xword 0xf0
    ++ word 0 ++ half 64 ++ half 0 ++ half 0 ++ half 64 ++ half 6 ++ half 5

abbrev pub jump_symbols : List ℕ
jump_symbols = replicate 24 0 ++ word 1 ++ 0x12 ∷ 0 ∷ half 1 ++ xword 0x1000 ++ xword 53

abbrev pub jump_section_headers : List ℕ
jump_section_headers =
    replicate 64 0
    ++ section_header 1 1 6 0x1000 0x40 53 0 0 16 0
    ++ section_header 7 1 2 0x2000 0x78 12 0 0 16 0
    ++ section_header 15 2 0 0 0x88 48 4 0 8 24
    ++ section_header 23 3 0 0 0xb8 8 0 0 8 0
    ++ section_header 31 3 0 0 0xc0 41 0 0 8 0

-- The file with an index. The table has a word for 0, 1 and 2.
abbrev pub jump_file_of : ℕ → List ℕ
jump_file_of k =
    jump_header ++ jump_code k ++ replicate 3 0 ++ jump_table ++ replicate 4 0 ++ jump_symbols ++ 0 ∷ codes "_start" ++ 0 ∷ data_section_names ++ replicate 7 0 ++ jump_section_headers

abbrev pub jump_ground_of : ℕ → Ground
jump_ground_of k = ground_of (jump_file_of k) (start_contents (jump_file_of k))

-- with index 1
abbrev pub jump_file : List ℕ
jump_file = jump_file_of 1

abbrev pub jump_ground : Ground
jump_ground = jump_ground_of 1

-- ---- where its text lies: the function at 0x20000, with instructions that are as long as in the file, and int3 behind it

abbrev pub jump_offsets : List ℕ
jump_offsets =
    replicate 6 0 ++ 0 ∷ 0 ∷ 0 ∷ 5 ∷ 0 ∷ 8 ∷ 0 ∷ 0x0a ∷ 0 ∷ 0x11 ∷ 0 ∷ 0x15 ∷ 0 ∷ 0x18 ∷ 0 ∷ 0x1b ∷ 0 ∷ 0x20 ∷ 0 ∷ 0x22 ∷ 0 ∷ 0x27 ∷ 0 ∷ 0x29 ∷ 0 ∷ 0x2e ∷ 0 ∷ 0x33 ∷ 0 ∷ 0x35 ∷ []

abbrev pub jump_sizes : List ℕ
jump_sizes =
    replicate 6 0 ++ 0 ∷ 5 ∷ 0 ∷ 3 ∷ 0 ∷ 2 ∷ 0 ∷ 7 ∷ 0 ∷ 4 ∷ 0 ∷ 3 ∷ 0 ∷ 3 ∷ 0 ∷ 5 ∷ 0 ∷ 2 ∷ 0 ∷ 5 ∷ 0 ∷ 2 ∷ 0 ∷ 5 ∷ 0 ∷ 5 ∷ 0 ∷ 2 ∷ 0 ∷ 1 ∷ []

abbrev pub jump_label : label_type.Label → ℕ
jump_label (label.Code a) = 0x1f000 + a
jump_label (label.Past s) = 0x20035
jump_label (label.Section n) = 0x100000
jump_label (label.Table a) = 0x100000

abbrev pub jump_layout : Layout
jump_layout = record {
  insn = λ q. 0x20000 + slice_index jump_offsets q;
  size = λ q. slice_index jump_sizes q;
  label = jump_label;
  region = λ r. 0x100000 * (r + 1);
  name = λ name. 0;
  finish = 0x8000;
}
