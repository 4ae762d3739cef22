-- A small file that a C library starts, and that calls an imported function through a stub: a place for the file and one for its
-- text, and the answer to its one call.
use Rattle.std.specs.Prelude.{◌≡◌, ℕ, zero, suc, ◌+◌, ◌*◌, List, [], ◌∷◌, ◌++◌, codes, map, replicate, slice_index, Some, None, if◌then◌else◌}
use Rattle.std.specs.Str.{bytes_eq}
use Rattle.rw_base.specs.declared.width.Width.TheVariants.{Q}
use Rattle.asm_items.specs.declared.item.Label as label_type
use Rattle.asm_items.specs.declared.item.Label.TheVariants as label
use Rattle.asm_items.specs.Layout.{Layout}
use Rattle.rw_words.specs.declared.atom.Cell.{Cell}
use Rattle.rw_words.specs.Words.{number_cells, undefined_cells}
use Rattle.rw_domain.specs.Placed.{Placed}
use Rattle.rw_domain.specs.Stands.{Both}
use Rattle.rw_machine.specs.declared.ending.End.TheVariants.{Returned}
use Rattle.rw_machine.specs.Program.{Program}
use Rattle.rw_machine.specs.Events.{Import, Reply}
use Rattle.rw_machine.specs.Step.{Machine}
use Rattle.rw_machine.specs.Stands.{CallStands}
use Rattle.rw_machine.specs.Domains.{numbers}
use Rattle.rw_runs.specs.Runs.{Run, first_run, made}
use Rattle.rw_code.specs.Ground.{Ground, ground_of}
use Rattle.rw_code.specs.Placing.{Placing}
use Rattle.rw_code.specs.Example.{half, word, xword, section_header}
use Rattle.rw_data.specs.Regions.{start_contents}

-- main: subq $8, %rsp; leaq 0x2000(%rip), %rdi by its distance; call 0x1100; xorl %eax, %eax; addq $8, %rsp; ret; then nine bytes
-- of int3, and a byte for _start
abbrev pub puts_code : List ℕ
puts_code =
    0x48 ∷ 0x83 ∷ 0xec ∷ 8 ∷ 0x48 ∷ 0x8d ∷ 0x3d ∷ 0xf5 ∷ 0x0f ∷ 0 ∷ 0 ∷ 0xe8 ∷ 0xf0 ∷ 0 ∷ 0 ∷ 0 ∷ 0x31 ∷ 0xc0 ∷ 0x48 ∷ 0x83 ∷ 0xc4 ∷ 8 ∷ 0xc3 ∷ []
    ++ replicate 9 0xcc ++ 6 ∷ []

-- endbr64; bnd jmp *0x3000(%rip) by its distance; nop
abbrev pub puts_stub : List ℕ
puts_stub = 0xf3 ∷ 0x0f ∷ 0x1e ∷ 0xfa ∷ 0xf2 ∷ 0xff ∷ 0x25 ∷ 0xf5 ∷ 0x1e ∷ 0 ∷ 0 ∷ 0x0f ∷ 0x1f ∷ 0x44 ∷ 0 ∷ 0 ∷ []

-- a shared object for x86-64 whose e_entry is 0x1020, with eleven section headers at 0x1b0, the last of which is that of the
-- section names
abbrev pub puts_header : List ℕ
puts_header =
    0x7f ∷ codes "ELF" ++ 2 ∷ 1 ∷ 1 ∷ replicate 9 0 ++ half 3 ++ half 62 ++ word 1 ++ xword 0x1020 ++ xword 0 ++ xword 0x1b0
    ++ word 0 ++ half 64 ++ half 0 ++ half 0 ++ half 64 ++ half 11 ++ half 10

-- the null symbol, main and _start, global functions in section 1
abbrev pub puts_symbols : List ℕ
puts_symbols =
    replicate 24 0 ++ word 1 ++ 0x12 ∷ 0 ∷ half 1 ++ xword 0x1000 ++ xword 23 ++ word 6 ++ 0x12 ∷ 0 ∷ half 1 ++ xword 0x1020 ++ xword 1

-- the null symbol, puts and __libc_start_main, undefined functions
abbrev pub puts_dynamic : List ℕ
puts_dynamic = replicate 24 0 ++ word 1 ++ 0x12 ∷ 0 ∷ half 0 ++ xword 0 ++ xword 0 ++ word 6 ++ 0x12 ∷ 0 ∷ half 0 ++ xword 0 ++ xword 0

-- the slot at 0x3000 holds the address of symbol 1 (psABI, "Relocation Types": R_X86_64_JUMP_SLOT is 7)
abbrev pub puts_relocations : List ℕ
puts_relocations = xword 0x3000 ++ word 7 ++ word 1 ++ xword 0

abbrev pub puts_section_names : List ℕ
puts_section_names =
    0 ∷ codes ".text" ++ 0 ∷ codes ".plt.sec" ++ 0 ∷ codes ".rodata" ++ 0 ∷ codes ".got" ++ 0 ∷ codes ".symtab" ++ 0 ∷ codes ".strtab"
    ++ 0 ∷ codes ".dynsym" ++ 0 ∷ codes ".dynstr" ++ 0 ∷ codes ".rela.plt" ++ 0 ∷ codes ".shstrtab" ++ 0 ∷ []

abbrev pub puts_section_headers : List ℕ
puts_section_headers =
    replicate 64 0
    ++ section_header 1 1 6 0x1000 0x40 33 0 0 16 0
    ++ section_header 7 1 6 0x1100 0x68 16 0 0 16 0
    ++ section_header 16 1 2 0x2000 0x78 3 0 0 16 0
    ++ section_header 24 1 3 0x3000 0x80 8 0 0 16 0
    ++ section_header 29 2 0 0 0x88 72 6 0 8 24
    ++ section_header 37 3 0 0 0xd0 13 0 0 8 0
    ++ section_header 45 11 0 0 0xe0 72 8 0 8 24
    ++ section_header 53 3 0 0 0x128 24 0 0 8 0
    ++ section_header 61 4 2 0x4000 0x140 24 7 0 8 24
    ++ section_header 71 3 0 0 0x158 81 0 0 8 0

-- the text, the stub, "hi" and the slot come first
abbrev pub puts_file : List ℕ
puts_file =
    puts_header ++ puts_code ++ replicate 7 0 ++ puts_stub ++ codes "hi" ++ replicate 6 0 ++ replicate 8 0 ++ puts_symbols
    ++ 0 ∷ codes "main" ++ 0 ∷ codes "_start" ++ replicate 4 0 ++ puts_dynamic ++ 0 ∷ codes "puts" ++ 0 ∷ codes "__libc_start_main" ++ 0 ∷ puts_relocations
    ++ puts_section_names ++ replicate 7 0 ++ puts_section_headers

-- what a start takes of it
abbrev pub puts_ground : Ground
puts_ground = ground_of puts_file (start_contents puts_file)

-- ---- where the file lies: its data, the other regions a megabyte apart, and the two imported functions

abbrev pub puts_regions : ℕ → ℕ
puts_regions zero = 0x12000
puts_regions (suc zero) = 0x13000
puts_regions (suc (suc r)) = 0x100000 * (r + 1)

abbrev pub puts_address : ℕ → List ℕ → ℕ
puts_address base name = if bytes_eq name (codes "puts") then base else base + 16

abbrev pub puts_placing : Placing
puts_placing = record { base = 0x10000; region = puts_regions; name = puts_address 0x9000; finish = 0x8000 }

-- ---- where its text lies

-- The items are a comment, four directives, a name, and then by turns a label and an instruction: six of the function, and int3
-- behind it; then the data. The function lies at 0x20000, and its instructions are as long as in the file.
abbrev pub puts_offsets : List ℕ
puts_offsets = replicate 7 0 ++ 0 ∷ 0 ∷ 4 ∷ 0 ∷ 11 ∷ 0 ∷ 16 ∷ 0 ∷ 18 ∷ 0 ∷ 22 ∷ 0 ∷ 23 ∷ []

abbrev pub puts_sizes : List ℕ
puts_sizes = replicate 7 0 ++ 4 ∷ 0 ∷ 7 ∷ 0 ∷ 5 ∷ 0 ∷ 2 ∷ 0 ∷ 4 ∷ 0 ∷ 1 ∷ 0 ∷ 1 ∷ []

abbrev pub puts_label : label_type.Label → ℕ
puts_label (label.Code a) = 0x1f000 + a
puts_label (label.Past s) = 0x20017
puts_label (label.Section n) = 0x100000 * (n + 1)
puts_label (label.Table a) = 0

abbrev pub puts_layout : Layout
puts_layout = record {
  insn = λ q. 0x20000 + slice_index puts_offsets q;
  size = λ q. slice_index puts_sizes q;
  label = puts_label;
  region = λ r. 0x100000 * (r + 1);
  name = puts_address 0x60000;
  finish = 0x8000;
}

-- ---- the answer: 10, over words and over numbers

abbrev pub puts_answers : List (Reply (List Cell) Cell)
puts_answers = record { result = number_cells Q 10; scratch = replicate 8 (undefined_cells Q); writes = []; fresh = None; ending = None } ∷ []

abbrev pub puts_replies : List (Reply ℕ ℕ)
puts_replies = record { result = 10; scratch = replicate 8 0; writes = []; fresh = None; ending = None } ∷ []

-- ---- what its programs do

-- Six steps, in which the imported function is called once, with this address as its first word, and the end: 0 is returned.
abbrev pub CallsPuts : {R P : Type 0} → (ℕ → ℕ → Type 0) → ℕ → Program P R ℕ → Machine Placed ℕ ℕ P → Type 0
CallsPuts {R} {P} Named address prog machine =
    (run : Run Placed ℕ ℕ P) × (made numbers prog 6 (first_run machine puts_replies) ≡ Some run)
    × Both (CallStands Named) (Import 1 ∷ []) (map (λ event. event.call) run.events) × (map (λ event. slice_index event.words 0) run.events ≡ address ∷ [])
    × (run.ending ≡ Some (Returned 0))
