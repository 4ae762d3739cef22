-- A small file that a C library starts, into which a symbol is copied, and which calls two imported functions through stubs: a place
-- for the file and one for its text, and the answers to its calls.
use Rattle.std.specs.Prelude.{◌≡◌, ℕ, zero, suc, ◌+◌, ◌*◌, List, [], ◌∷◌, ◌++◌, codes, map, replicate, slice_get, slice_index, Some, None, if◌then◌else◌}
use Rattle.std.specs.Str.{bytes_eq}
use Rattle.rw_base.specs.declared.width.Width.TheVariants.{Q}
use Rattle.asm_items.specs.declared.item.Label as label_type
use Rattle.asm_items.specs.declared.item.Label.TheVariants as label
use Rattle.asm_items.specs.Layout.{Layout}
use Rattle.rw_words.specs.declared.atom.Cell.{Cell}
use Rattle.rw_words.specs.Words.{number_cells, undefined_cells}
use Rattle.rw_domain.specs.Placed.{Placed}
use Rattle.rw_domain.specs.Stands.{Both}
use Rattle.rw_machine.specs.declared.ending.End.TheVariants.{Returned}
use Rattle.rw_machine.specs.Program.{Program}
use Rattle.rw_machine.specs.Events.{Import, Reply}
use Rattle.rw_machine.specs.Step.{Machine}
use Rattle.rw_machine.specs.Stands.{CallStands}
use Rattle.rw_machine.specs.Domains.{numbers}
use Rattle.rw_runs.specs.Runs.{Run, first_run, made}
use Rattle.rw_code.specs.Ground.{Ground, ground_of}
use Rattle.rw_code.specs.Placing.{Placing}
use Rattle.rw_code.specs.Example.{half, word, xword, section_header}
use Rattle.rw_data.specs.Regions.{start_contents}

-- main: subq $8, %rsp; leaq 0x4000(%rip), %rdi by its distance; call 0x1100; call 0x1110; xorl %eax, %eax; addq $8, %rsp; ret; then
-- four bytes of int3, and a byte for _start
abbrev pub hosted_code : List ℕ
hosted_code =
    0x48 ∷ 0x83 ∷ 0xec ∷ 8 ∷ 0x48 ∷ 0x8d ∷ 0x3d ∷ 0xf5 ∷ 0x2f ∷ 0 ∷ 0 ∷ 0xe8 ∷ 0xf0 ∷ 0 ∷ 0 ∷ 0 ∷ 0xe8 ∷ 0xfb ∷ 0 ∷ 0 ∷ 0 ∷ 0x31 ∷ 0xc0
    ∷ 0x48 ∷ 0x83 ∷ 0xc4 ∷ 8 ∷ 0xc3 ∷ [] ++ replicate 4 0xcc ++ 6 ∷ []

-- endbr64; bnd jmp *0x3000(%rip) by its distance; nop; and the same for 0x3008
abbrev pub hosted_stubs : List ℕ
hosted_stubs =
    0xf3 ∷ 0x0f ∷ 0x1e ∷ 0xfa ∷ 0xf2 ∷ 0xff ∷ 0x25 ∷ 0xf5 ∷ 0x1e ∷ 0 ∷ 0 ∷ 0x0f ∷ 0x1f ∷ 0x44 ∷ 0 ∷ 0
    ∷ 0xf3 ∷ 0x0f ∷ 0x1e ∷ 0xfa ∷ 0xf2 ∷ 0xff ∷ 0x25 ∷ 0xed ∷ 0x1e ∷ 0 ∷ 0 ∷ 0x0f ∷ 0x1f ∷ 0x44 ∷ 0 ∷ 0 ∷ []

-- a shared object for x86-64 whose e_entry is 0x1020, with eleven section headers at 0x228, the last of which is that of the
-- section names
abbrev pub hosted_header : List ℕ
hosted_header =
    0x7f ∷ codes "ELF" ++ 2 ∷ 1 ∷ 1 ∷ replicate 9 0 ++ half 3 ++ half 62 ++ word 1 ++ xword 0x1020 ++ xword 0 ++ xword 0x228
    ++ word 0 ++ half 64 ++ half 0 ++ half 0 ++ half 64 ++ half 11 ++ half 10

-- the null symbol, main and _start, global functions in section 1
abbrev pub hosted_symbols : List ℕ
hosted_symbols =
    replicate 24 0 ++ word 1 ++ 0x12 ∷ 0 ∷ half 1 ++ xword 0x1000 ++ xword 28 ++ word 6 ++ 0x12 ∷ 0 ∷ half 1 ++ xword 0x1020 ++ xword 1

-- the null symbol; puts, putchar and __libc_start_main, undefined functions; and stdout, an object of 8 bytes in section 4
abbrev pub hosted_dynamic : List ℕ
hosted_dynamic =
    replicate 24 0 ++ word 1 ++ 0x12 ∷ 0 ∷ half 0 ++ xword 0 ++ xword 0 ++ word 6 ++ 0x12 ∷ 0 ∷ half 0 ++ xword 0 ++ xword 0
    ++ word 14 ++ 0x12 ∷ 0 ∷ half 0 ++ xword 0 ++ xword 0 ++ word 32 ++ 0x11 ∷ 0 ∷ half 4 ++ xword 0x4000 ++ xword 8

-- the slots at 0x3000 and 0x3008 hold the addresses of symbols 1 and 2, and symbol 4 is copied to 0x4000 (psABI, "Relocation
-- Types": R_X86_64_JUMP_SLOT is 7, and R_X86_64_COPY is 5)
abbrev pub hosted_relocations : List ℕ
hosted_relocations =
    xword 0x3000 ++ word 7 ++ word 1 ++ xword 0 ++ xword 0x3008 ++ word 7 ++ word 2 ++ xword 0 ++ xword 0x4000 ++ word 5 ++ word 4 ++ xword 0

abbrev pub hosted_section_names : List ℕ
hosted_section_names =
    0 ∷ codes ".text" ++ 0 ∷ codes ".plt.sec" ++ 0 ∷ codes ".got" ++ 0 ∷ codes ".bss" ++ 0 ∷ codes ".symtab" ++ 0 ∷ codes ".strtab"
    ++ 0 ∷ codes ".dynsym" ++ 0 ∷ codes ".dynstr" ++ 0 ∷ codes ".rela.dyn" ++ 0 ∷ codes ".shstrtab" ++ 0 ∷ []

abbrev pub hosted_section_headers : List ℕ
hosted_section_headers =
    replicate 64 0
    ++ section_header 1 1 6 0x1000 0x40 33 0 0 16 0
    ++ section_header 7 1 6 0x1100 0x68 32 0 0 16 0
    ++ section_header 16 1 3 0x3000 0x88 16 0 0 16 0
    ++ section_header 21 8 3 0x4000 0x98 16 0 0 16 0
    ++ section_header 26 2 0 0 0x98 72 6 0 8 24
    ++ section_header 34 3 0 0 0xe0 13 0 0 8 0
    ++ section_header 42 11 0 0 0xf0 120 8 0 8 24
    ++ section_header 50 3 0 0 0x168 39 0 0 8 0
    ++ section_header 58 4 2 0x5000 0x190 72 7 0 8 24
    ++ section_header 68 3 0 0 0x1d8 78 0 0 8 0

-- the text, the stubs and the slots come first
abbrev pub hosted_file : List ℕ
hosted_file =
    hosted_header ++ hosted_code ++ replicate 7 0 ++ hosted_stubs ++ replicate 16 0 ++ hosted_symbols
    ++ 0 ∷ codes "main" ++ 0 ∷ codes "_start" ++ replicate 4 0 ++ hosted_dynamic
    ++ 0 ∷ codes "puts" ++ 0 ∷ codes "putchar" ++ 0 ∷ codes "__libc_start_main" ++ 0 ∷ codes "stdout" ++ replicate 2 0 ++ hosted_relocations
    ++ hosted_section_names ++ replicate 2 0 ++ hosted_section_headers

-- what a start takes of it
abbrev pub hosted_ground : Ground
hosted_ground = ground_of hosted_file (start_contents hosted_file)

-- ---- where the file lies: its data, with the copy in the first eight bytes of .bss, the other regions a megabyte apart, and the
-- imported functions

abbrev pub hosted_regions : ℕ → ℕ
hosted_regions zero = 0x13000
hosted_regions (suc zero) = 0x14000
hosted_regions (suc (suc zero)) = 0x14000
hosted_regions (suc (suc (suc r))) = 0x100000 * (r + 1)

-- the copy, and the functions from an address on
abbrev pub hosted_address : ℕ → ℕ → List ℕ → ℕ
hosted_address copy base name =
    if bytes_eq name (codes "stdout") then copy else if bytes_eq name (codes "puts") then base
    else if bytes_eq name (codes "putchar") then base + 16 else base + 32

abbrev pub hosted_placing : Placing
hosted_placing = record { base = 0x10000; region = hosted_regions; name = hosted_address 0x14000 0x9000; finish = 0x8000 }

-- ---- where its text lies

-- The items are a copy, a comment, four directives, a name, and then by turns a label and an instruction: seven of the function, and
-- int3 behind it; then the data. The function lies at 0x20000, and its instructions are as long as in the file. The copy is the third
-- region.
abbrev pub hosted_offsets : List ℕ
hosted_offsets = replicate 8 0 ++ 0 ∷ 0 ∷ 4 ∷ 0 ∷ 11 ∷ 0 ∷ 16 ∷ 0 ∷ 21 ∷ 0 ∷ 23 ∷ 0 ∷ 27 ∷ 0 ∷ 28 ∷ []

abbrev pub hosted_sizes : List ℕ
hosted_sizes = replicate 8 0 ++ 4 ∷ 0 ∷ 7 ∷ 0 ∷ 5 ∷ 0 ∷ 5 ∷ 0 ∷ 2 ∷ 0 ∷ 4 ∷ 0 ∷ 1 ∷ 0 ∷ 1 ∷ []

abbrev pub hosted_label : label_type.Label → ℕ
hosted_label (label.Code a) = 0x1f000 + a
hosted_label (label.Past s) = 0x2001c
hosted_label (label.Section n) = 0x100000 * (n + 1)
hosted_label (label.Table a) = 0

abbrev pub hosted_layout : Layout
hosted_layout = record {
  insn = λ q. 0x20000 + slice_index hosted_offsets q;
  size = λ q. slice_index hosted_sizes q;
  label = hosted_label;
  region = λ r. 0x100000 * (r + 1);
  name = hosted_address 0x300000 0x60000;
  finish = 0x8000;
}

-- ---- the answers: 10 to each call, over words and over numbers

abbrev pub hosted_answer : Reply (List Cell) Cell
hosted_answer = record { result = number_cells Q 10; scratch = replicate 8 (undefined_cells Q); writes = []; fresh = None; ending = None }

abbrev pub hosted_reply : Reply ℕ ℕ
hosted_reply = record { result = 10; scratch = replicate 8 0; writes = []; fresh = None; ending = None }

abbrev pub hosted_answers : List (Reply (List Cell) Cell)
hosted_answers = hosted_answer ∷ hosted_answer ∷ []

abbrev pub hosted_replies : List (Reply ℕ ℕ)
hosted_replies = hosted_reply ∷ hosted_reply ∷ []

-- ---- what its programs do

-- Seven steps, in which the two imported functions are called, the first with this address as its first word, and the end: 0 is
-- returned.
abbrev pub CallsBoth : {R P : Type 0} → (ℕ → ℕ → Type 0) → ℕ → Program P R ℕ → Machine Placed ℕ ℕ P → Type 0
CallsBoth {R} {P} Named address prog machine =
    (run : Run Placed ℕ ℕ P) × (made numbers prog 7 (first_run machine hosted_replies) ≡ Some run)
    × Both (CallStands Named) (Import 1 ∷ Import 2 ∷ []) (map (λ event. event.call) run.events)
    × (slice_get (map (λ event. slice_index event.words 0) run.events) 0 ≡ Some address) × (run.ending ≡ Some (Returned 0))
