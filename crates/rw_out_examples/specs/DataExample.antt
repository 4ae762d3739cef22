-- A small file with data: what a start needs of it, where it lies, and where its text does.
use Rattle.std.specs.Prelude.{◌≡◌, ℕ, zero, suc, ◌+◌, ◌*◌, List, [], ◌∷◌, ◌++◌, codes, map, replicate, slice_index, Some, None, if◌then◌else◌, ◌==◌}
use Rattle.rw_base.specs.declared.width.Width.TheVariants.{Q}
use Rattle.asm_items.specs.declared.item.Label as label_type
use Rattle.asm_items.specs.declared.item.Label.TheVariants as label
use Rattle.asm_items.specs.Layout.{Layout}
use Rattle.rw_words.specs.declared.atom.Cell.{Cell}
use Rattle.rw_words.specs.Words.{number_cells, undefined_cells}
use Rattle.rw_domain.specs.Placed.{Placed}
use Rattle.rw_machine.specs.declared.ending.End.TheVariants.{Exited}
use Rattle.rw_machine.specs.Program.{Program}
use Rattle.rw_machine.specs.Events.{Call, System, Reply}
use Rattle.rw_machine.specs.Step.{Machine}
use Rattle.rw_machine.specs.Domains.{numbers}
use Rattle.rw_runs.specs.Runs.{Run, first_run, made}
use Rattle.rw_code.specs.Ground.{Ground, ground_of}
use Rattle.rw_code.specs.Placing.{Placing}
use Rattle.rw_code.specs.Example.{half, word, xword, section_header}
use Rattle.rw_data.specs.Regions.{start_contents}

-- at 0x1139: leaq 0xec4(%rip), %rax; movl (%rax), %edi; movl $60, %eax; syscall
abbrev pub data_code : List ℕ
data_code = 0x48 ∷ 0x8d ∷ 0x05 ∷ 0xc4 ∷ 0x0e ∷ 0 ∷ 0 ∷ 0x8b ∷ 0x38 ∷ 0xb8 ∷ 0x3c ∷ 0 ∷ 0 ∷ 0 ∷ 0x0f ∷ 0x05 ∷ []

-- the data, at 0x2000: the instruction at 0x1139 names its fifth byte
abbrev pub data_bytes : List ℕ
data_bytes = 1 ∷ 2 ∷ 3 ∷ 4 ∷ 7 ∷ 0 ∷ 0 ∷ 0 ∷ []

-- a shared object for x86-64 that is entered at 0x1139, with six section headers at 0xc0, the last of which is that of the
-- section names
abbrev pub data_header : List ℕ
data_header =
    0x7f ∷ codes "ELF" ++ 2 ∷ 1 ∷ 1 ∷ replicate 9 0 ++ half 3 ++ half 62 ++ word 1 ++ xword 0x1139 ++ xword 0 ++ xword 0xc0
    ++ word 0 ++ half 64 ++ half 0 ++ half 0 ++ half 64 ++ half 6 ++ half 5

-- the null symbol and _start, a global function in section 1
abbrev pub data_symbols : List ℕ
data_symbols = replicate 24 0 ++ word 1 ++ 0x12 ∷ 0 ∷ half 1 ++ xword 0x1139 ++ xword 16

abbrev pub data_section_names : List ℕ
data_section_names = 0 ∷ codes ".text" ++ 0 ∷ codes ".rodata" ++ 0 ∷ codes ".symtab" ++ 0 ∷ codes ".strtab" ++ 0 ∷ codes ".shstrtab" ++ 0 ∷ []

abbrev pub data_section_headers : List ℕ
data_section_headers =
    replicate 64 0
    ++ section_header 1 1 6 0x1139 0x40 16 0 0 1 0
    ++ section_header 7 1 2 0x2000 0x50 8 0 0 16 0
    ++ section_header 15 2 0 0 0x58 48 4 0 8 24
    ++ section_header 23 3 0 0 0x88 8 0 0 8 0
    ++ section_header 31 3 0 0 0x90 41 0 0 8 0

abbrev pub data_file : List ℕ
data_file =
    data_header ++ data_code ++ data_bytes ++ data_symbols ++ 0 ∷ codes "_start" ++ 0 ∷ data_section_names ++ replicate 7 0 ++ data_section_headers

-- ---- what the start needs of it

abbrev pub data_ground : Ground
data_ground = ground_of data_file (start_contents data_file)

-- exit with 7, over words and over numbers
abbrev pub exits_with : ℕ → Reply (List Cell) Cell
exits_with v = record { result = number_cells Q 0; scratch = undefined_cells Q ∷ undefined_cells Q ∷ []; writes = []; fresh = None; ending = Some (Exited v) }

abbrev pub exits_too_with : ℕ → Reply ℕ ℕ
exits_too_with v = record { result = 0; scratch = 0 ∷ 0 ∷ []; writes = []; fresh = None; ending = Some (Exited v) }

-- ---- where the file lies: the section where the file has it, and the other regions a megabyte apart

abbrev pub data_regions : ℕ → ℕ
data_regions zero = 0x12000
data_regions (suc r) = 0x100000 * (r + 1)

abbrev pub data_placing : Placing
data_placing = record { base = 0x10000; region = data_regions; name = λ name. 0; finish = 0x8000 }

-- ---- where its text lies: the function at 0x20000, with instructions of 7, 2, 5, 2 bytes, and int3 behind it

abbrev pub data_offsets : List ℕ
data_offsets = replicate 7 0 ++ 0 ∷ 0 ∷ 7 ∷ 0 ∷ 9 ∷ 0 ∷ 14 ∷ 0 ∷ 16 ∷ []

abbrev pub data_sizes : List ℕ
data_sizes = replicate 7 0 ++ 7 ∷ 0 ∷ 2 ∷ 0 ∷ 5 ∷ 0 ∷ 2 ∷ 0 ∷ 1 ∷ []

abbrev pub data_label : label_type.Label → ℕ
data_label (label.Code a) = if a == 0x1139 then 0x20000 else if a == 0x1140 then 0x20007 else if a == 0x1142 then 0x20009 else 0x2000e
data_label (label.Past s) = 0x20010
data_label (label.Section n) = 0x100000
data_label (label.Table a) = 0

abbrev pub data_layout : Layout
data_layout = record {
  insn = λ q. 0x20000 + slice_index data_offsets q;
  size = λ q. slice_index data_sizes q;
  label = data_label;
  region = λ r. 0x100000 * (r + 1);
  name = λ name. 0;
  finish = 0x8000;
}

-- ---- what its programs do

-- So many steps, in the last of which exit is asked for with a number, and exit with it.
abbrev pub ExitsWith : {R P : Type 0} → ℕ → ℕ → Program P R ℕ → Machine Placed ℕ ℕ P → Type 0
ExitsWith {R} {P} steps v prog machine =
    (run : Run Placed ℕ ℕ P) × (made numbers prog steps (first_run machine (exits_too_with v ∷ [])) ≡ Some run)
    × (map {B = Call × ℕ} (λ event. (event.call, slice_index event.words 0)) run.events ≡ (System 60, v) ∷ []) × (run.ending ≡ Some (Exited v))
