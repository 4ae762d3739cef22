-- A small file into which a symbol is copied: its code loads the symbol, and then traps. A place for the file and one for its text.
use Rattle.std.specs.Prelude.{◌≡◌, ℕ, zero, suc, ◌+◌, ◌*◌, List, [], ◌∷◌, ◌++◌, codes, replicate, slice_index, Some}
use Rattle.asm_items.specs.declared.item.Label as label_type
use Rattle.asm_items.specs.declared.item.Label.TheVariants as label
use Rattle.asm_items.specs.Layout.{Layout}
use Rattle.rw_domain.specs.Placed.{Placed}
use Rattle.rw_machine.specs.declared.ending.End.TheVariants.{Trapped}
use Rattle.rw_machine.specs.declared.ending.Trap.TheVariants.{Ud2}
use Rattle.rw_machine.specs.Program.{Program}
use Rattle.rw_machine.specs.Step.{Machine}
use Rattle.rw_machine.specs.Domains.{numbers}
use Rattle.rw_runs.specs.Runs.{Run, first_run, made}
use Rattle.rw_code.specs.Ground.{Ground, ground_of}
use Rattle.rw_code.specs.Placing.{Placing}
use Rattle.rw_code.specs.Example.{half, word, xword, section_header}
use Rattle.rw_code.specs.ImportExample.{import_section_names}
use Rattle.rw_data.specs.Regions.{start_contents}

-- movq 0x4000(%rip), %rax by its distance; ud2
abbrev pub copy_code : List ℕ
copy_code = 0x48 ∷ 0x8b ∷ 0x05 ∷ 0xf9 ∷ 0x2f ∷ 0 ∷ 0 ∷ 0x0f ∷ 0x0b ∷ []

-- a shared object for x86-64 that is entered at 0x1000, with nine section headers at 0x118, the last of which is that of the
-- section names
abbrev pub copy_header : List ℕ
copy_header =
    0x7f ∷ codes "ELF" ++ 2 ∷ 1 ∷ 1 ∷ replicate 9 0 ++ half 3 ++ half 62 ++ word 1 ++ xword 0x1000 ++ xword 0 ++ xword 0x118
    ++ word 0 ++ half 64 ++ half 0 ++ half 0 ++ half 64 ++ half 9 ++ half 8

-- the null symbol and _start, a global function in section 1
abbrev pub copy_symbols : List ℕ
copy_symbols = replicate 24 0 ++ word 1 ++ 0x12 ∷ 0 ∷ half 1 ++ xword 0x1000 ++ xword 9

-- the null symbol, and stdout, an object of 8 bytes in section 2
abbrev pub copy_dynamic : List ℕ
copy_dynamic = replicate 24 0 ++ word 1 ++ 0x11 ∷ 0 ∷ half 2 ++ xword 0x4000 ++ xword 8

-- symbol 1 is copied to 0x4000 (psABI, "Relocation Types": R_X86_64_COPY is 5)
abbrev pub copy_relocations : List ℕ
copy_relocations = xword 0x4000 ++ word 5 ++ word 1 ++ xword 0

abbrev pub copy_section_headers : List ℕ
copy_section_headers =
    replicate 64 0
    ++ section_header 1 1 6 0x1000 0x40 9 0 0 16 0
    ++ section_header 7 8 3 0x4000 0x50 16 0 0 16 0
    ++ section_header 12 2 0 0 0x50 48 4 0 8 24
    ++ section_header 20 3 0 0 0x80 8 0 0 8 0
    ++ section_header 28 11 0 0 0x88 48 6 0 8 24
    ++ section_header 36 3 0 0 0xb8 8 0 0 8 0
    ++ section_header 44 4 2 0x3000 0xc0 24 5 0 8 24
    ++ section_header 54 3 0 0 0xd8 64 0 0 8 0

abbrev pub copy_file : List ℕ
copy_file =
    copy_header ++ copy_code ++ replicate 7 0 ++ copy_symbols ++ 0 ∷ codes "_start" ++ 0 ∷ copy_dynamic
    ++ 0 ∷ codes "stdout" ++ 0 ∷ copy_relocations ++ import_section_names ++ copy_section_headers

-- what a start takes of it
abbrev pub copy_ground : Ground
copy_ground = ground_of copy_file (start_contents copy_file)

-- ---- where the file lies: the section, the copy in its first eight bytes, and the other regions a megabyte apart

abbrev pub copy_regions : ℕ → ℕ
copy_regions zero = 0x14000
copy_regions (suc zero) = 0x14000
copy_regions (suc (suc r)) = 0x100000 * (r + 1)

abbrev pub copy_placing : Placing
copy_placing = record { base = 0x10000; region = copy_regions; name = λ name. 0; finish = 0x8000 }

-- ---- where its text lies

-- The items are a copy, a comment, four directives, a name, and then by turns a label and an instruction: two of the function, and
-- int3 behind it; then the data. The function lies at 0x20000, and its instructions are as long as in the file. The one name is
-- that of the copy, which is the second region.
abbrev pub copy_offsets : List ℕ
copy_offsets = replicate 8 0 ++ 0 ∷ 0 ∷ 7 ∷ 0 ∷ 9 ∷ []

abbrev pub copy_sizes : List ℕ
copy_sizes = replicate 8 0 ++ 7 ∷ 0 ∷ 2 ∷ 0 ∷ 1 ∷ []

abbrev pub copy_label : label_type.Label → ℕ
copy_label (label.Code a) = 0x1f000 + a
copy_label (label.Past s) = 0x20009
copy_label (label.Section n) = 0x100000
copy_label (label.Table a) = 0

abbrev pub copy_layout : Layout
copy_layout = record {
  insn = λ q. 0x20000 + slice_index copy_offsets q;
  size = λ q. slice_index copy_sizes q;
  label = copy_label;
  region = λ r. 0x100000 * (r + 1);
  name = λ name. 0x200000;
  finish = 0x8000;
}

-- ---- what its programs do

-- Two steps without a call, and the end: ud2 has been reached.
abbrev pub TrapsAtUd2 : {R P : Type 0} → Program P R ℕ → Machine Placed ℕ ℕ P → Type 0
TrapsAtUd2 {R} {P} prog machine =
    (run : Run Placed ℕ ℕ P) × (made numbers prog 2 (first_run machine []) ≡ Some run) × (run.events ≡ []) × (run.ending ≡ Some (Trapped Ud2))
