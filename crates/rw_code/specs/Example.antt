-- A small file, a start of it, a place for it, and the answer to its one system call.
use Rattle.std.specs.Prelude.{◌≡◌, ℕ, ◌+◌, ◌*◌, List, [], ◌∷◌, ◌++◌, codes, map, replicate, Some, None}
use Rattle.std.specs.Int.{to_le_bytes, w16, w32, w64}
use Rattle.rw_base.specs.declared.width.Width.TheVariants.{Q}
use Rattle.rw_words.specs.declared.atom.Cell.{Cell}
use Rattle.rw_words.specs.Words.{number_cells, undefined_cells}
use Rattle.rw_machine.specs.declared.ending.End.TheVariants.{Exited}
use Rattle.rw_domain.specs.Placed.{Placed}
use Rattle.rw_machine.specs.Program.{Program}
use Rattle.rw_machine.specs.Events.{System, Reply}
use Rattle.rw_machine.specs.Step.{Machine}
use Rattle.rw_machine.specs.Domains.{numbers}
use Rattle.rw_runs.specs.Runs.{Run, first_run, made}
use Rattle.rw_code.specs.Start.{Start}
use Rattle.rw_code.specs.Ground.{Ground, code_ground}
use Rattle.rw_code.specs.Placing.{Placing}

-- an Elf64_Half, an Elf64_Word and an Elf64_Xword (gABI, "Data Representation")
abbrev pub half : ℕ → List ℕ
half n = to_le_bytes w16 n

abbrev pub word : ℕ → List ℕ
word n = to_le_bytes w32 n

abbrev pub xword : ℕ → List ℕ
xword n = to_le_bytes w64 n

-- a section header by sh_name, sh_type, sh_flags, sh_addr, sh_offset, sh_size, sh_link, sh_info, sh_addralign and
-- sh_entsize (gABI, "Section Header")
abbrev pub section_header : ℕ → ℕ → ℕ → ℕ → ℕ → ℕ → ℕ → ℕ → ℕ → ℕ → List ℕ
section_header name kind flags addr offset size link info align entry_size =
    word name ++ word kind ++ xword flags ++ xword addr ++ xword offset ++ xword size ++ word link ++ word info ++ xword align ++ xword entry_size

-- movl $60, %eax; xorl %edi, %edi; syscall
abbrev pub exit_code : List ℕ
exit_code = 0xb8 ∷ 0x3c ∷ 0 ∷ 0 ∷ 0 ∷ 0x31 ∷ 0xff ∷ 0x0f ∷ 0x05 ∷ []

-- the file header (gABI, "ELF Header"): a shared object for x86-64 that is entered at 0x1000, with five section headers
-- at 0xb0, the last of which is that of the section names
abbrev pub file_header : List ℕ
file_header =
    0x7f ∷ codes "ELF" ++ 2 ∷ 1 ∷ 1 ∷ replicate 9 0 ++ half 3 ++ half 62 ++ word 1 ++ xword 0x1000 ++ xword 0 ++ xword 0xb0
    ++ word 0 ++ half 64 ++ half 0 ++ half 0 ++ half 64 ++ half 5 ++ half 4

-- the null symbol and _start, a global function in section 1 (gABI, "Symbol Table")
abbrev pub symbol_table : List ℕ
symbol_table = replicate 24 0 ++ word 1 ++ 0x12 ∷ 0 ∷ half 1 ++ xword 0x1000 ++ xword 9

abbrev pub section_names : List ℕ
section_names = 0 ∷ codes ".text" ++ 0 ∷ codes ".symtab" ++ 0 ∷ codes ".strtab" ++ 0 ∷ codes ".shstrtab" ++ 0 ∷ []

abbrev pub section_headers : List ℕ
section_headers =
    replicate 64 0
    ++ section_header 1 1 6 0x1000 0x40 9 0 0 16 0
    ++ section_header 7 2 0 0 0x50 48 3 0 8 24
    ++ section_header 15 3 0 0 0x80 8 0 0 8 0
    ++ section_header 23 3 0 0 0x88 33 0 0 8 0

-- the bytes of the file that the program is run on as an example
abbrev pub exit_file : List ℕ
exit_file =
    file_header ++ exit_code ++ replicate 7 0 ++ symbol_table ++ 0 ∷ codes "_start" ++ 0 ∷ section_names ++ replicate 7 0 ++ section_headers

-- ---- a start, with no words behind the program's name

abbrev pub exit_start : Start
exit_start = record { words = []; canary = 0 ∷ 1 ∷ 2 ∷ 3 ∷ 4 ∷ 5 ∷ 6 ∷ 7 ∷ []; stack = 65536 }

-- exit with 0, over words and over numbers
abbrev pub exits : Reply (List Cell) Cell
exits = record { result = number_cells Q 0; scratch = undefined_cells Q ∷ undefined_cells Q ∷ []; writes = []; fresh = None; ending = Some (Exited 0) }

abbrev pub exits_too : Reply ℕ ℕ
exits_too = record { result = 0; scratch = 0 ∷ 0 ∷ []; writes = []; fresh = None; ending = Some (Exited 0) }

-- ---- what the start needs of the file

abbrev pub exit_ground : Ground
exit_ground = code_ground exit_file

-- ---- where the file lies; the regions lie a megabyte apart

abbrev pub exit_placing : Placing
exit_placing = record { base = 0x10000; region = λ r. 0x100000 * (r + 1); name = λ name. 0; finish = 0x8000 }

-- ---- what its programs do

-- Three steps, in which system call 60 is asked for once, and exit with 0.
abbrev pub Exits : {R P : Type 0} → Program P R ℕ → Machine Placed ℕ ℕ P → Type 0
Exits {R} {P} prog machine =
    (run : Run Placed ℕ ℕ P) × (made numbers prog 3 (first_run machine (exits_too ∷ [])) ≡ Some run)
    × (map (λ event. event.call) run.events ≡ System 60 ∷ []) × (run.ending ≡ Some (Exited 0))
