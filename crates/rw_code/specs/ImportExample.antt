-- A small file that imports a function, and into which one symbol is copied twice: a place for it, and answers to its calls.
use Rattle.std.specs.Prelude.{◌≡◌, ℕ, zero, suc, ◌+◌, ◌*◌, List, [], ◌∷◌, ◌++◌, codes, map, replicate, true, Some, None}
use Rattle.rw_base.specs.declared.width.Width.TheVariants.{Q}
use Rattle.rw_words.specs.declared.atom.Atom.TheVariants.{Import}
use Rattle.rw_words.specs.declared.atom.Cell.{Cell}
use Rattle.rw_words.specs.declared.atom.Cell.TheVariants.{Num, Undef}
use Rattle.rw_words.specs.Addresses.{Addresses, address_of}
use Rattle.rw_words.specs.Words.{atom_cells, number_cells, undefined_cells}
use Rattle.rw_domain.specs.Placed.{Placed}
use Rattle.rw_domain.specs.Stands.{Both}
use Rattle.rw_machine.specs.declared.ending.End.TheVariants.{Exited}
use Rattle.rw_machine.specs.Program.{Program}
use Rattle.rw_machine.specs.Events.{System, Reply}
use Rattle.rw_machine.specs.Events as events
use Rattle.rw_machine.specs.Step.{Machine}
use Rattle.rw_machine.specs.Stands.{CallStands}
use Rattle.rw_machine.specs.Domains.{numbers}
use Rattle.rw_runs.specs.Runs.{Run, first_run, made}
use Rattle.rw_code.specs.Ground.{Ground, ground_of}
use Rattle.rw_code.specs.Imports.{have_one_name}
use Rattle.rw_code.specs.Placing.{Placing}
use Rattle.rw_code.specs.Example.{half, word, xword, section_header}

-- movl $39, %eax; syscall; call *%rax
abbrev pub import_code : List ℕ
import_code = 0xb8 ∷ 0x27 ∷ 0 ∷ 0 ∷ 0 ∷ 0x0f ∷ 0x05 ∷ 0xff ∷ 0xd0 ∷ []

-- a shared object for x86-64 that is entered at 0x1000, with nine section headers at 0x160, the last of which is that of the
-- section names
abbrev pub import_header : List ℕ
import_header =
    0x7f ∷ codes "ELF" ++ 2 ∷ 1 ∷ 1 ∷ replicate 9 0 ++ half 3 ++ half 62 ++ word 1 ++ xword 0x1000 ++ xword 0 ++ xword 0x160
    ++ word 0 ++ half 64 ++ half 0 ++ half 0 ++ half 64 ++ half 9 ++ half 8

-- the null symbol and _start, a global function in section 1
abbrev pub import_symbols : List ℕ
import_symbols = replicate 24 0 ++ word 1 ++ 0x12 ∷ 0 ∷ half 1 ++ xword 0x1000 ++ xword 9

-- the null symbol; puts, an undefined function; x, an object of 8 bytes in section 2; and x again, undefined
abbrev pub import_dynamic : List ℕ
import_dynamic =
    replicate 24 0 ++ word 1 ++ 0x12 ∷ 0 ∷ half 0 ++ xword 0 ++ xword 0 ++ word 6 ++ 0x11 ∷ 0 ∷ half 2 ++ xword 0x4008 ++ xword 8
    ++ word 6 ++ 0x11 ∷ 0 ∷ half 0 ++ xword 0 ++ xword 0

-- symbol 2 is copied to 0x4008 and to 0x4010 (psABI, "Relocation Types": R_X86_64_COPY is 5)
abbrev pub import_relocations : List ℕ
import_relocations = xword 0x4008 ++ word 5 ++ word 2 ++ xword 0 ++ xword 0x4010 ++ word 5 ++ word 2 ++ xword 0

abbrev pub import_section_names : List ℕ
import_section_names =
    0 ∷ codes ".text" ++ 0 ∷ codes ".bss" ++ 0 ∷ codes ".symtab" ++ 0 ∷ codes ".strtab" ++ 0 ∷ codes ".dynsym" ++ 0 ∷ codes ".dynstr"
    ++ 0 ∷ codes ".rela.dyn" ++ 0 ∷ codes ".shstrtab" ++ 0 ∷ []

abbrev pub import_section_headers : List ℕ
import_section_headers =
    replicate 64 0
    ++ section_header 1 1 6 0x1000 0x40 9 0 0 16 0
    ++ section_header 7 8 3 0x4000 0x50 24 0 0 16 0
    ++ section_header 12 2 0 0 0x50 48 4 0 8 24
    ++ section_header 20 3 0 0 0x80 8 0 0 8 0
    ++ section_header 28 11 0 0 0x88 96 6 0 8 24
    ++ section_header 36 3 0 0 0xe8 8 0 0 8 0
    ++ section_header 44 4 2 0x3000 0xf0 48 5 0 8 24
    ++ section_header 54 3 0 0 0x120 64 0 0 8 0

abbrev pub import_file : List ℕ
import_file =
    import_header ++ import_code ++ replicate 7 0 ++ import_symbols ++ 0 ∷ codes "_start" ++ 0 ∷ import_dynamic
    ++ 0 ∷ codes "puts" ++ 0 ∷ codes "x" ++ 0 ∷ import_relocations ++ import_section_names ++ import_section_headers

-- ---- what the start needs of it: the section's zeros, of which 16 bytes belong to the copies, and the copies

abbrev pub import_contents : List (List Cell)
import_contents =
    (replicate 8 (Num 0) ++ replicate 16 Undef) ∷ replicate 8 Undef ∷ replicate 8 Undef ∷ []

abbrev pub import_ground : Ground
import_ground = ground_of import_file import_contents

-- ---- where the file lies: the section and the copies in it, and the other regions a megabyte apart

abbrev pub import_regions : ℕ → ℕ
import_regions zero = 0x14000
import_regions (suc zero) = 0x14008
import_regions (suc (suc zero)) = 0x14010
import_regions (suc (suc (suc r))) = 0x100000 * (r + 4)

abbrev pub import_placing : Placing
import_placing = record { base = 0x10000; region = import_regions; name = λ name. 0x9000; finish = 0x8000 }

-- ---- the answers: the imported function, and exit with 7

abbrev pub import_answers : List (Reply (List Cell) Cell)
import_answers =
    record { result = atom_cells (Import 1); scratch = replicate 2 (undefined_cells Q); writes = []; fresh = None; ending = None }
    ∷ record { result = number_cells Q 0; scratch = replicate 8 (undefined_cells Q); writes = []; fresh = None; ending = Some (Exited 7) } ∷ []

abbrev pub import_replies : Addresses → List (Reply ℕ ℕ)
import_replies l =
    record { result = address_of l (Import 1); scratch = replicate 2 0; writes = []; fresh = None; ending = None }
    ∷ record { result = 0; scratch = replicate 8 0; writes = []; fresh = None; ending = Some (Exited 7) } ∷ []

-- ---- what its programs do

-- Three steps, in which system call 39 is asked for, then the imported function, and exit with 7.
abbrev pub CallsImport : {R P : Type 0} → Program P R ℕ → Addresses → Machine Placed ℕ ℕ P → Type 0
CallsImport {R} {P} prog l machine =
    (run : Run Placed ℕ ℕ P) × (made numbers prog 3 (first_run machine (import_replies l)) ≡ Some run)
    × Both (CallStands (λ i j. have_one_name import_file i j ≡ true)) (System 39 ∷ events.Import 1 ∷ []) (map (λ event. event.call) run.events) × (run.ending ≡ Some (Exited 7))
