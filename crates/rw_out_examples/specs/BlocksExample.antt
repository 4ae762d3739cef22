-- A small file with probes at its blocks: where its text lies, and what the printed program of such a file does.
use Rattle.std.specs.Prelude.{◌≡◌, ◌==◌, ℕ, ◌+◌, ◌*◌, List, [], ◌∷◌, ◌++◌, codes, find, map, replicate, slice_get, slice_index, Some}
use Rattle.std.specs.Option.{option_map_or}
use Rattle.x86_insn.specs.declared.kinds.Reg.TheVariants.{Rdi}
use Rattle.asm_items.specs.declared.item.Label as label_type
use Rattle.asm_items.specs.declared.item.Label.TheVariants as label
use Rattle.asm_items.specs.Layout.{Layout}
use Rattle.asm_items.specs.Lines.{Items}
use Rattle.rw_domain.specs.Placed.{Placed}
use Rattle.rw_machine.specs.declared.ending.End.TheVariants.{Exited}
use Rattle.rw_machine.specs.Program.{Program}
use Rattle.rw_machine.specs.Events.{Call, System}
use Rattle.rw_machine.specs.Step.{Machine}
use Rattle.rw_machine.specs.Domains.{numbers}
use Rattle.rw_runs.specs.Runs.{Run, first_run, made}
use Rattle.rw_probe.specs.declared.form.Probe.{Probe}
use Rattle.rw_probe.specs.declared.form.Probe.TheVariants.{Inc, Dead}
use Rattle.rw_probe.specs.declared.leaders.Mode.TheVariants.{Blocks}
use Rattle.rw_probe.specs.Forgetting.{counter_bytes}
use Rattle.rw_code.specs.Example.{half, word, xword, section_header, section_names}
use Rattle.rw_out_examples.specs.DataExample.{exits_too_with}
use Rattle.rw_out.specs.Items.{Probes, items_with}
use Rattle.rw_out.specs.Probed.{probes_of}

-- _start, at 0x1000: movl $3, %edi; call f; movl %eax, %edi; movl $60, %eax; syscall
abbrev pub start_code : List ℕ
start_code = 0xbf ∷ 3 ∷ 0 ∷ 0 ∷ 0 ∷ 0xe8 ∷ 0x16 ∷ 0 ∷ 0 ∷ 0 ∷ 0x89 ∷ 0xc7 ∷ 0xb8 ∷ 0x3c ∷ 0 ∷ 0 ∷ 0 ∷ 0x0f ∷ 0x05 ∷ []

-- f, at 0x1020, which returns in %eax the sum of the numbers up to %edi: testl %edi, %edi; je to the last two; pushq %rdi; decl %edi;
-- call f; popq %rdi; addl %edi, %eax; ret; xorl %eax, %eax; ret
abbrev pub sum_code : List ℕ
sum_code = 0x85 ∷ 0xff ∷ 0x74 ∷ 0x0c ∷ 0x57 ∷ 0xff ∷ 0xcf ∷ 0xe8 ∷ 0xf4 ∷ 0xff ∷ 0xff ∷ 0xff ∷ 0x5f ∷ 0x01 ∷ 0xf8 ∷ 0xc3 ∷ 0x31 ∷ 0xc0 ∷ 0xc3 ∷ []

-- a shared object for x86-64 that is entered at 0x1000, with five section headers at 0xf0, the last of which is that of the
-- section names
abbrev pub blocks_header : List ℕ
blocks_header =
    0x7f ∷ codes "ELF" ++ 2 ∷ 1 ∷ 1 ∷ replicate 9 0 ++ half 3 ++ half 62 ++ word 1 ++ xword 0x1000 ++ xword 0 ++ xword 0xf0
    ++ word 0 ++ half 64 ++ half 0 ++ half 0 ++ half 64 ++ half 5 ++ half 4

-- the null symbol, _start and f, which are global functions in section 1
abbrev pub blocks_symbols : List ℕ
blocks_symbols =
    replicate 24 0 ++ word 1 ++ 0x12 ∷ 0 ∷ half 1 ++ xword 0x1000 ++ xword 19 ++ word 8 ++ 0x12 ∷ 0 ∷ half 1 ++ xword 0x1020 ++ xword 19

abbrev pub blocks_section_headers : List ℕ
blocks_section_headers =
    replicate 64 0
    ++ section_header 1 1 6 0x1000 0x40 51 0 0 16 0
    ++ section_header 7 2 0 0 0x78 72 3 0 8 24
    ++ section_header 15 3 0 0 0xc0 10 0 0 8 0
    ++ section_header 23 3 0 0 0xca 33 0 0 8 0

abbrev pub blocks_file : List ℕ
blocks_file =
    blocks_header ++ start_code ++ replicate 13 0xcc ++ sum_code ++ replicate 5 0 ++ blocks_symbols
    ++ 0 ∷ codes "_start" ++ 0 ∷ codes "f" ++ 0 ∷ section_names ++ replicate 5 0 ++ blocks_section_headers

-- ---- its probes: blocks begin at the two functions, behind both calls, behind the jump and at its target

abbrev pub block_leaders : List ℕ
block_leaders = 0x1000 ∷ 0x100a ∷ 0x1020 ∷ 0x1024 ∷ 0x102c ∷ 0x1030 ∷ []

-- the flags are live up to the system call, where %rdi is written before it
abbrev pub block_forms : List Probe
block_forms = Inc ∷ Dead Rdi ∷ Inc ∷ Inc ∷ Inc ∷ Inc ∷ []

abbrev pub block_probes : Probes
block_probes = probes_of blocks_file Blocks block_forms

abbrev pub block_items : Items
block_items = items_with blocks_file block_probes

-- ---- where its text lies: _start at 0x20000 and f at 0x21000

-- the size of each instruction, by the place of its item
abbrev pub block_sizes : List ℕ
block_sizes =
    replicate 7 0 ++ 7 ∷ 5 ∷ 0 ∷ 5 ∷ 0 ∷ 7 ∷ 4 ∷ 7 ∷ 2 ∷ 0 ∷ 5 ∷ 0 ∷ 2 ∷ 0 ∷ 1 ∷ replicate 4 0
    ++ 7 ∷ 2 ∷ 0 ∷ 2 ∷ 0 ∷ 7 ∷ 1 ∷ 0 ∷ 2 ∷ 0 ∷ 5 ∷ 0 ∷ 7 ∷ 1 ∷ 0 ∷ 2 ∷ 0 ∷ 1 ∷ 0 ∷ 7 ∷ 2 ∷ 0 ∷ 1 ∷ 0 ∷ 1 ∷ []

abbrev pub block_addresses : List ℕ
block_addresses =
    replicate 7 0 ++ 0x20000 ∷ 0x20007 ∷ 0 ∷ 0x2000c ∷ 0 ∷ 0x20011 ∷ 0x20018 ∷ 0x2001c ∷ 0x20023 ∷ 0 ∷ 0x20025 ∷ 0 ∷ 0x2002a ∷ 0 ∷ 0x2002c ∷ replicate 4 0
    ++ 0x21000 ∷ 0x21007 ∷ 0 ∷ 0x21009 ∷ 0 ∷ 0x2100b ∷ 0x21012 ∷ 0 ∷ 0x21013 ∷ 0 ∷ 0x21015 ∷ 0 ∷ 0x2101a ∷ 0x21021 ∷ 0 ∷ 0x21022 ∷ 0 ∷ 0x21024 ∷ 0 ∷ 0x21025 ∷ 0x2102c ∷ 0 ∷ 0x2102e ∷ 0 ∷ 0x2102f ∷ []

-- the labels of its points, by their addresses in the file
abbrev pub point_labels : List (ℕ × ℕ)
point_labels =
    (0x1000, 0x20000) ∷ (0x1005, 0x2000c) ∷ (0x100a, 0x20011) ∷ (0x100c, 0x20025) ∷ (0x1011, 0x2002a) ∷ (0x1020, 0x21000) ∷ (0x1022, 0x21009) ∷ (0x1024, 0x2100b)
    ∷ (0x1025, 0x21013) ∷ (0x1027, 0x21015) ∷ (0x102c, 0x2101a) ∷ (0x102d, 0x21022) ∷ (0x102f, 0x21024) ∷ (0x1030, 0x21025) ∷ (0x1032, 0x2102e) ∷ []

abbrev pub past_labels : List (ℕ × ℕ)
past_labels = (0x1000, 0x2002c) ∷ (0x1020, 0x2102f) ∷ []

abbrev pub address_in : List (ℕ × ℕ) → ℕ → ℕ
address_in labels a = option_map_or (λ entry. entry.1) (find (λ entry. entry.0 == a) labels) 0

abbrev pub block_label : label_type.Label → ℕ
block_label (label.Code a) = address_in point_labels a
block_label (label.Past a) = address_in past_labels a
block_label (label.Section n) = 0
block_label (label.Table a) = 0

-- it uses no names, and the file imports none
abbrev pub block_layout : Layout
block_layout = record {
  insn = λ q. slice_index block_addresses q;
  size = λ q. slice_index block_sizes q;
  label = block_label;
  region = λ r. 0x100000 * (r + 1);
  name = λ name. 0;
  finish = 0x8000;
}

-- ---- what a printed program with counters does

-- So many steps, in the last of which exit is asked for with a number, and exit with it; the counters, which are the first region of
-- a text without data, then hold these numbers.
abbrev pub CountsWith : {R P : Type 0} → ℕ → ℕ → List ℕ → Program P R ℕ → Machine Placed ℕ ℕ P → Type 0
CountsWith {R} {P} steps v counts prog machine =
    (run : Run Placed ℕ ℕ P) × (made numbers prog steps (first_run machine (exits_too_with v ∷ [])) ≡ Some run)
    × (map {B = Call × ℕ} (λ event. (event.call, slice_index event.words 0)) run.events ≡ (System 60, v) ∷ []) × (run.ending ≡ Some (Exited v))
    × (slice_get run.machine.memory 0 ≡ Some (counter_bytes counts))
