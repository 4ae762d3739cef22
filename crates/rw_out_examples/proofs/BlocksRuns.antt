-- The symbolic machine of the file with probes at its blocks exits with 6 after 33 steps, and how often it enters each block.
use Rattle.std.proofs.Common.{◌≡◌, ℕ, List, [], ◌∷◌, ◌++◌, length, map, replicate, Option, Some, None, Bool, true, false, refl, sym, ap, subst, ◌∙◌}
use Rattle.std.specs.Prelude.{option_and_then, option_map, slice_index_or}
use Rattle.std.specs.List.{list_all}
use Rattle.std.specs.Option.{option_map_or}
use Rattle.rw_base.specs.declared.width.Width.TheVariants.{Q}
use Rattle.rw_words.specs.declared.atom.Atom.TheVariants.{Ptr, Code}
use Rattle.rw_words.specs.declared.atom.Cell.{Cell}
use Rattle.rw_words.specs.declared.atom.Cell.TheVariants.{Num, Undef}
use Rattle.rw_words.specs.declared.kind.Kind.{Kind}
use Rattle.rw_words.specs.declared.kind.Kind.TheVariants.{Number}
use Rattle.rw_words.specs.Kinds.{kind_of}
use Rattle.rw_words.specs.Words.{number_cells, atom_cells, undefined_cells}
use Rattle.rw_domain.specs.Placed.{Placed}
use Rattle.rw_funcs.specs.Functions.{function_at, functions_of}
use Rattle.rw_machine.specs.Program.{Program}
use Rattle.rw_machine.specs.Running.{unknown_flags}
use Rattle.rw_machine.specs.declared.ending.End.{End}
use Rattle.rw_machine.specs.declared.ending.End.TheVariants.{Exited}
use Rattle.rw_machine.specs.Events.{Call, System}
use Rattle.rw_machine.specs.Step.{Machine, step_of}
use Rattle.rw_machine.specs.Domains.{symbols}
use Rattle.rw_runs.specs.Runs.{advance, first_run, made, total}
use Rattle.rw_code.specs.declared.point.FilePoint.{FilePoint}
use Rattle.rw_code.specs.declared.point.FilePoint.TheVariants.{At}
use Rattle.rw_code.specs.Mirrors.{SymbolicRun}
use Rattle.rw_code.specs.Ground.{ground_of}
use Rattle.rw_code.proofs.ExampleRuns.{call_of}
use Rattle.rw_code.specs.Imports.{is_copied}
use Rattle.rw_code.specs.Start.{arguments_row, counters_number, pointers_row, words_placed, words_start, zero_words}
use Rattle.rw_code.specs.File.{refers, symbolic_of, symbolic}
use Rattle.rw_code.specs.Example.{exit_start}
use Rattle.rw_elf.specs.Number.{number}
use Rattle.rw_elf.specs.Section.{section_at}
use Rattle.rw_elf.specs.Places.{kept_around}
use Rattle.rw_elf.specs.Sections.{placed_sections}
use Rattle.rw_elf.specs.Symbols.{of_kind, link_of, symbol_at, symbols_of}
use Rattle.rw_elf.specs.Tables.{kept_sections}
use Rattle.rw_base.specs.Rules.{first_from}
use Rattle.rw_base.specs.Order.{ordered}
use Rattle.rw_reloc.specs.Entries.{entries, entries_in, entry_at}
use Rattle.rw_reloc.specs.Slots.{copies_of, copy_around, slot_of, slots_of}
use Rattle.x86_decode.specs.Fits.{row_of, opcode_row}
use Rattle.x86_decode.specs.Reading.{row_at, window_of}
use Rattle.x86_decode.specs.Value.{signed, value}
use Rattle.x86_bytes.specs.HeadReading.{front_of, head_of}
use Rattle.rw_funcs.specs.Functions.{kept_functions, ranges, function_symbols, is_function, is_hosted, startup_functions, code_of_symbol}
use Rattle.rw_funcs.specs.Points.{file_points, points_of}
use Rattle.rw_refs.specs.References.{reference_at, target_at}
use Rattle.rw_data.specs.Regions.{start_contents}
use Rattle.rw_probe.specs.declared.leaders.Mode.TheVariants.{Blocks}
use Rattle.rw_probe.specs.Leaders.{leaders_of}
use Rattle.rw_probe.specs.ProbedRuns.{entries as entered_in, probe_cost}
use Rattle.rw_out.specs.Simulates.{is_there, probe_at}
use Rattle.rw_out_examples.specs.DataExample.{exits_with}
use Rattle.rw_out_examples.specs.BlocksExample.{block_leaders, block_probes, blocks_file}
use Rattle.rw_out_examples.proofs.BlocksFile.{copies-are, entry-is, functions-are, kept-are, not-hosted, points-are, start_points, start_symbol, sum_points, sum_symbol}
use Rattle.rw_out_examples.proofs.BlocksText.{leaders-are, probes-are, probes_at}
use Rattle.rw_out_examples.proofs.NoData as plain
use Rattle.rw_out_examples.proofs.NoData.{ground_at}
use Rattle.rw_out_examples.proofs.Legs.{Leg, Seen, entries-are, made-there, seen_in, tested, together, total-is}
use Rattle.rw_out_examples.proofs.Made.{each-below}
use Rattle.rw_out_examples.proofs.OneExit.{ExitsAfter, is_quiet}

abbrev prog : Program FilePoint ℕ (List Cell)
prog = symbolic_of (start_points ++ sum_points) (function_at start_symbol ∷ function_at sum_symbol ∷ []) (refers blocks_file) (is_copied blocks_file)

program-is : symbolic blocks_file ≡ prog
program-is =
    ap (λ ps. symbolic_of ps (functions_of blocks_file) (refers blocks_file) (is_copied blocks_file)) points-are
    ∙ ap (λ fs. symbolic_of (start_points ++ sum_points) (map function_at fs) (refers blocks_file) (is_copied blocks_file)) functions-are

abbrev first_machine : Machine Placed (List Cell) Cell FilePoint
first_machine = words_start (ground_at 0x1000) exit_start

abbrev begun : SymbolicRun
begun = first_run first_machine (exits_with 6 ∷ [])

-- ---- runs on the way: between calls all flags are unknown

abbrev registers_with : List Cell → List Cell → ℕ → List (List Cell)
registers_with rax rdi offset =
    rax ∷ replicate 3 (undefined_cells Q) ++ atom_cells (Ptr 1 offset) ∷ undefined_cells Q ∷ undefined_cells Q ∷ rdi ∷ replicate 8 (undefined_cells Q)

-- the stack with cells below those of the start
abbrev stack_with : ℕ → List Cell → List Cell
stack_with free cells = replicate free Undef ++ cells ++ number_cells Q 1 ++ pointers_row (ground_at 0x1000) exit_start ++ zero_words 4

abbrev run_at : ℕ → List Cell → List Cell → ℕ → List Cell → SymbolicRun
run_at a rax rdi offset stack = record begun {
  machine = record { registers = registers_with rax rdi offset; flags = unknown_flags; memory = [] ∷ stack ∷ arguments_row (ground_at 0x1000) exit_start ∷ map Num exit_start.canary ∷ []; placed = words_placed (ground_at 0x1000) exit_start; point = At a };
}

abbrev kept : ℕ → List Cell → List Cell
kept n cells = atom_cells (Code 0x102c) ++ number_cells Q n ++ cells

abbrev first_stack : List Cell
first_stack = stack_with 65480 (atom_cells (Code 0x100a))

abbrev second_stack : List Cell
second_stack = stack_with 65464 (kept 3 (atom_cells (Code 0x100a)))

abbrev third_stack : List Cell
third_stack = stack_with 65448 (kept 2 (kept 3 (atom_cells (Code 0x100a))))

abbrev last_stack : List Cell
last_stack = stack_with 65432 (kept 1 (kept 2 (kept 3 (atom_cells (Code 0x100a)))))

abbrev called : ℕ → ℕ → List Cell → SymbolicRun
called n offset stack = run_at 0x1020 (undefined_cells Q) (number_cells Q n) offset stack

abbrev returned : ℕ → ℕ → ℕ → SymbolicRun
returned sum n offset = run_at 0x102c (number_cells Q sum) (number_cells Q n) offset last_stack

-- ---- the legs

abbrev quiet_at : List ℕ → List Seen
quiet_at places = map (λ a. Some (let seen : Bool × FilePoint = (true, At a) in seen)) places

abbrev down : List ℕ
down = 0x1020 ∷ 0x1022 ∷ 0x1024 ∷ 0x1025 ∷ 0x1027 ∷ []

abbrev up : List ℕ
up = 0x102c ∷ 0x102d ∷ 0x102f ∷ []

to-first : Leg prog 2 begun (quiet_at (0x1000 ∷ 0x1005 ∷ [])) (called 3 65480 first_stack)
unfolding target_at file_points points_of code_of_symbol kept_functions ranges function_symbols is_function is_hosted startup_functions window_of row_at row_of opcode_row value signed front_of head_of reference_at kept_around copy_around copies_of slots_of slot_of entries entries_in entry_at kept_sections placed_sections symbols_of of_kind link_of symbol_at section_at number first_from ordered
to-first = record { is_seen = refl; there = refl }

to-second : Leg prog 5 (called 3 65480 first_stack) (quiet_at down) (called 2 65464 second_stack)
unfolding target_at file_points points_of code_of_symbol kept_functions ranges function_symbols is_function is_hosted startup_functions window_of row_at row_of opcode_row value signed front_of head_of reference_at kept_around copy_around copies_of slots_of slot_of entries entries_in entry_at kept_sections placed_sections symbols_of of_kind link_of symbol_at section_at number first_from ordered
to-second = record { is_seen = refl; there = refl }

to-third : Leg prog 5 (called 2 65464 second_stack) (quiet_at down) (called 1 65448 third_stack)
unfolding target_at file_points points_of code_of_symbol kept_functions ranges function_symbols is_function is_hosted startup_functions window_of row_at row_of opcode_row value signed front_of head_of reference_at kept_around copy_around copies_of slots_of slot_of entries entries_in entry_at kept_sections placed_sections symbols_of of_kind link_of symbol_at section_at number first_from ordered
to-third = record { is_seen = refl; there = refl }

to-last : Leg prog 5 (called 1 65448 third_stack) (quiet_at down) (called 0 65432 last_stack)
unfolding target_at file_points points_of code_of_symbol kept_functions ranges function_symbols is_function is_hosted startup_functions window_of row_at row_of opcode_row value signed front_of head_of reference_at kept_around copy_around copies_of slots_of slot_of entries entries_in entry_at kept_sections placed_sections symbols_of of_kind link_of symbol_at section_at number first_from ordered
to-last = record { is_seen = refl; there = refl }

from-last : Leg prog 4 (called 0 65432 last_stack) (quiet_at (0x1020 ∷ 0x1022 ∷ 0x1030 ∷ 0x1032 ∷ [])) (returned 0 0 65440)
unfolding target_at file_points points_of code_of_symbol kept_functions ranges function_symbols is_function is_hosted startup_functions window_of row_at row_of opcode_row value signed front_of head_of reference_at kept_around copy_around copies_of slots_of slot_of entries entries_in entry_at kept_sections placed_sections symbols_of of_kind link_of symbol_at section_at number first_from ordered
from-last = record { is_seen = refl; there = refl }

from-third : Leg prog 3 (returned 0 0 65440) (quiet_at up) (returned 1 1 65456)
from-third = record { is_seen = refl; there = refl }

from-second : Leg prog 3 (returned 1 1 65456) (quiet_at up) (returned 3 2 65472)
from-second = record { is_seen = refl; there = refl }

from-first : Leg prog 3 (returned 3 2 65472) (quiet_at up) (run_at 0x100a (number_cells Q 6) (number_cells Q 3) 65488 last_stack)
from-first = record { is_seen = refl; there = refl }

abbrev asking : SymbolicRun
asking = run_at 0x1011 (number_cells Q 60) (number_cells Q 6) 65488 last_stack

to-the-end : Leg prog 2 (run_at 0x100a (number_cells Q 6) (number_cells Q 3) 65488 last_stack) (quiet_at (0x100a ∷ 0x100c ∷ [])) asking
to-the-end = record { is_seen = refl; there = refl }

-- ---- all of them

abbrev seen_places : List ℕ
seen_places = 0x1000 ∷ 0x1005 ∷ down ++ down ++ down ++ 0x1020 ∷ 0x1022 ∷ 0x1030 ∷ 0x1032 ∷ up ++ up ++ up ++ 0x100a ∷ 0x100c ∷ []

abbrev behind : SymbolicRun
behind = run_at 0x100a (number_cells Q 6) (number_cells Q 3) 65488 last_stack

whole : Leg prog 32 begun (quiet_at seen_places) asking
whole =
    let calls_first = together prog 5 5 (called 3 65480 first_stack) (called 2 65464 second_stack) (called 1 65448 third_stack) (quiet_at down) (quiet_at down) to-second to-third in
    let calls = together prog 10 5 (called 3 65480 first_stack) (called 1 65448 third_stack) (called 0 65432 last_stack) (quiet_at (down ++ down)) (quiet_at down) calls_first to-last in
    let front = together prog 2 15 begun (called 3 65480 first_stack) (called 0 65432 last_stack) (quiet_at (0x1000 ∷ 0x1005 ∷ [])) (quiet_at (down ++ down ++ down)) to-first calls in
    let turned = together prog 17 4 begun (called 0 65432 last_stack) (returned 0 0 65440) (quiet_at (0x1000 ∷ 0x1005 ∷ down ++ down ++ down)) (quiet_at (0x1020 ∷ 0x1022 ∷ 0x1030 ∷ 0x1032 ∷ [])) front from-last in
    let returns_first = together prog 3 3 (returned 0 0 65440) (returned 1 1 65456) (returned 3 2 65472) (quiet_at up) (quiet_at up) from-third from-second in
    let returns = together prog 6 3 (returned 0 0 65440) (returned 3 2 65472) behind (quiet_at (up ++ up)) (quiet_at up) returns_first from-first in
    let back = together prog 9 2 (returned 0 0 65440) behind asking (quiet_at (up ++ up ++ up)) (quiet_at (0x100a ∷ 0x100c ∷ [])) returns to-the-end in
    together prog 21 11 begun (returned 0 0 65440) asking (quiet_at (0x1000 ∷ 0x1005 ∷ down ++ down ++ down ++ 0x1020 ∷ 0x1022 ∷ 0x1030 ∷ 0x1032 ∷ [])) (quiet_at (up ++ up ++ up ++ 0x100a ∷ 0x100c ∷ [])) turned back

at-end : made symbols prog 32 begun ≡ Some asking
at-end = made-there prog 32 begun (quiet_at seen_places) asking whole

-- ---- it exits

abbrev is_first : Seen → Bool
is_first seen = option_map_or (λ s. s.0) seen false

quiet-seen : (run : Option SymbolicRun) → is_quiet prog first_machine 32 6 run ≡ is_first (seen_in prog run)
quiet-seen None = refl
quiet-seen (Some run) = refl

exits : ExitsAfter prog first_machine 32 6
exits = record {
  quiet = each-below 32 (λ k. is_quiet prog first_machine 32 6 (made symbols prog k begun))
      (tested prog 32 begun (quiet_at seen_places) asking whole (is_quiet prog first_machine 32 6) is_first quiet-seen ∙ (let all : list_all is_first (quiet_at seen_places) ≡ true = refl in all));
  none_so_far = ap (option_map (λ run. length run.events)) at-end;
  placed_there = ap (option_map (λ run. run.machine.placed)) at-end;
  call_there = ap (option_map (λ run. call_of (step_of symbols prog run.machine))) at-end ∙ call-there;
  ends = ap (λ run. option_map {U = Option End} (λ run. run.ending) (option_and_then (advance symbols prog) run)) at-end ∙ end-there;
  told = ap (λ run. option_map {U = List (Call × Kind)} (λ run. map {B = Call × Kind} (λ event. (event.call, kind_of (slice_index_or event.words 0 []))) run.events) (option_and_then (advance symbols prog) run)) at-end ∙ told-there;
}
  where
    call-there : ◌≡◌ {A = Option (Option Call)} (Some (call_of (step_of symbols prog asking.machine))) (Some (Some (System 60)))
    call-there = refl

    end-there : option_map {U = Option End} (λ run. run.ending) (advance symbols prog asking) ≡ Some (Some (Exited 6))
    end-there = refl

    told-there : option_map {U = List (Call × Kind)} (λ run. map {B = Call × Kind} (λ event. (event.call, kind_of (slice_index_or event.words 0 []))) run.events) (advance symbols prog asking) ≡ Some ((System 60, Number 6) ∷ [])
    told-there = refl

-- ---- it enters each block so often, and makes the steps of the probes

counts : entered_in is_there block_leaders prog 33 begun ≡ 1 ∷ 1 ∷ 4 ∷ 3 ∷ 3 ∷ 1 ∷ []
counts = entries-are prog 32 begun (quiet_at seen_places) asking whole block_leaders ∙ refl

steps : total symbols prog (probe_cost (probe_at (probes_at block_leaders))) 33 begun ≡ 48
steps = total-is prog 32 begun (quiet_at seen_places) asking whole (probes_at block_leaders) ∙ refl

-- ---- so does the file

ground-is : ground_of blocks_file (start_contents blocks_file) ≡ ground_at 0x1000
ground-is = plain.ground-is blocks_file 0x1000 kept-are copies-are not-hosted entry-is

pub counters-none-before : counters_number (ground_of blocks_file (start_contents blocks_file)) ≡ 0
counters-none-before = plain.counters-first blocks_file 0x1000 kept-are copies-are not-hosted entry-is

abbrev file_start : Machine Placed (List Cell) Cell FilePoint
file_start = words_start (ground_of blocks_file (start_contents blocks_file)) exit_start

start-is : file_start ≡ first_machine
start-is = ap (λ g. words_start g exit_start) ground-is

-- Of the program it is enough to show something.
of-file : (P : Program FilePoint ℕ (List Cell) → Machine Placed (List Cell) Cell FilePoint → Type 0) → P prog first_machine → P (symbolic blocks_file) file_start
of-file P h = subst (λ p. P p file_start) (sym program-is) (subst (P prog) (sym start-is) h)

pub file-exits : ExitsAfter (symbolic blocks_file) file_start 32 6
file-exits = of-file (λ p m. ExitsAfter p m 32 6) exits

pub file-counts : entered_in is_there (leaders_of blocks_file Blocks) (symbolic blocks_file) 33 (first_run file_start (exits_with 6 ∷ [])) ≡ 1 ∷ 1 ∷ 4 ∷ 3 ∷ 3 ∷ 1 ∷ []
file-counts =
    ap (λ leaders. entered_in is_there leaders (symbolic blocks_file) 33 (first_run file_start (exits_with 6 ∷ []))) leaders-are
    ∙ of-file (λ p m. entered_in is_there block_leaders p 33 (first_run m (exits_with 6 ∷ [])) ≡ 1 ∷ 1 ∷ 4 ∷ 3 ∷ 3 ∷ 1 ∷ []) counts

pub file-steps : total symbols (symbolic blocks_file) (probe_cost (probe_at block_probes)) 33 (first_run file_start (exits_with 6 ∷ [])) ≡ 48
file-steps =
    ap (λ probes. total symbols (symbolic blocks_file) (probe_cost (probe_at probes)) 33 (first_run file_start (exits_with 6 ∷ []))) probes-are
    ∙ of-file (λ p m. total symbols p (probe_cost (probe_at (probes_at block_leaders))) 33 (first_run m (exits_with 6 ∷ [])) ≡ 48) steps
