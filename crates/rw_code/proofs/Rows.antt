-- Worked runs, by computing: the symbolic machine and the original over some pieces of code.
use Rattle.std.proofs.Common.{◌≡◌, ℕ, ◌+◌, ◌-◌, ◌*◌, List, [], ◌∷◌, ◌++◌, map, drop, replicate, Option, Some, None, Result, Ok, Err, true, false, refl}
use Rattle.std.specs.Prelude.{pos, option_map, nat_le, slice_index_or, if◌then◌else◌}
use Rattle.rw_base.specs.declared.width.Width.TheVariants.{L, Q}
use Rattle.rw_base.specs.Rules.{first_from}
use Rattle.x86_insn.specs.declared.kinds.Reg.TheVariants.{Rax, Rdi}
use Rattle.x86_insn.specs.declared.kinds.AluOp.TheVariants.{Xor}
use Rattle.x86_insn.specs.declared.kinds.Plain.TheVariants.{Hlt}
use Rattle.x86_insn.specs.declared.operands.Operand.TheVariants as operand
use Rattle.x86_insn.specs.declared.instruction.Insn.{Insn}
use Rattle.x86_insn.specs.declared.instruction.Insn.TheVariants as insn
use Rattle.x86_decode.specs.Fits.{row_of, opcode_row}
use Rattle.x86_decode.specs.Reading.{row_at, window_of, decode_of}
use Rattle.x86_decode.specs.Value.{signed, value}
use Rattle.x86_bytes.specs.HeadReading.{front_of, head_of}
use Rattle.rw_words.specs.declared.atom.Atom.TheVariants.{Ptr, Code}
use Rattle.rw_words.specs.declared.atom.Atom.TheVariants as atom
use Rattle.rw_words.specs.declared.atom.Cell.{Cell}
use Rattle.rw_words.specs.Words.{number_cells, atom_cells, undefined_cells}
use Rattle.rw_words.specs.Kinds.{kind_of}
use Rattle.rw_domain.specs.declared.cause.Cause.{Cause}
use Rattle.rw_domain.specs.declared.cause.Cause.TheVariants.{TargetUnknown, TargetNoPoint}
use Rattle.rw_domain.specs.declared.flags.Tri.{Tri}
use Rattle.rw_domain.specs.declared.flags.Tri.TheVariants.{Yes}
use Rattle.rw_domain.specs.Placed.{Placed}
use Rattle.rw_domain.specs.Symbols.{symbols_over}
use Rattle.rw_funcs.specs.declared.function.Function.{Function}
use Rattle.rw_funcs.specs.Points.{Point, points}
use Rattle.rw_machine.specs.declared.ending.End.{End}
use Rattle.rw_machine.specs.declared.ending.End.TheVariants.{Exited}
use Rattle.rw_machine.specs.Program.{Program}
use Rattle.rw_machine.specs.Running.{unknown_flags}
use Rattle.rw_machine.specs.Events.{Call, System, Event, system_event}
use Rattle.rw_machine.specs.Step.{Machine, Outcome, Moved, Asks, Ended, Stopped, step_of}
use Rattle.rw_machine.specs.declared.goal.Goal.TheVariants as goal
use Rattle.rw_code.specs.declared.point.FilePoint.{FilePoint}
use Rattle.rw_code.specs.declared.point.FilePoint.TheVariants.{At, Past}
use Rattle.rw_machine.specs.Domains.{symbols, numbers}
use Rattle.rw_runs.specs.Runs.{first_run, made}
use Rattle.rw_code.specs.Start.{first_offset, words_placed, numbers_placed, words_start}
use Rattle.rw_code.specs.Example.{exit_code, exit_start as start, exits, exits_too}
use Rattle.rw_code.specs.Ground.{Ground}
use Rattle.rw_code.specs.File.{end_from, symbolic_of, kind_goal}
use Rattle.rw_code.specs.Original.{original_of}

-- the cause of a step that stops, and the call that is asked for
abbrev pub is_stopped : {D V C P : Type 0} → Outcome D V C P → Option Cause
is_stopped (Moved m) = None
is_stopped (Asks e) = None
is_stopped (Ended m z) = None
is_stopped (Stopped c) = Some c

abbrev pub is_asked : {V : Type 0} → Result (Event V) Cause → Option Call
is_asked (Ok e) = Some e.call
is_asked (Err c) = None

abbrev pub exit_points : List Point
exit_points =
    record { place = 0x1000; insn = insn.Mov L (operand.Reg Rax) (operand.Imm (pos 60)); len = 5 }
    ∷ record { place = 0x1005; insn = insn.Alu Xor L (operand.Reg Rdi) (operand.Reg Rdi); len = 2 }
    ∷ record { place = 0x1007; insn = insn.Syscall; len = 2 } ∷ []

-- a function without a name
abbrev pub function_between : ℕ → ℕ → Function
function_between start end = record { span = record { start = start; end = end }; name = record { at = 0; len = 0 } }

abbrev pub exit_functions : List Function
exit_functions = function_between 0x1000 0x1009 ∷ []

-- the program of such points and functions, which refers to code alone and imports nothing
abbrev pub code_of : List Point → List Function → Program FilePoint ℕ (List Cell)
code_of places functions = symbolic_of places functions (λ r direct. Some (Code r)) (λ i. false)

-- what a start needs of such a file, which is entered at 0x1000
abbrev pub first_ground : Ground
first_ground = record { regions = []; places = []; contents = []; holes = []; counters = 0; hosted = false; entry = 0x1000 }

-- the code has these points
pub exit_decoded : points 9 0x1000 exit_code ≡ exit_points
unfolding window_of row_at row_of opcode_row value signed front_of head_of
exit_decoded = refl

-- the symbolic machine ends after three steps
pub symbolic_exits : option_map (λ run. run.ending) (made symbols (code_of exit_points exit_functions) 3 (first_run (words_start first_ground start) (exits ∷ []))) ≡ Some (Some (Exited 0))
symbolic_exits = refl

-- and has asked for system call 60 with the word 0
pub symbolic_asks : option_map (λ run. map (λ event. event.call) run.events) (made symbols (code_of exit_points exit_functions) 3 (first_run (words_start first_ground start) (exits ∷ []))) ≡ Some (System 60 ∷ [])
symbolic_asks = refl

-- before the call rax is 60, rdi is 0 and the zero flag is set
pub symbolic_registers : option_map {U = List Cell × List Cell × Tri} (λ run. (slice_index_or run.machine.registers 0 [], slice_index_or run.machine.registers 7 [], run.machine.flags.zf)) (made symbols (code_of exit_points exit_functions) 2 (first_run (words_start first_ground start) []))
    ≡ Some (number_cells Q 60, number_cells Q 0, Yes)
symbolic_registers = refl

-- without an answer the third step isn't made
pub needs_an_answer : made symbols (code_of exit_points exit_functions) 3 (first_run (words_start first_ground start) []) ≡ None
needs_an_answer = refl

-- no step comes after an end
pub ends : made symbols (code_of exit_points exit_functions) 4 (first_run (words_start first_ground start) (exits ∷ exits ∷ [])) ≡ None
ends = refl

-- Code that runs past its function: the step behind the last instruction stops.
abbrev pub one_point : List Point
one_point = record { place = 0x1000; insn = insn.Mov L (operand.Reg Rax) (operand.Imm (pos 60)); len = 5 } ∷ []

abbrev pub one_function : List Function
one_function = function_between 0x1000 0x1005 ∷ []

pub comes_past : option_map (λ run. run.machine.point) (made symbols (code_of one_point one_function) 1 (first_run (words_start first_ground start) [])) ≡ Some (Past 0x1000)
comes_past = refl

pub past_stops : option_map (λ run. is_stopped (step_of symbols (code_of one_point one_function) run.machine)) (made symbols (code_of one_point one_function) 1 (first_run (words_start first_ground start) [])) ≡ Some (Some TargetNoPoint)
past_stops = refl

-- A call inside the function, and its return: call 0x1006; hlt; ret.
abbrev pub call_code : List ℕ
call_code = 0xe8 ∷ 1 ∷ 0 ∷ 0 ∷ 0 ∷ 0xf4 ∷ 0xc3 ∷ []

abbrev pub call_points : List Point
call_points =
    record { place = 0x1000; insn = insn.Call 0x1006; len = 5 }
    ∷ record { place = 0x1005; insn = insn.Plain Hlt; len = 1 }
    ∷ record { place = 0x1006; insn = insn.Ret; len = 1 } ∷ []

abbrev pub call_functions : List Function
call_functions = function_between 0x1000 0x1007 ∷ []

pub call_decoded : points 7 0x1000 call_code ≡ call_points
unfolding window_of row_at row_of opcode_row value signed front_of head_of
call_decoded = refl

abbrev pub call_points_at : ℕ → Option FilePoint
call_points_at n = option_map (λ run. run.machine.point) (made symbols (code_of call_points call_functions) n (first_run (words_start first_ground start) []))

pub goes_to_its_target : call_points_at 1 ≡ Some (At 0x1006)
goes_to_its_target = refl

pub returns_behind_it : call_points_at 2 ≡ Some (At 0x1005)
returns_behind_it = refl

-- A function that ends with a call to another, which exits: call 0x1010; xorl %edi, %edi; movl $60, %eax; syscall.
abbrev pub two_points : List Point
two_points =
    record { place = 0x1000; insn = insn.Call 0x1010; len = 5 }
    ∷ record { place = 0x1010; insn = insn.Alu Xor L (operand.Reg Rdi) (operand.Reg Rdi); len = 2 }
    ∷ record { place = 0x1012; insn = insn.Mov L (operand.Reg Rax) (operand.Imm (pos 60)); len = 5 }
    ∷ record { place = 0x1017; insn = insn.Syscall; len = 2 } ∷ []

abbrev pub two_functions : List Function
two_functions = function_between 0x1000 0x1005 ∷ function_between 0x1010 0x1019 ∷ []

pub calls_another : option_map (λ run. run.machine.point) (made symbols (code_of two_points two_functions) 1 (first_run (words_start first_ground start) [])) ≡ Some (At 0x1010)
calls_another = refl

pub another_exits : option_map (λ run. run.ending) (made symbols (code_of two_points two_functions) 4 (first_run (words_start first_ground start) (exits ∷ []))) ≡ Some (Some (Exited 0))
another_exits = refl

-- its return would be past the function that calls
pub next_of_call : (code_of two_points two_functions).next (At 0x1000) ≡ Past 0x1000
next_of_call = refl

-- Two functions, the second of which starts where the first ends: behind the last point of the first comes its end.
abbrev pub meeting_points : List Point
meeting_points =
    record { place = 0x1000; insn = insn.Mov L (operand.Reg Rax) (operand.Imm (pos 60)); len = 5 }
    ∷ record { place = 0x1005; insn = insn.Alu Xor L (operand.Reg Rdi) (operand.Reg Rdi); len = 2 }
    ∷ record { place = 0x1007; insn = insn.Syscall; len = 2 } ∷ []

abbrev pub meeting_functions : List Function
meeting_functions = function_between 0x1000 0x1005 ∷ function_between 0x1005 0x1009 ∷ []

pub ends_where_another_starts : (code_of meeting_points meeting_functions).next (At 0x1000) ≡ Past 0x1000
ends_where_another_starts = refl

pub goes_on_in_its_function : (code_of meeting_points meeting_functions).next (At 0x1005) ≡ At 0x1007
goes_on_in_its_function = refl

pub ends_the_last : (code_of meeting_points meeting_functions).next (At 0x1007) ≡ Past 0x1005
ends_the_last = refl

-- the ends of functions by their starts
pub end_of_first : end_from meeting_functions 0x1000 ≡ 0x1005
end_of_first = refl

pub end_of_second : end_from meeting_functions 0x1005 ≡ 0x1009
end_of_second = refl

-- where words lead: a point, the end of the run, and causes to stop
pub leads_to_a_point : kind_goal call_points (λ i. false) (kind_of (atom_cells (Code 0x1006))) ≡ Ok (goal.At (At 0x1006))
leads_to_a_point = refl

pub leads_out : kind_goal call_points (λ i. false) (kind_of (atom_cells atom.End)) ≡ Ok goal.Finish
leads_out = refl

pub leads_to_no_point : kind_goal call_points (λ i. false) (kind_of (atom_cells (Code 0x1001))) ≡ Err TargetNoPoint
leads_to_no_point = refl

pub number_leads_nowhere : kind_goal call_points (λ i. false) (kind_of (number_cells Q 0x1006)) ≡ Err TargetNoPoint
number_leads_nowhere = refl

pub pointer_leads_nowhere : kind_goal call_points (λ i. false) (kind_of (atom_cells (Ptr 1 0))) ≡ Err TargetNoPoint
pointer_leads_nowhere = refl

pub past_is_unknown : kind_goal call_points (λ i. false) (kind_of (atom_cells (atom.Past 0x1000))) ≡ Err TargetUnknown
past_is_unknown = refl

-- an imported symbol that isn't copied, and one that is
pub import_leads_to_it : kind_goal call_points (λ i. false) (kind_of (atom_cells (atom.Import 3))) ≡ Ok (goal.Import 3)
import_leads_to_it = refl

pub copied_leads_nowhere : kind_goal call_points (λ i. true) (kind_of (atom_cells (atom.Import 3))) ≡ Err TargetNoPoint
copied_leads_nowhere = refl

pub undefined_is_unknown : kind_goal call_points (λ i. false) (kind_of (undefined_cells Q)) ≡ Err TargetUnknown
undefined_is_unknown = refl

-- A write to descriptor 1: of 0 bytes it is asked for, of a byte it stops, as no register points to one.
abbrev pub registers : ℕ → ℕ → ℕ → List (List Cell)
registers number descriptor len =
    number_cells Q number ∷ undefined_cells Q ∷ number_cells Q len ∷ undefined_cells Q
    ∷ undefined_cells Q ∷ undefined_cells Q ∷ number_cells Q 0x1000 ∷ number_cells Q descriptor ∷ []

pub writes_nothing : is_asked (system_event (symbols_over (words_placed first_ground start)) (registers 1 1 0) []) ≡ Some (System 1)
writes_nothing = refl

pub writes_a_byte : is_asked (system_event (symbols_over (words_placed first_ground start)) (registers 1 1 1) []) ≡ None
writes_a_byte = refl

pub writes_elsewhere : is_asked (system_event (symbols_over (words_placed first_ground start)) (registers 1 3 1) []) ≡ Some (System 1)
writes_elsewhere = refl

-- ---- the original at a base

-- the bytes at 0x10000, from where a return goes to 0x8000
abbrev pub placed_code : (ℕ → Option (Insn ℕ × ℕ)) → Program ℕ ℕ ℕ
placed_code spelled = original_of spelled (λ r direct. Some (Code r)) (λ i. 0) (λ q. None) 0x10000 0x8000

abbrev pub spelled : ℕ → Option (Insn ℕ × ℕ)
spelled a = if nat_le 0x1000 a then decode_of a (drop (a - 0x1000) exit_code) else None

-- the regions a megabyte apart, and all is 0 but %rsp and the canary
abbrev pub numbers_start : Machine Placed ℕ ℕ ℕ
numbers_start = record {
  registers = replicate 4 0 ++ (0x200000 + first_offset start) ∷ replicate 11 0;
  flags = unknown_flags;
  memory = [] ∷ replicate 65536 0 ∷ replicate 32 0 ∷ start.canary ∷ [];
  placed = numbers_placed first_ground start (λ r. 0x100000 * (r + 1));
  point = 0x11000;
}

pub original_exits : option_map {U = Option End × List Call} (λ run. (run.ending, map (λ event. event.call) run.events)) (made numbers (placed_code spelled) 3 (first_run numbers_start (exits_too ∷ []))) ≡ Some (Some (Exited 0), System 60 ∷ [])
unfolding window_of row_at row_of opcode_row value signed front_of head_of
original_exits = refl

-- behind the end of the section there is no instruction
pub original_stops : is_stopped (step_of numbers (placed_code spelled) (record numbers_start { point = 0x11009 })) ≡ Some TargetNoPoint
unfolding window_of row_at row_of opcode_row value signed front_of head_of
original_stops = refl

-- the call and its return there
abbrev pub call_spelled : ℕ → Option (Insn ℕ × ℕ)
call_spelled a = if nat_le 0x1000 a then decode_of a (drop (a - 0x1000) call_code) else None

pub original_returns : option_map (λ run. run.machine.point) (made numbers (placed_code call_spelled) 2 (first_run numbers_start [])) ≡ Some 0x11005
unfolding window_of row_at row_of opcode_row value signed front_of head_of first_from
original_returns = refl
