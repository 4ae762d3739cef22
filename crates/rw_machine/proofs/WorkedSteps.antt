-- Worked steps, by computing: a call of an imported function and its answer, string steps, and a division by 0.
use Rattle.std.proofs.Common.{◌≡◌, ℕ, ◌+◌, true, false, List, [], ◌∷◌, ◌++◌, take, drop, map, replicate, Option, Some, None, Result, Ok, Err, refl}
use Rattle.std.specs.Prelude.{slice_index_or, ◌==◌, if◌then◌else◌}
use Rattle.rw_base.specs.declared.width.Width.TheVariants.{B, Q}
use Rattle.rw_base.specs.Rules.{first_from}
use Rattle.x86_insn.specs.declared.kinds.Reg.TheVariants.{Rcx}
use Rattle.x86_insn.specs.declared.kinds.OneOp.TheVariants.{Div}
use Rattle.x86_insn.specs.declared.operands.Operand.TheVariants as operand
use Rattle.x86_insn.specs.declared.instruction.Insn.{Insn}
use Rattle.x86_insn.specs.declared.instruction.Insn.TheVariants as insn
use Rattle.rw_words.specs.declared.atom.Atom.TheVariants.{Ptr, Code, Past, Import, End, Diff}
use Rattle.rw_words.specs.declared.atom.Cell.{Cell}
use Rattle.rw_words.specs.declared.atom.Cell.TheVariants.{Num, Undef}
use Rattle.rw_words.specs.declared.kind.Kind.{Kind}
use Rattle.rw_words.specs.declared.kind.Kind.TheVariants.{Number, Whole, Mixed}
use Rattle.rw_words.specs.Words.{number_cells, atom_cells, undefined_cells}
use Rattle.rw_words.specs.Kinds.{kind_of}
use Rattle.rw_domain.specs.declared.cause.Cause.{Cause}
use Rattle.rw_domain.specs.declared.cause.Cause.TheVariants.{NumberUnknown, AddressOutside, TargetUnknown, TargetNoPoint}
use Rattle.rw_domain.specs.declared.flags.Tri.TheVariants.{Yes}
use Rattle.rw_domain.specs.declared.flags.Flags.{Flags}
use Rattle.rw_domain.specs.declared.place.Region.{Region}
use Rattle.rw_domain.specs.Placed.{Placed}
use Rattle.rw_machine.specs.declared.ending as run_end
use Rattle.rw_machine.specs.declared.ending.End.TheVariants as ending
use Rattle.rw_machine.specs.declared.ending.Trap.TheVariants as trap
use Rattle.rw_machine.specs.declared.goal.Goal.{Goal}
use Rattle.rw_machine.specs.declared.goal.Goal.TheVariants as goal
use Rattle.rw_machine.specs.Program.{Program}
use Rattle.rw_machine.specs.Running.{unknown_flags}
use Rattle.rw_machine.specs.Events.{Call, Reply}
use Rattle.rw_machine.specs.Events.{Import as import_call}
use Rattle.rw_machine.specs.Step.{Machine, Outcome, Moved, Asks, Ended, Stopped, step_of, reply_of}
use Rattle.rw_machine.specs.Domains.{symbols, numbers}

-- ---- what steps come to

abbrev asked : {D V C P : Type 0} → Outcome D V C P → Option Call
asked (Moved m) = None
asked (Asks e) = Some e.call
asked (Ended m z) = None
asked (Stopped c) = None

abbrev stopped : {D V C P : Type 0} → Outcome D V C P → Option Cause
stopped (Moved m) = None
stopped (Asks e) = None
stopped (Ended m z) = None
stopped (Stopped c) = Some c

abbrev ended : {D V C P : Type 0} → Outcome D V C P → Option run_end.End.End
ended (Moved m) = None
ended (Asks e) = None
ended (Ended m z) = Some z
ended (Stopped c) = None

abbrev seen : {D V C P A : Type 0} → (Machine D V C P → A) → Outcome D V C P → Option A
seen f (Moved m) = Some (f m)
seen f (Asks e) = None
seen f (Ended m z) = Some (f m)
seen f (Stopped c) = None

-- ---- a machine over words: the counters, a stack of 512 bytes, 16 bytes of arguments, the canary

abbrev regions : List Region
regions =
    record { size = 0; align = 8; writable = true; zero = true }
    ∷ record { size = 512; align = 16; writable = true; zero = false }
    ∷ record { size = 16; align = 16; writable = true; zero = false }
    ∷ record { size = 8; align = 8; writable = false; zero = false } ∷ []

abbrev target_of : Kind → Result (Goal ℕ) Cause
target_of (Number n) = Err TargetUnknown
target_of Mixed = Err TargetUnknown
target_of (Whole (Ptr r o)) = Err TargetNoPoint
target_of (Whole (Code c)) = Ok (goal.At c)
target_of (Whole (Past c)) = Err TargetNoPoint
target_of (Whole (Import i)) = Ok (goal.Import i)
target_of (Whole End) = Ok goal.Finish
target_of (Whole (Diff c r o)) = Err TargetNoPoint

-- one instruction at each point, whose reference is an import
abbrev over_words : Insn ℕ → Program ℕ ℕ (List Cell)
over_words i = record {
  insn = λ p. Some i;
  next = λ p. p + 1;
  resolve = λ r direct. atom_cells (Import r);
  target = λ w. target_of (kind_of w);
  address_of = λ p. atom_cells (Code p);
}

abbrev known_flags : Flags
known_flags = record { cf = Yes; zf = Yes; sf = Yes; of = Yes; pf = Yes }

-- rcx, rsi and rdi besides the stack pointer, which is at offset 400
abbrev words : List Cell → List Cell → List Cell → Machine Placed (List Cell) Cell ℕ
words rcx rsi rdi = record {
  registers = number_cells Q 7 ∷ rcx ∷ number_cells Q 0 ∷ undefined_cells Q ∷ atom_cells (Ptr 1 400) ∷ undefined_cells Q ∷ rsi ∷ rdi ∷ replicate 8 (undefined_cells Q);
  flags = known_flags;
  memory = [] ∷ replicate 512 (Num 5) ∷ (map Num (1 ∷ 2 ∷ 3 ∷ 4 ∷ 5 ∷ 6 ∷ 7 ∷ 8 ∷ []) ++ replicate 8 (Num 0)) ∷ replicate 8 (Num 0) ∷ [];
  placed = record { regions = regions; bases = None; holes = []; canary = 3 };
  point = 10;
}

-- ---- a call of an imported function

abbrev calls : Program ℕ ℕ (List Cell)
calls = over_words (insn.Call 9)

abbrev caller : Machine Placed (List Cell) Cell ℕ
caller = words (number_cells Q 1) (number_cells Q 2) (number_cells Q 3)

-- the result is 77
abbrev answer : Reply (List Cell) Cell
answer = record { result = number_cells Q 77; scratch = replicate 8 (undefined_cells Q); writes = []; fresh = None; ending = None }

pub call_asks : asked (step_of symbols calls caller) ≡ Some (import_call 9)
call_asks = refl

-- it returns behind the call, with the result, and with the stack pointer from before it
pub call_returns : seen {A = ℕ × List Cell × List Cell × List Cell} (λ m. (m.point, slice_index_or m.registers 0 [], slice_index_or m.registers 1 [], slice_index_or m.registers 4 [])) (reply_of symbols calls caller answer)
    ≡ Some (11, number_cells Q 77, undefined_cells Q, atom_cells (Ptr 1 400))
call_returns = refl

pub call_loses_flags : seen (λ m. m.flags) (reply_of symbols calls caller answer) ≡ Some unknown_flags
call_loses_flags = refl

-- nothing is kept below the stack pointer, and all above it
pub call_forgets : seen (λ m. take 4 (drop 398 (slice_index_or m.memory 1 []))) (reply_of symbols calls caller answer) ≡ Some (Undef ∷ Undef ∷ Num 5 ∷ Num 5 ∷ [])
call_forgets = refl

-- an answer with an end: the function is entered, and doesn't return
pub call_ends : ended (reply_of symbols calls caller (record answer { ending = Some (ending.Exited 3) })) ≡ Some (ending.Exited 3)
call_ends = refl

-- ---- the same over numbers

abbrev over_numbers : Insn ℕ → Program ℕ ℕ ℕ
over_numbers i = record {
  insn = λ p. Some i;
  next = λ p. p + 1;
  resolve = λ r direct. 0x900000;
  target = λ w. if w == 0x900000 then Ok (goal.Import 9) else Ok (goal.At w);
  address_of = λ p. p;
}

abbrev plain : ℕ → ℕ → ℕ → Machine Placed ℕ ℕ ℕ
plain rcx rsi rdi = record {
  registers = 7 ∷ rcx ∷ 0 ∷ 0 ∷ 0x20190 ∷ 0 ∷ rsi ∷ rdi ∷ replicate 8 0;
  flags = known_flags;
  memory = [] ∷ replicate 512 5 ∷ (1 ∷ 2 ∷ 3 ∷ 4 ∷ 5 ∷ 6 ∷ 7 ∷ 8 ∷ replicate 8 0) ∷ replicate 8 0 ∷ [];
  placed = record { regions = regions; bases = Some (0x10000 ∷ 0x20000 ∷ 0x30000 ∷ 0x40000 ∷ []); holes = []; canary = 3 };
  point = 10;
}

-- the function overwrites the word that it returns to, behind which nobody looks
abbrev overwrites : Reply ℕ ℕ
overwrites = record { result = 77; scratch = replicate 8 0; writes = (record { region = 1; offset = 392 }, replicate 8 1) ∷ []; fresh = None; ending = None }

pub returns_where_it_was_called : seen {A = ℕ × List ℕ} (λ m. (m.point, take 4 (drop 398 (slice_index_or m.memory 1 [])))) (reply_of numbers (over_numbers (insn.Call 9)) (plain 1 2 3) overwrites) ≡ Some (11, 1 ∷ 1 ∷ 5 ∷ 5 ∷ [])
unfolding first_from
returns_where_it_was_called = refl

-- ---- string steps

-- each element sees what those before it wrote
pub moves_overlap : seen {A = List ℕ × List ℕ} (λ m. (take 5 (slice_index_or m.memory 2 []), take 7 (drop 1 m.registers))) (step_of numbers (over_numbers (insn.Movs B true)) (plain 3 0x30000 0x30001))
    ≡ Some (1 ∷ 1 ∷ 1 ∷ 1 ∷ 5 ∷ [], 0 ∷ 0 ∷ 0 ∷ 0x20190 ∷ 0 ∷ 0x30003 ∷ 0x30004 ∷ [])
unfolding first_from
moves_overlap = refl

-- over words a place moves on too, and a whole pointer may be moved
pub moves_over_words : seen {A = List Cell × List Cell} (λ m. (take 8 (drop 8 (slice_index_or m.memory 2 [])), slice_index_or m.registers 7 [])) (step_of symbols (over_words (insn.Movs Q false)) (words (undefined_cells Q) (atom_cells (Ptr 2 0)) (atom_cells (Ptr 2 8))))
    ≡ Some (map Num (1 ∷ 2 ∷ 3 ∷ 4 ∷ 5 ∷ 6 ∷ 7 ∷ 8 ∷ []), atom_cells (Ptr 2 16))
moves_over_words = refl

-- the count comes before the addresses, and nothing is written where one element is outside
pub count_comes_first : stopped (step_of symbols (over_words (insn.Stos B true)) (words (undefined_cells Q) (number_cells Q 0) (number_cells Q 0))) ≡ Some NumberUnknown
count_comes_first = refl

pub last_is_outside : stopped (step_of numbers (over_numbers (insn.Stos B true)) (plain 17 0 0x30000)) ≡ Some AddressOutside
unfolding first_from
last_is_outside = refl

pub none_is_outside : stopped (step_of numbers (over_numbers (insn.Stos B true)) (plain 16 0 0x30000)) ≡ None
unfolding first_from
none_is_outside = refl

-- ---- a division by 0

pub divides_by_zero : ended (step_of symbols (over_words (insn.One Div Q (operand.Reg Rcx))) (words (number_cells Q 0) (number_cells Q 0) (number_cells Q 0))) ≡ Some (ending.Trapped trap.Divide)
divides_by_zero = refl
