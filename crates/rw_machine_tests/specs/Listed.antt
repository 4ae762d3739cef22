-- The programs of a list of instructions over numbers and over words. A point is a place in the list.
use Rattle.std.proofs.Math.Nat.{mod-add-div, div-eq_of_lt, div-one, div-div-eq-div-mul, pow-suc}
use Rattle.std.proofs.lemmas.Nat.{mod_below}
use Rattle.std.proofs.Common.{ℕ, zero, suc, ◌+◌, ◌*◌, ◌/◌, ◌%◌, ◌^◌, ◌≡◌, refl, sym, ap, ◌∙◌, add-zero, add-one, arith, lit<, subst, Bool, true, false, List, length, Option, Some, None, Result, Ok, Err, if◌then◌else◌}
use Rattle.std.specs.Prelude.{slice_get, nat_lt, nat_eq}
use Rattle.std.specs.Option.{option_and_then}
use Rattle.x86_insn.specs.declared.instruction.Insn.{Insn}
use Rattle.x86_insn.specs.WellFormed.{is_instruction}
use Rattle.rw_words.specs.declared.atom.Atom.{Atom}
use Rattle.rw_words.specs.declared.atom.Atom.TheVariants as atom
use Rattle.rw_words.specs.declared.atom.Cell.{Cell}
use Rattle.rw_words.specs.declared.kind.Kind.{Kind}
use Rattle.rw_words.specs.declared.kind.Kind.TheVariants.{Number, Whole, Mixed}
use Rattle.rw_words.specs.Words.{atom_cells}
use Rattle.rw_words.specs.Kinds.{kind_of}
use Rattle.rw_domain.specs.declared.cause.Cause.{Cause}
use Rattle.rw_domain.specs.declared.cause.Cause.TheVariants.{TargetUnknown, TargetNoPoint}
use Rattle.rw_words.specs.Words.{number_of_bytes}
use Rattle.rw_domain.specs.Placed.{Placed}
use Rattle.rw_domain.specs.NumberPlaces.{numbers_over}
use Rattle.rw_domain.specs.Symbols.{symbols_over}
use Rattle.rw_machine.specs.Running.{bytes_from}
use Rattle.rw_machine.specs.declared.goal.Goal.{Goal}
use Rattle.rw_machine.specs.declared.goal.Goal.TheVariants.{At, Import, Finish}
use Rattle.rw_machine.specs.Program.{Program, GivesInstructions, IsWide, GivesWords}

abbrev pub if_instruction : Insn ℕ → Bool → Option (Insn ℕ)
if_instruction i true = Some i
if_instruction i false = None

-- the instruction at a place, unless another value stands there
abbrev pub insn_of : Option (Insn ℕ) → Option (Insn ℕ)
insn_of o = option_and_then (λ i. if_instruction i (is_instruction i)) o

abbrev pub insn_at : List (Insn ℕ) → ℕ → Option (Insn ℕ)
insn_at insns p = insn_of (slice_get insns p)

abbrev pub point_after : ℕ → ℕ
point_after p = (p + 1) % 2 ^ 64

-- a place in the list is a point, and two numbers are the end and the imported symbol 7
abbrev pub number_goal : ℕ → ℕ → Result (Goal ℕ) Cause
number_goal size n =
    if nat_lt n size then Ok (At n) else if nat_eq n 0xf000 then Ok Finish else if nat_eq n 0xf010 then Ok (Import 7) else Err TargetNoPoint

abbrev pub numbers_listed : List (Insn ℕ) → Program ℕ ℕ ℕ
numbers_listed insns = record {
  insn = insn_at insns;
  next = point_after;
  resolve = λ r direct. r % 2 ^ 64;
  target = number_goal (length insns);
  address_of = λ p. p % 2 ^ 64;
}

abbrev pub code_goal : ℕ → ℕ → Result (Goal ℕ) Cause
code_goal size p = if nat_lt p size then Ok (At p) else Err TargetNoPoint

abbrev pub atom_goal : ℕ → Atom → Result (Goal ℕ) Cause
atom_goal size (atom.Ptr r o) = Err TargetNoPoint
atom_goal size (atom.Code p) = code_goal size p
atom_goal size (atom.Past p) = Err TargetUnknown
atom_goal size (atom.Import k) = Ok (Import k)
atom_goal size atom.End = Ok Finish
atom_goal size (atom.Diff p r o) = Err TargetUnknown

abbrev pub kind_goal : ℕ → Kind → Result (Goal ℕ) Cause
kind_goal size (Number n) = Err TargetNoPoint
kind_goal size (Whole a) = atom_goal size a
kind_goal size Mixed = Err TargetUnknown

-- a reference that isn't a direct target is an offset of region 0
abbrev pub reference_word : ℕ → Bool → List Cell
reference_word r true = atom_cells (atom.Code r)
reference_word r false = atom_cells (atom.Ptr 0 r)

abbrev pub words_listed : List (Insn ℕ) → Program ℕ ℕ (List Cell)
words_listed insns = record {
  insn = insn_at insns;
  next = point_after;
  resolve = reference_word;
  target = λ w. kind_goal (length insns) (kind_of w);
  address_of = λ p. atom_cells (atom.Code p);
}

some-insn : {a b : Insn ℕ} → Some a ≡ Some b → a ≡ b
some-insn e = cc

formed : (j : Insn ℕ) (t : Bool) → is_instruction j ≡ t → (i : Insn ℕ) → if_instruction j t ≡ Some i → is_instruction i ≡ true
formed j true well i e = subst (λ z. is_instruction z ≡ true) (some-insn e) well
formed j false well i e = cc

given : (o : Option (Insn ℕ)) (i : Insn ℕ) → insn_of o ≡ Some i → is_instruction i ≡ true
given None i e = cc
given (Some j) i e = formed j (is_instruction j) refl i e

pub numbers-given : (insns : List (Insn ℕ)) → GivesInstructions (numbers_listed insns)
numbers-given insns p i e = given (slice_get insns p) i e

pub words-given : (insns : List (Insn ℕ)) → GivesInstructions (words_listed insns)
words-given insns p i e = given (slice_get insns p) i e

-- the bytes of a number make it up
from-bytes : (placed : Placed) (k i n : ℕ) → n / 256 ^ (i + k) ≡ 0 → number_of_bytes (bytes_from (numbers_over placed) k i n) ≡ n / 256 ^ i
from-bytes placed zero i n e = sym e ∙ ap (λ j. n / 256 ^ j) (add-zero i)
from-bytes placed (suc k) i n e =
    let on : i + 1 + k ≡ i + suc k = omega arith in
    ap (λ z. n / 256 ^ i % 256 + 256 * z)
    (from-bytes placed k (i + 1) n (ap (λ j. n / 256 ^ j) on ∙ e) ∙ sym (div-div-eq-div-mul n (256 ^ i) 256 ∙ ap (λ z. n / z) (sym (pow-suc 256 i) ∙ ap (λ j. 256 ^ j) (sym (add-one i)))))
    ∙ mod-add-div (n / 256 ^ i) 256

wide : (placed : Placed) (n : ℕ) → IsWide (numbers_over placed) (n % 2 ^ 64)
wide placed n = from-bytes placed 8 0 (n % 2 ^ 64) (div-eq_of_lt (mod_below n (2 ^ 64) (lit< tt))) ∙ div-one (n % 2 ^ 64)

pub numbers-wide : (insns : List (Insn ℕ)) (placed : Placed) → GivesWords (numbers_over placed) (numbers_listed insns)
numbers-wide insns placed = record { references = λ r direct. wide placed r; points = λ p. wide placed p }

reference-wide : (placed : Placed) (r : ℕ) (direct : Bool) → IsWide (symbols_over placed) (reference_word r direct)
reference-wide placed r true = refl
reference-wide placed r false = refl

pub words-wide : (insns : List (Insn ℕ)) (placed : Placed) → GivesWords (symbols_over placed) (words_listed insns)
words-wide insns placed = record { references = reference-wide placed; points = λ p. refl }
