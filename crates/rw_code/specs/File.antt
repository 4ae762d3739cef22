-- The program of a file that the symbolic machine runs.
use Rattle.std.specs.Prelude.{◌≡◌, true, ℕ, ◌+◌, List, Bool, map, find, Option, Some, None, option_map, is_some, Result, Ok, Err, if◌then◌else◌, ◌==◌}
use Rattle.std.specs.Option.{option_map_or}
use Rattle.rw_base.specs.declared.width.Width.TheVariants.{Q}
use Rattle.x86_insn.specs.declared.instruction.Insn.{Insn}
use Rattle.x86_insn.specs.References.{reference_of}
use Rattle.rw_words.specs.declared.atom.Atom.{Atom}
use Rattle.rw_words.specs.declared.atom.Atom.TheVariants as atom
use Rattle.rw_words.specs.declared.atom.Cell.{Cell}
use Rattle.rw_words.specs.declared.kind.Kind.{Kind}
use Rattle.rw_words.specs.declared.kind.Kind.TheVariants.{Number, Whole, Mixed}
use Rattle.rw_words.specs.Words.{atom_cells, undefined_cells}
use Rattle.rw_words.specs.Kinds.{kind_of}
use Rattle.rw_domain.specs.declared.cause.Cause.{Cause}
use Rattle.rw_domain.specs.declared.cause.Cause.TheVariants.{TargetUnknown, TargetNoPoint}
use Rattle.rw_funcs.specs.declared.function.Function.{Function}
use Rattle.rw_funcs.specs.Functions.{functions_of, has_address}
use Rattle.rw_funcs.specs.Points.{Point, places_of, is_point, point_at, file_points}
use Rattle.rw_refs.specs.CodeReferences.{is_direct}
use Rattle.rw_refs.specs.References.{reference_at, target_at}
use Rattle.rw_machine.specs.declared.goal.Goal.{Goal}
use Rattle.rw_machine.specs.declared.goal.Goal.TheVariants as goal
use Rattle.rw_machine.specs.Program.{Program}
use Rattle.rw_code.specs.declared.point.FilePoint.{FilePoint}
use Rattle.rw_code.specs.declared.point.FilePoint.TheVariants.{At, Past}
use Rattle.rw_code.specs.Ground.{Ground, distances_of}
use Rattle.rw_code.specs.Imports.{imports_of, is_copied}
use Rattle.rw_code.specs.Known.{Labels}

-- ---- what addresses stand for

-- what an address stands for: as the target of a jump or call that names it, or in any other instruction
abbrev pub refers : List ℕ → ℕ → Bool → Option Atom
refers file r direct = if direct then target_at file r else reference_at file r

-- each address that an instruction of the file names stands for something
abbrev pub ReferencesStand : List ℕ → Type 0
ReferencesStand file =
    (a : ℕ) (p : Point) → point_at (file_points file) a ≡ Some p → (r : ℕ) → reference_of p.insn ≡ Some r → is_some (refers file r (is_direct p.insn)) ≡ true

-- the addresses at which functions start
abbrev pub starts_of : List Function → List ℕ
starts_of functions = map (λ f. f.span.start) functions

-- the points of a file, the starts of its functions, what it imports, and the distances of its jump tables
abbrev pub labels_of : List ℕ → Ground → Labels
labels_of file file_ground = record {
  points = places_of (file_points file);
  starts = starts_of (functions_of file);
  imports = imports_of file;
  distances = distances_of file_ground;
}

-- the end of the function that starts at an address, and 0 where none does
abbrev pub end_from : List Function → ℕ → ℕ
end_from functions start = option_map_or (λ f. f.span.end) (find (λ f. f.span.start == start) functions) 0

-- ---- the symbolic machine

abbrev pub insn_of : Option Point → Option (Insn ℕ)
insn_of o = option_map (λ p. p.insn) o

abbrev pub symbolic_insn : List Point → FilePoint → Option (Insn ℕ)
symbolic_insn points (At a) = insn_of (point_at points a)
symbolic_insn points (Past start) = None

-- The point behind an instruction, whose address is b: where the instruction ends its function, the end of that function,
-- even if another function starts there.
abbrev pub behind : ℕ → Option Function → FilePoint
behind b None = At b
behind b (Some f) = if b == f.span.end then Past f.span.start else At b

abbrev pub point_after : List Function → ℕ → Option Point → FilePoint
point_after functions a None = At a
point_after functions a (Some p) = behind (a + p.len) (find (has_address a) functions)

abbrev pub symbolic_next : List Point → List Function → FilePoint → FilePoint
symbolic_next points functions (At a) = point_after functions a (point_at points a)
symbolic_next points functions (Past start) = Past start

abbrev pub point_word : FilePoint → List Cell
point_word (At a) = atom_cells (atom.Code a)
point_word (Past start) = atom_cells (atom.Past start)

-- the word of what an address stands for
abbrev pub reference_word : Option Atom → List Cell
reference_word None = undefined_cells Q
reference_word (Some a) = atom_cells a

-- Where a word leads as a target: the code of a point to that point, an imported symbol that isn't copied to that symbol, and
-- the word of the end out of the run.
abbrev pub code_goal : List Point → ℕ → Result (Goal FilePoint) Cause
code_goal points c = if is_point points c then Ok (goal.At (At c)) else Err TargetNoPoint

abbrev pub import_goal : (ℕ → Bool) → ℕ → Result (Goal FilePoint) Cause
import_goal copied i = if copied i then Err TargetNoPoint else Ok (goal.Import i)

abbrev pub atom_goal : List Point → (ℕ → Bool) → Atom → Result (Goal FilePoint) Cause
atom_goal points copied (atom.Ptr r o) = Err TargetNoPoint
atom_goal points copied (atom.Code c) = code_goal points c
atom_goal points copied (atom.Past start) = Err TargetUnknown
atom_goal points copied (atom.Import i) = import_goal copied i
atom_goal points copied atom.End = Ok goal.Finish
atom_goal points copied (atom.Diff c r o) = Err TargetUnknown

abbrev pub kind_goal : List Point → (ℕ → Bool) → Kind → Result (Goal FilePoint) Cause
kind_goal points copied (Number n) = Err TargetNoPoint
kind_goal points copied (Whole a) = atom_goal points copied a
kind_goal points copied Mixed = Err TargetUnknown

-- The points of all functions, and past each function its end, which has no instruction.
abbrev pub symbolic_of : List Point → List Function → (ℕ → Bool → Option Atom) → (ℕ → Bool) → Program FilePoint ℕ (List Cell)
symbolic_of points functions stands copied = record {
  insn = symbolic_insn points;
  next = symbolic_next points functions;
  resolve = λ r direct. reference_word (stands r direct);
  target = λ w. kind_goal points copied (kind_of w);
  address_of = point_word;
}

abbrev pub symbolic : List ℕ → Program FilePoint ℕ (List Cell)
symbolic file = symbolic_of (file_points file) (functions_of file) (refers file) (is_copied file)
