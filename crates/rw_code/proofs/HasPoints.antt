-- The symbolic program of a file has the points of each function, and gives instructions.
use Rattle.std.proofs.Common.{◌≡◌, ℕ, ◌+◌, ◌-◌, ◌<◌, Bool, true, false, nat_eq, List, Option, Some, None, Ok, Err, All, refl, sym, ap, subst, ◌∙◌, if◌then◌else◌, ◌==◌}
use Rattle.std.specs.Prelude.{take, drop, []}
use Rattle.std.specs.List.{find}
use Rattle.std.specs.Option.{option_or}
use Rattle.std.proofs.lemmas.Bool.{eq-eqb}
use Rattle.std.proofs.lemmas.List.Elements.{All-nil, All-take, All-drop}
use Rattle.rw_base.specs.declared.span.Span.{Span}
use Rattle.rw_base.specs.Rules.{first}
use Rattle.x86_insn.specs.WellFormed.{is_instruction}
use Rattle.x86_decode.proofs.WellFormedLaws.{decode_good}
use Rattle.rw_domain.specs.declared.cause.Cause.TheVariants.{TargetNoPoint}
use Rattle.rw_words.specs.declared.atom.Atom.TheVariants.{Code}
use Rattle.rw_words.specs.declared.kind.Kind.TheVariants.{Whole}
use Rattle.rw_words.specs.Words.{atom_cells}
use Rattle.rw_words.specs.Kinds.{kind_of}
use Rattle.rw_elf.specs.declared.section.Section.{Section}
use Rattle.rw_elf.specs.declared.symbol.Symbol.{Symbol}
use Rattle.rw_elf.specs.Places.{section_bytes}
use Rattle.rw_elf.specs.Sections.{has_bytes}
use Rattle.rw_elf.specs.Tables.{elf_rules}
use Rattle.rw_funcs.specs.declared.function.Function.{Function}
use Rattle.rw_funcs.specs.Found.{found_rules}
use Rattle.rw_funcs.specs.Functions.{functions_of, has_address, code_of_symbol, its_section}
use Rattle.rw_funcs.specs.Points.{Point, is_point, point_at, file_points}
use Rattle.rw_funcs.proofs.FunctionsOf.{clean-functions}
use Rattle.rw_funcs.proofs.PointFacts.{point_at-found, point-function}
use Rattle.rw_refs.specs.References.{import_through, target_at}
use Rattle.rw_machine.specs.declared.goal.Goal.TheVariants as goal
use Rattle.rw_machine.specs.Program.{GivesInstructions}
use Rattle.rw_live.specs.LiveSteps.{HasPoints}
use Rattle.rw_live.specs.Nodes.{points_in}
use Rattle.rw_live.proofs.Apart.{in-file}
use Rattle.rw_live.proofs.Within.{point-is-some}
use Rattle.rw_code.specs.declared.point.FilePoint.{FilePoint}
use Rattle.rw_code.specs.declared.point.FilePoint.TheVariants.{At, Past}
use Rattle.rw_code.specs.Imports.{is_copied}
use Rattle.rw_code.specs.File.{behind, insn_of, kind_goal, point_after, reference_word, symbolic}

-- ---- the points of a function

code-kind : (c : ℕ) → kind_of (atom_cells (Code c)) ≡ Whole (Code c)
code-kind c = let e : nat_eq c c ≡ true = eq-eqb c c refl in rw e refl

-- a direct target that is a point leads there
target-leads : (file : List ℕ) (c : ℕ) → is_point (file_points file) c ≡ true → kind_goal (file_points file) (is_copied file) (kind_of (reference_word (target_at file c))) ≡ Ok (goal.At (At c))
unfolding target_at
target-leads file c e =
    ap (λ t. kind_goal (file_points file) (is_copied file) (kind_of (reference_word (option_or (if t then Some (Code c) else None) (option_or (import_through file c) None))))) e
    ∙ ap (kind_goal (file_points file) (is_copied file)) (code-kind c)
    ∙ ap (λ t. if t then Ok (goal.At (At c)) else Err TargetNoPoint) e

same-place : (c d : ℕ) → ◌≡◌ {A = FilePoint} (At c) (At d) → c ≡ d
same-place c d e = cc

behind-at : (b d : ℕ) (o : Option Function) → behind b o ≡ At d → d ≡ b
behind-at b d None e = sym (same-place b d e)
behind-at b d (Some f) e = by (b == f.span.end) e
  where
    by : (t : Bool) → (if t then Past f.span.start else At b) ≡ At d → d ≡ b
    by true g = cc
    by false g = sym (same-place b d g)

in-the-file : (file : List ℕ) (span : Span) (c : ℕ) → is_point (points_in file span) c ≡ true → is_point (file_points file) c ≡ true
in-the-file file span c e = by (point_at (points_in file span) c) refl (sym (point-is-some (points_in file span) c) ∙ e)
  where
    by : (o : Option Point) → point_at (points_in file span) c ≡ o → Rattle.std.specs.Option.is_some o ≡ true → is_point (file_points file) c ≡ true
    by None f g = cc
    by (Some p) f g = point-is-some (file_points file) c ∙ ap Rattle.std.specs.Option.is_some (in-file file span c p f)

pub symbolic-has : (file : List ℕ) (span : Span) → HasPoints (points_in file span) At (symbolic file)
symbolic-has file span = record {
  insn = λ c p e. ap insn_of (in-file file span c p e);
  next = λ c d p e next.
      let here = in-file file span c p e in
      let place : p.place ≡ c = (point_at-found (file_points file) c p here).1 in
      let goes : behind (c + p.len) (find (has_address c) (functions_of file)) ≡ At d = sym (ap (point_after (functions_of file) c) here) ∙ next in
      behind-at (c + p.len) d (find (has_address c) (functions_of file)) goes ∙ ap (λ a. a + p.len) (sym place);
  target = λ to e. target-leads file to (in-the-file file span to e);
  apart = λ c d e. same-place c d e;
}

-- ---- instructions

section-bytes : (file : List ℕ) (s : Section) → All (λ b. b < 256) file → All (λ b. b < 256) (section_bytes file s)
section-bytes file s h = by (has_bytes s)
  where
    by : (t : Bool) → All (λ b. b < 256) (if t then take (s.offset + s.size - s.offset) (drop s.offset file) else [])
    by true = All-take (λ b. b < 256) (s.offset + s.size - s.offset) (drop s.offset file) (All-drop (λ b. b < 256) s.offset file h)
    by false = All-nil (λ b. b < 256)

function-bytes : (file : List ℕ) (f : Symbol) → All (λ b. b < 256) file → All (λ b. b < 256) (code_of_symbol file f)
unfolding code_of_symbol
function-bytes file f h =
    All-take (λ b. b < 256) f.size (drop (f.value - (its_section file f).addr) (section_bytes file (its_section file f)))
    (All-drop (λ b. b < 256) (f.value - (its_section file f).addr) (section_bytes file (its_section file f)) (section-bytes file (its_section file f) h))

pub symbolic-gives : (file : List ℕ) → All (λ b. b < 256) file → first (elf_rules file) ≡ None → first (found_rules file) ≡ None → GivesInstructions (symbolic file)
symbolic-gives file bytes clean found (Past start) i e = cc
symbolic-gives file bytes clean found (At a) i e = by (point_at (file_points file) a) refl e
  where
    by : (o : Option Point) → point_at (file_points file) a ≡ o → insn_of o ≡ Some i → is_instruction i ≡ true
    by None f g = cc
    by (Some p) f g =
        let of = point-function file a p clean (clean-functions file found) f in
        let good = decode_good p.place (drop (p.place - of.0.value) (code_of_symbol file of.0)) (Some (p.insn, p.len)) (sym of.2.spelled) (All-drop (λ b. b < 256) (p.place - of.0.value) (code_of_symbol file of.0) (function-bytes file of.0 bytes)) in
        let same : p.insn ≡ i = cc in
        subst (λ j. is_instruction j ≡ true) same good
