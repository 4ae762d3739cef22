-- Where an instruction of the file ends, and what comes behind it.
use Rattle.std.proofs.Common.{◌≡◌, ℕ, ◌+◌, ◌≤◌, ◌^◌, ◌==◌, List, get_or, Bool, true, false, Option, Some, None, refl, ap, ◌∙◌, arith}
use Rattle.std.specs.Prelude.{find, option_map, position, if◌then◌else◌}
use Rattle.std.proofs.lemmas.Bool.{eq-eqb, eqb-true}
use Rattle.x86_insn.specs.declared.instruction.Insn.{Insn}
use Rattle.rw_base.specs.Rules.{first}
use Rattle.rw_elf.specs.Tables.{elf_rules}
use Rattle.rw_elf.proofs.Search.{find-at, find-none}
use Rattle.rw_funcs.specs.declared.function.Function.{Function}
use Rattle.rw_funcs.specs.Found.{found_rules}
use Rattle.rw_funcs.specs.Functions.{has_address}
use Rattle.rw_funcs.specs.Points.{Point, file_points, insn_at, point_at}
use Rattle.rw_funcs.proofs.Facts.{code_ends}
use Rattle.rw_code.specs.declared.point.FilePoint.TheVariants.{At, Past}
use Rattle.rw_code.specs.File.{behind, insn_of}
use Rattle.rw_code.proofs.Clean.{are-functions, found-clean}
use Rattle.rw_code.proofs.Functions.{in-function}

-- ---- the instruction at an address

-- an instruction with its length
abbrev pub with_length : Option Point → Option (Insn ℕ × ℕ)
with_length o = option_map (λ p. (p.insn, p.len)) o

-- it is that of a point
pub with-length : (o : Option Point) (d : Insn ℕ × ℕ) → with_length o ≡ Some d → (p : Point) × (o ≡ Some p) × (p.insn ≡ d.0) × (p.len ≡ d.1)
with-length None d e = cc
with-length (Some p) d e = (p, refl, cc, cc)

pub insn-found : (o : Option Point) (d : Insn ℕ × ℕ) → with_length o ≡ Some d → insn_of o ≡ Some d.0
insn-found o d e = let point = with-length o d e in ap insn_of point.1 ∙ ap (λ i. Some i) point.2

-- ---- what comes behind it

module _ (b : ℕ) (f : Function) where
  pub at-end : b ≡ f.span.end → behind b (Some f) ≡ Past f.span.start
  at-end e = ap (λ t. if t then Past f.span.start else At b) (eq-eqb b f.span.end e)

  pub before-end : (b ≡ f.span.end → ⊥) → behind b (Some f) ≡ At b
  before-end differ = by (b == f.span.end) refl
    where
      by : (t : Bool) → (b == f.span.end) ≡ t → (if t then Past f.span.start else At b) ≡ At b
      by true e = absurd (differ (eqb-true b f.span.end e))
      by false e = refl

module _ (functions : List Function) (a b : ℕ) where
  -- in the function with a number
  pub behind-in : (k : ℕ) (d : Function) → position (has_address a) functions ≡ Some k → behind b (find (has_address a) functions) ≡ behind b (Some (get_or functions k d))
  behind-in k d e = ap (behind b) (find-at (has_address a) functions k d e)

  -- in none
  pub behind-none : position (has_address a) functions ≡ None → behind b (find (has_address a) functions) ≡ At b
  behind-none e = ap (behind b) (find-none (has_address a) functions e)

-- an instruction of the file ends at or below 2 ^ 47
pub insn-ends : (file : List ℕ) → first (elf_rules file) ≡ None → first (found_rules file) ≡ None → (a : ℕ) (d : Insn ℕ × ℕ) → insn_at (file_points file) a ≡ Some d → a + d.1 ≤ 2 ^ 47
insn-ends file clean found a d e =
    let rules = found-clean file found in
    let point = with-length (point_at (file_points file) a) d e in
    let is = in-function file (are-functions file clean rules.0 rules.1) a point.0 point.1 in
    let length = point.3 in
    let place = is.place in
    let most = is.most in
    let ends = code_ends file is.function clean rules.0 is.one_of in
    omega (arith, length, place, most, ends)
