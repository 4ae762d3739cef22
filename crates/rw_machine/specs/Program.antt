-- What a machine runs, and what it computes with: two records of functions.
use Rattle.std.specs.Prelude.{◌≡◌, ℕ, Bool, true, Option, Some, Result}
use Rattle.rw_base.specs.declared.width.Width.TheVariants.{Q}
use Rattle.x86_insn.specs.declared.instruction.Insn.{Insn}
use Rattle.x86_insn.specs.WellFormed.{is_instruction}
use Rattle.rw_domain.specs.declared.cause.Cause.{Cause}
use Rattle.rw_domain.specs.declared.place.Region.{Region}
use Rattle.rw_domain.specs.Operators.{Operators}
use Rattle.rw_machine.specs.declared.goal.Goal.{Goal}
use Rattle.rw_machine.specs.Running.{bytes_from}

-- A program of points P, references R and words V: the instruction at a point; the point behind it; the word of a
-- reference, which is a direct target or not; where a word leads as a target; the word of a point.
pub record Program (P R V : Type 0) : Type 0 where
  pub insn : P → Option (Insn R)
  pub next : P → P
  pub resolve : R → Bool → V
  pub target : V → Result (Goal P) Cause
  pub address_of : P → V

-- only values that are instructions stand at points
abbrev pub GivesInstructions : {P R V : Type 0} → Program P R V → Type 0
GivesInstructions {P} {R} prog = (p : P) (i : Insn R) → prog.insn p ≡ Some i → is_instruction i ≡ true

-- a word of width Q: a register holds it as it is
abbrev pub IsWide : {V C : Type 0} → Operators V C → V → Type 0
IsWide ops w = ops.join Q (bytes_from ops 8 0 w) ≡ w

-- references and points have words of width Q
pub record GivesWords {P R V C : Type 0} (ops : Operators V C) (prog : Program P R V) : Type 0 where
  pub references : (r : R) (direct : Bool) → IsWide ops (prog.resolve r direct)
  pub points : (p : P) → IsWide ops (prog.address_of p)

-- A domain whose operators depend on data D, as the regions and their bases, and the data with a fresh region that has
-- a base.
pub record Domains (D V C : Type 0) : Type 0 where
  pub over : D → Operators V C
  pub add : D → Region → ℕ → D
