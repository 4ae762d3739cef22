-- The rule of the phase code references: each target of a direct jump or call is a point or a stub, and each address that an
-- instruction names relative to %rip has a reference.
use Rattle.std.specs.Prelude.{ℕ, List, [], ◌∷◌, Bool, true, false, not, Option, is_some, option_and_then, if◌then◌else◌}
use Rattle.rw_base.specs.declared.fault.Fault.{Fault}
use Rattle.rw_base.specs.declared.fault.Fault.TheVariants.{BadTarget, BadReference}
use Rattle.rw_base.specs.Rules.{Rule, each_of, when}
use Rattle.x86_insn.specs.declared.instruction.Insn.{Insn}
use Rattle.x86_insn.specs.declared.instruction.Insn.TheVariants.{Jcc, Jmp, Call}
use Rattle.x86_insn.specs.References.{reference_of}
use Rattle.rw_funcs.specs.Points.{Point, file_points}
use Rattle.rw_refs.specs.References.{target_at, reference_at}

-- a jump or call that names its target
abbrev pub is_direct : {R : Type 0} → Insn R → Bool
is_direct (Jcc cond to) = true
is_direct (Jmp to) = true
is_direct (Call to) = true
is_direct _ = false

-- what an instruction at an address breaks that names another address
abbrev pub naming_fault : List ℕ → ℕ → Insn ℕ → ℕ → Option Fault
naming_fault bytes a i named =
    if is_direct i then when (not (is_some (target_at bytes named))) (BadTarget a)
    else when (not (is_some (reference_at bytes named))) (BadReference a)

-- what a point breaks
abbrev pub point_fault : List ℕ → Point → Option Fault
point_fault bytes p = option_and_then (naming_fault bytes p.place p.insn) (reference_of p.insn)

-- what some points break
abbrev pub faults_in : List ℕ → List Point → Rule
faults_in bytes ps = each_of ps (λ k p. point_fault bytes p)

-- by ascending point
unfoldable pub code_rules : List ℕ → List Rule
code_rules bytes = faults_in bytes (file_points bytes) ∷ []
