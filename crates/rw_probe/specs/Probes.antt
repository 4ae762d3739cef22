-- The probe at a point, by what is live there, and its instructions.
use Rattle.std.specs.Prelude.{◌≡◌, ◌⊎◌, ℕ, ℤ, pos, negsuc, List, [], ◌∷◌, ◌++◌, All, Any, Some, None}
use Rattle.rw_base.specs.declared.width.Width.TheVariants.{Q}
use Rattle.x86_insn.specs.declared.kinds.Reg.{Reg}
use Rattle.x86_insn.specs.declared.kinds.Reg.TheVariants.{Rax, Rcx, Rdx, Rbx, Rsp, Rbp, Rsi, Rdi, R8, R9, R10, R11, R12, R13, R14, R15}
use Rattle.x86_insn.specs.declared.kinds.OneOp.TheVariants as one
use Rattle.x86_insn.specs.declared.operands.Mem.TheVariants.{At, Rel}
use Rattle.x86_insn.specs.declared.operands.Operand.{Operand}
use Rattle.x86_insn.specs.declared.operands.Operand.TheVariants as operand
use Rattle.x86_insn.specs.declared.instruction.Insn.{Insn}
use Rattle.x86_insn.specs.declared.instruction.Insn.TheVariants.{One, Mov, Lea, Push, Pop}
use Rattle.x86_meaning.specs.declared.sets.Flag.{Flag}
use Rattle.x86_meaning.specs.Flags.{written_one}
use Rattle.rw_funcs.specs.Points.{Point}
use Rattle.rw_live.specs.Liveness.{IsLive, IsFlagLive}
use Rattle.rw_probe.specs.declared.form.Probe.{Probe}
use Rattle.rw_probe.specs.declared.form.Probe.TheVariants.{Inc, Dead, Spill}

-- ---- which probe

-- the flags that incq sets: all but CF
abbrev pub counting_flags : List Flag
counting_flags = written_one one.Inc

-- the registers that a probe may go through, in the order of choice: those that a call may change come first (psABI, 3.2.1)
abbrev pub counting_registers : List Reg
counting_registers =
    Rax ∷ Rcx ∷ Rdx ∷ Rsi ∷ Rdi ∷ R8 ∷ R9 ∷ R10 ∷ R11 ∷ Rbx ∷ Rbp ∷ R12 ∷ R13 ∷ R14 ∷ R15 ∷ []

-- at a point of a function
module _ (points : List Point) (c : ℕ) where
  -- the register is the first of some that isn't live
  abbrev pub IsFirstDead : List Reg → Reg → Type 0
  IsFirstDead [] r = ⊥
  IsFirstDead (q ∷ qs) r = ((r ≡ q) × ¬ IsLive points c q) ⊎ (IsLive points c q × IsFirstDead qs r)

  -- One incq where none of the flags that it sets is live; else through the first register that isn't live; else one is
  -- saved on the stack.
  abbrev pub IsProbe : Probe → Type 0
  IsProbe Inc = All (λ x. ¬ IsFlagLive points c x) counting_flags
  IsProbe (Dead r) = Any (IsFlagLive points c) counting_flags × IsFirstDead counting_registers r
  IsProbe Spill = Any (IsFlagLive points c) counting_flags × All (IsLive points c) counting_registers

-- ---- its instructions, where a reference leads to the eight bytes of its counter

-- how many there are
abbrev pub step_count : Probe → ℕ
step_count Inc = 1
step_count (Dead r) = 3
step_count Spill = 7

-- leaq disp(%r), %r
abbrev pub sum_to : {R : Type 0} → Reg → ℤ → Insn R
sum_to r disp = Lea Q r (At (Some r) None disp)

module _ {R : Type 0} (counter : R) where
  abbrev pub at_counter : Operand R
  at_counter = operand.Mem (Rel counter)

  -- movq counter(%rip), %r; leaq 1(%r), %r; movq %r, counter(%rip)
  abbrev pub through : Reg → List (Insn R)
  through r = Mov Q (operand.Reg r) at_counter ∷ sum_to r (pos 1) ∷ Mov Q at_counter (operand.Reg r) ∷ []

  -- leaq -128(%rsp), %rsp; pushq %rax; the same through %rax; popq %rax; leaq 128(%rsp), %rsp. So %rax is saved below the red
  -- zone of 128 bytes (psABI, 3.2.2).
  abbrev pub spill : List (Insn R)
  spill = sum_to Rsp (negsuc 127) ∷ Push (operand.Reg Rax) ∷ (through Rax ++ Pop (operand.Reg Rax) ∷ sum_to Rsp (pos 128) ∷ [])

  -- incq counter(%rip), or one of these
  abbrev pub probe_insns : Probe → List (Insn R)
  probe_insns Inc = One one.Inc Q at_counter ∷ []
  probe_insns (Dead r) = through r
  probe_insns Spill = spill
