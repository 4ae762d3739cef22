-- The flags that an instruction reads and writes, each set by one line for a row. A flag that is left undefined is written.
use Rattle.std.specs.Prelude.{Option, Some, ℕ, nat_eq, Bool, true, List, [], ◌∷◌, if◌then◌else◌}
use Rattle.x86_insn.specs.declared.kinds.Cond.{Cond}
use Rattle.x86_insn.specs.declared.kinds.Cond.TheVariants as cond
use Rattle.x86_insn.specs.declared.kinds.Count.{Count}
use Rattle.x86_insn.specs.declared.kinds.Count.TheVariants as count
use Rattle.x86_insn.specs.declared.kinds.AluOp.{AluOp}
use Rattle.x86_insn.specs.declared.kinds.AluOp.TheVariants as alu
use Rattle.x86_insn.specs.declared.kinds.OneOp.{OneOp}
use Rattle.x86_insn.specs.declared.kinds.OneOp.TheVariants as one
use Rattle.x86_insn.specs.declared.kinds.ShiftOp.{ShiftOp}
use Rattle.x86_insn.specs.declared.kinds.ShiftOp.TheVariants.{Rol, Ror}
use Rattle.x86_insn.specs.declared.instruction.Insn.{Insn}
use Rattle.x86_insn.specs.declared.instruction.Insn.TheVariants as insn
use Rattle.x86_meaning.specs.Meaning.{are_same, with_itself}
use Rattle.x86_meaning.specs.Sets.{all_flags}
use Rattle.x86_meaning.specs.declared.sets.Flag.{Flag}
use Rattle.x86_meaning.specs.declared.sets.Flag.TheVariants.{Cf, Zf, Sf, Of, Pf}

-- ---- Read: those of its condition, CF for adc and sbb, and all by a shift by CL, whose count may be 0 and keep them.

-- the flags that a condition names (Intel SDM vol. 1, appendix B)
abbrev pub condition_flags : Cond → List Flag
condition_flags cond.O = Of ∷ []
condition_flags cond.No = Of ∷ []
condition_flags cond.B = Cf ∷ []
condition_flags cond.Ae = Cf ∷ []
condition_flags cond.E = Zf ∷ []
condition_flags cond.Ne = Zf ∷ []
condition_flags cond.Be = Cf ∷ Zf ∷ []
condition_flags cond.A = Cf ∷ Zf ∷ []
condition_flags cond.S = Sf ∷ []
condition_flags cond.Ns = Sf ∷ []
condition_flags cond.P = Pf ∷ []
condition_flags cond.Np = Pf ∷ []
condition_flags cond.L = Sf ∷ Of ∷ []
condition_flags cond.Ge = Sf ∷ Of ∷ []
condition_flags cond.Le = Zf ∷ Sf ∷ Of ∷ []
condition_flags cond.G = Zf ∷ Sf ∷ Of ∷ []

abbrev pub borrowed : AluOp → List Flag
borrowed alu.Adc = Cf ∷ []
borrowed alu.Sbb = Cf ∷ []
borrowed _ = []

abbrev pub kept_by_count : Count → List Flag
kept_by_count count.Cl = all_flags
kept_by_count (count.Imm _) = []

abbrev pub flags_read_of : {R : Type 0} → Insn R → List Flag
flags_read_of (insn.Alu op _ _ _) = borrowed op
flags_read_of (insn.Shift _ _ _ count) = kept_by_count count
flags_read_of (insn.Cmov cond _ _ _) = condition_flags cond
flags_read_of (insn.Setcc cond _) = condition_flags cond
flags_read_of (insn.Jcc cond _) = condition_flags cond
flags_read_of _ = []

-- ---- Written: those that it sets or leaves undefined in every case.

-- inc and dec keep CF, and so does sbb of a register with itself
abbrev pub all_but_carry : List Flag
all_but_carry = Zf ∷ Sf ∷ Of ∷ Pf ∷ []

abbrev pub written_with_itself : Option Bool → Bool → List Flag
written_with_itself (Some true) true = all_but_carry
written_with_itself _ _ = all_flags

abbrev pub written_one : OneOp → List Flag
written_one one.Inc = all_but_carry
written_one one.Dec = all_but_carry
written_one one.Not = []
written_one _ = all_flags

-- a rotate by a count above 0 keeps ZF, SF and PF
abbrev pub written_shift : ShiftOp → List Flag
written_shift Rol = Cf ∷ Of ∷ []
written_shift Ror = Cf ∷ Of ∷ []
written_shift _ = all_flags

abbrev pub written_above_zero : ShiftOp → ℕ → List Flag
written_above_zero op c = if nat_eq c 0 then [] else written_shift op

abbrev pub written_by_count : ShiftOp → Count → List Flag
written_by_count op count.Cl = []
written_by_count op (count.Imm c) = written_above_zero op c

-- bt and its kin keep ZF
abbrev pub written_bit : List Flag
written_bit = Cf ∷ Sf ∷ Of ∷ Pf ∷ []

abbrev pub flags_written_of : {R : Type 0} → Insn R → List Flag
flags_written_of (insn.Alu op _ to from) = written_with_itself (with_itself op) (are_same to from)
flags_written_of (insn.Test _ _ _) = all_flags
flags_written_of (insn.Imul2 _ _ _) = all_flags
flags_written_of (insn.Imul3 _ _ _ _) = all_flags
flags_written_of (insn.One op _ _) = written_one op
flags_written_of (insn.Shift op _ _ count) = written_by_count op count
flags_written_of (insn.Bit _ _ _ _) = written_bit
flags_written_of (insn.Scan _ _ _ _) = all_flags
flags_written_of _ = []
