-- The widths of displacements (SDM 2.1.5) and of the number of movabsq.
use Rattle.std.specs.Prelude.{ℤ, pos, negsuc, int_lt, ◌-◌, ◌^◌, Bool, true, not, ◌&&◌}
use Rattle.rw_base.specs.declared.width.Width.TheVariants.{L}
use Rattle.x86_insn.specs.declared.operands.Mem.{Mem}
use Rattle.x86_insn.specs.declared.operands.Mem.TheVariants.{At}
use Rattle.x86_insn.specs.declared.operands.Operand.{Operand}
use Rattle.x86_insn.specs.declared.operands.Operand.TheVariants as operand
use Rattle.x86_insn.specs.declared.instruction.Insn.{Insn}
use Rattle.x86_insn.specs.declared.instruction.Insn.TheVariants as insn
use Rattle.x86_insn.specs.WellFormed.{fits_immediate}

-- a displacement has 32 bits with a sign, as an immediate of width L
abbrev pub has_displacement : {R : Type 0} → Mem R → Bool
has_displacement (At base index disp) = fits_immediate L disp
has_displacement _ = true

abbrev pub is_addressed : {R : Type 0} → Operand R → Bool
is_addressed (operand.Mem m) = has_displacement m
is_addressed _ = true

-- a number of 64 bits with a sign
abbrev pub is_long_number : ℤ → Bool
is_long_number v = not (int_lt v (negsuc (2 ^ 63 - 1))) && int_lt v (pos (2 ^ 63))

-- the displacements of an instruction have 32 bits, and the number of movabsq 64; the kinds that have no line here have neither
abbrev pub fits_fields : {R : Type 0} → Insn R → Bool
fits_fields (insn.Alu _ _ to from) = is_addressed to && is_addressed from
fits_fields (insn.Test _ e by) = is_addressed e && is_addressed by
fits_fields (insn.Xchg _ e g) = is_addressed e && is_addressed g
fits_fields (insn.Mov _ to from) = is_addressed to && is_addressed from
fits_fields (insn.MovAbs _ v) = is_long_number v
fits_fields (insn.MovZx _ _ _ from) = is_addressed from
fits_fields (insn.MovSx _ _ _ from) = is_addressed from
fits_fields (insn.Lea _ _ at) = has_displacement at
fits_fields (insn.Push from) = is_addressed from
fits_fields (insn.Pop to) = is_addressed to
fits_fields (insn.Imul2 _ _ from) = is_addressed from
fits_fields (insn.Imul3 _ _ from _) = is_addressed from
fits_fields (insn.One _ _ at) = is_addressed at
fits_fields (insn.Shift _ _ at _) = is_addressed at
fits_fields (insn.Cmov _ _ _ from) = is_addressed from
fits_fields (insn.Setcc _ to) = is_addressed to
fits_fields (insn.Bit _ _ at index) = is_addressed at && is_addressed index
fits_fields (insn.Scan _ _ _ from) = is_addressed from
fits_fields (insn.JmpTo to _) = is_addressed to
fits_fields (insn.CallTo to _) = is_addressed to
fits_fields _ = true
