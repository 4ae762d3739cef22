-- The instruction of a form and its arguments.
use Rattle.std.specs.Prelude.{ℤ, pos, negsuc, Option, Some, None}
use Rattle.rw_base.specs.declared.width.Width.{Width}
use Rattle.rw_base.specs.declared.width.Width.TheVariants.{B, W, L, Q}
use Rattle.x86_insn.specs.declared.kinds.Reg.{Reg}
use Rattle.x86_insn.specs.declared.kinds.Reg8.TheVariants.{Low, High}
use Rattle.x86_insn.specs.declared.kinds.Count.{Count}
use Rattle.x86_insn.specs.declared.kinds.Count.TheVariants as counts
use Rattle.x86_insn.specs.declared.operands.Mem.{Mem}
use Rattle.x86_insn.specs.declared.operands.Operand.{Operand}
use Rattle.x86_insn.specs.declared.operands.Operand.TheVariants as operands
use Rattle.x86_insn.specs.declared.instruction.Insn.{Insn}
use Rattle.x86_insn.specs.declared.instruction.Insn.TheVariants as insns
use Rattle.asm_print.specs.declared.spelling.Form.{Form}
use Rattle.asm_print.specs.declared.spelling.Form.TheVariants as forms
use Rattle.asm_print.specs.declared.spelling.Arg.{Arg}
use Rattle.asm_print.specs.declared.spelling.Arg.TheVariants as argument
use Rattle.asm_print.specs.declared.spelling.Args.{Args}
use Rattle.asm_print.specs.declared.spelling.Args.TheVariants.{Zero, One, Star, Two, Three}
use Rattle.asm_print.specs.Pieces.{◌>>=◌, narrow}

-- a register as an operand of a width
abbrev pub low_at : {R : Type 0} → Width → Reg → Operand R
low_at B r = operands.Byte (Low r)
low_at W r = operands.Reg r
low_at L r = operands.Reg r
low_at Q r = operands.Reg r

-- the operand of a width that an argument shows
abbrev pub operand_at : {R : Type 0} → Width → Arg R → Option (Operand R)
operand_at w (argument.Reg v (High r)) = Some (operands.Byte (High r))
operand_at w (argument.Reg v (Low r)) = Some (low_at w r)
operand_at w (argument.Imm n) = Some (operands.Imm n)
operand_at w (argument.Mem m) = Some (operands.Mem m)
operand_at w (argument.To s) = None

abbrev pub count_of_number : ℤ → Option Count
count_of_number (pos n) = narrow 8 n >>= λ k. Some (counts.Imm k)
count_of_number (negsuc n) = None

-- the count of a shift: any register is %cl
abbrev pub count_in : {R : Type 0} → Arg R → Option Count
count_in (argument.Reg w r) = Some counts.Cl
count_in (argument.Imm n) = count_of_number n
count_in (argument.Mem m) = None
count_in (argument.To s) = None

-- the low bytes of a register, with the width that its name shows
abbrev pub register_at : {R : Type 0} → Arg R → Option (Width × Reg)
register_at (argument.Reg w (Low r)) = Some (w, r)
register_at _ = None

abbrev pub immediate_at : {R : Type 0} → Arg R → Option ℤ
immediate_at (argument.Imm n) = Some n
immediate_at _ = None

abbrev pub memory_at : {R : Type 0} → Arg R → Option (Mem R)
memory_at (argument.Mem m) = Some m
memory_at _ = None

abbrev pub target_at : {R : Type 0} → Arg R → Option R
target_at (argument.To s) = Some s
target_at _ = None

-- the one argument
abbrev pub one_of : {R : Type 0} → Args R → Option (Arg R)
one_of (One a) = Some a
one_of _ = None

-- the one argument behind a star
abbrev pub star_of : {R : Type 0} → Args R → Option (Arg R)
star_of (Star a) = Some a
star_of _ = None

-- the source and the destination
abbrev pub two_of : {R : Type 0} → Args R → Option (Arg R × Arg R)
two_of (Two a b) = Some (a, b)
two_of _ = None

abbrev pub three_of : {R : Type 0} → Args R → Option (Arg R × Arg R × Arg R)
three_of (Three a b c) = Some (a, b, c)
three_of _ = None

-- an operand of a width
abbrev pub one_at : {R : Type 0} → Width → Args R → Option (Operand R)
one_at w args = one_of args >>= operand_at w

-- a place of width Q behind a star
abbrev pub star_at : {R : Type 0} → Args R → Option (Operand R)
star_at args = star_of args >>= operand_at Q

-- a source and a destination of a width
abbrev pub two_at : {R : Type 0} → Width → Args R → Option (Operand R × Operand R)
two_at w args = do
  x ← two_of args
  from ← operand_at w x.0
  to ← operand_at w x.1
  Some (from, to)

-- a source of a width, and a register
abbrev pub into_register : {R : Type 0} → Width → Args R → Option (Operand R × Reg)
into_register w args = do
  x ← two_of args
  from ← operand_at w x.0
  to ← register_at x.1
  Some (from, to.1)

-- a source of the width that the name of the register shows
abbrev pub into_named : {R : Type 0} → Args R → Option (Operand R × Width × Reg)
into_named args = do
  x ← two_of args
  to ← register_at x.1
  from ← operand_at to.0 x.0
  Some (from, to.0, to.1)

abbrev pub long_into : {R : Type 0} → Args R → Option (ℤ × Reg)
long_into args = do
  x ← two_of args
  v ← immediate_at x.0
  to ← register_at x.1
  Some (v, to.1)

abbrev pub address_into : {R : Type 0} → Args R → Option (Mem R × Reg)
address_into args = do
  x ← two_of args
  at ← memory_at x.0
  to ← register_at x.1
  Some (at, to.1)

-- an immediate, a source of a width, and a register
abbrev pub product_into : {R : Type 0} → Width → Args R → Option (ℤ × Operand R × Reg)
product_into w args = do
  x ← three_of args
  by ← immediate_at x.0
  from ← operand_at w x.1
  to ← register_at x.2
  Some (by, from, to.1)

-- a count, and a place of a width
abbrev pub shifted_at : {R : Type 0} → Width → Args R → Option (Count × Operand R)
shifted_at w args = do
  x ← two_of args
  count ← count_in x.0
  at ← operand_at w x.1
  Some (count, at)

abbrev pub target_of : {R : Type 0} → Args R → Option R
target_of args = one_of args >>= target_at

-- a register alone
abbrev pub register_of : {R : Type 0} → Args R → Option (Width × Reg)
register_of args = one_of args >>= register_at

-- an instruction without arguments
abbrev pub alone : {R : Type 0} → Args R → Insn R → Option (Insn R)
alone Zero insn = Some insn
alone _ insn = None

-- the instruction of a form and its arguments, the source first
abbrev pub built : {R : Type 0} → Form → Args R → Option (Insn R)
built (forms.Alu op w) args = two_at w args >>= λ x. Some (insns.Alu op w x.1 x.0)
built (forms.Test w) args = two_at w args >>= λ x. Some (insns.Test w x.1 x.0)
built (forms.Xchg w) args = two_at w args >>= λ x. Some (insns.Xchg w x.1 x.0)
built (forms.Mov w) args = two_at w args >>= λ x. Some (insns.Mov w x.1 x.0)
built forms.MovAbs args = long_into args >>= λ x. Some (insns.MovAbs x.1 x.0)
built (forms.MovZx from_w w) args = into_register from_w args >>= λ x. Some (insns.MovZx from_w w x.1 x.0)
built (forms.MovSx from_w w) args = into_register from_w args >>= λ x. Some (insns.MovSx from_w w x.1 x.0)
built (forms.Lea w) args = address_into args >>= λ x. Some (insns.Lea w x.1 x.0)
built forms.Push args = one_at Q args >>= λ from. Some (insns.Push from)
built forms.Pop args = one_at Q args >>= λ to. Some (insns.Pop to)
built (forms.Imul2 w) args = into_register w args >>= λ x. Some (insns.Imul2 w x.1 x.0)
built (forms.Imul3 w) args = product_into w args >>= λ x. Some (insns.Imul3 w x.2 x.1 x.0)
built (forms.One op w) args = one_at w args >>= λ at. Some (insns.One op w at)
built (forms.Shift op w) args = shifted_at w args >>= λ x. Some (insns.Shift op w x.1 x.0)
built (forms.Convert c) args = alone args (insns.Convert c)
built (forms.Movs w rep) args = alone args (insns.Movs w rep)
built (forms.Stos w rep) args = alone args (insns.Stos w rep)
built (forms.Cmov cond) args = into_named args >>= λ x. Some (insns.Cmov cond x.1 x.2 x.0)
built (forms.Setcc cond) args = one_at B args >>= λ to. Some (insns.Setcc cond to)
built (forms.Bit op w) args = two_at w args >>= λ x. Some (insns.Bit op w x.1 x.0)
built (forms.Scan op w) args = into_register w args >>= λ x. Some (insns.Scan op w x.1 x.0)
built forms.Bswap args = register_of args >>= λ x. Some (insns.Bswap x.0 x.1)
built (forms.Jcc cond) args = target_of args >>= λ to. Some (insns.Jcc cond to)
built forms.Jmp args = target_of args >>= λ to. Some (insns.Jmp to)
built forms.Call args = target_of args >>= λ to. Some (insns.Call to)
built (forms.JmpTo notrack) args = star_at args >>= λ to. Some (insns.JmpTo to notrack)
built (forms.CallTo notrack) args = star_at args >>= λ to. Some (insns.CallTo to notrack)
built forms.Ret args = alone args insns.Ret
built forms.Leave args = alone args insns.Leave
built forms.Syscall args = alone args insns.Syscall
built (forms.Plain c) args = alone args (insns.Plain c)
