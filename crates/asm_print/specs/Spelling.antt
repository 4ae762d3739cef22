-- The form of an instruction, which its mnemonic shows, and its arguments, the source first, as the
-- AT&T syntax of the GNU as manual has them.
use Rattle.std.specs.Prelude.{pos}
use Rattle.rw_base.specs.declared.width.Width.{Width}
use Rattle.rw_base.specs.declared.width.Width.TheVariants.{B, Q}
use Rattle.x86_insn.specs.declared.kinds.Reg.TheVariants.{Rcx}
use Rattle.x86_insn.specs.declared.kinds.Reg8.TheVariants.{Low}
use Rattle.x86_insn.specs.declared.kinds.Count.{Count}
use Rattle.x86_insn.specs.declared.kinds.Count.TheVariants as counts
use Rattle.x86_insn.specs.declared.operands.Operand.{Operand}
use Rattle.x86_insn.specs.declared.operands.Operand.TheVariants as operands
use Rattle.x86_insn.specs.declared.instruction.Insn.{Insn}
use Rattle.x86_insn.specs.declared.instruction.Insn.TheVariants as insns
use Rattle.x86_insn.specs.References.{map_mem}
use Rattle.asm_print.specs.declared.spelling.Form.{Form}
use Rattle.asm_print.specs.declared.spelling.Form.TheVariants as forms
use Rattle.asm_print.specs.declared.spelling.Arg.{Arg}
use Rattle.asm_print.specs.declared.spelling.Arg.TheVariants as argument
use Rattle.asm_print.specs.declared.spelling.Args.{Args}
use Rattle.asm_print.specs.declared.spelling.Args.TheVariants.{Zero, One, Star, Two, Three}

-- an operand of a width
abbrev pub arg_at : {R : Type 0} → Width → Operand R → Arg R
arg_at w (operands.Reg r) = argument.Reg w (Low r)
arg_at w (operands.Byte b) = argument.Reg w b
arg_at w (operands.Mem m) = argument.Mem m
arg_at w (operands.Imm n) = argument.Imm n

-- a count of a shift: %cl or a number
abbrev pub count_as_arg : {R : Type 0} → Count → Arg R
count_as_arg counts.Cl = argument.Reg B (Low Rcx)
count_as_arg (counts.Imm n) = argument.Imm (pos n)

abbrev pub form_of : {R : Type 0} → Insn R → Form
form_of (insns.Alu op w to from) = forms.Alu op w
form_of (insns.Test w e by) = forms.Test w
form_of (insns.Xchg w e g) = forms.Xchg w
form_of (insns.Mov w to from) = forms.Mov w
form_of (insns.MovAbs to v) = forms.MovAbs
form_of (insns.MovZx from_w w to from) = forms.MovZx from_w w
form_of (insns.MovSx from_w w to from) = forms.MovSx from_w w
form_of (insns.Lea w to at) = forms.Lea w
form_of (insns.Push from) = forms.Push
form_of (insns.Pop to) = forms.Pop
form_of (insns.Imul2 w to from) = forms.Imul2 w
form_of (insns.Imul3 w to from by) = forms.Imul3 w
form_of (insns.One op w at) = forms.One op w
form_of (insns.Shift op w at count) = forms.Shift op w
form_of (insns.Convert c) = forms.Convert c
form_of (insns.Movs w rep) = forms.Movs w rep
form_of (insns.Stos w rep) = forms.Stos w rep
form_of (insns.Cmov cond w to from) = forms.Cmov cond
form_of (insns.Setcc cond to) = forms.Setcc cond
form_of (insns.Bit op w at index) = forms.Bit op w
form_of (insns.Scan op w to from) = forms.Scan op w
form_of (insns.Bswap w r) = forms.Bswap
form_of (insns.Jcc cond to) = forms.Jcc cond
form_of (insns.Jmp to) = forms.Jmp
form_of (insns.Call to) = forms.Call
form_of (insns.JmpTo to notrack) = forms.JmpTo notrack
form_of (insns.CallTo to notrack) = forms.CallTo notrack
form_of insns.Ret = forms.Ret
form_of insns.Leave = forms.Leave
form_of insns.Syscall = forms.Syscall
form_of (insns.Plain c) = forms.Plain c

abbrev pub args_of : {R : Type 0} → Insn R → Args R
args_of (insns.Alu op w to from) = Two (arg_at w from) (arg_at w to)
args_of (insns.Test w e by) = Two (arg_at w by) (arg_at w e)
args_of (insns.Xchg w e g) = Two (arg_at w g) (arg_at w e)
args_of (insns.Mov w to from) = Two (arg_at w from) (arg_at w to)
args_of (insns.MovAbs to v) = Two (argument.Imm v) (argument.Reg Q (Low to))
args_of (insns.MovZx from_w w to from) = Two (arg_at from_w from) (argument.Reg w (Low to))
args_of (insns.MovSx from_w w to from) = Two (arg_at from_w from) (argument.Reg w (Low to))
args_of (insns.Lea w to at) = Two (argument.Mem at) (argument.Reg w (Low to))
args_of (insns.Push from) = One (arg_at Q from)
args_of (insns.Pop to) = One (arg_at Q to)
args_of (insns.Imul2 w to from) = Two (arg_at w from) (argument.Reg w (Low to))
args_of (insns.Imul3 w to from by) = Three (argument.Imm by) (arg_at w from) (argument.Reg w (Low to))
args_of (insns.One op w at) = One (arg_at w at)
args_of (insns.Shift op w at count) = Two (count_as_arg count) (arg_at w at)
args_of (insns.Convert c) = Zero
args_of (insns.Movs w rep) = Zero
args_of (insns.Stos w rep) = Zero
args_of (insns.Cmov cond w to from) = Two (arg_at w from) (argument.Reg w (Low to))
args_of (insns.Setcc cond to) = One (arg_at B to)
args_of (insns.Bit op w at index) = Two (arg_at w index) (arg_at w at)
args_of (insns.Scan op w to from) = Two (arg_at w from) (argument.Reg w (Low to))
args_of (insns.Bswap w r) = One (argument.Reg w (Low r))
args_of (insns.Jcc cond to) = One (argument.To to)
args_of (insns.Jmp to) = One (argument.To to)
args_of (insns.Call to) = One (argument.To to)
args_of (insns.JmpTo to notrack) = Star (arg_at Q to)
args_of (insns.CallTo to notrack) = Star (arg_at Q to)
args_of insns.Ret = Zero
args_of insns.Leave = Zero
args_of insns.Syscall = Zero
args_of (insns.Plain c) = Zero

-- the arguments with f of each reference in its place
abbrev pub map_arg : {R S : Type 0} → (R → S) → Arg R → Arg S
map_arg f (argument.Reg w r) = argument.Reg w r
map_arg f (argument.Imm n) = argument.Imm n
map_arg f (argument.Mem m) = argument.Mem (map_mem f m)
map_arg f (argument.To s) = argument.To (f s)

abbrev pub map_args : {R S : Type 0} → (R → S) → Args R → Args S
map_args f Zero = Zero
map_args f (One a) = One (map_arg f a)
map_args f (Star a) = Star (map_arg f a)
map_args f (Two a b) = Two (map_arg f a) (map_arg f b)
map_args f (Three a b c) = Three (map_arg f a) (map_arg f b) (map_arg f c)
