-- The registers that an instruction reads, touches and writes whole, each set by one line for a row (Intel SDM vol. 2).
use Rattle.std.specs.Prelude.{Option, Some, None, ℕ, Bool, true, false, List, [], ◌∷◌, ◌++◌, if◌then◌else◌}
use Rattle.rw_base.specs.declared.width.Width.{Width}
use Rattle.rw_base.specs.declared.width.Width.TheVariants.{B, L, Q}
use Rattle.x86_insn.specs.declared.kinds.Reg.{Reg}
use Rattle.x86_insn.specs.declared.kinds.Reg.TheVariants.{Rax, Rcx, Rdx, Rsp, Rbp, Rsi, Rdi, R8, R9, R10, R11}
use Rattle.x86_insn.specs.declared.kinds.Reg8.{Reg8}
use Rattle.x86_insn.specs.declared.kinds.Reg8.TheVariants.{Low, High}
use Rattle.x86_insn.specs.declared.kinds.Count.{Count}
use Rattle.x86_insn.specs.declared.kinds.Count.TheVariants as count
use Rattle.x86_insn.specs.declared.kinds.AluOp.{AluOp}
use Rattle.x86_insn.specs.declared.kinds.AluOp.TheVariants as alu
use Rattle.x86_insn.specs.declared.kinds.OneOp.{OneOp}
use Rattle.x86_insn.specs.declared.kinds.OneOp.TheVariants as one
use Rattle.x86_insn.specs.declared.kinds.BitOp.{BitOp}
use Rattle.x86_insn.specs.declared.kinds.BitOp.TheVariants.{Bt}
use Rattle.x86_insn.specs.declared.kinds.Convert.{Convert}
use Rattle.x86_insn.specs.declared.kinds.Convert.TheVariants.{Cbtw, Cwtl, Cltq, Cltd, Cqto}
use Rattle.x86_insn.specs.declared.operands.Mem.{Mem}
use Rattle.x86_insn.specs.declared.operands.Mem.TheVariants.{At}
use Rattle.x86_insn.specs.declared.operands.Operand.{Operand}
use Rattle.x86_insn.specs.declared.operands.Operand.TheVariants as operand
use Rattle.x86_insn.specs.declared.instruction.Insn.{Insn}
use Rattle.x86_insn.specs.declared.instruction.Insn.TheVariants as insn
use Rattle.x86_meaning.specs.Meaning.{are_same, with_itself}

-- ---- Read: the registers of its sources, of its addresses, of the destinations that it changes, and the implied ones.
-- A cmov reads its destination. xor, sub and sbb of a register with itself read none.

abbrev pub byte_register : Reg8 → List Reg
byte_register (Low r) = r ∷ []
byte_register (High r) = r ∷ []

abbrev pub base_register : Option Reg → List Reg
base_register None = []
base_register (Some r) = r ∷ []

abbrev pub index_register : Option (Reg × ℕ) → List Reg
index_register None = []
index_register (Some (r, _)) = r ∷ []

abbrev pub address_registers : {R : Type 0} → Mem R → List Reg
address_registers (At base index _) = base_register base ++ index_register index
address_registers _ = []

-- the registers of an operand that is read
abbrev pub source : {R : Type 0} → Operand R → List Reg
source (operand.Reg r) = r ∷ []
source (operand.Byte r) = byte_register r
source (operand.Mem m) = address_registers m
source (operand.Imm _) = []

-- the registers of the address of an operand that is only written
abbrev pub place : {R : Type 0} → Operand R → List Reg
place (operand.Mem m) = address_registers m
place _ = []

abbrev pub reads_with_itself : {R : Type 0} → Option Bool → Operand R → Operand R → List Reg
reads_with_itself None to from = source from ++ source to
reads_with_itself (Some _) to from = if are_same to from then [] else (source from ++ source to)

-- the register of the high half of a product or a dividend
abbrev pub half_register : Width → Reg
half_register B = Rax
half_register _ = Rdx

abbrev pub reads_one : {R : Type 0} → OneOp → Width → Operand R → List Reg
reads_one one.Mul _ at = source at ++ Rax ∷ []
reads_one one.Imul _ at = source at ++ Rax ∷ []
reads_one one.Div w at = source at ++ half_register w ∷ Rax ∷ []
reads_one one.Idiv w at = source at ++ half_register w ∷ Rax ∷ []
reads_one _ _ at = source at

abbrev pub reads_count : Count → List Reg
reads_count count.Cl = Rcx ∷ []
reads_count (count.Imm _) = []

abbrev pub when_rep : Bool → List Reg
when_rep true = Rcx ∷ []
when_rep false = []

abbrev pub reads_of : {R : Type 0} → Insn R → List Reg
reads_of (insn.Alu op _ to from) = reads_with_itself (with_itself op) to from
reads_of (insn.Test _ e by) = source e ++ source by
reads_of (insn.Xchg _ e g) = source e ++ source g
reads_of (insn.Mov _ to from) = source from ++ place to
reads_of (insn.MovZx _ _ _ from) = source from
reads_of (insn.MovSx _ _ _ from) = source from
reads_of (insn.Lea _ _ at) = address_registers at
reads_of (insn.Push from) = source from ++ Rsp ∷ []
reads_of (insn.Pop to) = Rsp ∷ place to
reads_of (insn.Imul2 _ to from) = source from ++ to ∷ []
reads_of (insn.Imul3 _ _ from _) = source from
reads_of (insn.One op w at) = reads_one op w at
reads_of (insn.Shift _ _ at count) = source at ++ reads_count count
reads_of (insn.Convert _) = Rax ∷ []
reads_of (insn.Movs _ rep) = Rdi ∷ Rsi ∷ when_rep rep
reads_of (insn.Stos _ rep) = Rdi ∷ Rax ∷ when_rep rep
reads_of (insn.Cmov _ _ to from) = source from ++ to ∷ []
reads_of (insn.Setcc _ to) = place to
reads_of (insn.Bit _ _ at index) = source at ++ source index
reads_of (insn.Scan _ _ _ from) = source from
reads_of (insn.Bswap _ r) = r ∷ []
reads_of (insn.Call _) = Rsp ∷ []
reads_of (insn.JmpTo to _) = source to
reads_of (insn.CallTo to _) = source to ++ Rsp ∷ []
reads_of insn.Ret = Rsp ∷ []
reads_of insn.Leave = Rbp ∷ []
reads_of insn.Syscall = Rax ∷ Rdi ∷ Rsi ∷ Rdx ∷ R10 ∷ R8 ∷ R9 ∷ []
reads_of _ = []

-- ---- Touched: each register of which it may write some part. A cmov touches its destination in either case.

abbrev pub destination : {R : Type 0} → Operand R → List Reg
destination (operand.Reg r) = r ∷ []
destination (operand.Byte r) = byte_register r
destination _ = []

abbrev pub touches_one : {R : Type 0} → OneOp → Width → Operand R → List Reg
touches_one one.Mul w _ = Rax ∷ half_register w ∷ []
touches_one one.Imul w _ = Rax ∷ half_register w ∷ []
touches_one one.Div w _ = Rax ∷ half_register w ∷ []
touches_one one.Idiv w _ = Rax ∷ half_register w ∷ []
touches_one _ _ at = destination at

abbrev pub touches_convert : Convert → List Reg
touches_convert Cbtw = Rax ∷ []
touches_convert Cwtl = Rax ∷ []
touches_convert Cltq = Rax ∷ []
touches_convert _ = Rdx ∷ []

abbrev pub touches_alu : {R : Type 0} → AluOp → Operand R → List Reg
touches_alu alu.Cmp _ = []
touches_alu _ to = destination to

abbrev pub touches_bit : {R : Type 0} → BitOp → Operand R → List Reg
touches_bit Bt _ = []
touches_bit _ at = destination at

abbrev pub touches_of : {R : Type 0} → Insn R → List Reg
touches_of (insn.Alu op _ to _) = touches_alu op to
touches_of (insn.Xchg _ e g) = destination e ++ destination g
touches_of (insn.Mov _ to _) = destination to
touches_of (insn.MovAbs to _) = to ∷ []
touches_of (insn.MovZx _ _ to _) = to ∷ []
touches_of (insn.MovSx _ _ to _) = to ∷ []
touches_of (insn.Lea _ to _) = to ∷ []
touches_of (insn.Push _) = Rsp ∷ []
touches_of (insn.Pop to) = Rsp ∷ destination to
touches_of (insn.Imul2 _ to _) = to ∷ []
touches_of (insn.Imul3 _ to _ _) = to ∷ []
touches_of (insn.One op w at) = touches_one op w at
touches_of (insn.Shift _ _ at _) = destination at
touches_of (insn.Convert kind) = touches_convert kind
touches_of (insn.Movs _ rep) = Rdi ∷ Rsi ∷ when_rep rep
touches_of (insn.Stos _ rep) = Rdi ∷ when_rep rep
touches_of (insn.Cmov _ _ to _) = to ∷ []
touches_of (insn.Setcc _ to) = destination to
touches_of (insn.Bit op _ at _) = touches_bit op at
touches_of (insn.Scan _ _ to _) = to ∷ []
touches_of (insn.Bswap _ r) = r ∷ []
touches_of (insn.Call _) = Rsp ∷ []
touches_of (insn.CallTo _ _) = Rsp ∷ []
touches_of insn.Ret = Rsp ∷ []
touches_of insn.Leave = Rbp ∷ Rsp ∷ []
touches_of insn.Syscall = Rax ∷ Rcx ∷ R11 ∷ []
touches_of _ = []

-- ---- Written whole: the register destinations of 32 and 64 bits, and of the implied ones those that are named here.
-- Widths B and W keep the other bits and write nothing whole. %rsp of push, pop, call, ret and leave, and rbp of leave,
-- are touched alone.

abbrev pub whole_reg : Width → Reg → List Reg
whole_reg L r = r ∷ []
whole_reg Q r = r ∷ []
whole_reg _ r = []

abbrev pub whole : {R : Type 0} → Width → Operand R → List Reg
whole L o = destination o
whole Q o = destination o
whole _ o = []

abbrev pub whole_alu : {R : Type 0} → AluOp → Width → Operand R → List Reg
whole_alu alu.Cmp _ _ = []
whole_alu _ w to = whole w to

-- both halves of a product, or the quotient and the remainder
abbrev pub whole_halves : Width → List Reg
whole_halves L = Rax ∷ Rdx ∷ []
whole_halves Q = Rax ∷ Rdx ∷ []
whole_halves _ = []

abbrev pub whole_one : {R : Type 0} → OneOp → Width → Operand R → List Reg
whole_one one.Mul w _ = whole_halves w
whole_one one.Imul w _ = whole_halves w
whole_one one.Div w _ = whole_halves w
whole_one one.Idiv w _ = whole_halves w
whole_one _ w at = whole w at

abbrev pub whole_convert : Convert → List Reg
whole_convert Cwtl = Rax ∷ []
whole_convert Cltq = Rax ∷ []
whole_convert Cltd = Rdx ∷ []
whole_convert Cqto = Rdx ∷ []
whole_convert _ = []

abbrev pub whole_bit : {R : Type 0} → BitOp → Width → Operand R → List Reg
whole_bit Bt _ _ = []
whole_bit _ w at = whole w at

abbrev pub writes_whole_of : {R : Type 0} → Insn R → List Reg
writes_whole_of (insn.Alu op w to _) = whole_alu op w to
writes_whole_of (insn.Xchg w e g) = whole w e ++ whole w g
writes_whole_of (insn.Mov w to _) = whole w to
writes_whole_of (insn.MovAbs to _) = to ∷ []
writes_whole_of (insn.MovZx _ w to _) = whole_reg w to
writes_whole_of (insn.MovSx _ w to _) = whole_reg w to
writes_whole_of (insn.Lea w to _) = whole_reg w to
writes_whole_of (insn.Pop to) = destination to
writes_whole_of (insn.Imul2 w to _) = whole_reg w to
writes_whole_of (insn.Imul3 w to _ _) = whole_reg w to
writes_whole_of (insn.One op w at) = whole_one op w at
writes_whole_of (insn.Shift _ w at _) = whole w at
writes_whole_of (insn.Convert kind) = whole_convert kind
writes_whole_of (insn.Movs _ rep) = when_rep rep
writes_whole_of (insn.Stos _ rep) = when_rep rep
writes_whole_of (insn.Cmov _ w to _) = whole_reg w to
writes_whole_of (insn.Bit op w at _) = whole_bit op w at
writes_whole_of (insn.Scan _ w to _) = whole_reg w to
writes_whole_of (insn.Bswap w r) = whole_reg w r
writes_whole_of insn.Syscall = Rax ∷ Rcx ∷ R11 ∷ []
writes_whole_of _ = []
