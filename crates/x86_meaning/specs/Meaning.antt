-- What each instruction does: the one list of small operations of each row (Intel SDM vol. 2, the "Operation" sections).
use Rattle.std.specs.Prelude.{Option, Some, None, ℕ, ℤ, pos, negsuc, nat_eq, Bool, true, false, List, [], ◌∷◌, ◌++◌, ◌%◌, ◌^◌, if◌then◌else◌}
use Rattle.std.specs.Int.{cast_unsigned, w64}
use Rattle.rw_base.specs.Width.{bit_count}
use Rattle.rw_base.specs.declared.width.Width.{Width}
use Rattle.rw_base.specs.declared.width.Width.TheVariants.{B, W, L, Q}
use Rattle.x86_insn.specs.declared.kinds.Reg.{Reg}
use Rattle.x86_insn.specs.declared.kinds.Reg.TheVariants.{Rax, Rcx, Rdx, Rsp, Rbp}
use Rattle.x86_insn.specs.declared.kinds.Reg8.{Reg8}
use Rattle.x86_insn.specs.declared.kinds.Reg8.TheVariants.{Low, High}
use Rattle.x86_insn.specs.declared.kinds.Cond.{Cond}
use Rattle.x86_insn.specs.declared.kinds.Count.{Count}
use Rattle.x86_insn.specs.declared.kinds.Count.TheVariants as count
use Rattle.x86_insn.specs.declared.kinds.AluOp.{AluOp}
use Rattle.x86_insn.specs.declared.kinds.AluOp.TheVariants as alu
use Rattle.x86_insn.specs.declared.kinds.OneOp.{OneOp}
use Rattle.x86_insn.specs.declared.kinds.OneOp.TheVariants as one
use Rattle.x86_insn.specs.declared.kinds.ShiftOp.{ShiftOp}
use Rattle.x86_insn.specs.declared.kinds.ShiftOp.TheVariants.{Sar}
use Rattle.x86_insn.specs.declared.kinds.BitOp.{BitOp}
use Rattle.x86_insn.specs.declared.kinds.BitOp.TheVariants.{Bt}
use Rattle.x86_insn.specs.declared.kinds.ScanOp.{ScanOp}
use Rattle.x86_insn.specs.declared.kinds.Convert.{Convert}
use Rattle.x86_insn.specs.declared.kinds.Convert.TheVariants.{Cbtw, Cwtl, Cltq, Cwtd, Cltd, Cqto}
use Rattle.x86_insn.specs.declared.kinds.Plain.{Plain}
use Rattle.x86_insn.specs.declared.kinds.Plain.TheVariants as plain
use Rattle.x86_insn.specs.declared.operands.Mem.{Mem}
use Rattle.x86_insn.specs.declared.operands.Mem.TheVariants.{At, Rel, Canary}
use Rattle.x86_insn.specs.declared.operands.Operand.{Operand}
use Rattle.x86_insn.specs.declared.operands.Operand.TheVariants as operand
use Rattle.x86_insn.specs.declared.instruction.Insn.{Insn}
use Rattle.x86_insn.specs.declared.instruction.Insn.TheVariants as insn
use Rattle.x86_insn.specs.WellFormed.{code_of}
use Rattle.x86_meaning.specs.declared.operations.Temp.{Temp}
use Rattle.x86_meaning.specs.declared.operations.Micro.{Micro}
use Rattle.x86_meaning.specs.declared.operations.Micro.TheVariants.{Get, Put, Num, Ref, Next, Sum, Load, Store, Alu, One, Shift, Mul, Div, Extend, Swap, Bit, Scan, Same, Choose, Go, Elements, Trap, System}
use Rattle.x86_meaning.specs.declared.operations.Micro.TheVariants as micro

-- ---- Temporary words

abbrev pub temp : ℕ → Temp
temp n = record { 0 = n }

-- the value, and the other value
abbrev pub t0 : Temp
t0 = temp 0

abbrev pub t1 : Temp
t1 = temp 1

-- the result, and the second result
abbrev pub t2 : Temp
t2 = temp 2

abbrev pub t3 : Temp
t3 = temp 3

-- the address of the operand in memory, its base and its index
abbrev pub t4 : Temp
t4 = temp 4

abbrev pub t5 : Temp
t5 = temp 5

abbrev pub t6 : Temp
t6 = temp 6

-- what an instruction of the stack gives to %rsp, and leave to %rbp, though no operand names them
abbrev pub t7 : Temp
t7 = temp 7

-- ---- Parts that the rows share

abbrev pub base_of : Option Reg → List Micro
base_of None = []
base_of (Some r) = Get t5 Q (Low r) ∷ []

abbrev pub base_temp : Option Reg → Option Temp
base_temp None = None
base_temp (Some _) = Some t5

abbrev pub index_of : Option (Reg × ℕ) → List Micro
index_of None = []
index_of (Some (r, _)) = Get t6 Q (Low r) ∷ []

abbrev pub index_temp : Option (Reg × ℕ) → Option (Temp × ℕ)
index_temp None = None
index_temp (Some (_, scale)) = Some (t6, scale)

-- the address of an operand in memory, in t4
abbrev pub address_of : {R : Type 0} → Mem R → List Micro
address_of (At base index disp) = base_of base ++ index_of index ++ Sum t4 (base_temp base) (index_temp index) disp ∷ []
address_of (Rel _) = Ref t4 false ∷ []
address_of Canary = micro.Canary t4 ∷ []

-- an immediate as a number of the width, in two's complement
abbrev pub number_of : Width → ℤ → ℕ
number_of w v = cast_unsigned w64 v % 2 ^ bit_count w

-- the value of an operand, in t
abbrev pub value_of : {R : Type 0} → Temp → Width → Operand R → List Micro
value_of t w (operand.Reg r) = Get t w (Low r) ∷ []
value_of t w (operand.Byte r) = Get t w r ∷ []
value_of t w (operand.Mem m) = address_of m ++ Load t w t4 ∷ []
value_of t w (operand.Imm v) = Num t w (number_of w v) ∷ []

-- the address of an operand that is only written
abbrev pub place_of : {R : Type 0} → Operand R → List Micro
place_of (operand.Mem m) = address_of m
place_of _ = []

-- a write of t to an operand whose address is in t4
abbrev pub write_of : {R : Type 0} → Width → Operand R → Temp → List Micro
write_of w (operand.Reg r) t = Put w (Low r) t ∷ []
write_of w (operand.Byte r) t = Put w r t ∷ []
write_of w (operand.Mem _) t = Store w t4 t ∷ []
write_of w (operand.Imm _) t = []

-- ---- Rows of two operands

abbrev pub same_reg : Reg → Reg → Bool
same_reg a b = nat_eq (code_of a) (code_of b)

abbrev pub same_byte : Reg8 → Reg8 → Bool
same_byte (Low a) (Low b) = same_reg a b
same_byte (High a) (High b) = same_reg a b
same_byte _ _ = false

-- one register twice
abbrev pub are_same : {R : Type 0} → Operand R → Operand R → Bool
are_same (operand.Reg a) (operand.Reg b) = same_reg a b
are_same (operand.Byte a) (operand.Byte b) = same_byte a b
are_same _ _ = false

-- the operators that read no register where both operands are the same: no borrow for xor and sub, the borrow CF for sbb
abbrev pub with_itself : AluOp → Option Bool
with_itself alu.Xor = Some false
with_itself alu.Sub = Some false
with_itself alu.Sbb = Some true
with_itself _ = None

abbrev pub writes_result : AluOp → Bool
writes_result alu.Cmp = false
writes_result _ = true

abbrev pub alu_of : {R : Type 0} → AluOp → Width → Operand R → Operand R → List Micro
alu_of op w to from = value_of t1 w from ++ value_of t0 w to ++ Alu op w t2 t0 t1 ∷ [] ++ (if writes_result op then write_of w to t2 else [])

abbrev pub same_of : {R : Type 0} → Bool → Width → Operand R → List Micro
same_of borrow w to = Same borrow w t2 ∷ [] ++ write_of w to t2

abbrev pub alu_or_same : {R : Type 0} → Option Bool → AluOp → Width → Operand R → Operand R → List Micro
alu_or_same None op w to from = alu_of op w to from
alu_or_same (Some borrow) op w to from = if are_same to from then same_of borrow w to else alu_of op w to from

abbrev pub test_of : {R : Type 0} → Width → Operand R → Operand R → List Micro
test_of w e by = value_of t0 w e ++ value_of t1 w by ++ Alu alu.And w t2 t0 t1 ∷ []

abbrev pub exchange_of : {R : Type 0} → Width → Operand R → Operand R → List Micro
exchange_of w e g = value_of t0 w e ++ value_of t1 w g ++ write_of w e t1 ++ write_of w g t0

abbrev pub bit_write : {R : Type 0} → BitOp → Width → Operand R → List Micro
bit_write Bt w at = []
bit_write _ w at = write_of w at t2

abbrev pub bit_of : {R : Type 0} → BitOp → Width → Operand R → Operand R → List Micro
bit_of op w at index = value_of t0 w at ++ value_of t1 w index ++ Bit op w t2 t0 t1 ∷ [] ++ bit_write op w at

-- ---- Moves

abbrev pub move_of : {R : Type 0} → Width → Operand R → Operand R → List Micro
move_of w to from = value_of t0 w from ++ place_of to ++ write_of w to t0

abbrev pub number_move_of : Reg → ℤ → List Micro
number_move_of to v = Num t0 Q (number_of Q v) ∷ Put Q (Low to) t0 ∷ []

abbrev pub extend_of : {R : Type 0} → Bool → Width → Width → Reg → Operand R → List Micro
extend_of signed from_w w to from = value_of t0 from_w from ++ Extend signed from_w w t1 t0 ∷ Put w (Low to) t1 ∷ []

abbrev pub lea_of : {R : Type 0} → Width → Reg → Mem R → List Micro
lea_of w to at = address_of at ++ Put w (Low to) t4 ∷ []

-- the destination is written in either case, so that width L clears its upper half
abbrev pub cmov_of : {R : Type 0} → Cond → Width → Reg → Operand R → List Micro
cmov_of cond w to from = value_of t0 w from ++ Get t1 w (Low to) ∷ Choose cond t2 t0 t1 ∷ Put w (Low to) t2 ∷ []

abbrev pub setcc_of : {R : Type 0} → Cond → Operand R → List Micro
setcc_of cond to = Num t0 B 1 ∷ Num t1 B 0 ∷ Choose cond t2 t0 t1 ∷ [] ++ place_of to ++ write_of B to t2

-- ---- The stack

-- a word pushed: t is stored below %rsp, which is then lowered
abbrev pub push_of : Temp → List Micro
push_of t = Get t1 Q (Low Rsp) ∷ Sum t7 (Some t1) None (negsuc 7) ∷ Store Q t7 t ∷ Put Q (Low Rsp) t7 ∷ []

-- a word popped into t: %rsp is raised after the load
abbrev pub pop_of : Temp → List Micro
pop_of t = Get t1 Q (Low Rsp) ∷ Load t Q t1 ∷ Sum t7 (Some t1) None (pos 8) ∷ Put Q (Low Rsp) t7 ∷ []

-- the value and the address of an operand are those before %rsp is lowered
abbrev pub push_row : {R : Type 0} → Operand R → List Micro
push_row from = value_of t0 Q from ++ push_of t0

-- the address of a destination is that after %rsp is raised
abbrev pub pop_row : {R : Type 0} → Operand R → List Micro
pop_row to = pop_of t0 ++ place_of to ++ write_of Q to t0

-- %rsp takes %rbp's value, and %rbp is popped
abbrev pub leave_row : List Micro
leave_row = Get t1 Q (Low Rbp) ∷ Load t7 Q t1 ∷ Put Q (Low Rbp) t7 ∷ Sum t7 (Some t1) None (pos 8) ∷ Put Q (Low Rsp) t7 ∷ []

-- ---- Jumps, calls and returns

abbrev pub jump_of : Option Cond → List Micro
jump_of cond = Ref t0 true ∷ Go cond t0 ∷ []

-- to the word in t0, from where the next point is the return
abbrev pub call_of : List Micro
call_of = Next t3 ∷ [] ++ push_of t3 ++ Go None t0 ∷ []

abbrev pub jump_to_of : {R : Type 0} → Operand R → List Micro
jump_to_of to = value_of t0 Q to ++ Go None t0 ∷ []

abbrev pub call_to_of : {R : Type 0} → Operand R → List Micro
call_to_of to = value_of t0 Q to ++ call_of

abbrev pub return_of : List Micro
return_of = pop_of t0 ++ Go None t0 ∷ []

-- ---- Arithmetic of one operand, shifts and conversions

-- AH for bytes, and else rdx
abbrev pub high_half : Width → Reg8
high_half B = High Rax
high_half _ = Low Rdx

abbrev pub multiply_of : {R : Type 0} → Bool → Width → Operand R → List Micro
multiply_of signed w at = value_of t0 w at ++ Get t1 w (Low Rax) ∷ Mul signed w t2 t3 t1 t0 ∷ Put w (Low Rax) t2 ∷ Put w (high_half w) t3 ∷ []

abbrev pub divide_of : {R : Type 0} → Bool → Width → Operand R → List Micro
divide_of signed w at = value_of t0 w at ++ Get t1 w (high_half w) ∷ Get t2 w (Low Rax) ∷ Div signed w t2 t3 t1 t2 t0 ∷ Put w (Low Rax) t2 ∷ Put w (high_half w) t3 ∷ []

abbrev pub change_of : {R : Type 0} → OneOp → Width → Operand R → List Micro
change_of op w at = value_of t0 w at ++ One op w t1 t0 ∷ [] ++ write_of w at t1

abbrev pub one_of : {R : Type 0} → OneOp → Width → Operand R → List Micro
one_of one.Mul w at = multiply_of false w at
one_of one.Imul w at = multiply_of true w at
one_of one.Div w at = divide_of false w at
one_of one.Idiv w at = divide_of true w at
one_of op w at = change_of op w at

-- imul of two operands, and of three
abbrev pub imul2_of : {R : Type 0} → Width → Reg → Operand R → List Micro
imul2_of w to from = value_of t0 w from ++ Get t1 w (Low to) ∷ Mul true w t2 t3 t1 t0 ∷ Put w (Low to) t2 ∷ []

abbrev pub imul3_of : {R : Type 0} → Width → Reg → Operand R → ℤ → List Micro
imul3_of w to from by = value_of t0 w from ++ Num t1 w (number_of w by) ∷ Mul true w t2 t3 t0 t1 ∷ Put w (Low to) t2 ∷ []

-- the count is a byte
abbrev pub count_of : Count → Micro
count_of count.Cl = Get t1 B (Low Rcx)
count_of (count.Imm c) = Num t1 B c

abbrev pub shift_of : {R : Type 0} → ShiftOp → Width → Operand R → Count → List Micro
shift_of op w at count = value_of t0 w at ++ count_of count ∷ Shift op w t2 t0 t1 true ∷ [] ++ write_of w at t2

-- rax extended from one width to the next
abbrev pub widened : Width → Width → List Micro
widened from w = Get t0 from (Low Rax) ∷ Extend true from w t1 t0 ∷ Put w (Low Rax) t1 ∷ []

-- rdx filled with the sign of rax: a shift that keeps the flags
abbrev pub signs_of : Width → ℕ → List Micro
signs_of w n = Get t0 w (Low Rax) ∷ Num t1 B n ∷ Shift Sar w t2 t0 t1 false ∷ Put w (Low Rdx) t2 ∷ []

abbrev pub convert_of : Convert → List Micro
convert_of Cbtw = widened B W
convert_of Cwtl = widened W L
convert_of Cltq = widened L Q
convert_of Cwtd = signs_of W 15
convert_of Cltd = signs_of L 31
convert_of Cqto = signs_of Q 63

abbrev pub scan_of : {R : Type 0} → ScanOp → Width → Reg → Operand R → List Micro
scan_of op w to from = value_of t0 w from ++ Scan op w t1 t0 ∷ Put w (Low to) t1 ∷ []

abbrev pub swap_of : Width → Reg → List Micro
swap_of w r = Get t0 w (Low r) ∷ Swap w t1 t0 ∷ Put w (Low r) t1 ∷ []

abbrev pub plain_of : Plain → List Micro
plain_of plain.Ud2 = Trap plain.Ud2 ∷ []
plain_of plain.Int3 = Trap plain.Int3 ∷ []
plain_of plain.Hlt = Trap plain.Hlt ∷ []
plain_of _ = []

-- ---- The small operations of an instruction, in order

abbrev pub micro_of : {R : Type 0} → Insn R → List Micro
micro_of (insn.Alu op w to from) = alu_or_same (with_itself op) op w to from
micro_of (insn.Test w e by) = test_of w e by
micro_of (insn.Xchg w e g) = exchange_of w e g
micro_of (insn.Mov w to from) = move_of w to from
micro_of (insn.MovAbs to v) = number_move_of to v
micro_of (insn.MovZx from_w w to from) = extend_of false from_w w to from
micro_of (insn.MovSx from_w w to from) = extend_of true from_w w to from
micro_of (insn.Lea w to at) = lea_of w to at
micro_of (insn.Push from) = push_row from
micro_of (insn.Pop to) = pop_row to
micro_of (insn.Imul2 w to from) = imul2_of w to from
micro_of (insn.Imul3 w to from by) = imul3_of w to from by
micro_of (insn.One op w at) = one_of op w at
micro_of (insn.Shift op w at count) = shift_of op w at count
micro_of (insn.Convert kind) = convert_of kind
micro_of (insn.Movs w rep) = Elements true w rep ∷ []
micro_of (insn.Stos w rep) = Elements false w rep ∷ []
micro_of (insn.Cmov cond w to from) = cmov_of cond w to from
micro_of (insn.Setcc cond to) = setcc_of cond to
micro_of (insn.Bit op w at index) = bit_of op w at index
micro_of (insn.Scan op w to from) = scan_of op w to from
micro_of (insn.Bswap w r) = swap_of w r
micro_of (insn.Jcc cond _) = jump_of (Some cond)
micro_of (insn.Jmp _) = jump_of None
micro_of (insn.Call _) = Ref t0 true ∷ call_of
micro_of (insn.JmpTo to _) = jump_to_of to
micro_of (insn.CallTo to _) = call_to_of to
micro_of insn.Ret = return_of
micro_of insn.Leave = leave_row
micro_of insn.Syscall = System ∷ []
micro_of (insn.Plain kind) = plain_of kind

-- the ten of a call through memory with base and index: base, index, address, load, the next point, %rsp, its sum with -8,
-- store, put of %rsp, and the go
abbrev pub call_through_memory : Reg → Reg → ℕ → ℤ → List Micro
call_through_memory base index scale disp = Get t5 Q (Low base) ∷ Get t6 Q (Low index) ∷ Sum t4 (Some t5) (Some (t6, scale)) disp ∷ Load t0 Q t4 ∷ Next t3 ∷ Get t1 Q (Low Rsp) ∷ Sum t7 (Some t1) None (negsuc 7) ∷ Store Q t7 t3 ∷ Put Q (Low Rsp) t7 ∷ Go None t0 ∷ []
