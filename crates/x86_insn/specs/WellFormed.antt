-- Which values are instructions: those that some bytes spell at some address, whatever the reference is.
-- The rules are those of the Intel SDM, volume 2: 2.1.5 on ModRM and SIB, 2.2.1 on REX, and the rows of the opcode
-- maps in appendix A, by E (register or memory), G (register), and I (immediate: 8 bits at width B, 16 at W, else 32).
use Rattle.std.specs.Prelude.{Option, Some, None, ℕ, ℤ, pos, negsuc, int_lt, nat_lt, nat_le, ◌==◌, Bool, true, false, not, ◌&&◌, ◌||◌}
use Rattle.rw_base.specs.declared.width.Width.{Width}
use Rattle.rw_base.specs.declared.width.Width.TheVariants.{B, W, L, Q}
use Rattle.x86_insn.specs.declared.kinds.Reg.{Reg}
use Rattle.x86_insn.specs.declared.kinds.Reg.TheVariants.{Rax, Rcx, Rdx, Rbx, Rsp, Rbp, Rsi, Rdi, R8, R9, R10, R11, R12, R13, R14, R15}
use Rattle.x86_insn.specs.declared.kinds.Reg8.TheVariants.{Low, High}
use Rattle.x86_insn.specs.declared.kinds.Count.{Count}
use Rattle.x86_insn.specs.declared.kinds.Count.TheVariants as count
use Rattle.x86_insn.specs.declared.operands.Mem.{Mem}
use Rattle.x86_insn.specs.declared.operands.Mem.TheVariants.{At, Canary}
use Rattle.x86_insn.specs.declared.operands.Operand.{Operand}
use Rattle.x86_insn.specs.declared.operands.Operand.TheVariants as operand
use Rattle.x86_insn.specs.declared.instruction.Insn.{Insn}
use Rattle.x86_insn.specs.declared.instruction.Insn.TheVariants as insn

-- the code of a register: 0 to 7, and 8 to 15 by a bit of REX
abbrev pub code_of : Reg → ℕ
code_of Rax = 0
code_of Rcx = 1
code_of Rdx = 2
code_of Rbx = 3
code_of Rsp = 4
code_of Rbp = 5
code_of Rsi = 6
code_of Rdi = 7
code_of R8 = 8
code_of R9 = 9
code_of R10 = 10
code_of R11 = 11
code_of R12 = 12
code_of R13 = 13
code_of R14 = 14
code_of R15 = 15

-- a register that only a REX byte reaches
abbrev pub is_extended : Reg → Bool
is_extended r = nat_le 8 (code_of r)

-- at a width, a number that an immediate can hold: 8, 16 or 32 bits with a sign
abbrev pub fits_immediate : Width → ℤ → Bool
fits_immediate B v = not (int_lt v (negsuc 127)) && int_lt v (pos 128)
fits_immediate W v = not (int_lt v (negsuc 32767)) && int_lt v (pos 32768)
fits_immediate _ v = not (int_lt v (negsuc 2147483647)) && int_lt v (pos 2147483648)

-- two bits of SIB
abbrev pub is_scale : ℕ → Bool
is_scale s = s == 1 || s == 2 || s == 4 || s == 8

-- The code of RSP, without REX.X, says that there is no index.
abbrev pub is_index : Option (Reg × ℕ) → Bool
is_index None = true
is_index (Some (Rsp, s)) = false
is_index (Some (_, s)) = is_scale s

abbrev pub is_address : {R : Type 0} → Mem R → Bool
is_address (At _ index _) = is_index index
is_address _ = true

abbrev pub is_canary : {R : Type 0} → Mem R → Bool
is_canary Canary = true
is_canary _ = false

-- a register of this width; AH, CH, DH and BH belong to the codes 0 to 3
abbrev pub is_register : {R : Type 0} → Width → Operand R → Bool
is_register B (operand.Byte (Low _)) = true
is_register B (operand.Byte (High r)) = nat_lt (code_of r) 4
is_register B _ = false
is_register _ (operand.Reg _) = true
is_register _ _ = false

-- a register of this width, or memory
abbrev pub is_place : {R : Type 0} → Width → Operand R → Bool
is_place _ (operand.Mem m) = is_address m
is_place w o = is_register w o

-- an immediate of this width
abbrev pub is_immediate : {R : Type 0} → Width → Operand R → Bool
is_immediate w (operand.Imm v) = fits_immediate w v
is_immediate _ _ = false

-- one of AH, CH, DH and BH, which no REX byte allows
abbrev pub is_high : {R : Type 0} → Operand R → Bool
is_high (operand.Byte (High _)) = true
is_high _ = false

abbrev pub base_needs_rex : Option Reg → Bool
base_needs_rex None = false
base_needs_rex (Some r) = is_extended r

abbrev pub index_needs_rex : Option (Reg × ℕ) → Bool
index_needs_rex None = false
index_needs_rex (Some (r, _)) = is_extended r

-- an operand that only an instruction with a REX byte has: R8 to R15, or SPL, BPL, SIL or DIL
abbrev pub needs_rex : {R : Type 0} → Operand R → Bool
needs_rex (operand.Reg r) = is_extended r
needs_rex (operand.Byte (Low r)) = nat_le 4 (code_of r)
needs_rex (operand.Mem (At base index _)) = base_needs_rex base || index_needs_rex index
needs_rex _ = false

-- two operands of one instruction: none is a high byte beside one that needs a REX byte
abbrev pub go_together : {R : Type 0} → Operand R → Operand R → Bool
go_together a b = not (is_high a && needs_rex b) && not (is_high b && needs_rex a)

-- a place and a register, a register and a place, or a place and an immediate
abbrev pub are_operands : {R : Type 0} → Width → Operand R → Operand R → Bool
are_operands w to from = ((is_place w to && is_register w from) || (is_register w to && is_place w from) || (is_place w to && is_immediate w from)) && go_together to from

abbrev pub is_wide : Width → Bool
is_wide B = false
is_wide _ = true

abbrev pub is_long : Width → Bool
is_long L = true
is_long Q = true
is_long _ = false

abbrev pub is_quad : Width → Bool
is_quad Q = true
is_quad _ = false

-- the widths that an extension goes from and to, that from L to Q apart
abbrev pub extends : Width → Width → Bool
extends B w = is_wide w
extends W w = is_long w
extends _ _ = false

-- Width Q and the registers R8 to R15 need a REX byte.
abbrev pub widens : {R : Type 0} → Width → Width → Reg → Operand R → Bool
widens from_w w to from = is_place from_w from && not (is_high from && (is_quad w || is_extended to))

-- the counts that are left of a byte modulo 64 at width Q, and modulo 32 at the others
abbrev pub is_count : Width → Count → Bool
is_count _ count.Cl = true
is_count Q (count.Imm c) = nat_lt c 64
is_count _ (count.Imm c) = nat_lt c 32

-- a bit of the width, as an immediate; or a register, beside a register alone
abbrev pub is_bit_index : {R : Type 0} → Width → Operand R → Operand R → Bool
is_bit_index W at (operand.Imm v) = not (int_lt v (pos 0)) && int_lt v (pos 16)
is_bit_index L at (operand.Imm v) = not (int_lt v (pos 0)) && int_lt v (pos 32)
is_bit_index Q at (operand.Imm v) = not (int_lt v (pos 0)) && int_lt v (pos 64)
is_bit_index w at index = is_register w at && is_register w index

-- An instruction. Every value of the kinds that have no line here is one.
abbrev pub is_instruction : {R : Type 0} → Insn R → Bool
is_instruction (insn.Alu _ w to from) = are_operands w to from
is_instruction (insn.Test w e by) = is_place w e && (is_register w by || is_immediate w by) && go_together e by
is_instruction (insn.Xchg w e g) = is_place w e && is_register w g && go_together e g
is_instruction (insn.Mov w to from) = are_operands w to from
is_instruction (insn.MovZx from_w w to from) = extends from_w w && widens from_w w to from
is_instruction (insn.MovSx L Q to from) = is_place L from
is_instruction (insn.MovSx from_w w to from) = extends from_w w && widens from_w w to from
is_instruction (insn.Lea w _ at) = is_wide w && is_address at && not (is_canary at)
is_instruction (insn.Push from) = is_place Q from || is_immediate Q from
is_instruction (insn.Pop to) = is_place Q to
is_instruction (insn.Imul2 w _ from) = is_wide w && is_place w from
is_instruction (insn.Imul3 w _ from by) = is_wide w && is_place w from && fits_immediate w by
is_instruction (insn.One _ w at) = is_place w at
is_instruction (insn.Shift _ w at count) = is_place w at && is_count w count
is_instruction (insn.Cmov _ w _ from) = is_wide w && is_place w from
is_instruction (insn.Setcc _ to) = is_place B to
is_instruction (insn.Bit _ w at index) = is_wide w && is_place w at && is_bit_index w at index
is_instruction (insn.Scan _ w _ from) = is_wide w && is_place w from
is_instruction (insn.Bswap w _) = is_long w
is_instruction (insn.JmpTo to _) = is_place Q to
is_instruction (insn.CallTo to _) = is_place Q to
is_instruction _ = true
