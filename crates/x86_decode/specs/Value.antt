-- The instruction that a row gives for the parts of its bytes: operands destination first, immediates sign-extended,
-- targets and addresses relative to the next instruction as absolute addresses modulo 2^64, shift counts modulo 32 or 64
-- and bit numbers modulo the width (Intel SDM vol. 2, the instructions' pages; RIP-relative: 2.2.1.6).
use Rattle.std.specs.Prelude.{ℕ, ◌+◌, ◌*◌, ◌/◌, ◌%◌, ◌-◌, ◌^◌, Bool, ◌&&◌, List, [], ◌∷◌, Option, Some, None, is_none, nat_le, nat_lt, ◌==◌, slice_get, unwrap_or, if◌then◌else◌, ℤ, pos}
use Rattle.std.specs.Int.{w8, w16, w32, w64, from_le_bytes, cast_signed, cast_unsigned}
use Rattle.x86_insn.specs.declared.instruction.Insn.{Insn}
use Rattle.x86_insn.specs.declared.instruction.Insn.TheVariants as i
use Rattle.x86_insn.specs.declared.operands.Operand.{Operand}
use Rattle.x86_insn.specs.declared.operands.Operand.TheVariants as o
use Rattle.x86_insn.specs.declared.operands.Mem.{Mem}
use Rattle.x86_insn.specs.declared.operands.Mem.TheVariants as m
use Rattle.x86_insn.specs.declared.kinds.Reg.{Reg}
use Rattle.x86_insn.specs.declared.kinds.Reg.TheVariants.{Rax}
use Rattle.x86_insn.specs.declared.kinds.Reg8.{Reg8}
use Rattle.x86_insn.specs.declared.kinds.Reg8.TheVariants.{Low, High}
use Rattle.rw_base.specs.declared.width.Width.{Width}
use Rattle.rw_base.specs.declared.width.Width.TheVariants as w
use Rattle.x86_insn.specs.declared.kinds.AluOp.{AluOp}
use Rattle.x86_insn.specs.declared.kinds.AluOp.TheVariants as alu
use Rattle.x86_insn.specs.declared.kinds.OneOp.{OneOp}
use Rattle.x86_insn.specs.declared.kinds.OneOp.TheVariants as one
use Rattle.x86_insn.specs.declared.kinds.ShiftOp.{ShiftOp}
use Rattle.x86_insn.specs.declared.kinds.ShiftOp.TheVariants as shift
use Rattle.x86_insn.specs.declared.kinds.BitOp.{BitOp}
use Rattle.x86_insn.specs.declared.kinds.BitOp.TheVariants as bit
use Rattle.x86_insn.specs.declared.kinds.Convert.{Convert}
use Rattle.x86_insn.specs.declared.kinds.Convert.TheVariants as convert
use Rattle.x86_insn.specs.declared.kinds.Count.TheVariants as count
use Rattle.x86_insn.specs.declared.kinds.Cond.{Cond}
use Rattle.x86_insn.specs.Codes.{registers, conditions, first_register, first_condition}
use Rattle.x86_bytes.specs.declared.parts.RawMem.{RawMem}
use Rattle.x86_bytes.specs.declared.parts.Rm.{Rm}
use Rattle.x86_bytes.specs.declared.parts.Rm.TheVariants as rm
use Rattle.x86_decode.specs.declared.row.Parts.{Parts}
use Rattle.x86_decode.specs.declared.row.Form.{Form}
use Rattle.x86_decode.specs.declared.row.Form.TheVariants as form
use Rattle.x86_decode.specs.declared.row.Name.{Name}
use Rattle.x86_decode.specs.declared.row.Name.TheVariants as name
use Rattle.x86_decode.specs.Fits.{rex_of}

-- ---- numbers

-- a number of 1, 2, 4 or 8 bytes with its sign, lowest byte first, and 0 where there is none
unfoldable pub signed : List ℕ → ℤ
signed [] = pos 0
signed (a ∷ []) = cast_signed w8 a
signed (a ∷ b ∷ []) = cast_signed w16 (from_le_bytes w16 (a ∷ b ∷ []))
signed (a ∷ b ∷ c ∷ d ∷ []) = cast_signed w32 (from_le_bytes w32 (a ∷ b ∷ c ∷ d ∷ []))
signed (a ∷ b ∷ c ∷ d ∷ e ∷ f ∷ g ∷ h ∷ []) = cast_signed w64 (from_le_bytes w64 (a ∷ b ∷ c ∷ d ∷ e ∷ f ∷ g ∷ h ∷ []))
signed _ = pos 0

-- a distance from an address, modulo 2^64
abbrev pub at_distance : ℕ → ℤ → ℕ
at_distance next d = (next + cast_unsigned w64 d) % 2 ^ 64

abbrev pub bits : Width → ℕ
bits w.B = 8
bits w.W = 16
bits w.L = 32
bits w.Q = 64

-- ---- codes (Intel SDM vol. 2, table 3-1 for registers, table B-10 for conditions)

abbrev pub register_of : ℕ → Reg
register_of c = unwrap_or (slice_get registers c) first_register

abbrev pub condition_of : ℕ → Cond
condition_of c = unwrap_or (slice_get conditions c) first_condition

-- Codes 4 to 7 are the second bytes of the first four registers, unless there is a REX byte.
abbrev pub byte_of : Option ℕ → ℕ → Reg8
byte_of rex c = if is_none rex && (nat_le 4 c && nat_lt c 8) then High (register_of (c - 4)) else Low (register_of c)

abbrev pub register_at : Width → Option ℕ → ℕ → Operand ℕ
register_at w.B rex c = o.Byte (byte_of rex c)
register_at _ rex c = o.Reg (register_of c)

abbrev pub base_at : Option ℕ → Option Reg
base_at None = None
base_at (Some c) = Some (register_of c)

abbrev pub index_at : Option (ℕ × ℕ) → Option (Reg × ℕ)
index_at None = None
index_at (Some p) = Some (register_of p.0, p.1)

-- the place in memory that an operand names, as 64 or RIP or registers say
abbrev pub memory_at : Bool → ℕ → RawMem → Mem ℕ
memory_at fs next raw = if fs then m.Canary else if raw.rip then m.Rel (at_distance next raw.disp) else m.At (base_at raw.base) (index_at raw.index) raw.disp

-- ---- operands: E, G, A, O and I

abbrev pub e_at : Width → Parts → Rm → Operand ℕ
e_at s p (rm.Reg c) = register_at s p.fields.rex c
e_at s p (rm.Mem raw) = o.Mem (memory_at p.fields.fs p.next raw)

abbrev pub e_of : Width → Parts → Operand ℕ
e_of s p = e_at s p p.rm

abbrev pub place_at : Parts → Rm → Mem ℕ
place_at p (rm.Reg c) = m.Canary
place_at p (rm.Mem raw) = memory_at p.fields.fs p.next raw

abbrev pub g_of : Width → Parts → Operand ℕ
g_of s p = register_at s p.fields.rex p.reg

-- the register of the opcode's low bits
abbrev pub o_code : Parts → ℕ
o_code p = p.fields.opcode % 8 + rex_of p.fields.rex % 2 * 8

abbrev pub o_of : Width → Parts → Operand ℕ
o_of s p = register_at s p.fields.rex (o_code p)

abbrev pub a_of : Width → Operand ℕ
a_of w.B = o.Byte (Low Rax)
a_of _ = o.Reg Rax

abbrev pub i_of : Parts → Operand ℕ
i_of p = o.Imm p.imm

-- the two operands, destination first
abbrev pub operands_of : Form → Width → Parts → Operand ℕ × Operand ℕ
operands_of form.EG s p = (e_of s p, g_of s p)
operands_of form.GE s p = (g_of s p, e_of s p)
operands_of form.AI s p = (a_of s, i_of p)
operands_of form.EI s p = (e_of s p, i_of p)
operands_of form.OI s p = (o_of s p, i_of p)
operands_of form.OA s p = (o_of s p, a_of s)
operands_of form.IA s p = (i_of p, a_of s)

-- ---- operations by their numbers

abbrev pub alu_of : ℕ → AluOp
alu_of n = if n == 0 then alu.Add else if n == 1 then alu.Or else if n == 2 then alu.Adc else if n == 3 then alu.Sbb else if n == 4 then alu.And else if n == 5 then alu.Sub else if n == 6 then alu.Xor else alu.Cmp

abbrev pub one_of : ℕ → OneOp
one_of n = if n == 0 then one.Inc else if n == 1 then one.Dec else if n == 2 then one.Not else if n == 3 then one.Neg else if n == 4 then one.Mul else if n == 5 then one.Imul else if n == 6 then one.Div else one.Idiv

abbrev pub shift_of : ℕ → ShiftOp
shift_of n = if n == 0 then shift.Rol else if n == 1 then shift.Ror else if n == 4 then shift.Shl else if n == 5 then shift.Shr else shift.Sar

abbrev pub bit_of : ℕ → BitOp
bit_of n = if n == 4 then bit.Bt else if n == 5 then bit.Bts else if n == 6 then bit.Btr else bit.Btc

abbrev pub widen_of : Width → Convert
widen_of w.W = convert.Cbtw
widen_of w.Q = convert.Cltq
widen_of _ = convert.Cwtl

abbrev pub spread_of : Width → Convert
spread_of w.W = convert.Cwtd
spread_of w.Q = convert.Cqto
spread_of _ = convert.Cltd

-- a shift's count, modulo 64 at width Q and else modulo 32
abbrev pub count_of : Width → ℕ → ℕ
count_of w.Q b = b % 64
count_of _ b = b % 32

-- ---- rows

unfoldable pub value : Name → Form → Parts → Insn ℕ
value name.AluByOpcode f p = i.Alu (alu_of (p.fields.opcode / 8 % 8)) p.w (operands_of f p.w p).0 (operands_of f p.w p).1
value name.AluByNumber f p = i.Alu (alu_of (p.reg % 8)) p.w (operands_of f p.w p).0 (operands_of f p.w p).1
value name.Test f p = i.Test p.w (operands_of f p.w p).0 (operands_of f p.w p).1
value name.Xchg f p = i.Xchg p.w (operands_of f p.w p).0 (operands_of f p.w p).1
value name.Mov f p = i.Mov p.w (operands_of f p.w p).0 (operands_of f p.w p).1
value name.MovAbs f p = i.MovAbs (register_of (o_code p)) p.imm
value name.Lea f p = i.Lea p.w (register_of p.reg) (place_at p p.rm)
value (name.MovZx from) f p = i.MovZx from p.w (register_of p.reg) (e_of from p)
value (name.MovSx from) f p = i.MovSx from p.w (register_of p.reg) (e_of from p)
value name.Push f p = i.Push (operands_of f p.w p).0
value name.Pop f p = i.Pop (operands_of f p.w p).0
value name.Imul2 f p = i.Imul2 p.w (register_of p.reg) (e_of p.w p)
value name.Imul3 f p = i.Imul3 p.w (register_of p.reg) (e_of p.w p) p.imm
value name.One f p = i.One (one_of (p.reg % 8)) p.w (e_of p.w p)
value name.ShiftImm f p = i.Shift (shift_of (p.reg % 8)) p.w (e_of p.w p) (count.Imm (count_of p.w p.byte))
value name.ShiftOne f p = i.Shift (shift_of (p.reg % 8)) p.w (e_of p.w p) (count.Imm 1)
value name.ShiftCl f p = i.Shift (shift_of (p.reg % 8)) p.w (e_of p.w p) count.Cl
value name.Widen f p = i.Convert (widen_of p.w)
value name.Spread f p = i.Convert (spread_of p.w)
value name.Movs f p = i.Movs p.w p.fields.f3
value name.Stos f p = i.Stos p.w p.fields.f3
value name.Cmov f p = i.Cmov (condition_of (p.fields.opcode % 16)) p.w (register_of p.reg) (e_of p.w p)
value name.Setcc f p = i.Setcc (condition_of (p.fields.opcode % 16)) (e_of p.w p)
value (name.Bit op) f p = i.Bit op p.w (e_of p.w p) (g_of p.w p)
value name.BitByNumber f p = i.Bit (bit_of (p.reg % 8)) p.w (e_of p.w p) (o.Imm (pos (p.byte % bits p.w)))
value (name.Scan op) f p = i.Scan op p.w (register_of p.reg) (e_of p.w p)
value name.Bswap f p = i.Bswap p.w (register_of (o_code p))
value name.Jcc f p = i.Jcc (condition_of (p.fields.opcode % 16)) (at_distance p.next p.imm)
value name.Jmp f p = i.Jmp (at_distance p.next p.imm)
value name.Call f p = i.Call (at_distance p.next p.imm)
value name.JmpTo f p = i.JmpTo (e_of p.w p) p.fields.ds
value name.CallTo f p = i.CallTo (e_of p.w p) p.fields.ds
value name.Ret f p = i.Ret
value name.Leave f p = i.Leave
value name.Syscall f p = i.Syscall
value (name.Plain x) f p = i.Plain x
