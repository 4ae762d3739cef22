-- One spelling of each instruction: the shortest operand without a needless REX byte, the opcode with the operand of
-- ModRM as destination where there are two, and distances of 32 bits. The reference is given as its distance from the
-- next instruction.
use Rattle.std.specs.Prelude.{◌≡◌, IfSome, ℕ, ◌+◌, ◌*◌, ◌%◌, Bool, true, false, ◌&&◌, ◌||◌, not, List, [], ◌∷◌, ◌++◌, Option, Some, None, nat_le, ◌==◌, if◌then◌else◌, ℤ, pos, negsuc}
use Rattle.std.specs.Int.{w8, w16, w32, w64, to_le_bytes, cast_unsigned}
use Rattle.rw_base.specs.declared.width.Width.{Width}
use Rattle.rw_base.specs.declared.width.Width.TheVariants as w
use Rattle.std.specs.Int.RustNames.{FitsSigned}
use Rattle.x86_insn.specs.declared.instruction.Insn.{Insn}
use Rattle.x86_insn.specs.declared.instruction.Insn.TheVariants as i
use Rattle.x86_insn.specs.declared.kinds.AluOp.{AluOp}
use Rattle.x86_insn.specs.declared.kinds.AluOp.TheVariants as alu
use Rattle.x86_insn.specs.declared.kinds.OneOp.{OneOp}
use Rattle.x86_insn.specs.declared.kinds.OneOp.TheVariants as one
use Rattle.x86_insn.specs.declared.kinds.ShiftOp.{ShiftOp}
use Rattle.x86_insn.specs.declared.kinds.ShiftOp.TheVariants as shift
use Rattle.x86_insn.specs.declared.kinds.BitOp.{BitOp}
use Rattle.x86_insn.specs.declared.kinds.BitOp.TheVariants as bt
use Rattle.x86_insn.specs.declared.kinds.ScanOp.{ScanOp}
use Rattle.x86_insn.specs.declared.kinds.ScanOp.TheVariants as scan
use Rattle.x86_insn.specs.declared.kinds.Convert.{Convert}
use Rattle.x86_insn.specs.declared.kinds.Convert.TheVariants as convert
use Rattle.x86_insn.specs.declared.kinds.Plain.{Plain}
use Rattle.x86_insn.specs.declared.kinds.Plain.TheVariants as plain
use Rattle.x86_insn.specs.declared.kinds.Count.{Count}
use Rattle.x86_insn.specs.declared.kinds.Count.TheVariants as count
use Rattle.x86_insn.specs.declared.kinds.Cond.{Cond}
use Rattle.x86_insn.specs.declared.kinds.Cond.TheVariants as c
use Rattle.x86_insn.specs.declared.kinds.Reg.{Reg}
use Rattle.x86_insn.specs.declared.kinds.Reg8.TheVariants.{Low, High}
use Rattle.x86_insn.specs.declared.operands.Mem.{Mem}
use Rattle.x86_insn.specs.declared.operands.Mem.TheVariants as m
use Rattle.x86_insn.specs.declared.operands.Operand.{Operand}
use Rattle.x86_insn.specs.declared.operands.Operand.TheVariants as o
use Rattle.x86_bytes.specs.Head.{rex_bytes}
use Rattle.x86_bytes.specs.Operand.{sib_bytes}
use Rattle.x86_decode.specs.Value.{at_distance}
use Rattle.x86_insn.specs.References.{reference_of}
use Rattle.x86_insn.specs.WellFormed.{code_of, is_extended, is_quad, fits_immediate}

-- ---- REX

abbrev pub bit : Bool → ℕ
bit true = 1
bit false = 0

-- a REX byte, where one of the bits W, R, X and B is set or a byte register asks for it
abbrev pub rex_for : Bool → Bool → Bool → Bool → Bool → Option ℕ
rex_for byte w r x b =
    if byte || (w || (r || (x || b))) then Some (0x40 + (bit w * 8 + (bit r * 4 + (bit x * 2 + bit b)))) else None

-- ---- numbers

abbrev pub one_byte : ℤ → List ℕ
one_byte v = to_le_bytes w8 (cast_unsigned w8 v)

abbrev pub two_bytes : ℤ → List ℕ
two_bytes v = to_le_bytes w16 (cast_unsigned w16 v)

abbrev pub four_bytes : ℤ → List ℕ
four_bytes v = to_le_bytes w32 (cast_unsigned w32 v)

abbrev pub eight_bytes : ℤ → List ℕ
eight_bytes v = to_le_bytes w64 (cast_unsigned w64 v)

-- ---- the operand of ModRM

-- what an operand puts into the bytes: two bits and the low three bits of ModRM, the SIB byte, the displacement,
-- REX.X and REX.B, and the prefix 0x64
pub record Site : Type 0 where
  pub mode : ℕ
  pub low : ℕ
  pub sib : Option ℕ
  pub disp : List ℕ
  pub x : Bool
  pub b : Bool
  pub fs : Bool

abbrev pub site : ℕ → ℕ → Option ℕ → List ℕ → Bool → Bool → Bool → Site
site mode low sib disp x b fs = record { mode = mode; low = low; sib = sib; disp = disp; x = x; b = b; fs = fs }

-- the three bits of a register's code that stand in ModRM, SIB or the opcode
abbrev pub three : Reg → ℕ
three r = code_of r % 8

abbrev pub scale_bits : ℕ → ℕ
scale_bits s = if s == 1 then 0 else if s == 2 then 1 else if s == 4 then 2 else 3

abbrev pub sib_byte : ℕ → ℕ → ℕ → ℕ
sib_byte s i b = s * 64 + (i * 8 + b)

abbrev pub is_zero : ℤ → Bool
is_zero (pos n) = n == 0
is_zero (negsuc n) = false

-- No displacement where it is 0, save with RBP and R13; 8 bits where they are enough; else 32.
abbrev pub mode_of : ℕ → ℤ → ℕ
mode_of base d = if is_zero d && not (base == 5) then 0 else if fits_immediate w.B d then 1 else 2

abbrev pub disp_bytes : ℕ → ℤ → List ℕ
disp_bytes mode d = if mode == 0 then [] else if mode == 1 then one_byte d else four_bytes d

-- A SIB byte stands with an index, with the base RSP or R12, and without a base.
abbrev pub base_sib : ℕ → Option ℕ
base_sib base = if base == 4 then Some 0x24 else None

abbrev pub address_site : Option Reg → Option (Reg × ℕ) → ℤ → Site
address_site None None d = site 0 4 (Some 0x25) (four_bytes d) false false false
address_site None (Some p) d = site 0 4 (Some (sib_byte (scale_bits p.1) (three p.0) 5)) (four_bytes d) (is_extended p.0) false false
address_site (Some b) None d = site (mode_of (three b) d) (three b) (base_sib (three b)) (disp_bytes (mode_of (three b) d) d) false (is_extended b) false
address_site (Some b) (Some p) d = site (mode_of (three b) d) 4 (Some (sib_byte (scale_bits p.1) (three p.0) (three b))) (disp_bytes (mode_of (three b) d) d) (is_extended p.0) (is_extended b) false

-- at a distance of the reference
abbrev pub mem_site : ℤ → Mem ℕ → Site
mem_site d (m.At base index disp) = address_site base index disp
mem_site d (m.Rel r) = site 0 5 None (four_bytes d) false false false
mem_site d m.Canary = site 0 4 (Some 0x25) (four_bytes (pos 40)) false false true

-- The three low bits of a register operand's code, and the bit of REX above them: AH, CH, DH and BH have the codes 4 to 7.
abbrev pub number_of : Operand ℕ → ℕ
number_of (o.Reg r) = three r
number_of (o.Byte (Low r)) = three r
number_of (o.Byte (High r)) = 4 + code_of r
number_of _ = 0

abbrev pub extended_of : Operand ℕ → Bool
extended_of (o.Reg r) = is_extended r
extended_of (o.Byte (Low r)) = is_extended r
extended_of _ = false

-- SPL, BPL, SIL and DIL ask for a REX byte, as R8B to R15B do.
abbrev pub asks_rex : Operand ℕ → Bool
asks_rex (o.Byte (Low r)) = nat_le 4 (code_of r)
asks_rex _ = false

abbrev pub site_of : ℤ → Operand ℕ → Site
site_of d (o.Mem a) = mem_site d a
site_of d e = site 3 (number_of e) None [] false (extended_of e) false

-- the ModRM byte, with these three bits in its middle, and what follows it
abbrev pub modrm_byte : Site → ℕ → ℕ
modrm_byte s n = sib_byte s.mode n s.low

abbrev pub operand_bytes : Site → ℕ → List ℕ
operand_bytes s n = modrm_byte s n ∷ (sib_bytes s.sib ++ s.disp)

-- ---- the bytes of an instruction

abbrev pub prefix_if : ℕ → Bool → List ℕ
prefix_if b true = b ∷ []
prefix_if b false = []

-- the prefixes 0x66, 0x64, 0xF3 and 0x3E
abbrev pub run_of : Bool → Bool → Bool → Bool → List ℕ
run_of word fs f3 ds = prefix_if 0x66 word ++ (prefix_if 0x64 fs ++ (prefix_if 0xF3 f3 ++ prefix_if 0x3E ds))

abbrev pub written : Bool → Bool → Bool → Bool → Option ℕ → List ℕ → List ℕ → List ℕ → List ℕ
written word fs f3 ds rex opcode middle imm = (run_of word fs f3 ds ++ (rex_bytes rex ++ opcode)) ++ (middle ++ imm)

-- the REX byte of an instruction with an operand and a register
abbrev pub rex_of_pair : ℤ → Bool → Operand ℕ → Operand ℕ → Option ℕ
rex_of_pair d w e g = rex_for (asks_rex e || asks_rex g) w (extended_of g) (site_of d e).x (site_of d e).b

-- with an operand, a register g, and the three bits in the middle of ModRM
abbrev pub pair_bytes : ℤ → Bool → Bool → Bool → Bool → Operand ℕ → Operand ℕ → ℕ → List ℕ → List ℕ → List ℕ
pair_bytes d word f3 ds w e g n opcode imm = written word (site_of d e).fs f3 ds (rex_of_pair d w e g) opcode (operand_bytes (site_of d e) n) imm

abbrev pub is_word : Width → Bool
is_word w.W = true
is_word _ = false

-- 1 for the opcodes that follow those of width B
abbrev pub wide : Width → ℕ
wide w.B = 0
wide _ = 1

-- an immediate of the width
abbrev pub imm_bytes : Width → ℤ → List ℕ
imm_bytes w.B v = one_byte v
imm_bytes w.W v = two_bytes v
imm_bytes _ v = four_bytes v

-- with an operand and a register at a width, and no 0xF3 or 0x3E
abbrev pub with_register : ℤ → Width → Operand ℕ → Operand ℕ → List ℕ → List ℕ
with_register d s e g opcode = pair_bytes d (is_word s) false false (is_quad s) e g (number_of g) opcode []

-- with an operand, a number in the middle of ModRM, and an immediate
abbrev pub with_number : ℤ → Width → Operand ℕ → ℕ → List ℕ → List ℕ → List ℕ
with_number d s e n opcode imm = pair_bytes d (is_word s) false false (is_quad s) e (o.Imm (pos 0)) n opcode imm

-- with a register in the low bits of the opcode
abbrev pub with_opcode : Bool → Bool → Operand ℕ → List ℕ → List ℕ → List ℕ
with_opcode word quad r opcode imm = written word false false false (rex_for (asks_rex r) quad false false (extended_of r)) opcode [] imm

-- without an operand
abbrev pub bare : Bool → Bool → Bool → List ℕ → List ℕ → List ℕ
bare word f3 quad opcode imm = written word false f3 false (rex_for false quad false false false) opcode [] imm

-- ---- the numbers of operations

abbrev pub alu_code : AluOp → ℕ
alu_code alu.Add = 0
alu_code alu.Or = 1
alu_code alu.Adc = 2
alu_code alu.Sbb = 3
alu_code alu.And = 4
alu_code alu.Sub = 5
alu_code alu.Xor = 6
alu_code alu.Cmp = 7

abbrev pub one_code : OneOp → ℕ
one_code one.Inc = 0
one_code one.Dec = 1
one_code one.Not = 2
one_code one.Neg = 3
one_code one.Mul = 4
one_code one.Imul = 5
one_code one.Div = 6
one_code one.Idiv = 7

-- 0xFE and 0xFF for inc and dec, 0xF6 and 0xF7 for the others
abbrev pub one_opcode : OneOp → ℕ
one_opcode one.Inc = 0xFE
one_opcode one.Dec = 0xFE
one_opcode _ = 0xF6

abbrev pub shift_code : ShiftOp → ℕ
shift_code shift.Rol = 0
shift_code shift.Ror = 1
shift_code shift.Shl = 4
shift_code shift.Shr = 5
shift_code shift.Sar = 7

abbrev pub bit_code : BitOp → ℕ
bit_code bt.Bt = 4
bit_code bt.Bts = 5
bit_code bt.Btr = 6
bit_code bt.Btc = 7

abbrev pub condition_code : Cond → ℕ
condition_code c.O = 0
condition_code c.No = 1
condition_code c.B = 2
condition_code c.Ae = 3
condition_code c.E = 4
condition_code c.Ne = 5
condition_code c.Be = 6
condition_code c.A = 7
condition_code c.S = 8
condition_code c.Ns = 9
condition_code c.P = 10
condition_code c.Np = 11
condition_code c.L = 12
condition_code c.Ge = 13
condition_code c.Le = 14
condition_code c.G = 15

-- ---- the canonical spelling

-- the number of a bit or of a shift, as one byte
abbrev pub count_byte : ℤ → List ℕ
count_byte (pos n) = n ∷ []
count_byte (negsuc n) = 0 ∷ []

abbrev pub alu_imm : ℤ → AluOp → Width → Operand ℕ → ℤ → List ℕ
alu_imm d op w.B to v = with_number d w.B to (alu_code op) (0x80 ∷ []) (one_byte v)
alu_imm d op s to v =
    if fits_immediate w.B v then with_number d s to (alu_code op) (0x83 ∷ []) (one_byte v)
    else with_number d s to (alu_code op) (0x81 ∷ []) (imm_bytes s v)

abbrev pub alu_bytes : ℤ → AluOp → Width → Operand ℕ → Operand ℕ → List ℕ
alu_bytes d op s to (o.Imm v) = alu_imm d op s to v
alu_bytes d op s to (o.Mem a) = with_register d s (o.Mem a) to ((alu_code op * 8 + (2 + wide s)) ∷ [])
alu_bytes d op s to from = with_register d s to from ((alu_code op * 8 + wide s) ∷ [])

-- An immediate goes into a register by the opcode's low bits, save at width Q.
abbrev pub mov_imm : ℤ → Width → Operand ℕ → ℤ → List ℕ
mov_imm d w.B (o.Byte r) v = with_opcode false false (o.Byte r) ((0xB0 + number_of (o.Byte r)) ∷ []) (one_byte v)
mov_imm d w.W (o.Reg r) v = with_opcode true false (o.Reg r) ((0xB8 + three r) ∷ []) (two_bytes v)
mov_imm d w.L (o.Reg r) v = with_opcode false false (o.Reg r) ((0xB8 + three r) ∷ []) (four_bytes v)
mov_imm d s to v = with_number d s to 0 ((0xC6 + wide s) ∷ []) (imm_bytes s v)

abbrev pub mov_bytes : ℤ → Width → Operand ℕ → Operand ℕ → List ℕ
mov_bytes d s to (o.Imm v) = mov_imm d s to v
mov_bytes d s to (o.Mem a) = with_register d s (o.Mem a) to ((0x8A + wide s) ∷ [])
mov_bytes d s to from = with_register d s to from ((0x88 + wide s) ∷ [])

abbrev pub test_bytes : ℤ → Width → Operand ℕ → Operand ℕ → List ℕ
test_bytes d s e (o.Imm v) = with_number d s e 0 ((0xF6 + wide s) ∷ []) (imm_bytes s v)
test_bytes d s e by = with_register d s e by ((0x84 + wide s) ∷ [])

-- a source of its own width
abbrev pub extend_bytes : ℤ → Width → Reg → Operand ℕ → List ℕ → List ℕ
extend_bytes d s to from opcode = with_register d s from (o.Reg to) opcode

abbrev pub push_bytes : ℤ → Operand ℕ → List ℕ
push_bytes d (o.Reg r) = with_opcode false false (o.Reg r) ((0x50 + three r) ∷ []) []
push_bytes d (o.Imm v) = if fits_immediate w.B v then bare false false false (0x6A ∷ []) (one_byte v) else bare false false false (0x68 ∷ []) (four_bytes v)
push_bytes d e = pair_bytes d false false false false e (o.Imm (pos 0)) 6 (0xFF ∷ []) []

abbrev pub pop_bytes : ℤ → Operand ℕ → List ℕ
pop_bytes d (o.Reg r) = with_opcode false false (o.Reg r) ((0x58 + three r) ∷ []) []
pop_bytes d e = pair_bytes d false false false false e (o.Imm (pos 0)) 0 (0x8F ∷ []) []

abbrev pub shift_bytes : ℤ → ShiftOp → Width → Operand ℕ → Count → List ℕ
shift_bytes d op s at count.Cl = with_number d s at (shift_code op) ((0xD2 + wide s) ∷ []) []
shift_bytes d op s at (count.Imm n) = with_number d s at (shift_code op) ((0xC0 + wide s) ∷ []) (n ∷ [])

abbrev pub bit_bytes : ℤ → BitOp → Width → Operand ℕ → Operand ℕ → List ℕ
bit_bytes d op s at (o.Imm v) = with_number d s at (bit_code op) (0x0F ∷ 0xBA ∷ []) (count_byte v)
bit_bytes d op s at index = with_register d s at index (0x0F ∷ (0x83 + bit_code op * 8) ∷ [])

abbrev pub scan_bytes : ℤ → ScanOp → Width → Reg → Operand ℕ → List ℕ
scan_bytes d scan.Bsf s to from = with_register d s from (o.Reg to) (0x0F ∷ 0xBC ∷ [])
scan_bytes d scan.Bsr s to from = with_register d s from (o.Reg to) (0x0F ∷ 0xBD ∷ [])
scan_bytes d scan.Tzcnt s to from = pair_bytes d (is_word s) true false (is_quad s) from (o.Reg to) (three to) (0x0F ∷ 0xBC ∷ []) []

abbrev pub convert_bytes : Convert → List ℕ
convert_bytes convert.Cbtw = bare true false false (0x98 ∷ []) []
convert_bytes convert.Cwtl = bare false false false (0x98 ∷ []) []
convert_bytes convert.Cltq = bare false false true (0x98 ∷ []) []
convert_bytes convert.Cwtd = bare true false false (0x99 ∷ []) []
convert_bytes convert.Cltd = bare false false false (0x99 ∷ []) []
convert_bytes convert.Cqto = bare false false true (0x99 ∷ []) []

abbrev pub plain_bytes : Plain → List ℕ
plain_bytes plain.Nop = bare false false false (0x90 ∷ []) []
plain_bytes plain.Pause = bare false true false (0x90 ∷ []) []
plain_bytes plain.Endbr64 = written false false true false None (0x0F ∷ 0x1E ∷ []) (0xFA ∷ []) []
plain_bytes plain.Ud2 = bare false false false (0x0F ∷ 0x0B ∷ []) []
plain_bytes plain.Int3 = bare false false false (0xCC ∷ []) []
plain_bytes plain.Hlt = bare false false false (0xF4 ∷ []) []

-- The canonical spelling, where the reference, if there is one, lies at a distance from the next instruction. A value
-- that is no instruction has bytes that mean nothing.
abbrev pub canonical : ℤ → Insn ℕ → List ℕ
canonical d (i.Alu op s to from) = alu_bytes d op s to from
canonical d (i.Test s e by) = test_bytes d s e by
canonical d (i.Xchg s e g) = with_register d s e g ((0x86 + wide s) ∷ [])
canonical d (i.Mov s to from) = mov_bytes d s to from
canonical d (i.MovAbs to v) = with_opcode false true (o.Reg to) ((0xB8 + three to) ∷ []) (eight_bytes v)
canonical d (i.MovZx from_w s to from) = extend_bytes d s to from (0x0F ∷ (0xB6 + wide from_w) ∷ [])
canonical d (i.MovSx w.L s to from) = extend_bytes d s to from (0x63 ∷ [])
canonical d (i.MovSx from_w s to from) = extend_bytes d s to from (0x0F ∷ (0xBE + wide from_w) ∷ [])
canonical d (i.Lea s to at) = with_register d s (o.Mem at) (o.Reg to) (0x8D ∷ [])
canonical d (i.Push from) = push_bytes d from
canonical d (i.Pop to) = pop_bytes d to
canonical d (i.Imul2 s to from) = with_register d s from (o.Reg to) (0x0F ∷ 0xAF ∷ [])
canonical d (i.Imul3 s to from by) = if fits_immediate w.B by then pair_bytes d (is_word s) false false (is_quad s) from (o.Reg to) (three to) (0x6B ∷ []) (one_byte by) else pair_bytes d (is_word s) false false (is_quad s) from (o.Reg to) (three to) (0x69 ∷ []) (imm_bytes s by)
canonical d (i.One op s at) = with_number d s at (one_code op) ((one_opcode op + wide s) ∷ []) []
canonical d (i.Shift op s at count) = shift_bytes d op s at count
canonical d (i.Convert kind) = convert_bytes kind
canonical d (i.Movs s rep) = bare (is_word s) rep (is_quad s) ((0xA4 + wide s) ∷ []) []
canonical d (i.Stos s rep) = bare (is_word s) rep (is_quad s) ((0xAA + wide s) ∷ []) []
canonical d (i.Cmov cond s to from) = with_register d s from (o.Reg to) (0x0F ∷ (0x40 + condition_code cond) ∷ [])
canonical d (i.Setcc cond to) = with_number d w.B to 0 (0x0F ∷ (0x90 + condition_code cond) ∷ []) []
canonical d (i.Bit op s at index) = bit_bytes d op s at index
canonical d (i.Scan op s to from) = scan_bytes d op s to from
canonical d (i.Bswap s r) = with_opcode false (is_quad s) (o.Reg r) (0x0F ∷ (0xC8 + three r) ∷ []) []
canonical d (i.Jcc cond to) = bare false false false (0x0F ∷ (0x80 + condition_code cond) ∷ []) (four_bytes d)
canonical d (i.Jmp to) = bare false false false (0xE9 ∷ []) (four_bytes d)
canonical d (i.Call to) = bare false false false (0xE8 ∷ []) (four_bytes d)
canonical d (i.JmpTo to notrack) = pair_bytes d false false notrack false to (o.Imm (pos 0)) 4 (0xFF ∷ []) []
canonical d (i.CallTo to notrack) = pair_bytes d false false notrack false to (o.Imm (pos 0)) 2 (0xFF ∷ []) []
canonical d i.Ret = bare false false false (0xC3 ∷ []) []
canonical d i.Leave = bare false false false (0xC9 ∷ []) []
canonical d i.Syscall = bare false false false (0x0F ∷ 0x05 ∷ []) []
canonical d (i.Plain kind) = plain_bytes kind

-- ---- numbers in their ranges, which a value of the code always is

-- a displacement has 32 bits
abbrev pub MemInRange : Mem ℕ → Type 0
MemInRange (m.At base index d) = FitsSigned w32 d
MemInRange (m.Rel r) = Unit {0}
MemInRange m.Canary = Unit {0}

abbrev pub OperandInRange : Operand ℕ → Type 0
OperandInRange (o.Mem a) = MemInRange a
OperandInRange _ = Unit {0}

abbrev pub InRange : Insn ℕ → Type 0
InRange (i.Alu op s to from) = OperandInRange to × OperandInRange from
InRange (i.Test s e by) = OperandInRange e
InRange (i.Xchg s e g) = OperandInRange e
InRange (i.Mov s to from) = OperandInRange to × OperandInRange from
InRange (i.MovAbs to v) = FitsSigned w64 v
InRange (i.MovZx from_w s to from) = OperandInRange from
InRange (i.MovSx from_w s to from) = OperandInRange from
InRange (i.Lea s to at) = MemInRange at
InRange (i.Push from) = OperandInRange from
InRange (i.Pop to) = OperandInRange to
InRange (i.Imul2 s to from) = OperandInRange from
InRange (i.Imul3 s to from by) = OperandInRange from
InRange (i.One op s at) = OperandInRange at
InRange (i.Shift op s at count) = OperandInRange at
InRange (i.Cmov cond s to from) = OperandInRange from
InRange (i.Setcc cond to) = OperandInRange to
InRange (i.Bit op s at index) = OperandInRange at
InRange (i.Scan op s to from) = OperandInRange from
InRange (i.JmpTo to notrack) = OperandInRange to
InRange (i.CallTo to notrack) = OperandInRange to
InRange _ = Unit {0}

-- The reference, if there is one, lies at a distance from the next instruction.
abbrev pub LiesAt : ℕ → ℤ → Insn ℕ → Type 0
LiesAt next d insn = IfSome (reference_of insn) (λ r. r ≡ at_distance next d)
