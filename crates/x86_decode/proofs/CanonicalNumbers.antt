-- The numbers of operations, immediates and opcodes in canonical spellings are read back as what they stand for.
use Rattle.std.proofs.Common.{◌≡◌, ℕ, zero, suc, ◌+◌, ◌*◌, ◌/◌, ◌%◌, ◌^◌, ◌<◌, Bool, true, false, ◌&&◌, ◌||◌, [], ◌∷◌, refl, ap, ◌∙◌, arith, lit<}
use Rattle.std.specs.Prelude.{int_lt, nat_lt, is_none, not, ℤ, pos, negsuc}
use Rattle.std.specs.Int.{w16, w32, w64, cast_signed, cast_unsigned}
use Rattle.std.specs.Int.RustNames.{FitsSigned}
use Rattle.std.proofs.lemmas.Int.{ints, to_z-of_z}
use Rattle.std.proofs.lemmas.Nat.{from_le_bytes-to_le_bytes_2, from_le_bytes-to_le_bytes_8}
use Rattle.std.proofs.lemmas.Bool.{and_parts, ltb-true}
use Rattle.rw_base.specs.declared.width.Width.{Width}
use Rattle.rw_base.specs.declared.width.Width.TheVariants as w
use Rattle.x86_insn.specs.declared.kinds.AluOp.{AluOp}
use Rattle.x86_insn.specs.declared.kinds.AluOp.TheVariants as alu
use Rattle.x86_insn.specs.declared.kinds.OneOp.{OneOp}
use Rattle.x86_insn.specs.declared.kinds.OneOp.TheVariants as one
use Rattle.x86_insn.specs.declared.kinds.ShiftOp.{ShiftOp}
use Rattle.x86_insn.specs.declared.kinds.ShiftOp.TheVariants as shift
use Rattle.x86_insn.specs.declared.kinds.BitOp.{BitOp}
use Rattle.x86_insn.specs.declared.kinds.BitOp.TheVariants as bt
use Rattle.x86_insn.specs.declared.kinds.Count.TheVariants as count
use Rattle.x86_insn.specs.declared.kinds.Cond.{Cond}
use Rattle.x86_insn.specs.declared.kinds.Cond.TheVariants as c
use Rattle.x86_insn.specs.declared.kinds.Reg8.TheVariants.{Low, High}
use Rattle.x86_insn.specs.declared.operands.Operand.{Operand}
use Rattle.x86_insn.specs.declared.operands.Operand.TheVariants as o
use Rattle.x86_insn.specs.WellFormed.{is_count, is_bit_index, is_register, is_high, is_wide, fits_immediate}
use Rattle.x86_decode.specs.declared.row.Opcodes.TheVariants as opcodes
use Rattle.x86_decode.specs.declared.row.Numbers.TheVariants as numbers
use Rattle.x86_decode.specs.Fits.{is_in, is_number}
use Rattle.x86_decode.specs.Value.{o_code, bits as width_bits, alu_of, one_of, shift_of, bit_of, condition_of, count_of, signed, register_at}
use Rattle.x86_decode.specs.Canonical.{alu_code, one_code, shift_code, bit_code, condition_code, imm_bytes, bit, rex_for, one_byte, two_bytes, four_bytes, eight_bytes, number_of, extended_of, asks_rex}
use Rattle.x86_decode.specs.declared.row.Parts.{Parts}
use Rattle.x86_decode.proofs.CanonicalOperands.{rex_bits, disp_4, disp_1, none_of, register_is}
use Rattle.x86_decode.proofs.CanonicalParts.{IsPlainOpcode}

-- ---- numbers of operations, and immediates

pub record AluOpcode (k : ℕ) (op : AluOp) : Type 0 where
  pub in_row : is_in (opcodes.EveryEighth k) (alu_code op * 8 + k) ≡ true
  pub back : alu_of ((alu_code op * 8 + k) / 8 % 8) ≡ op
  pub plain : IsPlainOpcode (alu_code op * 8 + k) ((alu_code op * 8 + k) ∷ [])

pub alu_opcode_0 : (op : AluOp) → AluOpcode 0 op
alu_opcode_0 alu.Add = record { in_row = refl; back = refl; plain = record { is_opcode = (refl, refl); begins = (refl, refl); are = (lit< tt, tt) } }
alu_opcode_0 alu.Or = record { in_row = refl; back = refl; plain = record { is_opcode = (refl, refl); begins = (refl, refl); are = (lit< tt, tt) } }
alu_opcode_0 alu.Adc = record { in_row = refl; back = refl; plain = record { is_opcode = (refl, refl); begins = (refl, refl); are = (lit< tt, tt) } }
alu_opcode_0 alu.Sbb = record { in_row = refl; back = refl; plain = record { is_opcode = (refl, refl); begins = (refl, refl); are = (lit< tt, tt) } }
alu_opcode_0 alu.And = record { in_row = refl; back = refl; plain = record { is_opcode = (refl, refl); begins = (refl, refl); are = (lit< tt, tt) } }
alu_opcode_0 alu.Sub = record { in_row = refl; back = refl; plain = record { is_opcode = (refl, refl); begins = (refl, refl); are = (lit< tt, tt) } }
alu_opcode_0 alu.Xor = record { in_row = refl; back = refl; plain = record { is_opcode = (refl, refl); begins = (refl, refl); are = (lit< tt, tt) } }
alu_opcode_0 alu.Cmp = record { in_row = refl; back = refl; plain = record { is_opcode = (refl, refl); begins = (refl, refl); are = (lit< tt, tt) } }

pub alu_opcode_1 : (op : AluOp) → AluOpcode 1 op
alu_opcode_1 alu.Add = record { in_row = refl; back = refl; plain = record { is_opcode = (refl, refl); begins = (refl, refl); are = (lit< tt, tt) } }
alu_opcode_1 alu.Or = record { in_row = refl; back = refl; plain = record { is_opcode = (refl, refl); begins = (refl, refl); are = (lit< tt, tt) } }
alu_opcode_1 alu.Adc = record { in_row = refl; back = refl; plain = record { is_opcode = (refl, refl); begins = (refl, refl); are = (lit< tt, tt) } }
alu_opcode_1 alu.Sbb = record { in_row = refl; back = refl; plain = record { is_opcode = (refl, refl); begins = (refl, refl); are = (lit< tt, tt) } }
alu_opcode_1 alu.And = record { in_row = refl; back = refl; plain = record { is_opcode = (refl, refl); begins = (refl, refl); are = (lit< tt, tt) } }
alu_opcode_1 alu.Sub = record { in_row = refl; back = refl; plain = record { is_opcode = (refl, refl); begins = (refl, refl); are = (lit< tt, tt) } }
alu_opcode_1 alu.Xor = record { in_row = refl; back = refl; plain = record { is_opcode = (refl, refl); begins = (refl, refl); are = (lit< tt, tt) } }
alu_opcode_1 alu.Cmp = record { in_row = refl; back = refl; plain = record { is_opcode = (refl, refl); begins = (refl, refl); are = (lit< tt, tt) } }

pub alu_opcode_2 : (op : AluOp) → AluOpcode 2 op
alu_opcode_2 alu.Add = record { in_row = refl; back = refl; plain = record { is_opcode = (refl, refl); begins = (refl, refl); are = (lit< tt, tt) } }
alu_opcode_2 alu.Or = record { in_row = refl; back = refl; plain = record { is_opcode = (refl, refl); begins = (refl, refl); are = (lit< tt, tt) } }
alu_opcode_2 alu.Adc = record { in_row = refl; back = refl; plain = record { is_opcode = (refl, refl); begins = (refl, refl); are = (lit< tt, tt) } }
alu_opcode_2 alu.Sbb = record { in_row = refl; back = refl; plain = record { is_opcode = (refl, refl); begins = (refl, refl); are = (lit< tt, tt) } }
alu_opcode_2 alu.And = record { in_row = refl; back = refl; plain = record { is_opcode = (refl, refl); begins = (refl, refl); are = (lit< tt, tt) } }
alu_opcode_2 alu.Sub = record { in_row = refl; back = refl; plain = record { is_opcode = (refl, refl); begins = (refl, refl); are = (lit< tt, tt) } }
alu_opcode_2 alu.Xor = record { in_row = refl; back = refl; plain = record { is_opcode = (refl, refl); begins = (refl, refl); are = (lit< tt, tt) } }
alu_opcode_2 alu.Cmp = record { in_row = refl; back = refl; plain = record { is_opcode = (refl, refl); begins = (refl, refl); are = (lit< tt, tt) } }

pub alu_opcode_3 : (op : AluOp) → AluOpcode 3 op
alu_opcode_3 alu.Add = record { in_row = refl; back = refl; plain = record { is_opcode = (refl, refl); begins = (refl, refl); are = (lit< tt, tt) } }
alu_opcode_3 alu.Or = record { in_row = refl; back = refl; plain = record { is_opcode = (refl, refl); begins = (refl, refl); are = (lit< tt, tt) } }
alu_opcode_3 alu.Adc = record { in_row = refl; back = refl; plain = record { is_opcode = (refl, refl); begins = (refl, refl); are = (lit< tt, tt) } }
alu_opcode_3 alu.Sbb = record { in_row = refl; back = refl; plain = record { is_opcode = (refl, refl); begins = (refl, refl); are = (lit< tt, tt) } }
alu_opcode_3 alu.And = record { in_row = refl; back = refl; plain = record { is_opcode = (refl, refl); begins = (refl, refl); are = (lit< tt, tt) } }
alu_opcode_3 alu.Sub = record { in_row = refl; back = refl; plain = record { is_opcode = (refl, refl); begins = (refl, refl); are = (lit< tt, tt) } }
alu_opcode_3 alu.Xor = record { in_row = refl; back = refl; plain = record { is_opcode = (refl, refl); begins = (refl, refl); are = (lit< tt, tt) } }
alu_opcode_3 alu.Cmp = record { in_row = refl; back = refl; plain = record { is_opcode = (refl, refl); begins = (refl, refl); are = (lit< tt, tt) } }

pub alu_back : (op : AluOp) → alu_of ((alu_code op + 0) % 8) ≡ op
alu_back alu.Add = refl
alu_back alu.Or = refl
alu_back alu.Adc = refl
alu_back alu.Sbb = refl
alu_back alu.And = refl
alu_back alu.Sub = refl
alu_back alu.Xor = refl
alu_back alu.Cmp = refl

pub alu_small : (op : AluOp) → alu_code op < 8
alu_small alu.Add = lit< tt
alu_small alu.Or = lit< tt
alu_small alu.Adc = lit< tt
alu_small alu.Sbb = lit< tt
alu_small alu.And = lit< tt
alu_small alu.Sub = lit< tt
alu_small alu.Xor = lit< tt
alu_small alu.Cmp = lit< tt

pub signed_1 : (v : ℤ) → fits_immediate w.B v ≡ true → signed (one_byte v) ≡ v
unfolding signed
signed_1 v h = disp_1 v h

pub signed_2 : (v : ℤ) → FitsSigned w16 v → signed (two_bytes v) ≡ v
unfolding signed
signed_2 v f =
    let small : cast_unsigned w16 v < 2 ^ 16 = omega (arith, ints) in
    ap (cast_signed w16) (from_le_bytes-to_le_bytes_2 (cast_unsigned w16 v) small) ∙ to_z-of_z w16 v f

pub signed_4 : (v : ℤ) → FitsSigned w32 v → signed (four_bytes v) ≡ v
unfolding signed
signed_4 v f = disp_4 v f

pub signed_8 : (v : ℤ) → FitsSigned w64 v → signed (eight_bytes v) ≡ v
unfolding signed
signed_8 v f =
    let small : cast_unsigned w64 v < 2 ^ 64 = omega (arith, ints) in
    ap (cast_signed w64) (from_le_bytes-to_le_bytes_8 (cast_unsigned w64 v) small) ∙ to_z-of_z w64 v f

pub fits_16 : (v : ℤ) → fits_immediate w.W v ≡ true → FitsSigned w16 v
fits_16 (pos n) h = record { sfits = grind arith }
fits_16 (negsuc n) h = record { sfits = grind arith }

pub fits_32 : (v : ℤ) → fits_immediate w.L v ≡ true → FitsSigned w32 v
fits_32 (pos n) h = record { sfits = grind arith }
fits_32 (negsuc n) h = record { sfits = grind arith }

pub imm_back : (s : Width) (v : ℤ) → fits_immediate s v ≡ true → signed (imm_bytes s v) ≡ v
imm_back w.B v h = signed_1 v h
imm_back w.W v h = signed_2 v (fits_16 v h)
imm_back w.L v h = signed_4 v (fits_32 v h)
imm_back w.Q v h = signed_4 v (fits_32 v h)

pub is_step : OneOp → Bool
is_step one.Inc = true
is_step one.Dec = true
is_step _ = false

pub one_back : (op : OneOp) → one_of ((one_code op + 0) % 8) ≡ op
one_back one.Inc = refl
one_back one.Dec = refl
one_back one.Not = refl
one_back one.Neg = refl
one_back one.Mul = refl
one_back one.Imul = refl
one_back one.Div = refl
one_back one.Idiv = refl

pub one_small : (op : OneOp) → one_code op < 8
one_small one.Inc = lit< tt
one_small one.Dec = lit< tt
one_small one.Not = lit< tt
one_small one.Neg = lit< tt
one_small one.Mul = lit< tt
one_small one.Imul = lit< tt
one_small one.Div = lit< tt
one_small one.Idiv = lit< tt

pub shift_back : (op : ShiftOp) → shift_of ((shift_code op + 0) % 8) ≡ op
shift_back shift.Rol = refl
shift_back shift.Ror = refl
shift_back shift.Shl = refl
shift_back shift.Shr = refl
shift_back shift.Sar = refl

pub shift_small : (op : ShiftOp) → shift_code op < 8
shift_small shift.Rol = lit< tt
shift_small shift.Ror = lit< tt
shift_small shift.Shl = lit< tt
shift_small shift.Shr = lit< tt
shift_small shift.Sar = lit< tt

pub shift_number : (op : ShiftOp) → is_number numbers.Shifts ((shift_code op + 0) % 8) ≡ true
shift_number shift.Rol = refl
shift_number shift.Ror = refl
shift_number shift.Shl = refl
shift_number shift.Shr = refl
shift_number shift.Sar = refl

pub bit_back : (op : BitOp) → bit_of ((bit_code op + 0) % 8) ≡ op
bit_back bt.Bt = refl
bit_back bt.Bts = refl
bit_back bt.Btr = refl
bit_back bt.Btc = refl

pub bit_small : (op : BitOp) → bit_code op < 8
bit_small bt.Bt = lit< tt
bit_small bt.Bts = lit< tt
bit_small bt.Btr = lit< tt
bit_small bt.Btc = lit< tt

pub bit_number : (op : BitOp) → is_number (numbers.Run 4 7) ((bit_code op + 0) % 8) ≡ true
bit_number bt.Bt = refl
bit_number bt.Bts = refl
bit_number bt.Btr = refl
bit_number bt.Btc = refl

pub record IsCmov (cond : Cond) : Type 0 where
  pub in_row : is_in (opcodes.Run 0x0F40 0x0F4F) (0x0F00 + (0x40 + condition_code cond)) ≡ true
  pub back : condition_of ((0x0F00 + (0x40 + condition_code cond)) % 16) ≡ cond

pub is_cmov : (cond : Cond) → IsCmov cond
is_cmov c.O = record { in_row = refl; back = refl }
is_cmov c.No = record { in_row = refl; back = refl }
is_cmov c.B = record { in_row = refl; back = refl }
is_cmov c.Ae = record { in_row = refl; back = refl }
is_cmov c.E = record { in_row = refl; back = refl }
is_cmov c.Ne = record { in_row = refl; back = refl }
is_cmov c.Be = record { in_row = refl; back = refl }
is_cmov c.A = record { in_row = refl; back = refl }
is_cmov c.S = record { in_row = refl; back = refl }
is_cmov c.Ns = record { in_row = refl; back = refl }
is_cmov c.P = record { in_row = refl; back = refl }
is_cmov c.Np = record { in_row = refl; back = refl }
is_cmov c.L = record { in_row = refl; back = refl }
is_cmov c.Ge = record { in_row = refl; back = refl }
is_cmov c.Le = record { in_row = refl; back = refl }
is_cmov c.G = record { in_row = refl; back = refl }

pub record IsSetcc (cond : Cond) : Type 0 where
  pub in_row : is_in (opcodes.Run 0x0F90 0x0F9F) (0x0F00 + (0x90 + condition_code cond)) ≡ true
  pub back : condition_of ((0x0F00 + (0x90 + condition_code cond)) % 16) ≡ cond

pub is_setcc : (cond : Cond) → IsSetcc cond
is_setcc c.O = record { in_row = refl; back = refl }
is_setcc c.No = record { in_row = refl; back = refl }
is_setcc c.B = record { in_row = refl; back = refl }
is_setcc c.Ae = record { in_row = refl; back = refl }
is_setcc c.E = record { in_row = refl; back = refl }
is_setcc c.Ne = record { in_row = refl; back = refl }
is_setcc c.Be = record { in_row = refl; back = refl }
is_setcc c.A = record { in_row = refl; back = refl }
is_setcc c.S = record { in_row = refl; back = refl }
is_setcc c.Ns = record { in_row = refl; back = refl }
is_setcc c.P = record { in_row = refl; back = refl }
is_setcc c.Np = record { in_row = refl; back = refl }
is_setcc c.L = record { in_row = refl; back = refl }
is_setcc c.Ge = record { in_row = refl; back = refl }
is_setcc c.Le = record { in_row = refl; back = refl }
is_setcc c.G = record { in_row = refl; back = refl }

pub record IsJcc (cond : Cond) : Type 0 where
  pub in_row : is_in (opcodes.Run 0x0F80 0x0F8F) (0x0F00 + (0x80 + condition_code cond)) ≡ true
  pub back : condition_of ((0x0F00 + (0x80 + condition_code cond)) % 16) ≡ cond

pub is_jcc : (cond : Cond) → IsJcc cond
is_jcc c.O = record { in_row = refl; back = refl }
is_jcc c.No = record { in_row = refl; back = refl }
is_jcc c.B = record { in_row = refl; back = refl }
is_jcc c.Ae = record { in_row = refl; back = refl }
is_jcc c.E = record { in_row = refl; back = refl }
is_jcc c.Ne = record { in_row = refl; back = refl }
is_jcc c.Be = record { in_row = refl; back = refl }
is_jcc c.A = record { in_row = refl; back = refl }
is_jcc c.S = record { in_row = refl; back = refl }
is_jcc c.Ns = record { in_row = refl; back = refl }
is_jcc c.P = record { in_row = refl; back = refl }
is_jcc c.Np = record { in_row = refl; back = refl }
is_jcc c.L = record { in_row = refl; back = refl }
is_jcc c.Ge = record { in_row = refl; back = refl }
is_jcc c.Le = record { in_row = refl; back = refl }
is_jcc c.G = record { in_row = refl; back = refl }

pub condition_small : (cond : Cond) → condition_code cond < 16
condition_small c.O = lit< tt
condition_small c.No = lit< tt
condition_small c.B = lit< tt
condition_small c.Ae = lit< tt
condition_small c.E = lit< tt
condition_small c.Ne = lit< tt
condition_small c.Be = lit< tt
condition_small c.A = lit< tt
condition_small c.S = lit< tt
condition_small c.Ns = lit< tt
condition_small c.P = lit< tt
condition_small c.Np = lit< tt
condition_small c.L = lit< tt
condition_small c.Ge = lit< tt
condition_small c.Le = lit< tt
condition_small c.G = lit< tt

pub count_small : (s : Width) (n : ℕ) → is_count s (count.Imm n) ≡ true → n < 256
count_small w.B n h = let small : n < 32 = ltb-true n 32 h in omega arith
count_small w.W n h = let small : n < 32 = ltb-true n 32 h in omega arith
count_small w.L n h = let small : n < 32 = ltb-true n 32 h in omega arith
count_small w.Q n h = let small : n < 64 = ltb-true n 64 h in omega arith

pub bit_index_small : (s : Width) (at : Operand ℕ) (n : ℕ) → is_wide s ≡ true → is_bit_index s at (o.Imm (pos n)) ≡ true → n < 256
bit_index_small w.B at n wide_s h = absurd cc
bit_index_small w.W at n wide_s h = let small : n < 16 = ltb-true n 16 (and_parts (not (int_lt (pos n) (pos 0))) (nat_lt n 16) h).1 in omega arith
bit_index_small w.L at n wide_s h = let small : n < 32 = ltb-true n 32 (and_parts (not (int_lt (pos n) (pos 0))) (nat_lt n 32) h).1 in omega arith
bit_index_small w.Q at n wide_s h = let small : n < 64 = ltb-true n 64 (and_parts (not (int_lt (pos n) (pos 0))) (nat_lt n 64) h).1 in omega arith

pub count_back : (s : Width) (n : ℕ) → is_count s (count.Imm n) ≡ true → count_of s n ≡ n
count_back w.B n h = let small : n < 32 = ltb-true n 32 h in omega arith
count_back w.W n h = let small : n < 32 = ltb-true n 32 h in omega arith
count_back w.L n h = let small : n < 32 = ltb-true n 32 h in omega arith
count_back w.Q n h = let small : n < 64 = ltb-true n 64 h in omega arith

pub bit_index_back : (s : Width) (at : Operand ℕ) (n : ℕ) → is_wide s ≡ true → is_bit_index s at (o.Imm (pos n)) ≡ true → n % width_bits s ≡ n
bit_index_back w.B at n wide_s h = absurd cc
bit_index_back w.W at n wide_s h = let small : n < 16 = ltb-true n 16 (and_parts (not (int_lt (pos n) (pos 0))) (nat_lt n 16) h).1 in omega arith
bit_index_back w.L at n wide_s h = let small : n < 32 = ltb-true n 32 (and_parts (not (int_lt (pos n) (pos 0))) (nat_lt n 32) h).1 in omega arith
bit_index_back w.Q at n wide_s h = let small : n < 64 = ltb-true n 64 (and_parts (not (int_lt (pos n) (pos 0))) (nat_lt n 64) h).1 in omega arith

-- ---- opcodes that hold a register in their low bits

pub below_8 : (P : ℕ → Type 0) → P 0 → P 1 → P 2 → P 3 → P 4 → P 5 → P 6 → P 7 → (t : ℕ) → t < 8 → P t
below_8 P a b c d e f g h zero k = a
below_8 P a b c d e f g h (suc zero) k = b
below_8 P a b c d e f g h (suc (suc zero)) k = c
below_8 P a b c d e f g h (suc (suc (suc zero))) k = d
below_8 P a b c d e f g h (suc (suc (suc (suc zero)))) k = e
below_8 P a b c d e f g h (suc (suc (suc (suc (suc zero))))) k = f
below_8 P a b c d e f g h (suc (suc (suc (suc (suc (suc zero)))))) k = g
below_8 P a b c d e f g h (suc (suc (suc (suc (suc (suc (suc zero))))))) k = h
below_8 P a b c d e f g h (suc (suc (suc (suc (suc (suc (suc (suc n)))))))) k = absurd (omega arith)

pub record IsLowOpcode (first t : ℕ) : Type 0 where
  pub in_row : is_in (opcodes.Run first (first + 7)) (first + t) ≡ true
  pub plain : IsPlainOpcode (first + t) ((first + t) ∷ [])
  pub low : (first + t) % 8 ≡ t

pub low_opcode_50 : (t : ℕ) → t < 8 → IsLowOpcode 0x50 t
low_opcode_50 t h =
    below_8 (λ t. IsLowOpcode 0x50 t)
    (record { in_row = refl; plain = record { is_opcode = (refl, refl); begins = (refl, refl); are = (lit< tt, tt) }; low = refl })
    (record { in_row = refl; plain = record { is_opcode = (refl, refl); begins = (refl, refl); are = (lit< tt, tt) }; low = refl })
    (record { in_row = refl; plain = record { is_opcode = (refl, refl); begins = (refl, refl); are = (lit< tt, tt) }; low = refl })
    (record { in_row = refl; plain = record { is_opcode = (refl, refl); begins = (refl, refl); are = (lit< tt, tt) }; low = refl })
    (record { in_row = refl; plain = record { is_opcode = (refl, refl); begins = (refl, refl); are = (lit< tt, tt) }; low = refl })
    (record { in_row = refl; plain = record { is_opcode = (refl, refl); begins = (refl, refl); are = (lit< tt, tt) }; low = refl })
    (record { in_row = refl; plain = record { is_opcode = (refl, refl); begins = (refl, refl); are = (lit< tt, tt) }; low = refl })
    (record { in_row = refl; plain = record { is_opcode = (refl, refl); begins = (refl, refl); are = (lit< tt, tt) }; low = refl })
    t h

pub low_opcode_58 : (t : ℕ) → t < 8 → IsLowOpcode 0x58 t
low_opcode_58 t h =
    below_8 (λ t. IsLowOpcode 0x58 t)
    (record { in_row = refl; plain = record { is_opcode = (refl, refl); begins = (refl, refl); are = (lit< tt, tt) }; low = refl })
    (record { in_row = refl; plain = record { is_opcode = (refl, refl); begins = (refl, refl); are = (lit< tt, tt) }; low = refl })
    (record { in_row = refl; plain = record { is_opcode = (refl, refl); begins = (refl, refl); are = (lit< tt, tt) }; low = refl })
    (record { in_row = refl; plain = record { is_opcode = (refl, refl); begins = (refl, refl); are = (lit< tt, tt) }; low = refl })
    (record { in_row = refl; plain = record { is_opcode = (refl, refl); begins = (refl, refl); are = (lit< tt, tt) }; low = refl })
    (record { in_row = refl; plain = record { is_opcode = (refl, refl); begins = (refl, refl); are = (lit< tt, tt) }; low = refl })
    (record { in_row = refl; plain = record { is_opcode = (refl, refl); begins = (refl, refl); are = (lit< tt, tt) }; low = refl })
    (record { in_row = refl; plain = record { is_opcode = (refl, refl); begins = (refl, refl); are = (lit< tt, tt) }; low = refl })
    t h

pub low_opcode_B0 : (t : ℕ) → t < 8 → IsLowOpcode 0xB0 t
low_opcode_B0 t h =
    below_8 (λ t. IsLowOpcode 0xB0 t)
    (record { in_row = refl; plain = record { is_opcode = (refl, refl); begins = (refl, refl); are = (lit< tt, tt) }; low = refl })
    (record { in_row = refl; plain = record { is_opcode = (refl, refl); begins = (refl, refl); are = (lit< tt, tt) }; low = refl })
    (record { in_row = refl; plain = record { is_opcode = (refl, refl); begins = (refl, refl); are = (lit< tt, tt) }; low = refl })
    (record { in_row = refl; plain = record { is_opcode = (refl, refl); begins = (refl, refl); are = (lit< tt, tt) }; low = refl })
    (record { in_row = refl; plain = record { is_opcode = (refl, refl); begins = (refl, refl); are = (lit< tt, tt) }; low = refl })
    (record { in_row = refl; plain = record { is_opcode = (refl, refl); begins = (refl, refl); are = (lit< tt, tt) }; low = refl })
    (record { in_row = refl; plain = record { is_opcode = (refl, refl); begins = (refl, refl); are = (lit< tt, tt) }; low = refl })
    (record { in_row = refl; plain = record { is_opcode = (refl, refl); begins = (refl, refl); are = (lit< tt, tt) }; low = refl })
    t h

pub low_opcode_B8 : (t : ℕ) → t < 8 → IsLowOpcode 0xB8 t
low_opcode_B8 t h =
    below_8 (λ t. IsLowOpcode 0xB8 t)
    (record { in_row = refl; plain = record { is_opcode = (refl, refl); begins = (refl, refl); are = (lit< tt, tt) }; low = refl })
    (record { in_row = refl; plain = record { is_opcode = (refl, refl); begins = (refl, refl); are = (lit< tt, tt) }; low = refl })
    (record { in_row = refl; plain = record { is_opcode = (refl, refl); begins = (refl, refl); are = (lit< tt, tt) }; low = refl })
    (record { in_row = refl; plain = record { is_opcode = (refl, refl); begins = (refl, refl); are = (lit< tt, tt) }; low = refl })
    (record { in_row = refl; plain = record { is_opcode = (refl, refl); begins = (refl, refl); are = (lit< tt, tt) }; low = refl })
    (record { in_row = refl; plain = record { is_opcode = (refl, refl); begins = (refl, refl); are = (lit< tt, tt) }; low = refl })
    (record { in_row = refl; plain = record { is_opcode = (refl, refl); begins = (refl, refl); are = (lit< tt, tt) }; low = refl })
    (record { in_row = refl; plain = record { is_opcode = (refl, refl); begins = (refl, refl); are = (lit< tt, tt) }; low = refl })
    t h

pub record IsBswapOpcode (t : ℕ) : Type 0 where
  pub in_row : is_in (opcodes.Run 0x0FC8 0x0FCF) (0x0F00 + (0xC8 + t)) ≡ true
  pub low : (0x0F00 + (0xC8 + t)) % 8 ≡ t

pub bswap_opcode : (t : ℕ) → t < 8 → IsBswapOpcode t
bswap_opcode t h =
    below_8 IsBswapOpcode
    (record { in_row = refl; low = refl })
    (record { in_row = refl; low = refl })
    (record { in_row = refl; low = refl })
    (record { in_row = refl; low = refl })
    (record { in_row = refl; low = refl })
    (record { in_row = refl; low = refl })
    (record { in_row = refl; low = refl })
    (record { in_row = refl; low = refl })
    t h

pub asks_none : (a b : Bool) → (a && not (a || b)) ≡ false
asks_none true b = refl
asks_none false b = refl

pub high_none : (g : Operand ℕ) (quad : Bool) → (is_high g && quad) ≡ false → (is_high g && not (is_none (rex_for (asks_rex g) quad false false (extended_of g)))) ≡ false
high_none (o.Byte (High r)) quad h = rw h refl
high_none (o.Byte (Low r)) quad h = refl
high_none (o.Reg r) quad h = refl
high_none (o.Mem a) quad h = refl
high_none (o.Imm v) quad h = refl

pub opcode_register : (s : Width) (g : Operand ℕ) (quad : Bool) → is_register s g ≡ true → (is_high g && quad) ≡ false → register_at s (rex_for (asks_rex g) quad false false (extended_of g)) (number_of g + bit (extended_of g) * 8) ≡ g
opcode_register s g quad h narrow =
    register_is s g (rex_for (asks_rex g) quad false false (extended_of g)) h
    (rw (none_of (asks_rex g) quad false false (extended_of g)) (asks_none (asks_rex g) (quad || (false || (false || extended_of g)))))
    (high_none g quad narrow)

-- the code of the register in an opcode
pub o_code_is : (p : Parts) (byte quad b : Bool) (o t : ℕ) → p.fields.rex ≡ rex_for byte quad false false b → p.fields.opcode ≡ o → o % 8 ≡ t → o_code p ≡ t + bit b * 8
o_code_is p byte quad b o t px po low = rw (px, po, low, (rex_bits byte quad false false b).b_is) refl

pub o_at : (s : Width) (g : Operand ℕ) (quad : Bool) (p : Parts) (o : ℕ) → is_register s g ≡ true → (is_high g && quad) ≡ false → p.fields.rex ≡ rex_for (asks_rex g) quad false false (extended_of g) → p.fields.opcode ≡ o → o % 8 ≡ number_of g → register_at s p.fields.rex (o_code p) ≡ g
o_at s g quad p o h narrow px po low = rw (o_code_is p (asks_rex g) quad (extended_of g) o (number_of g) px po low, px) (opcode_register s g quad h narrow)
