-- The operators over plain numbers, with their flags, as the Intel Software Developer's Manual, volume 2, has
-- them for each instruction. A number of a width is below 2 to its number of bits. Each operator reduces what it
-- is given to the width first.
use Rattle.std.specs.Prelude.{ℕ, ◌+◌, ◌-◌, ◌*◌, ◌/◌, ◌%◌, ◌^◌, Bool, true, false, not, ◌&&◌, nat_eq, nat_lt, nat_le, if◌then◌else◌, bit_and, bit_or, bit_xor, count_ones, ℤ, pos, neg_ℤ, ◌+ℤ◌, ◌-ℤ◌, ◌*ℤ◌, int_lt, int_le, int_div, int_rem, unsigned_abs, List, take, reverse, Option, Some, None, Result, Ok, Err}
use Rattle.std.specs.Int.{int_div_euclid, int_rem_euclid, int_shr}
use lib.Count.{count_leading_zeros, count_trailing_zeros}
use Rattle.rw_base.specs.declared.width.Width.{Width}
use Rattle.rw_base.specs.declared.width.Width.TheVariants.{B, W, L, Q}
use Rattle.rw_base.specs.Width.{byte_count, bit_count}
use Rattle.rw_words.specs.Words.{bytes_of, number_of_bytes}
use Rattle.x86_insn.specs.declared.kinds.AluOp.{AluOp}
use Rattle.x86_insn.specs.declared.kinds.AluOp.TheVariants.{Add, Or, Adc, Sbb, And, Sub, Xor, Cmp}
use Rattle.x86_insn.specs.declared.kinds.OneOp.{OneOp}
use Rattle.x86_insn.specs.declared.kinds.OneOp.TheVariants.{Inc, Dec, Not, Neg, Mul, Imul, Div, Idiv}
use Rattle.x86_insn.specs.declared.kinds.ShiftOp.{ShiftOp}
use Rattle.x86_insn.specs.declared.kinds.ShiftOp.TheVariants.{Rol, Ror, Shl, Shr, Sar}
use Rattle.x86_insn.specs.declared.kinds.BitOp.{BitOp}
use Rattle.x86_insn.specs.declared.kinds.BitOp.TheVariants.{Bt, Bts, Btr, Btc}
use Rattle.x86_insn.specs.declared.kinds.ScanOp.{ScanOp}
use Rattle.x86_insn.specs.declared.kinds.ScanOp.TheVariants.{Bsf, Bsr, Tzcnt}
use Rattle.rw_domain.specs.declared.cause.Cause.{Cause}
use Rattle.rw_domain.specs.declared.cause.Cause.TheVariants.{FlagUnknown}
use Rattle.rw_domain.specs.declared.flags.Flags.{Flags}
use Rattle.rw_domain.specs.declared.flags.Tri.{Tri}
use Rattle.rw_domain.specs.declared.flags.Tri.TheVariants.{Yes, No, Unknown}

-- ---- numbers of a width

-- how many there are
abbrev pub modulus : Width → ℕ
modulus w = 2 ^ bit_count w

-- the low bits of a number
abbrev pub low : Width → ℕ → ℕ
low w n = n % modulus w

-- the numbers from this one on have the sign bit
abbrev pub half : Width → ℕ
half w = 2 ^ (bit_count w - 1)

abbrev pub is_negative : Width → ℕ → Bool
is_negative w n = nat_le (half w) (low w n)

-- a number as two's complement
abbrev pub signed_value : Width → ℕ → ℤ
signed_value w n = if is_negative w n then pos (low w n) -ℤ pos (modulus w) else pos (low w n)

-- the number of the width that is a signed number, modulo 2 to the number of bits
abbrev pub wrapped_number : Width → ℤ → ℕ
wrapped_number w z = unsigned_abs (int_rem_euclid z (pos (modulus w)))

-- a signed number is one of the width
abbrev pub fits_signed : Width → ℤ → Bool
fits_signed w z = int_le (neg_ℤ (pos (half w))) z && int_lt z (pos (half w))

abbrev pub is_odd : ℕ → Bool
is_odd n = nat_eq (n % 2) 1

-- ---- flags

abbrev pub tri : Bool → Tri
tri true = Yes
tri false = No

abbrev pub is_same : Bool → Bool → Bool
is_same true b = b
is_same false b = not b

-- the lowest byte has an even number of ones
abbrev pub has_even_parity : ℕ → Bool
has_even_parity n = nat_eq (count_ones (n % 256) % 2) 0

-- the flags of a result, where all five are set
abbrev pub flags_of : Width → Bool → Bool → ℕ → Flags
flags_of w carry overflow n = record {
  cf = tri carry;
  zf = tri (nat_eq n 0);
  sf = tri (is_negative w n);
  of = tri overflow;
  pf = tri (has_even_parity n);
}

abbrev pub with_cf : Tri → ℕ × Flags → ℕ × Flags
with_cf cf answer = (answer.0, record answer.1 { cf = cf })

-- ---- add, or, adc, sbb, and, sub, xor, cmp

abbrev pub bit_value : Bool → ℕ
bit_value true = 1
bit_value false = 0

-- the sum of the two and a carry, before it is reduced to the width
abbrev pub whole_sum : Width → ℕ → ℕ → Bool → ℕ
whole_sum w a b carry = low w a + low w b + bit_value carry

-- the two have one sign, and the result the other
abbrev pub sum_overflows : Width → ℕ → ℕ → ℕ → Bool
sum_overflows w a b r = is_same (is_negative w a) (is_negative w b) && not (is_same (is_negative w a) (is_negative w r))

abbrev pub sum_result : Width → ℕ → ℕ → Bool → ℕ × Flags
sum_result w a b carry =
    let r = low w (whole_sum w a b carry) in
    (r, flags_of w (nat_le (modulus w) (whole_sum w a b carry)) (sum_overflows w a b r) r)

-- what is taken away
abbrev pub whole_less : Width → ℕ → Bool → ℕ
whole_less w b borrow = low w b + bit_value borrow

-- the two have different signs, and the result that of the second
abbrev pub difference_overflows : Width → ℕ → ℕ → ℕ → Bool
difference_overflows w a b r = not (is_same (is_negative w a) (is_negative w b)) && not (is_same (is_negative w a) (is_negative w r))

abbrev pub difference_result : Width → ℕ → ℕ → Bool → ℕ × Flags
difference_result w a b borrow =
    let r = low w (low w a + modulus w - whole_less w b borrow) in
    (r, flags_of w (nat_lt (low w a) (whole_less w b borrow)) (difference_overflows w a b r) r)

-- a result without carry and overflow
abbrev pub logic_result : Width → ℕ → ℕ × Flags
logic_result w r = (r, flags_of w false false r)

-- a flag that must be known
abbrev pub known_flag : Tri → Result Bool Cause
known_flag Yes = Ok true
known_flag No = Ok false
known_flag Unknown = Err FlagUnknown

abbrev pub with_carry : Result Bool Cause → (Bool → ℕ × Flags) → Result (ℕ × Flags) Cause
with_carry (Ok carry) computed = Ok (computed carry)
with_carry (Err cause) computed = Err cause

abbrev pub alu_of : AluOp → Width → ℕ → ℕ → Flags → Result (ℕ × Flags) Cause
alu_of Add w a b before = Ok (sum_result w a b false)
alu_of Or w a b before = Ok (logic_result w (bit_or (low w a) (low w b)))
alu_of Adc w a b before = with_carry (known_flag before.cf) (sum_result w a b)
alu_of Sbb w a b before = with_carry (known_flag before.cf) (difference_result w a b)
alu_of And w a b before = Ok (logic_result w (bit_and (low w a) (low w b)))
alu_of Sub w a b before = Ok (difference_result w a b false)
alu_of Xor w a b before = Ok (logic_result w (bit_xor (low w a) (low w b)))
alu_of Cmp w a b before = Ok (difference_result w a b false)

-- ---- inc, dec, not, neg; the other names have operators of their own, and change nothing here

abbrev pub one_of : OneOp → Width → ℕ → Flags → ℕ × Flags
one_of Inc w a before = with_cf before.cf (sum_result w a 1 false)
one_of Dec w a before = with_cf before.cf (difference_result w a 1 false)
one_of Not w a before = (modulus w - 1 - low w a, before)
one_of Neg w a before = difference_result w 0 a false
one_of Mul w a before = (low w a, before)
one_of Imul w a before = (low w a, before)
one_of Div w a before = (low w a, before)
one_of Idiv w a before = (low w a, before)

-- ---- rol, ror, shl, shr, sar

-- the count is a byte, taken modulo 64 at 64 bits, and else modulo 32
abbrev pub shift_count : Width → ℕ → ℕ
shift_count B n = n % 32
shift_count W n = n % 32
shift_count L n = n % 32
shift_count Q n = n % 64

-- rotated to the left by at most the number of bits
abbrev pub rotation_result : Width → ℕ → ℕ → ℕ
rotation_result w a k = low w (low w a * 2 ^ k) + low w a / 2 ^ (bit_count w - k)

abbrev pub shift_result : ShiftOp → Width → ℕ → ℕ → ℕ
shift_result Rol w a c = rotation_result w a (c % bit_count w)
shift_result Ror w a c = rotation_result w a (bit_count w - c % bit_count w)
shift_result Shl w a c = low w (low w a * 2 ^ c)
shift_result Shr w a c = low w a / 2 ^ c
shift_result Sar w a c = wrapped_number w (int_shr (signed_value w a) c)

-- the last bit that is shifted out, for a count from 1; of a rotate it is the bit that came in
abbrev pub carry_of : ShiftOp → Width → ℕ → ℕ → Tri
carry_of Rol w a c = tri (is_odd (shift_result Rol w a c))
carry_of Ror w a c = tri (is_negative w (shift_result Ror w a c))
carry_of Shl w a c = if nat_lt c (bit_count w) then tri (is_negative w (shift_result Shl w a (c - 1))) else Unknown
carry_of Shr w a c = if nat_lt c (bit_count w) then tri (is_odd (shift_result Shr w a (c - 1))) else Unknown
carry_of Sar w a c = tri (is_odd (shift_result Sar w a (c - 1)))

-- for a count of 1: whether the sign changed; of a rotate to the right, whether the two highest bits differ
abbrev pub sign_changes : ShiftOp → Width → ℕ → ℕ → Bool
sign_changes Rol w a r = not (is_same (is_negative w r) (is_odd r))
sign_changes Ror w a r = not (is_same (is_negative w r) (is_odd (r / 2 ^ (bit_count w - 2))))
sign_changes Shl w a r = not (is_same (is_negative w a) (is_negative w r))
sign_changes Shr w a r = is_negative w a
sign_changes Sar w a r = false

abbrev pub overflow_of : ShiftOp → Width → ℕ → ℕ → Tri
overflow_of op w a c = if nat_eq c 1 then tri (sign_changes op w a (shift_result op w a c)) else Unknown

abbrev pub is_rotate : ShiftOp → Bool
is_rotate Rol = true
is_rotate Ror = true
is_rotate Shl = false
is_rotate Shr = false
is_rotate Sar = false

-- the zero, sign and parity flags are kept by a rotate and else those of the result
abbrev pub shift_flags : ShiftOp → Width → ℕ → ℕ → Flags → Flags
shift_flags op w a c before = record {
  cf = carry_of op w a c;
  zf = if is_rotate op then before.zf else tri (nat_eq (shift_result op w a c) 0);
  sf = if is_rotate op then before.sf else tri (is_negative w (shift_result op w a c));
  of = overflow_of op w a c;
  pf = if is_rotate op then before.pf else tri (has_even_parity (shift_result op w a c));
}

abbrev pub shifted_by : ShiftOp → Width → ℕ → ℕ → Flags → ℕ × Flags
shifted_by op w a c before = if nat_eq c 0 then (low w a, before) else (shift_result op w a c, shift_flags op w a c before)

abbrev pub shift_of : ShiftOp → Width → ℕ → ℕ → Flags → Result (ℕ × Flags) Cause
shift_of op w a count before = Ok (shifted_by op w a (shift_count w (low B count)) before)

-- ---- mul, imul

-- carry and overflow say that the product doesn't fit the width
abbrev pub product_flags : Bool → Flags
product_flags wide = record { cf = tri wide; zf = Unknown; sf = Unknown; of = tri wide; pf = Unknown }

abbrev pub unsigned_product : Width → ℕ → ℕ → ℕ × ℕ × Flags
unsigned_product w a b =
    let p = low w a * low w b in (low w p, p / modulus w, product_flags (nat_le (modulus w) p))

abbrev pub signed_product : Width → ℕ → ℕ → ℕ × ℕ × Flags
signed_product w a b =
    let p = signed_value w a *ℤ signed_value w b in
    (wrapped_number w p, wrapped_number w (int_div_euclid p (pos (modulus w))), product_flags (not (fits_signed w p)))

-- the low half, the high half, and the flags
abbrev pub mul_of : Bool → Width → ℕ → ℕ → ℕ × ℕ × Flags
mul_of false w a b = unsigned_product w a b
mul_of true w a b = signed_product w a b

-- ---- div, idiv

abbrev pub unsigned_quotient : Width → ℕ → ℕ → Option (ℕ × ℕ)
unsigned_quotient w dividend by =
    if nat_lt (dividend / by) (modulus w) then Some (dividend / by, dividend % by) else None

-- rounded toward zero; the rest has the sign of the dividend
abbrev pub signed_quotient : Width → ℤ → ℤ → Option (ℕ × ℕ)
signed_quotient w dividend by =
    if fits_signed w (int_div dividend by) then Some (wrapped_number w (int_div dividend by), wrapped_number w (int_rem dividend by)) else None

-- quotient and rest, or the trap: of a divisor 0, and of a quotient that doesn't fit the width
abbrev pub quotient_of : Bool → Width → ℕ → ℕ → ℕ → Option (ℕ × ℕ)
quotient_of false w high lower by = unsigned_quotient w (low w high * modulus w + low w lower) (low w by)
quotient_of true w high lower by = signed_quotient w (signed_value w high *ℤ pos (modulus w) +ℤ pos (low w lower)) (signed_value w by)

abbrev pub division_of : Bool → Width → ℕ → ℕ → ℕ → Option (ℕ × ℕ)
division_of is_signed w high lower by = if nat_eq (low w by) 0 then None else quotient_of is_signed w high lower by

abbrev pub div_of : Bool → Width → ℕ → ℕ → ℕ → Result (Option (ℕ × ℕ)) Cause
div_of is_signed w high lower by = Ok (division_of is_signed w high lower by)

-- ---- widening, bswap

abbrev pub extend_of : Bool → Width → ℕ → Width → ℕ
extend_of false from a to = low to (low from a)
extend_of true from a to = wrapped_number to (signed_value from a)

-- the number of so many bytes, the lowest first
abbrev pub join_of : Width → List ℕ → ℕ
join_of w bytes = number_of_bytes (take (byte_count w) bytes)

-- the bytes in the other order
abbrev pub swap_of : Width → ℕ → ℕ
swap_of w a = number_of_bytes (reverse (bytes_of w (low w a)))

-- ---- bt, bts, btr, btc

abbrev pub has_bit : ℕ → ℕ → Bool
has_bit n i = is_odd (n / 2 ^ i)

abbrev pub bit_changed : BitOp → ℕ → ℕ → ℕ
bit_changed Bt n i = n
bit_changed Bts n i = if has_bit n i then n else n + 2 ^ i
bit_changed Btr n i = if has_bit n i then n - 2 ^ i else n
bit_changed Btc n i = if has_bit n i then n - 2 ^ i else n + 2 ^ i

abbrev pub bit_flags : Bool → Flags → Flags
bit_flags bit before = record { cf = tri bit; zf = before.zf; sf = Unknown; of = Unknown; pf = Unknown }

-- the index is taken modulo the number of bits
abbrev pub bit_of : BitOp → Width → ℕ → ℕ → Flags → ℕ × Flags
bit_of op w a index before =
    let i = low w index % bit_count w in (bit_changed op (low w a) i, bit_flags (has_bit (low w a) i) before)

-- ---- bsf, bsr, tzcnt

-- the number of zeros below the lowest one, and the place of the highest one
abbrev pub zeros_below : Width → ℕ → ℕ
zeros_below w n = count_trailing_zeros (bit_count w) n

abbrev pub highest_one : Width → ℕ → ℕ
highest_one w n = bit_count w - 1 - count_leading_zeros (bit_count w) n

abbrev pub scan_flags : Tri → Bool → Flags
scan_flags cf is_zero = record { cf = cf; zf = tri is_zero; sf = Unknown; of = Unknown; pf = Unknown }

-- the result of a search in 0 is undefined, and here 0; the zero flag says that it was 0
abbrev pub found_bit : ℕ → ℕ → ℕ × Flags
found_bit n place = if nat_eq n 0 then (0, scan_flags Unknown true) else (place, scan_flags Unknown false)

abbrev pub scan_of : ScanOp → Width → ℕ → ℕ × Flags
scan_of Bsf w a = found_bit (low w a) (zeros_below w (low w a))
scan_of Bsr w a = found_bit (low w a) (highest_one w (low w a))
scan_of Tzcnt w a =
    let n = zeros_below w (low w a) in (n, scan_flags (tri (nat_eq (low w a) 0)) (nat_eq n 0))

-- ---- addresses

abbrev pub base_part : Option ℕ → ℕ
base_part (Some a) = a
base_part None = 0

abbrev pub index_part : Option (ℕ × ℕ) → ℕ
index_part (Some (a, scale)) = a * scale
index_part None = 0

-- base, index times scale, and displacement, modulo 2 ^ 64
abbrev pub address_sum : Option ℕ → Option (ℕ × ℕ) → ℤ → ℕ
address_sum base index disp = low Q (base_part base + index_part index + wrapped_number Q disp)
