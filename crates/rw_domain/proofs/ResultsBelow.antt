-- Each result of an operator over numbers is a number of its width.
use Rattle.std.proofs.Common.{ℕ, ◌+◌, ◌-◌, ◌*◌, ◌/◌, ◌%◌, ◌^◌, ◌<◌, ◌≤◌, ◌≡◌, Bool, true, false, cond, nat_eq, nat_lt, Some, None, Result, Ok, Err, refl, arith, lit<}
use Rattle.std.specs.Prelude.{ℤ, pos, negsuc, ◌+ℤ◌, ◌*ℤ◌, int_div, int_rem, bit_and, IfOk, IfSome}
use lib.Count.{count_trailing_zeros}
use Rattle.std.proofs.Math.Nat.{mod-lt, div-le_self, div-lt_iff_lt-mul, mul-le-mul_left}
use Rattle.std.proofs.lemmas.Nat.{pow_pos, or_lt, xor_lt, and_le_l, trailing_le, mul-add-lt}
use Rattle.std.proofs.lemmas.Bool.{ltb-true, eqb-false}
use Rattle.rw_base.specs.declared.width.Width.{Width}
use Rattle.rw_base.specs.declared.width.Width.TheVariants.{B, W, L, Q}
use Rattle.rw_base.specs.Width.{bit_count}
use Rattle.x86_insn.specs.declared.kinds.AluOp.{AluOp}
use Rattle.x86_insn.specs.declared.kinds.AluOp.TheVariants.{Add, Or, Adc, Sbb, And, Sub, Xor, Cmp}
use Rattle.x86_insn.specs.declared.kinds.OneOp.{OneOp}
use Rattle.x86_insn.specs.declared.kinds.OneOp.TheVariants.{Inc, Dec, Not, Neg, Mul, Imul, Div, Idiv}
use Rattle.x86_insn.specs.declared.kinds.ShiftOp.{ShiftOp}
use Rattle.x86_insn.specs.declared.kinds.ShiftOp.TheVariants.{Rol, Ror, Shl, Shr, Sar}
use Rattle.x86_insn.specs.declared.kinds.BitOp.{BitOp}
use Rattle.x86_insn.specs.declared.kinds.BitOp.TheVariants.{Bt, Bts, Btr, Btc}
use Rattle.x86_insn.specs.declared.kinds.ScanOp.{ScanOp}
use Rattle.x86_insn.specs.declared.kinds.ScanOp.TheVariants.{Bsf, Bsr, Tzcnt}
use Rattle.rw_domain.specs.declared.cause.Cause.{Cause}
use Rattle.rw_domain.specs.declared.flags.Flags.{Flags}
use Rattle.rw_domain.specs.declared.flags.Tri.TheVariants.{Yes, No, Unknown}
use Rattle.rw_domain.specs.Numbers.{modulus, low, wrapped_number, signed_value, has_bit, sum_result, difference_result, known_flag, with_carry, alu_of, one_of, shift_result, shifted_by, shift_flags, mul_of, unsigned_quotient, signed_quotient, quotient_of, division_of, extend_of, swap_of, bit_changed, bit_of, zeros_below, highest_one, found_bit, scan_of, fits_signed}
use Rattle.rw_domain.proofs.BitLemmas.{rotated_below, bit_room_at}

pub low_below : (w : Width) (n : ℕ) → low w n < modulus w
low_below w n = mod-lt n (pow_pos (bit_count w))

pub wrapped_below : (w : Width) (z : ℤ) → wrapped_number w z < modulus w
wrapped_below w (pos a) = mod-lt a (pow_pos (bit_count w))
wrapped_below w (negsuc a) = let some : 0 < modulus w = pow_pos (bit_count w) in omega arith

pub alu_below : (op : AluOp) (w : Width) (a b : ℕ) (before : Flags) → IfOk (alu_of op w a b before) (λ r. r.0 < modulus w)
alu_below Add w a b before = low_below w _
alu_below Or w a b before = or_lt (bit_count w) (low w a) (low w b) (low_below w a) (low_below w b)
alu_below Adc w a b before = by_flag (known_flag before.cf)
  where
    by_flag : (cf : Result Bool Cause) → IfOk (with_carry cf (sum_result w a b)) (λ r. r.0 < modulus w)
    by_flag (Ok carry) = low_below w _
    by_flag (Err cause) = tt
alu_below Sbb w a b before = by_flag (known_flag before.cf)
  where
    by_flag : (cf : Result Bool Cause) → IfOk (with_carry cf (difference_result w a b)) (λ r. r.0 < modulus w)
    by_flag (Ok borrow) = low_below w _
    by_flag (Err cause) = tt
alu_below And w a b before =
    let small : low w a < modulus w = low_below w a in
    let less : bit_and (low w a) (low w b) ≤ low w a = and_le_l (low w a) (low w b) in omega arith
alu_below Sub w a b before = low_below w _
alu_below Xor w a b before = xor_lt (bit_count w) (low w a) (low w b) (low_below w a) (low_below w b)
alu_below Cmp w a b before = low_below w _

pub one_below : (op : OneOp) (w : Width) (a : ℕ) (before : Flags) → (one_of op w a before).0 < modulus w
one_below Inc w a before = low_below w _
one_below Dec w a before = low_below w _
one_below Not w a before = let some : 0 < modulus w = pow_pos (bit_count w) in omega arith
one_below Neg w a before = low_below w _
one_below Mul w a before = low_below w a
one_below Imul w a before = low_below w a
one_below Div w a before = low_below w a
one_below Idiv w a before = low_below w a

shifted_below : (op : ShiftOp) (w : Width) (a c : ℕ) → shift_result op w a c < modulus w
shifted_below Rol w a c =
    let some : 0 < bit_count w = bits_some w in
    let within : c % bit_count w < bit_count w = mod-lt c some in
    let most : c % bit_count w ≤ bit_count w = omega arith in rotated_below w a (c % bit_count w) most
  where
    bits_some : (w : Width) → 0 < bit_count w
    bits_some B = lit< tt
    bits_some W = lit< tt
    bits_some L = lit< tt
    bits_some Q = lit< tt
shifted_below Ror w a c = let most : bit_count w - c % bit_count w ≤ bit_count w = omega arith in rotated_below w a (bit_count w - c % bit_count w) most
shifted_below Shl w a c = low_below w _
shifted_below Shr w a c =
    let small : low w a < modulus w = low_below w a in
    let less : low w a / 2 ^ c ≤ low w a = div-le_self (low w a) (2 ^ c) in omega arith
shifted_below Sar w a c = wrapped_below w _

pub shift_below : (op : ShiftOp) (w : Width) (a c : ℕ) (before : Flags) → (shifted_by op w a c before).0 < modulus w
shift_below op w a c before = by_test (nat_eq c 0)
  where
    by_test : (t : Bool) → (cond {A = ℕ × Flags} t (low w a, before) (shift_result op w a c, shift_flags op w a c before)).0 < modulus w
    by_test true = low_below w a
    by_test false = shifted_below op w a c

-- the high half of a product
high_below : (w : Width) (a b : ℕ) → low w a * low w b / modulus w < modulus w
high_below w a b =
    let square : low w a * modulus w + 0 < modulus w * modulus w = mul-add-lt (low w a) (modulus w) 0 (modulus w) (low_below w a) (pow_pos (bit_count w)) in
    let second : low w b < modulus w = low_below w b in
    let second' : low w b ≤ modulus w = omega arith in
    let less : low w a * low w b ≤ low w a * modulus w = mul-le-mul_left (low w a) second' in
    let small : low w a * low w b < modulus w * modulus w = omega arith in
    (div-lt_iff_lt-mul (pow_pos (bit_count w))).1 small

pub mul_below : (is_signed : Bool) (w : Width) (a b : ℕ) → ((mul_of is_signed w a b).0 < modulus w) × ((mul_of is_signed w a b).1 < modulus w)
mul_below false w a b = (low_below w _, high_below w a b)
mul_below true w a b = (wrapped_below w _, wrapped_below w _)

BothBelow : Width → ℕ × ℕ → Type 0
BothBelow w q = (q.0 < modulus w) × (q.1 < modulus w)

unsigned_below : (w : Width) (dividend by : ℕ) → 0 < by → by < modulus w → IfSome (unsigned_quotient w dividend by) (BothBelow w)
unfolding BothBelow
unsigned_below w dividend by some small = by_test (nat_lt (dividend / by) (modulus w)) refl
  where
    by_test : (t : Bool) → nat_lt (dividend / by) (modulus w) ≡ t → IfSome (cond t (Some (dividend / by, dividend % by)) None) (BothBelow w)
    by_test true e = (ltb-true (dividend / by) (modulus w) e, let rest : dividend % by < by = mod-lt dividend some in omega arith)
    by_test false e = tt

signed_below : (w : Width) (dividend by : ℤ) → IfSome (signed_quotient w dividend by) (BothBelow w)
unfolding BothBelow
signed_below w dividend by = by_test (fits_signed w (int_div dividend by))
  where
    by_test : (t : Bool) → IfSome (cond t (Some (wrapped_number w (int_div dividend by), wrapped_number w (int_rem dividend by))) None) (BothBelow w)
    by_test true = (wrapped_below w _, wrapped_below w _)
    by_test false = tt

pub division_below : (is_signed : Bool) (w : Width) (high lower by : ℕ) → IfSome (division_of is_signed w high lower by) (λ q. (q.0 < modulus w) × (q.1 < modulus w))
unfolding BothBelow
division_below is_signed w high lower by = by_test (nat_eq (low w by) 0) refl
  where
    of_quotient : (is_signed : Bool) → 0 < low w by → IfSome (quotient_of is_signed w high lower by) (λ q. (q.0 < modulus w) × (q.1 < modulus w))
    of_quotient false some = unsigned_below w (low w high * modulus w + low w lower) (low w by) some (low_below w by)
    of_quotient true some = signed_below w (signed_value w high *ℤ pos (modulus w) +ℤ pos (low w lower)) (signed_value w by)

    by_test : (t : Bool) → nat_eq (low w by) 0 ≡ t → IfSome (cond t None (quotient_of is_signed w high lower by)) (λ q. (q.0 < modulus w) × (q.1 < modulus w))
    by_test true e = tt
    by_test false e = of_quotient is_signed (let some : low w by ≡ 0 → ⊥ = eqb-false (low w by) 0 e in omega arith)

pub extend_below : (is_signed : Bool) (from : Width) (a : ℕ) (to : Width) → extend_of is_signed from a to < modulus to
extend_below false from a to = low_below to _
extend_below true from a to = wrapped_below to _

byte_below : (n i : ℕ) → n / 256 ^ i % 256 < 256
byte_below n i = mod-lt (n / 256 ^ i) (lit< tt)

pub swap_below : (w : Width) (a : ℕ) → swap_of w a < modulus w
swap_below B a = let b0 = byte_below a 0 in omega arith
swap_below W a = let b0 = byte_below a 0 in let b1 = byte_below a 1 in omega arith
swap_below L a =
    let b0 = byte_below a 0 in let b1 = byte_below a 1 in let b2 = byte_below a 2 in let b3 = byte_below a 3 in omega arith
swap_below Q a =
    let b0 = byte_below a 0 in let b1 = byte_below a 1 in let b2 = byte_below a 2 in let b3 = byte_below a 3 in
    let b4 = byte_below a 4 in let b5 = byte_below a 5 in let b6 = byte_below a 6 in let b7 = byte_below a 7 in omega arith

changed_below : (op : BitOp) (n i k : ℕ) → n < 2 ^ k → i < k → bit_changed op n i < 2 ^ k
changed_below Bt n i k small within = small
changed_below Bts n i k small within = by_test (has_bit n i) refl
  where
    by_test : (t : Bool) → has_bit n i ≡ t → cond t n (n + 2 ^ i) < 2 ^ k
    by_test true e = small
    by_test false e = bit_room_at n i k e within small
changed_below Btr n i k small within = by_test (has_bit n i)
  where
    by_test : (t : Bool) → cond t (n - 2 ^ i) n < 2 ^ k
    by_test true = omega arith
    by_test false = small
changed_below Btc n i k small within = by_test (has_bit n i) refl
  where
    by_test : (t : Bool) → has_bit n i ≡ t → cond t (n - 2 ^ i) (n + 2 ^ i) < 2 ^ k
    by_test true e = omega arith
    by_test false e = bit_room_at n i k e within small

pub bit_below : (op : BitOp) (w : Width) (a index : ℕ) (before : Flags) → (bit_of op w a index before).0 < modulus w
bit_below op w a index before = changed_below op (low w a) (low w index % bit_count w) (bit_count w) (low_below w a) (mod-lt (low w index) (some w))
  where
    some : (w : Width) → 0 < bit_count w
    some B = lit< tt
    some W = lit< tt
    some L = lit< tt
    some Q = lit< tt

bits_below : (w : Width) → bit_count w < modulus w
bits_below B = lit< tt
bits_below W = lit< tt
bits_below L = lit< tt
bits_below Q = lit< tt

zeros_small : (w : Width) (n : ℕ) → zeros_below w n < modulus w
zeros_small w n =
    let most : count_trailing_zeros (bit_count w) n ≤ bit_count w = trailing_le (bit_count w) n in
    let small : bit_count w < modulus w = bits_below w in omega arith

place_small : (w : Width) (n : ℕ) → highest_one w n < modulus w
place_small w n = let small : bit_count w < modulus w = bits_below w in omega arith

found_below : (w : Width) (n place : ℕ) → place < modulus w → (found_bit n place).0 < modulus w
found_below w n place small = by_test (nat_eq n 0)
  where
    by_test : (t : Bool) → (cond {A = ℕ × Flags} t (0, record { cf = Unknown; zf = Yes; sf = Unknown; of = Unknown; pf = Unknown }) (place, record { cf = Unknown; zf = No; sf = Unknown; of = Unknown; pf = Unknown })).0 < modulus w
    by_test true = pow_pos (bit_count w)
    by_test false = small

pub scan_below : (op : ScanOp) (w : Width) (a : ℕ) → (scan_of op w a).0 < modulus w
scan_below Bsf w a = found_below w (low w a) _ (zeros_small w (low w a))
scan_below Bsr w a = found_below w (low w a) _ (place_small w (low w a))
scan_below Tzcnt w a = zeros_small w (low w a)
