-- The definitions at numbers whose results are known.
use Rattle.std.proofs.Common.{◌≡◌, refl, Some, None, Ok, Err, true, false}
use Rattle.std.specs.Prelude.{pos, neg_ℤ}
use Rattle.rw_base.specs.declared.width.Width.TheVariants.{B, W, L, Q}
use Rattle.x86_insn.specs.declared.kinds.AluOp.TheVariants.{Add, Adc, Sub}
use Rattle.x86_insn.specs.declared.kinds.ShiftOp.TheVariants.{Ror, Shl, Sar}
use Rattle.x86_insn.specs.declared.kinds.ScanOp.TheVariants.{Bsr, Tzcnt}
use Rattle.rw_domain.specs.declared.cause.Cause.TheVariants.{FlagUnknown}
use Rattle.rw_domain.specs.declared.flags.Flags.{Flags}
use Rattle.rw_domain.specs.declared.flags.Tri.TheVariants.{Yes, No, Unknown}
use Rattle.rw_domain.specs.Numbers.{alu_of, shift_of, mul_of, div_of, extend_of, swap_of, scan_of, address_sum, scan_flags, product_flags}

unknown : Flags
unknown = record { cf = Unknown; zf = Unknown; sf = Unknown; of = Unknown; pf = Unknown }

sum : alu_of Add L 0xffffffff 1 unknown ≡ Ok (0, record { cf = Yes; zf = Yes; sf = No; of = No; pf = Yes })
unfolding lib.Count.ones
sum = refl

needs_carry : alu_of Adc L 1 1 unknown ≡ Err FlagUnknown
unfolding unknown
needs_carry = refl

difference : alu_of Sub B 0x80 1 unknown ≡ Ok (0x7f, record { cf = No; zf = No; sf = No; of = Yes; pf = No })
unfolding lib.Count.ones
difference = refl

left : shift_of Shl L 0x40000001 2 unknown ≡ Ok (4, record { cf = Yes; zf = No; sf = No; of = Unknown; pf = No })
unfolding lib.Count.ones
left = refl

arithmetic : shift_of Sar B 0x81 1 unknown ≡ Ok (0xc0, record { cf = Yes; zf = No; sf = Yes; of = No; pf = Yes })
unfolding lib.Count.ones
arithmetic = refl

around : shift_of Ror W 0x8001 4 unknown ≡ Ok (0x1800, record { cf = No; zf = Unknown; sf = Unknown; of = Unknown; pf = Unknown })
unfolding unknown
around = refl

product : mul_of true L 0xffffffff 2 ≡ (0xfffffffe, 0xffffffff, product_flags false)
product = refl

wide : mul_of false L 0xffffffff 2 ≡ (0xfffffffe, 1, product_flags true)
wide = refl

trap : div_of false L 1 0 1 ≡ Ok None
trap = refl

quotient : div_of true L 0xffffffff 0xfffffff9 2 ≡ Ok (Some (0xfffffffd, 0xffffffff))
quotient = refl

extended : extend_of true B 0x80 L ≡ 0xffffff80
extended = refl

swapped : swap_of L 0x12345678 ≡ 0x78563412
swapped = refl

last : scan_of Bsr Q 0x100 ≡ (8, scan_flags Unknown false)
unfolding lib.Count.count_leading_zeros
last = refl

none : scan_of Tzcnt W 0 ≡ (16, scan_flags Yes false)
unfolding lib.Count.count_trailing_zeros
none = refl

address : address_sum (Some 0x1000) (Some (3, 8)) (neg_ℤ (pos 0x18)) ≡ 0x1000
address = refl
