-- The operators over numbers look at the low bits of what they are given alone, and keep flags that are kept.
use Rattle.std.proofs.Common.{ℕ, ◌≡◌, Bool, true, false, cond, nat_eq, refl, ap}
use Rattle.std.proofs.Math.Nat.{mod-mod}
use Rattle.rw_base.specs.declared.width.Width.{Width}
use Rattle.x86_insn.specs.declared.kinds.OneOp.{OneOp}
use Rattle.x86_insn.specs.declared.kinds.OneOp.TheVariants.{Inc, Dec, Not, Neg, Mul, Imul, Div, Idiv}
use Rattle.x86_insn.specs.declared.kinds.ShiftOp.{ShiftOp}
use Rattle.x86_insn.specs.declared.kinds.ShiftOp.TheVariants.{Rol, Ror, Shl, Shr, Sar}
use Rattle.x86_insn.specs.declared.kinds.BitOp.{BitOp}
use Rattle.x86_insn.specs.declared.kinds.ScanOp.{ScanOp}
use Rattle.x86_insn.specs.declared.kinds.ScanOp.TheVariants.{Bsf, Bsr, Tzcnt}
use Rattle.std.specs.Prelude.{reverse}
use Rattle.rw_words.specs.Words.{bytes_of, number_of_bytes}
use Rattle.rw_domain.specs.declared.flags.Flags.{Flags}
use Rattle.rw_domain.specs.declared.flags.Tri.{Tri}
use Rattle.rw_domain.specs.Stands.{FlagStands, FlagsStand}
use Rattle.rw_domain.specs.Numbers.{modulus, low, sum_result, one_of, shift_result, shifted_by, shift_flags, carry_of, overflow_of, is_rotate, mul_of, division_of, extend_of, swap_of, bit_of, scan_of}
use Rattle.rw_domain.proofs.FlagRows.{flag-itself, flags-themselves}

pub low-low : (w : Width) (n : ℕ) → low w (low w n) ≡ low w n
low-low w n = mod-mod n (modulus w)

pub added-low : (w : Width) (a b : ℕ) (carry : Bool) → sum_result w (low w a) b carry ≡ sum_result w a b carry
added-low w a b carry = simp mod-mod

pub one-low : (op : OneOp) (w : Width) (a : ℕ) (f : Flags) → one_of op w (low w a) f ≡ one_of op w a f
one-low Inc w a f = simp mod-mod
one-low Dec w a f = simp mod-mod
one-low Not w a f = simp mod-mod
one-low Neg w a f = simp mod-mod
one-low Mul w a f = simp mod-mod
one-low Imul w a f = simp mod-mod
one-low Div w a f = simp mod-mod
one-low Idiv w a f = simp mod-mod

shifted-low : (op : ShiftOp) (w : Width) (a c : ℕ) → shift_result op w (low w a) c ≡ shift_result op w a c
shifted-low Rol w a c = simp mod-mod
shifted-low Ror w a c = simp mod-mod
shifted-low Shl w a c = simp mod-mod
shifted-low Shr w a c = simp mod-mod
shifted-low Sar w a c = simp mod-mod

pub shift-low : (op : ShiftOp) (w : Width) (a c : ℕ) (f : Flags) → shifted_by op w (low w a) c f ≡ shifted_by op w a c f
shift-low Rol w a c f = simp mod-mod
shift-low Ror w a c f = simp mod-mod
shift-low Shl w a c f = simp mod-mod
shift-low Shr w a c f = simp mod-mod
shift-low Sar w a c f = simp mod-mod

pub mul-low : (is_signed : Bool) (w : Width) (a b : ℕ) → mul_of is_signed w (low w a) (low w b) ≡ mul_of is_signed w a b
mul-low false w a b = simp mod-mod
mul-low true w a b = simp mod-mod

pub division-low : (is_signed : Bool) (w : Width) (a b c : ℕ) → division_of is_signed w (low w a) (low w b) (low w c) ≡ division_of is_signed w a b c
division-low false w a b c = simp mod-mod
division-low true w a b c = simp mod-mod

pub sign-low : (from : Width) (a : ℕ) (to : Width) → extend_of true from (low from a) to ≡ extend_of true from a to
sign-low from a to = simp mod-mod

pub swap-low : (w : Width) (a : ℕ) → swap_of w (low w a) ≡ swap_of w a
swap-low w a = ap (λ z. number_of_bytes (reverse (bytes_of w z))) (low-low w a)

pub bit-low : (op : BitOp) (w : Width) (a index : ℕ) (f : Flags) → bit_of op w (low w a) (low w index) f ≡ bit_of op w a index f
bit-low op w a index f = simp mod-mod

pub scan-low : (op : ScanOp) (w : Width) (a : ℕ) → scan_of op w (low w a) ≡ scan_of op w a
scan-low Bsf w a = simp mod-mod
scan-low Bsr w a = simp mod-mod
scan-low Tzcnt w a = simp mod-mod

-- ---- flags before

pub one-flags : (op : OneOp) (w : Width) (a : ℕ) (f g : Flags) → FlagsStand f g → FlagsStand (one_of op w a f).1 (one_of op w a g).1
one-flags Inc w a f g h = record { cf = h.cf; zf = flag-itself _; sf = flag-itself _; of = flag-itself _; pf = flag-itself _ }
one-flags Dec w a f g h = record { cf = h.cf; zf = flag-itself _; sf = flag-itself _; of = flag-itself _; pf = flag-itself _ }
one-flags Not w a f g h = h
one-flags Neg w a f g h = flags-themselves _
one-flags Mul w a f g h = h
one-flags Imul w a f g h = h
one-flags Div w a f g h = h
one-flags Idiv w a f g h = h

pub one-value : (op : OneOp) (w : Width) (a : ℕ) (f g : Flags) → (one_of op w a f).0 ≡ (one_of op w a g).0
one-value Inc w a f g = refl
one-value Dec w a f g = refl
one-value Not w a f g = refl
one-value Neg w a f g = refl
one-value Mul w a f g = refl
one-value Imul w a f g = refl
one-value Div w a f g = refl
one-value Idiv w a f g = refl

kept-or-set : (b : Bool) (x y z : Tri) → FlagStands x y → FlagStands (cond b x z) (cond b y z)
kept-or-set true x y z h = h
kept-or-set false x y z h = flag-itself z

pub shift-flags : (op : ShiftOp) (w : Width) (a c : ℕ) (f g : Flags) → FlagsStand f g → FlagsStand (shifted_by op w a c f).1 (shifted_by op w a c g).1
shift-flags op w a c f g h = by_test (nat_eq c 0)
  where
    by_test : (t : Bool) → FlagsStand (cond {A = ℕ × Flags} t (low w a, f) (shift_result op w a c, shift_flags op w a c f)).1 (cond {A = ℕ × Flags} t (low w a, g) (shift_result op w a c, shift_flags op w a c g)).1
    by_test true = h
    by_test false = record {
      cf = flag-itself (carry_of op w a c);
      zf = kept-or-set (is_rotate op) f.zf g.zf _ h.zf;
      sf = kept-or-set (is_rotate op) f.sf g.sf _ h.sf;
      of = flag-itself (overflow_of op w a c);
      pf = kept-or-set (is_rotate op) f.pf g.pf _ h.pf;
    }

pub shift-value : (op : ShiftOp) (w : Width) (a c : ℕ) (f g : Flags) → (shifted_by op w a c f).0 ≡ (shifted_by op w a c g).0
shift-value op w a c f g = by_test (nat_eq c 0)
  where
    by_test : (t : Bool) → (cond {A = ℕ × Flags} t (low w a, f) (shift_result op w a c, shift_flags op w a c f)).0 ≡ (cond {A = ℕ × Flags} t (low w a, g) (shift_result op w a c, shift_flags op w a c g)).0
    by_test true = refl
    by_test false = refl

pub bit-flags : (op : BitOp) (w : Width) (a index : ℕ) (f g : Flags) → FlagsStand f g → FlagsStand (bit_of op w a index f).1 (bit_of op w a index g).1
bit-flags op w a index f g h = record { cf = flag-itself _; zf = h.zf; sf = tt; of = tt; pf = tt }
