-- What is known of the flags of places and code is so for the numbers for which they stand.
use Rattle.std.proofs.Common.{ℕ, ◌+◌, ◌-◌, ◌%◌, ◌^◌, ◌<◌, ◌≤◌, ◌≡◌, ◌≢◌, Bool, true, false, nat_eq, nat_le, nat_lt, refl, subst, arith}
use lib.Count.{ones}
use Rattle.std.proofs.Math.Nat.{mod-eq_of_lt}
use Rattle.std.proofs.lemmas.Bool.{ne_eqb}
use Rattle.std.proofs.lemmas.Bool.Decides.{nat_tests}
use Rattle.rw_base.specs.declared.width.Width.TheVariants.{Q}
use Rattle.rw_domain.specs.declared.flags.Flags.{Flags}
use Rattle.rw_domain.specs.declared.flags.Tri.{Tri}
use Rattle.rw_domain.specs.declared.flags.Tri.TheVariants.{Yes, No, Unknown}
use Rattle.rw_domain.specs.Stands.{FlagStands, FlagsStand}
use Rattle.rw_domain.specs.Numbers.{is_same, flags_of, difference_result, logic_result}
use Rattle.rw_domain.specs.Symbols.{no_flags, positive_flags, differ_flags, equal_flags, flags_if}

-- unknown flags stand for any
pub unknown-stands : (g : Flags) → FlagsStand no_flags g
unknown-stands g = record { cf = tt; zf = tt; sf = tt; of = tt; pf = tt }

-- each flag stands for itself
pub flag-itself : (t : Tri) → FlagStands t t
flag-itself Yes = refl
flag-itself No = refl
flag-itself Unknown = tt

pub flags-themselves : (f : Flags) → FlagsStand f f
flags-themselves f = record { cf = flag-itself f.cf; zf = flag-itself f.zf; sf = flag-itself f.sf; of = flag-itself f.of; pf = flag-itself f.pf }

pub if-stands : (b : Bool) (f g : Flags) → (b ≡ true → FlagsStand f g) → FlagsStand (flags_if b f) g
if-stands true f g h = h refl
if-stands false f g h = unknown-stands g

-- a number that is small and not 0, as the result of an operation
small-result : (r : ℕ) → 0 < r → r ≤ 2 ^ 47 → FlagsStand positive_flags (flags_of Q false false r)
small-result r some most =
    let not_zero : nat_eq r 0 ≡ false = ne_eqb r 0 (λ e. omega arith) in
    let whole : r % 2 ^ 64 ≡ r = mod-eq_of_lt (omega arith) in
    let positive : nat_le (2 ^ 63) r ≡ false = grind (arith, nat_tests) in
    record {
      cf = refl;
      zf = rw not_zero refl;
      sf = rw (whole, positive) refl;
      of = refl;
      pf = tt;
    }

pub combined-stands : (r : ℕ) → 0 < r → r ≤ 2 ^ 47 → FlagsStand positive_flags (logic_result Q r).1
combined-stands r some most = small-result r some most

-- compared with 0
pub zero-stands : (n : ℕ) → 0 < n → n ≤ 2 ^ 47 → FlagsStand positive_flags (difference_result Q n 0 false).1
zero-stands n some most =
    let whole : n % 2 ^ 64 ≡ n = mod-eq_of_lt (omega arith) in
    let result : (n % 2 ^ 64 + 2 ^ 64 - 0) % 2 ^ 64 ≡ n = omega arith in
    let not_zero : nat_eq n 0 ≡ false = ne_eqb n 0 (λ e. omega arith) in
    let positive : nat_le (2 ^ 63) n ≡ false = grind (arith, nat_tests) in
    let carry : nat_lt n 0 ≡ false = grind (arith, nat_tests) in
    record {
      cf = rw (whole, carry) refl;
      zf = rw (result, not_zero) refl;
      sf = rw (result, whole, positive) refl;
      of = rw (result, whole, positive) refl;
      pf = tt;
    }

-- compared with a number above
pub below-stands : (n m : ℕ) → n < m → m < 2 ^ 64 → FlagsStand (record no_flags { cf = Yes; zf = No }) (difference_result Q n m false).1
below-stands n m less most =
    let n' : n % 2 ^ 64 ≡ n = mod-eq_of_lt (omega arith) in
    let m' : m % 2 ^ 64 ≡ m = mod-eq_of_lt (omega arith) in
    let carry : nat_lt n (m + 0) ≡ true = grind (arith, nat_tests) in
    let result : (n + 2 ^ 64 - (m + 0)) % 2 ^ 64 ≢ 0 = λ e. omega arith in
    let not_zero : nat_eq ((n + 2 ^ 64 - (m + 0)) % 2 ^ 64) 0 ≡ false = ne_eqb _ 0 result in
    record { cf = rw (n', m', carry) refl; zf = rw (n', m', not_zero) refl; sf = tt; of = tt; pf = tt }

-- two different numbers
pub differ-stands : (n m : ℕ) → n ≢ m → n < 2 ^ 64 → m < 2 ^ 64 → FlagsStand differ_flags (difference_result Q n m false).1
differ-stands n m differ small small' =
    let n' : n % 2 ^ 64 ≡ n = mod-eq_of_lt small in
    let m' : m % 2 ^ 64 ≡ m = mod-eq_of_lt small' in
    let result : (n + 2 ^ 64 - (m + 0)) % 2 ^ 64 ≢ 0 = λ e. differ (omega arith) in
    let not_zero : nat_eq ((n + 2 ^ 64 - (m + 0)) % 2 ^ 64) 0 ≡ false = ne_eqb _ 0 result in
    record { cf = tt; zf = rw (n', m', not_zero) refl; sf = tt; of = tt; pf = tt }

same_itself : (b : Bool) → is_same b b ≡ true
same_itself true = refl
same_itself false = refl

-- a number and itself
pub equal-stands : (n : ℕ) → n < 2 ^ 64 → FlagsStand equal_flags (difference_result Q n n false).1
unfolding ones
equal-stands n small =
    let whole : n % 2 ^ 64 ≡ n = mod-eq_of_lt small in
    let result : (n + 2 ^ 64 - (n + 0)) % 2 ^ 64 ≡ 0 = omega arith in
    let carry : nat_lt n (n + 0) ≡ false = grind (arith, nat_tests) in
    record {
      cf = rw (whole, carry) refl;
      zf = rw (whole, result) refl;
      sf = rw (whole, result) refl;
      of = rw (whole, same_itself (nat_le (2 ^ 63) n)) refl;
      pf = rw (whole, result) refl;
    }

-- offsets in one region compare as their addresses do
pub offsets-stand : (base o p : ℕ) → base + o ≤ 2 ^ 47 → base + p ≤ 2 ^ 47 → FlagsStand (difference_result Q o p false).1 (difference_result Q (base + o) (base + p) false).1
offsets-stand base o p first second =
    let x : (base + o) % 2 ^ 64 ≡ base + o = mod-eq_of_lt (omega arith) in
    let y : (base + p) % 2 ^ 64 ≡ base + p = mod-eq_of_lt (omega arith) in
    let o' : o % 2 ^ 64 ≡ o = mod-eq_of_lt (omega arith) in
    let p' : p % 2 ^ 64 ≡ p = mod-eq_of_lt (omega arith) in
    let result : (base + o + 2 ^ 64 - (base + p + 0)) ≡ (o + 2 ^ 64 - (p + 0)) = omega arith in
    let carry : nat_lt (base + o) (base + p + 0) ≡ nat_lt o (p + 0) = grind (arith, nat_tests) in
    let positive : nat_le (2 ^ 63) (base + o) ≡ false = grind (arith, nat_tests) in
    let positive' : nat_le (2 ^ 63) (base + p) ≡ false = grind (arith, nat_tests) in
    let offset : nat_le (2 ^ 63) o ≡ false = grind (arith, nat_tests) in
    let offset' : nat_le (2 ^ 63) p ≡ false = grind (arith, nat_tests) in
    subst (FlagsStand (difference_result Q o p false).1)
    (rw (x, y, o', p', result, carry, positive, positive', offset, offset') refl)
    (flags-themselves (difference_result Q o p false).1)
