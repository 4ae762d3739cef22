-- A mask by at most the alignment masks the offset as it masks the address.
use Rattle.std.proofs.Common.{ℕ, zero, suc, ◌+◌, ◌-◌, ◌*◌, ◌/◌, ◌%◌, ◌^◌, ◌<◌, ◌≤◌, ◌≡◌, true, nat_le, refl, sym, ap, ◌∙◌, subst, arith, lit<, inl, inr, add-zero, add_comm}
use Rattle.std.specs.Prelude.{bit_and, ◌⊎◌}
use Rattle.std.specs.Int.{IsPowerOfTwo, is_power_of_two}
use lib.Count.{ones, ones_step}
use Rattle.std.proofs.Math.Nat.{mod-lt, mod-add-div, add-mul-div_right, add-mod-mod, mul-mod_left, pow-suc, mul_assoc, add-mul, div-add-mod', mul-div_cancel, mod-mod}
use Rattle.std.proofs.Math.Pow.{pow-add, pow-lt}
use Rattle.std.proofs.lemmas.Nat.{pow_pos, zero_from_ones, mod-pow-add, div-mul-add}
use Rattle.std.proofs.lemmas.Nat.Bits.{and_high}
use Rattle.std.proofs.lemmas.Bool.{eqb-true, leb-true, cases_lt}
use Rattle.rw_domain.specs.Symbols.{is_mask}
use Rattle.rw_words.proofs.WordLemmas.{and-first, and-second}

-- a number of which one bit is set is a power of two
no_bits : (m : ℕ) → m ≡ 0 → ones m ≡ 1 → ⊥
unfolding ones
no_bits m z e = let e' : ones 0 ≡ 1 = subst (λ x. ones x ≡ 1) z e in cc

one_bit : (fuel m : ℕ) → m ≤ fuel → ones m ≡ 1 → IsPowerOfTwo m
one_bit zero m h e = absurd (no_bits m (omega arith) e)
one_bit (suc fuel) m h e =
    let digit : m % 2 < 2 = mod-lt m (lit< tt) in
    let step : ones m ≡ m % 2 + ones (m / 2) = ones_step m in
    let digits : m % 2 + 2 * (m / 2) ≡ m = mod-add-div m 2 in
    elim (cases_of m digit) [
      | inl even ↦
          let half : ones (m / 2) ≡ 1 = omega arith in
          let p : IsPowerOfTwo (m / 2) = one_bit fuel (m / 2) (by_half fuel m h digits even e) half in
          let twice : m ≡ 2 ^ p.0 * 2 = omega (arith, p.1) in
          (suc p.0, twice ∙ sym (pow-suc 2 p.0))
      | inr odd ↦
          let none : ones (m / 2) ≡ 0 = omega arith in
          let zero' : m / 2 ≡ 0 = zero_from_ones (m / 2) none in
          (0, let one : m ≡ 1 = omega arith in one)
    ]
  where
    cases_of : (m : ℕ) → m % 2 < 2 → (m % 2 ≡ 0) ⊎ (m % 2 ≡ 1)
    cases_of m h = first_digit (m % 2) h
      where
        first_digit : (d : ℕ) → d < 2 → (d ≡ 0) ⊎ (d ≡ 1)
        first_digit zero h = inl refl
        first_digit (suc d) h = inr (omega arith)

    by_half : (fuel m : ℕ) → m ≤ suc fuel → m % 2 + 2 * (m / 2) ≡ m → m % 2 ≡ 0 → ones m ≡ 1 → m / 2 ≤ fuel
    by_half fuel m h digits even e = omega arith

pub power_of : (m : ℕ) → is_power_of_two m ≡ true → IsPowerOfTwo m
power_of m h = one_bit m m (omega arith) (eqb-true (ones m) 1 h)

-- the low bits of a number that ends in k zeros
high_bits : (y j k : ℕ) → (y * 2 ^ k) % 2 ^ (j + k) ≡ y % 2 ^ j * 2 ^ k
high_bits y j k =
    mod-pow-add (y * 2 ^ k) j k
    ∙ (ap (λ z. z % 2 ^ j * 2 ^ k + y * 2 ^ k % 2 ^ k) (mul-div_cancel y (pow_pos k))
    ∙ (ap (λ z. y % 2 ^ j * 2 ^ k + z) (mul-mod_left y (2 ^ k)) ∙ add-zero (y % 2 ^ j * 2 ^ k)))

-- the high bits of a number of j + k bits
above : (x j k : ℕ) → x % 2 ^ (j + k) / 2 ^ k % 2 ^ j ≡ x / 2 ^ k % 2 ^ j
above x j k =
    ap (λ z. z / 2 ^ k % 2 ^ j) (mod-pow-add x j k)
    ∙ (ap (λ z. z % 2 ^ j) (div-mul-add (x / 2 ^ k % 2 ^ j) (2 ^ k) (x % 2 ^ k) (mod-lt x (pow_pos k))) ∙ mod-mod (x / 2 ^ k) (2 ^ j))

mask_shift : (u o j k : ℕ) → bit_and ((u * 2 ^ k + o) % 2 ^ (j + k)) (2 ^ (j + k) - 2 ^ k) ≡ (u * 2 ^ k + bit_and o (2 ^ (j + k) - 2 ^ k)) % 2 ^ (j + k)
mask_shift u o j k =
    let left : bit_and ((u * 2 ^ k + o) % 2 ^ (j + k)) (2 ^ (j + k) - 2 ^ k) ≡ (o / 2 ^ k + u) % 2 ^ j * 2 ^ k =
    and_high ((u * 2 ^ k + o) % 2 ^ (j + k)) j k
    ∙ (ap (λ z. z * 2 ^ k) (above (u * 2 ^ k + o) j k)
    ∙ ap (λ z. z % 2 ^ j * 2 ^ k) (ap (λ z. z / 2 ^ k) (add_comm (u * 2 ^ k) o) ∙ add-mul-div_right o u (pow_pos k))) in
    let right : (u * 2 ^ k + bit_and o (2 ^ (j + k) - 2 ^ k)) % 2 ^ (j + k) ≡ (u + o / 2 ^ k % 2 ^ j) % 2 ^ j * 2 ^ k =
    ap (λ z. (u * 2 ^ k + z) % 2 ^ (j + k)) (and_high o j k)
    ∙ (ap (λ z. z % 2 ^ (j + k)) (sym (add-mul u (o / 2 ^ k % 2 ^ j) (2 ^ k))) ∙ high_bits (u + o / 2 ^ k % 2 ^ j) j k) in
    left ∙ (ap (λ z. z * 2 ^ k) (ap (λ z. z % 2 ^ j) (add_comm (o / 2 ^ k) u) ∙ sym (add-mod-mod u (o / 2 ^ k) (2 ^ j))) ∙ sym right)

not_above : (i j : ℕ) → 2 ^ i ≤ 2 ^ j → i ≤ j
not_above i j h = elim (cases_lt j i) as (λ _. i ≤ j) [ inl above' ↦ absurd (let less : 2 ^ j < 2 ^ i = pow-lt above' in omega arith) | inr le ↦ le ]

-- the address of a masked place, where the region's base is a multiple of its alignment
pub mask-stands : (base o v align : ℕ) → IsPowerOfTwo align → base % align ≡ 0 → v < 2 ^ 64 → is_mask align v ≡ true → bit_and ((base + o) % 2 ^ 64) v ≡ (base + bit_and o v) % 2 ^ 64
mask-stands base o v align power aligned small masks =
    let within : 2 ^ 64 - v ≤ align = leb-true (2 ^ 64 - v) align (and-first (nat_le (2 ^ 64 - v) align) _ masks) in
    let bits : IsPowerOfTwo (2 ^ 64 - v) = power_of (2 ^ 64 - v) (and-second (nat_le (2 ^ 64 - v) align) _ masks) in
    let k : ℕ = bits.0 in
    let a : ℕ = power.0 in
    let width : k ≤ 64 = not_above k 64 (let most : 2 ^ 64 - v ≤ 2 ^ 64 = omega arith in subst (λ z. z ≤ 2 ^ 64) bits.1 most) in
    let below : k ≤ a = not_above k a (subst (λ z. z ≤ 2 ^ a) bits.1 (subst (λ z. 2 ^ 64 - v ≤ z) power.1 within)) in
    let j : ℕ = 64 - k in
    let whole : 64 ≡ j + k = omega arith in
    let mask : v ≡ 2 ^ 64 - 2 ^ k = let e : 2 ^ 64 - v ≡ 2 ^ k = bits.1 in omega arith in
    let parts : align ≡ 2 ^ (a - k) * 2 ^ k = power.1 ∙ (ap (λ z. 2 ^ z) (let e : a ≡ (a - k) + k = omega arith in e) ∙ pow-add 2 (a - k) k) in
    let u : ℕ = base / align * 2 ^ (a - k) in
    let multiple : base ≡ u * 2 ^ k =
    sym (let e : base / align * align + base % align ≡ base = div-add-mod' base align in let f : base / align * align ≡ base = omega arith in f)
    ∙ (ap (λ z. base / align * z) parts ∙ sym (mul_assoc (base / align) (2 ^ (a - k)) (2 ^ k))) in
    let shifted : bit_and ((u * 2 ^ k + o) % 2 ^ (j + k)) (2 ^ (j + k) - 2 ^ k) ≡ (u * 2 ^ k + bit_and o (2 ^ (j + k) - 2 ^ k)) % 2 ^ (j + k) = mask_shift u o j k in
    let at : bit_and ((u * 2 ^ k + o) % 2 ^ 64) (2 ^ 64 - 2 ^ k) ≡ (u * 2 ^ k + bit_and o (2 ^ 64 - 2 ^ k)) % 2 ^ 64 =
    subst (λ z. bit_and ((u * 2 ^ k + o) % 2 ^ z) (2 ^ z - 2 ^ k) ≡ (u * 2 ^ k + bit_and o (2 ^ z - 2 ^ k)) % 2 ^ z) (sym whole) shifted in
    subst (λ z. bit_and ((base + o) % 2 ^ 64) z ≡ (base + bit_and o z) % 2 ^ 64) (sym mask)
    (subst (λ z. bit_and ((z + o) % 2 ^ 64) (2 ^ 64 - 2 ^ k) ≡ (z + bit_and o (2 ^ 64 - 2 ^ k)) % 2 ^ 64) (sym multiple) at)
