-- Sums that stay below a power of two, and bytes above a number.
use Rattle.std.proofs.Common.{ℕ, suc, ◌+◌, ◌-◌, ◌*◌, ◌/◌, ◌%◌, ◌^◌, ◌<◌, ◌≤◌, ◌≡◌, false, nat_eq, sym, ap, ◌∙◌, subst, arith, lit<, lit≤, add-zero, mul-one}
use Rattle.std.proofs.lemmas.Bool.{eqb-false}
use Rattle.std.proofs.Math.Nat.{mod-lt, mul-div_cancel, mul-mod_left, div-lt_iff_lt-mul, div-eq_of_lt, lt-mul-div-succ, mul-le-mul_left, mul-add, mul_comm, pow-suc, pow-le-pow_right, mod-add-div}
use Rattle.std.proofs.Math.Pow.{pow-add}
use Rattle.std.proofs.lemmas.Nat.{pow_pos, mod-pow-add, mul-add-lt}
use Rattle.rw_base.specs.declared.width.Width.{Width}
use Rattle.rw_base.specs.declared.width.Width.TheVariants.{B, W, L, Q}
use Rattle.rw_base.specs.Width.{bit_count}
use Rattle.rw_domain.specs.Numbers.{is_odd, low, rotation_result}
use Rattle.rw_words.specs.Addresses.{byte_of}

-- a number of j + k bits rotated by k keeps that many
pub rotate_room : (a j k : ℕ) → a < 2 ^ (j + k) → (a * 2 ^ k) % 2 ^ (j + k) + a / 2 ^ j < 2 ^ (j + k)
rotate_room a j k h =
    let split : 2 ^ (j + k) ≡ 2 ^ k * 2 ^ j = pow-add 2 j k ∙ mul_comm (2 ^ j) (2 ^ k) in
    let up : (a * 2 ^ k) % 2 ^ (j + k) ≡ a % 2 ^ j * 2 ^ k =
    mod-pow-add (a * 2 ^ k) j k
    ∙ (ap (λ z. z % 2 ^ j * 2 ^ k + a * 2 ^ k % 2 ^ k) (mul-div_cancel a (pow_pos k))
    ∙ (ap (λ z. a % 2 ^ j * 2 ^ k + z) (mul-mod_left a (2 ^ k)) ∙ add-zero (a % 2 ^ j * 2 ^ k))) in
    let below : a % 2 ^ j < 2 ^ j = mod-lt a (pow_pos j) in
    let down : a / 2 ^ j < 2 ^ k = (div-lt_iff_lt-mul (pow_pos j)).1 (subst (λ z. a < z) split h) in
    let sum : a % 2 ^ j * 2 ^ k + a / 2 ^ j < 2 ^ k * 2 ^ j = mul-add-lt (a % 2 ^ j) (2 ^ k) (a / 2 ^ j) (2 ^ j) below down in
    omega arith

-- an even number below an even power is at least two below it
two_below : (q p : ℕ) → nat_eq (q % 2) 1 ≡ false → q < p * 2 → q + 2 ≤ p * 2
two_below q p even h =
    let digits : q % 2 + 2 * (q / 2) ≡ q = mod-add-div q 2 in
    let digit : q % 2 < 2 = mod-lt q (lit< tt) in
    let not_one : q % 2 ≡ 1 → ⊥ = eqb-false (q % 2) 1 even in
    let zero : q % 2 ≡ 0 = omega arith in
    omega arith

-- a bit that is clear can be added
pub bit_room_at : (n i k : ℕ) → is_odd (n / 2 ^ i) ≡ false → i < k → n < 2 ^ k → n + 2 ^ i < 2 ^ k
bit_room_at n i k even small below =
    let j : ℕ = k - suc i in
    let split : 2 ^ k ≡ 2 ^ i * (2 ^ j * 2) =
    ap (λ z. 2 ^ z) (let e : k ≡ i + suc j = omega arith in e) ∙ (pow-add 2 i (suc j) ∙ ap (λ z. 2 ^ i * z) (pow-suc 2 j)) in
    let q : n / 2 ^ i < 2 ^ j * 2 = (div-lt_iff_lt-mul (pow_pos i)).1 (subst (λ z. n < z) (split ∙ mul_comm (2 ^ i) (2 ^ j * 2)) below) in
    let room : n / 2 ^ i + 2 ≤ 2 ^ j * 2 = two_below (n / 2 ^ i) (2 ^ j) even q in
    let top : 2 ^ i * (n / 2 ^ i + 2) ≤ 2 ^ i * (2 ^ j * 2) = mul-le-mul_left (2 ^ i) room in
    let parts : 2 ^ i * (n / 2 ^ i + 2) ≡ 2 ^ i * (n / 2 ^ i + 1) + 2 ^ i =
    ap (λ z. 2 ^ i * z) (let e : n / 2 ^ i + 2 ≡ n / 2 ^ i + 1 + 1 = omega arith in e)
    ∙ (mul-add (2 ^ i) (n / 2 ^ i + 1) 1 ∙ ap (λ z. 2 ^ i * (n / 2 ^ i + 1) + z) (mul-one (2 ^ i))) in
    let under : n < 2 ^ i * (n / 2 ^ i + 1) = lt-mul-div-succ n (pow_pos i) in
    omega arith

pub bit_room : (n i : ℕ) → is_odd (n / 2 ^ i) ≡ false → i < 64 → n < 2 ^ 64 → n + 2 ^ i < 2 ^ 64
bit_room n i even small below = bit_room_at n i 64 even small below

-- a number below 2 ^ 64 has no bytes past the eighth
pub no_byte : (n i : ℕ) → n < 2 ^ 64 → 8 ≤ i → 0 ≡ byte_of n i
no_byte n i below past =
    let top : 256 ^ 8 ≤ 256 ^ i = pow-le-pow_right (lit< tt) past in
    let under : n < 256 ^ i = omega arith in
    sym (ap (λ z. z % 256) (div-eq_of_lt under))

pub width_bits : (w : Width) → bit_count w ≤ 64
width_bits B = lit≤ tt
width_bits W = lit≤ tt
width_bits L = lit≤ tt
width_bits Q = lit≤ tt

-- a rotated number is one of the width
pub rotated_below : (w : Width) (a k : ℕ) → k ≤ bit_count w → rotation_result w a k < 2 ^ bit_count w
rotated_below w a k h =
    let whole : (bit_count w - k) + k ≡ bit_count w = omega arith in
    let small : low w a < 2 ^ (bit_count w - k + k) = subst (λ z. low w a < 2 ^ z) (sym whole) (mod-lt a (pow_pos (bit_count w))) in
    subst (λ z. (low w a * 2 ^ k) % 2 ^ z + low w a / 2 ^ (bit_count w - k) < 2 ^ z) whole (rotate_room (low w a) (bit_count w - k) k small)

pub rotated_fits : (w : Width) (a k : ℕ) → k ≤ bit_count w → rotation_result w a k < 2 ^ 64
rotated_fits w a k h =
    let top : 2 ^ bit_count w ≤ 2 ^ 64 = pow-le-pow_right (lit< tt) (width_bits w) in
    let below : rotation_result w a k < 2 ^ bit_count w = rotated_below w a k h in
    omega arith
