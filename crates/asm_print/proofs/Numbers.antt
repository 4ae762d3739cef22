-- Numbers that are printed are read again.
use Rattle.std.proofs.Common.{◌≡◌, ℕ, suc, ◌+◌, ◌-◌, ◌*◌, ◌^◌, ◌<◌, ◌≤◌, Bool, true, false, cond, eqb, ltb, not, Some, None, List, [], ◌∷◌, length, get_or, drop, refl, sym, ap, ◌∙◌, arith, lt-ltb}
use Rattle.std.specs.List.{list_all}
use Rattle.std.specs.Prelude.{decimal, ℤ, pos, negsuc}
use Rattle.std.specs.Fmt.{digits, signed_decimal}
use Rattle.std.specs.Char.{digit_value}
use Rattle.std.specs.Str.Parse.{AllDigits, digits_value, digits_value_after, IsNumeral}
use Rattle.std.proofs.lemmas.Bool.{and_parts, and_from, or_right, ltb-true, ltb-false, not-true, eqb-true}
use Rattle.std.proofs.lemmas.Bool.Decides.{nat_tests}
use Rattle.std.proofs.lemmas.Fmt.{digits_is_IsNumeral}
use Rattle.std.proofs.Math.Nat.{mul-le-mul_left}
use Rattle.rw_base.specs.declared.width.Width.{Width}
use Rattle.rw_base.specs.declared.width.Width.TheVariants.{B, W, L, Q}
use Rattle.x86_insn.specs.Fields.{is_long_number}
use Rattle.x86_insn.specs.WellFormed.{fits_immediate}
use Rattle.rw_base.specs.Name.{is_name_byte, is_digit}
use Rattle.asm_print.specs.Line.{hex}
use Rattle.asm_print.specs.Text.{shown}
use Rattle.asm_print.specs.Pieces.{◌>>=◌, after_prefix, number_after, number_in, narrow, positive, negative, signed_in}
use Rattle.asm_print.specs.Arguments.{disp_in, half, is_numeric}

digit-is_name : (c : ℕ) → digit_value c < 36 → is_name_byte c ≡ true
digit-is_name c h = grind (arith, nat_tests)

digits-are_name : (base : ℕ) (ds : List ℕ) → base ≤ 16 → AllDigits base ds → list_all is_name_byte ds ≡ true
digits-are_name base [] h all = refl
digits-are_name base (c ∷ cs) h all = let small = all.0 in and_from (is_name_byte c) (list_all is_name_byte cs) (digit-is_name c (omega (arith, small, h))) (digits-are_name base cs h all.1)

value-grows : (base n : ℕ) (ds : List ℕ) → 1 ≤ base → n ≤ digits_value_after base n ds
value-grows base n [] h = omega arith
value-grows base n (c ∷ cs) h = omega (arith, value-grows base (n * base + digit_value c) cs h, mul-le-mul_left n h)

number-of_digits : (base n : ℕ) (ds : List ℕ) → 1 ≤ base → AllDigits base ds → digits_value_after base n ds < 2 ^ 64 → number_after base n ds ≡ Some (digits_value_after base n ds)
unfolding number_after
number-of_digits base n [] h all small = refl
number-of_digits base n (c ∷ cs) h all small =
    let fits : n * base + digit_value c < 2 ^ 64 = omega (arith, value-grows base (n * base + digit_value c) cs h) in
    ap (λ t. cond t (number_after base (n * base + digit_value c) cs) None) (and_from _ _ (lt-ltb _ _ all.0) (lt-ltb _ _ fits)) ∙ number-of_digits base (n * base + digit_value c) cs h all.1 small

module _ (base n : ℕ) (low : 2 ≤ base) (high : base ≤ 16) (small : n < 2 ^ 64) (short : n < base ^ 64) where
  pub numeral : IsNumeral base (digits base false n) × (digits_value base (digits base false n) ≡ n)
  numeral = digits_is_IsNumeral base false low high n short

  number-digits : number_in base (digits base false n) ≡ Some n
  number-digits = number-of_digits base 0 (digits base false n) (omega arith) numeral.0.1 (omega (arith, numeral.1)) ∙ ap Some numeral.1

  name-digits : list_all is_name_byte (digits base false n) ≡ true
  name-digits = digits-are_name base (digits base false n) high numeral.0.1

pub number-decimal : (n : ℕ) → n < 2 ^ 64 → number_in 10 (decimal n) ≡ Some n
number-decimal n h = number-digits 10 n (omega arith) (omega arith) h (omega arith)

pub narrow-again : (bits n : ℕ) → n < 2 ^ bits → narrow bits n ≡ Some n
narrow-again bits n h = ap (λ t. cond t (Some n) None) (lt-ltb n (2 ^ bits) h)

-- a number of fewer bits
pub narrow-decimal : (bits n : ℕ) → n < 2 ^ bits → n < 2 ^ 64 → (number_in 10 (decimal n) >>= narrow bits) ≡ Some n
narrow-decimal bits n h k = ap (λ r. r >>= narrow bits) (number-decimal n k) ∙ narrow-again bits n h

pub number-hex : (n : ℕ) → n < 2 ^ 64 → number_in 16 (hex n) ≡ Some n
number-hex n h = number-digits 16 n (omega arith) (omega arith) h (omega arith)

pub name-decimal : (n : ℕ) → n < 2 ^ 64 → list_all is_name_byte (decimal n) ≡ true
name-decimal n h = name-digits 10 n (omega arith) (omega arith) h (omega arith)

pub name-hex : (n : ℕ) → n < 2 ^ 64 → list_all is_name_byte (hex n) ≡ true
name-hex n h = name-digits 16 n (omega arith) (omega arith) h (omega arith)

-- ---- the first byte

-- a letter behind f is no digit
not-digit : (x c : ℕ) → digit_value x < 16 → 103 ≤ c → c ≤ 122 → eqb x c ≡ false
not-digit x c h low high = grind (arith, nat_tests)

no-letter : (ds : List ℕ) (c : ℕ) → AllDigits 16 ds → 103 ≤ c → c ≤ 122 → after_prefix (c ∷ []) ds ≡ None
no-letter [] c h low high = refl
no-letter (x ∷ xs) c h low high = ap (λ t. cond t (Some xs) None) (not-digit x c h.0 low high)

-- a number in hexadecimal does not begin with such a letter, whatever follows it
pub hex-letter : (n c : ℕ) → n < 2 ^ 64 → 103 ≤ c → c ≤ 122 → after_prefix (c ∷ []) (hex n) ≡ None
hex-letter n c h low high = no-letter (hex n) c (numeral 16 n (omega arith) (omega arith) h (omega arith)).0.1 low high

first-digit : (base : ℕ) (ds : List ℕ) → 0 < length ds → AllDigits base ds → digit_value (get_or ds 0 0) < base
first-digit base [] h all = absurd (omega arith)
first-digit base (c ∷ cs) h all = all.0

no-minus : (c : ℕ) → digit_value c < 10 → eqb c 45 ≡ false
no-minus c h = grind (arith, nat_tests)

digit-from : (c : ℕ) → digit_value c < 10 → is_digit c ≡ true
digit-from c h = grind (arith, nat_tests)

-- ---- signed numbers

signed-by : (ds : List ℕ) (t : Bool) → eqb (get_or ds 0 0) 45 ≡ t → signed_in ds ≡ cond t (number_in 10 (drop 1 ds) >>= negative) (number_in 10 ds >>= positive)
unfolding signed_in
signed-by ds t e = ap (λ u. cond u (number_in 10 (drop 1 ds) >>= negative) (number_in 10 ds >>= positive)) e

abbrev pub IsLong : ℤ → Type 0
IsLong (pos n) = n < 2 ^ 63
IsLong (negsuc n) = n < 2 ^ 63

abbrev pub IsHalf : ℤ → Type 0
IsHalf (pos n) = n < 2 ^ 31
IsHalf (negsuc n) = n < 2 ^ 31

pub signed-again : (z : ℤ) → IsLong z → signed_in (signed_decimal z) ≡ Some z
signed-again (pos n) h =
    let m = numeral 10 n (omega arith) (omega arith) (omega arith) (omega arith) in
    signed-by (decimal n) false (no-minus _ (first-digit 10 (decimal n) m.0.0 m.0.1)) ∙ ap (λ r. r >>= positive) (number-decimal n (omega arith)) ∙ ap (λ t. cond t (Some (pos n)) None) (lt-ltb n (2 ^ 63) h)
signed-again (negsuc n) h =
    signed-by (45 ∷ decimal (suc n)) true refl ∙ ap (λ r. r >>= negative) (number-decimal (suc n) (omega arith)) ∙ ap (λ t. cond t (Some (negsuc n)) None) (lt-ltb n (2 ^ 63) h)

digits-are_numeric : (ds : List ℕ) → AllDigits 10 ds → list_all is_numeric ds ≡ true
digits-are_numeric [] all = refl
digits-are_numeric (c ∷ cs) all = and_from (is_numeric c) (list_all is_numeric cs) (or_right (eqb c 45) (is_digit c) (digit-from c all.0)) (digits-are_numeric cs all.1)

numeric-decimal : (n : ℕ) → n < 2 ^ 64 → list_all is_numeric (decimal n) ≡ true
numeric-decimal n h = digits-are_numeric (decimal n) (numeral 10 n (omega arith) (omega arith) h (omega arith)).0.1

pub all-numeric : (z : ℤ) → IsLong z → list_all is_numeric (signed_decimal z) ≡ true
all-numeric (pos n) h = numeric-decimal n (omega arith)
all-numeric (negsuc n) h = numeric-decimal (suc n) (omega arith)

-- a signed number begins with a minus or a digit
pub numeric-signed : (z : ℤ) → IsLong z → is_numeric (get_or (signed_decimal z) 0 0) ≡ true
numeric-signed (pos n) h =
    let m = numeral 10 n (omega arith) (omega arith) (omega arith) (omega arith) in
    or_right (eqb (get_or (decimal n) 0 0) 45) (is_digit (get_or (decimal n) 0 0)) (digit-from (get_or (decimal n) 0 0) (first-digit 10 (decimal n) m.0.0 m.0.1))
numeric-signed (negsuc n) h = refl

-- ---- displacements

pub long-from_half : (z : ℤ) → IsHalf z → IsLong z
long-from_half (pos n) h = omega arith
long-from_half (negsuc n) h = omega arith

half-again : (z : ℤ) → IsHalf z → half z ≡ Some z
half-again (pos n) h = ap (λ t. cond t (Some (pos n)) None) (lt-ltb n (2 ^ 31) h)
half-again (negsuc n) h = ap (λ t. cond t (Some (negsuc n)) None) (lt-ltb n (2 ^ 31) h)

pub disp-again : (z : ℤ) → IsHalf z → disp_in (signed_decimal z) ≡ Some z
unfolding disp_in
disp-again z h = ap (λ r. r >>= half) (signed-again z (long-from_half z h)) ∙ half-again z h

shown-case : (n : ℕ) (t : Bool) → eqb n 0 ≡ t → n < 2 ^ 31 → disp_in (cond t [] (decimal n)) ≡ Some (pos n)
unfolding disp_in signed_in number_after
shown-case n true e h = ap (λ k. Some (pos k)) (sym (eqb-true n 0 e))
shown-case n false e h = disp-again (pos n) h

pub shown-again : (z : ℤ) → IsHalf z → disp_in (shown z) ≡ Some z
shown-again (pos n) h = shown-case n (eqb n 0) refl h
shown-again (negsuc n) h = disp-again (negsuc n) h

shown-numeric : (n : ℕ) (t : Bool) → n < 2 ^ 31 → list_all is_numeric (cond t [] (decimal n)) ≡ true
shown-numeric n true h = refl
shown-numeric n false h = numeric-decimal n (omega arith)

pub all-numeric_shown : (z : ℤ) → IsHalf z → list_all is_numeric (shown z) ≡ true
all-numeric_shown (pos n) h = shown-numeric n (eqb n 0) h
all-numeric_shown (negsuc n) h = all-numeric (negsuc n) (omega arith)

-- ---- the bounds of numbers

pub long-from : (z : ℤ) → is_long_number z ≡ true → IsLong z
long-from (pos n) h = ltb-true n (2 ^ 63) h
long-from (negsuc n) h = let k = ltb-false (2 ^ 63 - 1) n (not-true _ (and_parts (not (ltb (2 ^ 63 - 1) n)) true h).0) in omega (arith, k)

-- an immediate of a width has 32 bits at most
below : (w : Width) (n : ℕ) → fits_immediate w (pos n) ≡ true → n < 2 ^ 31
below B n h = let k = ltb-true n 128 h in omega (arith, k)
below W n h = let k = ltb-true n 32768 h in omega (arith, k)
below L n h = let k = ltb-true n 2147483648 h in omega (arith, k)
below Q n h = let k = ltb-true n 2147483648 h in omega (arith, k)

above : (w : Width) (n : ℕ) → fits_immediate w (negsuc n) ≡ true → n < 2 ^ 31
above B n h = let k = ltb-false 127 n (not-true _ (and_parts (not (ltb 127 n)) true h).0) in omega (arith, k)
above W n h = let k = ltb-false 32767 n (not-true _ (and_parts (not (ltb 32767 n)) true h).0) in omega (arith, k)
above L n h = let k = ltb-false 2147483647 n (not-true _ (and_parts (not (ltb 2147483647 n)) true h).0) in omega (arith, k)
above Q n h = let k = ltb-false 2147483647 n (not-true _ (and_parts (not (ltb 2147483647 n)) true h).0) in omega (arith, k)

pub half-immediate : (w : Width) (z : ℤ) → fits_immediate w z ≡ true → IsHalf z
half-immediate w (pos n) h = below w n h
half-immediate w (negsuc n) h = above w n h
