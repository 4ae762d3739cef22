-- How a text is taken apart: what follows a prefix, what stands around a separator, and numbers. Reading is lenient:
-- a text that is read need not be a line, and is one exactly where the line of what is read is that text.
use Rattle.std.specs.Prelude.{ℕ, zero, suc, ◌+◌, ◌*◌, ◌^◌, ℤ, pos, negsuc, ◌&&◌, List, [], ◌∷◌, drop, slice_index, Option, Some, None, nat_lt, ◌==◌, if◌then◌else◌}
use Rattle.std.specs.Char.{digit_value}

-- the second step, where the first gives a value
infixl 10 ◌>>=◌
abbrev pub ◌>>=◌ : {A B : Type 0} → Option A → (A → Option B) → Option B
(Some x) >>= f = f x
None >>= f = None

-- what follows a prefix
abbrev pub after_prefix : List ℕ → List ℕ → Option (List ℕ)
after_prefix [] text = Some text
after_prefix (p ∷ ps) [] = None
after_prefix (p ∷ ps) (b ∷ bs) = if b == p then after_prefix ps bs else None

abbrev pub with_front : ℕ → Option (List ℕ × List ℕ) → Option (List ℕ × List ℕ)
with_front b None = None
with_front b (Some x) = Some (b ∷ x.0, x.1)

-- what stands before the first such byte, and after it
unfoldable pub split : ℕ → List ℕ → Option (List ℕ × List ℕ)
split c [] = None
split c (b ∷ bs) = if b == c then Some ([], bs) else with_front b (split c bs)

abbrev pub put_first : ℕ → List (List ℕ) → List (List ℕ)
put_first b [] = (b ∷ []) ∷ []
put_first b (piece ∷ pieces) = (b ∷ piece) ∷ pieces

-- the pieces that such bytes separate
unfoldable pub pieces : ℕ → List ℕ → List (List ℕ)
pieces c [] = [] ∷ []
pieces c (b ∷ bs) = if b == c then [] ∷ pieces c bs else put_first b (pieces c bs)

-- the number of 64 bits that the digits write after those of n
unfoldable pub number_after : ℕ → ℕ → List ℕ → Option ℕ
number_after base n [] = Some n
number_after base n (c ∷ cs) = if nat_lt (digit_value c) base && nat_lt (n * base + digit_value c) (2 ^ 64) then number_after base (n * base + digit_value c) cs else None

-- the number that digits write; no digit at all writes 0
abbrev pub number_in : ℕ → List ℕ → Option ℕ
number_in base text = number_after base 0 text

-- the number, where it has this many bits
abbrev pub narrow : ℕ → ℕ → Option ℕ
narrow bits n = if nat_lt n (2 ^ bits) then Some n else None

abbrev pub positive : ℕ → Option ℤ
positive n = if nat_lt n (2 ^ 63) then Some (pos n) else None

abbrev pub negative : ℕ → Option ℤ
negative zero = Some (pos 0)
negative (suc n) = if nat_lt n (2 ^ 63) then Some (negsuc n) else None

-- a number of 64 bits with its sign
unfoldable pub signed_in : List ℕ → Option ℤ
signed_in text = if slice_index text 0 == 45 then number_in 10 (drop 1 text) >>= negative else number_in 10 text >>= positive
