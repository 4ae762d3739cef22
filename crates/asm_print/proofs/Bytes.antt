-- Kinds of bytes: those of names, and those of the words that an address or a number is made of.
use Rattle.std.proofs.Common.{◌≡◌, ℕ, Bool, true, ◌||◌, eqb, arith}
use Rattle.std.proofs.lemmas.Bool.{or_left}
use Rattle.std.proofs.lemmas.Bool.Decides.{nat_tests}
use Rattle.rw_base.specs.Name.{is_name_byte}
use Rattle.asm_print.specs.Arguments.{is_numeric}

-- a byte of a name, or %, + or -
unfoldable pub is_word_byte : ℕ → Bool
is_word_byte b = is_name_byte b || (eqb b 37 || (eqb b 43 || eqb b 45))

-- or a comma, as between the parentheses of an address
unfoldable pub is_inner_byte : ℕ → Bool
is_inner_byte b = is_word_byte b || eqb b 44

-- or one of ( ) :, as in any argument
unfoldable pub is_solid_byte : ℕ → Bool
is_solid_byte b = is_inner_byte b || (eqb b 40 || (eqb b 41 || eqb b 58))

pub word-from_name : (b : ℕ) → is_name_byte b ≡ true → is_word_byte b ≡ true
unfolding is_word_byte
word-from_name b h = or_left (is_name_byte b) (eqb b 37 || (eqb b 43 || eqb b 45)) h

pub inner-from_word : (b : ℕ) → is_word_byte b ≡ true → is_inner_byte b ≡ true
unfolding is_inner_byte
inner-from_word b h = or_left (is_word_byte b) (eqb b 44) h

pub solid-from_inner : (b : ℕ) → is_inner_byte b ≡ true → is_solid_byte b ≡ true
unfolding is_solid_byte
solid-from_inner b h = or_left (is_inner_byte b) (eqb b 40 || (eqb b 41 || eqb b 58)) h

pub solid-from_word : (b : ℕ) → is_word_byte b ≡ true → is_solid_byte b ≡ true
solid-from_word b h = solid-from_inner b (inner-from_word b h)

-- a minus or a digit
pub word-from_numeric : (b : ℕ) → is_numeric b ≡ true → is_word_byte b ≡ true
unfolding is_word_byte
word-from_numeric b h = grind (arith, nat_tests)
