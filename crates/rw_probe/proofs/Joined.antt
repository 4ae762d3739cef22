-- Numbers of 64 bits that are split into bytes and joined again, and bytes that are written and read.
use Rattle.std.proofs.Common.{◌≡◌, ℕ, ◌<◌, ◌%◌, ◌^◌, refl, sym, ◌∙◌, arith, lit<}
use Rattle.std.proofs.Math.Nat.{mod-eq_of_lt}
use Rattle.std.proofs.lemmas.Nat.{mod_below}
use Rattle.rw_base.specs.declared.width.Width.TheVariants.{Q}
use Rattle.rw_words.specs.Addresses.{Addresses}
use Rattle.rw_words.specs.Words.{eight_bytes, number_of_bytes, number_cells}
use Rattle.rw_words.proofs.WordLemmas.{number-only}
use Rattle.rw_domain.proofs.WordsStand.{num-stands}

abbrev nowhere : Addresses
nowhere = record { region = λ r. 0; code = λ c. 0; past = λ c. 0; import = λ i. 0; finish = 0 }

pub rejoined-is : (n : ℕ) → number_of_bytes (eight_bytes n) ≡ n % 2 ^ 64
rejoined-is n = sym (number-only nowhere (number_cells Q n) (number_of_bytes (eight_bytes n)) (n % 2 ^ 64) refl (num-stands nowhere Q n))

pub rejoined-same : (n : ℕ) → n < 2 ^ 64 → number_of_bytes (eight_bytes n) ≡ n
rejoined-same n h = rejoined-is n ∙ mod-eq_of_lt h

pub rejoined-below : (n : ℕ) → number_of_bytes (eight_bytes n) < 2 ^ 64
rejoined-below n = let e = rejoined-is n in let b = mod_below n (2 ^ 64) (lit< tt) in omega (arith, e, b)
