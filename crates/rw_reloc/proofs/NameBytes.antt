-- The bytes of names are graphic.
use Rattle.std.proofs.Common.{◌≡◌, ℕ, true, List, arith}
use Rattle.std.proofs.lemmas.Bool.Decides.{nat_tests}
use Rattle.std.proofs.lemmas.List.Elements.{All-weaker}
use Rattle.std.proofs.lemmas.List.Sums.{AllPass-from_list_all, list_all-from_AllPass}
use Rattle.std.specs.List.{list_all}
use Rattle.rw_base.specs.Name.{is_graphic, is_name_byte}

graphic : (b : ℕ) → is_name_byte b ≡ true → is_graphic b ≡ true
graphic b h = grind (arith, nat_tests)

pub all_graphic : (name : List ℕ) → list_all is_name_byte name ≡ true → list_all is_graphic name ≡ true
all_graphic name h =
    list_all-from_AllPass is_graphic name (All-weaker (λ b. is_name_byte b ≡ true) (λ b. is_graphic b ≡ true) graphic name (AllPass-from_list_all is_name_byte name h))
