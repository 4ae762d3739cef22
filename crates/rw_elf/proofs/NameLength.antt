-- Whether a name that lies in the file is good, by the length that is kept with it.
use Rattle.std.proofs.Common.{◌≡◌, ℕ, ◌+◌, ◌-◌, ◌<◌, ◌≤◌, ◌&&◌, nat_le, true, false, List, length, drop, ap, ◌∙◌, arith, length-take, length-drop}
use Rattle.std.specs.List.{list_all}
use Rattle.std.proofs.lemmas.Bool.Decides.{nat_tests}
use Rattle.rw_base.specs.Name.{is_graphic, is_good_name}
use Rattle.rw_elf.specs.declared.section.NameAt.{NameAt}
use Rattle.rw_elf.specs.Name.{name_bytes}
use Rattle.rw_elf.specs.Tables.{IsNameIn}

length_of_name : (bytes : List ℕ) (name : NameAt) → IsNameIn bytes name → length (name_bytes bytes name) ≡ name.len
length_of_name bytes name within =
    grind (arith, within, length-drop name.at bytes, length-take (name.at + name.len - name.at) (drop name.at bytes))

by_length : (bytes : List ℕ) (name : NameAt) → IsNameIn bytes name → is_good_name (name_bytes bytes name) ≡ (nat_le 1 name.len && nat_le name.len 4096 && list_all is_graphic (name_bytes bytes name))
unfolding is_good_name
by_length bytes name within = ap (λ n. nat_le 1 n && nat_le n 4096 && list_all is_graphic (name_bytes bytes name)) (length_of_name bytes name within)

pub good_where_graphic : (bytes : List ℕ) (name : NameAt) → IsNameIn bytes name → 1 ≤ name.len → name.len ≤ 4096 → is_good_name (name_bytes bytes name) ≡ list_all is_graphic (name_bytes bytes name)
good_where_graphic bytes name within some few =
    let a : nat_le 1 name.len ≡ true = grind (arith, nat_tests) in
    let b : nat_le name.len 4096 ≡ true = grind (arith, nat_tests) in
    by_length bytes name within ∙ rw (a, b)

pub none_is_bad : (bytes : List ℕ) (name : NameAt) → IsNameIn bytes name → name.len < 1 → is_good_name (name_bytes bytes name) ≡ false
none_is_bad bytes name within none =
    let a : nat_le 1 name.len ≡ false = grind (arith, nat_tests) in
    by_length bytes name within ∙ rw a

pub long_is_bad : (bytes : List ℕ) (name : NameAt) → IsNameIn bytes name → 4096 < name.len → is_good_name (name_bytes bytes name) ≡ false
long_is_bad bytes name within long =
    let a : nat_le 1 name.len ≡ true = grind (arith, nat_tests) in
    let b : nat_le name.len 4096 ≡ false = grind (arith, nat_tests) in
    by_length bytes name within ∙ rw (a, b)
