-- A name that a text gives itself is in the list of its names.
use Rattle.std.proofs.Common.{◌≡◌, ℕ, ◌<◌, Bool, true, false, List, [], length, nat_lt, refl, sym, ap, ◌∙◌}
use Rattle.std.proofs.lemmas.Bool.{false≢true, ltb-true, ltb-false}
use Rattle.std.proofs.lemmas.List.{get_or_past}
use Rattle.rw_base.specs.Name.{is_own_name}
use Rattle.asm_items.specs.declared.item.NameId.{NameId}
use Rattle.asm_items.specs.Named.{name_of}

pub within : (names : List (List ℕ)) (id : NameId) → is_own_name (name_of names id) ≡ true → id.0 < length names
within names id own = by_test (nat_lt id.0 (length names)) refl
  where
    by_test : (t : Bool) → nat_lt id.0 (length names) ≡ t → id.0 < length names
    by_test true e = ltb-true id.0 (length names) e
    by_test false e = absurd (false≢true (sym (ap is_own_name (get_or_past names id.0 [] (ltb-false id.0 (length names) e))) ∙ own))
