-- One symbol's entry and name behind those before it.
use Rattle.std.proofs.Common.{◌≡◌, ℕ, ◌+◌, ◌<◌, ◌≤◌, List, [], ◌∷◌, ◌++◌, length, get_or, drop, map, refl, sym, ap, ◌∙◌, arith, append_assoc, append-nil, length-append, replicate}
use Rattle.std.proofs.lemmas.List.{drop_all}
use Rattle.std.specs.List.{flat_map}
use Rattle.rw_make.specs.declared.parts.PartSymbol.{PartSymbol}
use Rattle.rw_make.specs.Bytes.{zero_ended, string_table}
use Rattle.rw_make.specs.Tables.{symbol_entry, symbol_entries, symbol_table, symbol_names}
use Rattle.rw_make.proofs.Rest.{rest_is}

pub entries_none : (entries names : List ℕ) (xs : List PartSymbol) → entries ≡ replicate 24 0 → names ≡ 0 ∷ [] → entries ++ symbol_entries (length names) xs ≡ symbol_table xs
unfolding symbol_table
entries_none entries names xs e n = rw (e, n) refl

pub entries_more : (entries entries' names names' : List ℕ) (xs : List PartSymbol) (i : ℕ) (s : PartSymbol) → i < length xs → s ≡ get_or xs i s
    → entries' ≡ entries ++ symbol_entry (length names) s → names' ≡ names ++ zero_ended s.name.items
    → entries' ++ symbol_entries (length names') (drop (i + 1) xs) ≡ entries ++ symbol_entries (length names) (drop i xs)
unfolding symbol_entries
entries_more entries entries' names names' xs i s within is e n =
    let grown : length names' ≡ length names + length s.name.items + 1 =
    rw n (omega (arith, length-append names (zero_ended s.name.items), length-append s.name.items (0 ∷ []))) in
    rw (rest_is xs i s within is, e, grown) (append_assoc entries (symbol_entry (length names) s) (symbol_entries (length names + length s.name.items + 1) (drop (i + 1) xs)))

pub entries_all : (entries : List ℕ) (name : ℕ) (xs : List PartSymbol) (i : ℕ) → length xs ≤ i → entries ++ symbol_entries name (drop i xs) ≡ symbol_table xs → entries ≡ symbol_table xs
unfolding symbol_entries
entries_all entries name xs i all e =
    sym (append-nil entries) ∙ ap (λ rest. entries ++ symbol_entries name rest) (sym (drop_all i xs all)) ∙ e

pub names_none : (names : List ℕ) (xs : List PartSymbol) → names ≡ 0 ∷ [] → names ++ flat_map zero_ended (map (λ s. s.name.items) xs) ≡ symbol_names xs
unfolding string_table
names_none names xs n = rw n refl

pub names_more : (names names' : List ℕ) (xs : List PartSymbol) (i : ℕ) (s : PartSymbol) → i < length xs → s ≡ get_or xs i s → names' ≡ names ++ zero_ended s.name.items
    → names' ++ flat_map zero_ended (map (λ s. s.name.items) (drop (i + 1) xs)) ≡ names ++ flat_map zero_ended (map (λ s. s.name.items) (drop i xs))
names_more names names' xs i s within is n =
    rw (rest_is xs i s within is, n) (append_assoc names (zero_ended s.name.items) (flat_map zero_ended (map (λ s. s.name.items) (drop (i + 1) xs))))
