-- One entry more of a table.
use Rattle.std.proofs.Common.{◌≡◌, ℕ, ◌+◌, Bool, List, [], ◌∷◌, ◌++◌, map, filter, sym, ap, ◌∙◌, arith, append_assoc}
use Rattle.std.specs.List.{range_with_len}
use Rattle.std.proofs.lemmas.List.FromFn.{map-range_with_len_more}
use Rattle.std.proofs.lemmas.List.Elements.{filter-append}
use Rattle.rw_reloc.specs.declared.entry.Entry.{Entry}

pub filter-more : (p : Entry → Bool) (f : ℕ → Entry) (k : ℕ) (old list new : List Entry) (e : Entry) → list ≡ old ++ filter p (map f (range_with_len 0 k)) → e ≡ f k → new ≡ list ++ filter p (e ∷ []) → new ≡ old ++ filter p (map f (range_with_len 0 (k + 1)))
filter-more p f k old list new e so_far is more =
    let all : map f (range_with_len 0 (k + 1)) ≡ map f (range_with_len 0 k) ++ f k ∷ [] = map-range_with_len_more f 0 k k (omega arith) in
    more
    ∙ ap (λ xs. xs ++ filter p (e ∷ [])) so_far
    ∙ ap (λ x. (old ++ filter p (map f (range_with_len 0 k))) ++ filter p (x ∷ [])) is
    ∙ append_assoc old (filter p (map f (range_with_len 0 k))) (filter p (f k ∷ []))
    ∙ ap (λ xs. old ++ xs) (sym (filter-append p (map f (range_with_len 0 k)) (f k ∷ [])))
    ∙ ap (λ xs. old ++ filter p xs) (sym all)
