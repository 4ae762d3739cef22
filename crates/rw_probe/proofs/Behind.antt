-- Points that come directly behind others of their function.
use Rattle.std.proofs.Common.{◌≡◌, ℕ, suc, ◌+◌, ◌<◌, Bool, true, false, List, [], ◌∷◌, length, get_or, refl, sym, ap, ◌∙◌, arith, inl, inr, None}
use Rattle.std.specs.Prelude.{◌==◌, ◌||◌, ◌&&◌, nat_lt}
use Rattle.std.specs.List.{flat_map, list_any}
use Rattle.std.proofs.lemmas.Bool.{cases_Bool, eqb-true}
use Rattle.std.proofs.lemmas.List.Folds.{list_any-append}
use Rattle.rw_elf.specs.Symbols.{null_symbol}
use Rattle.rw_elf.specs.Tables.{elf_rules}
use Rattle.rw_base.specs.Rules.{first}
use Rattle.rw_funcs.specs.Found.{found_rules}
use Rattle.rw_funcs.specs.Functions.{end_of, kept_functions}
use Rattle.rw_funcs.specs.Points.{Point, file_points, is_point, points_of}
use Rattle.rw_tables.proofs.FunctionPoints.{function-tiles}
use Rattle.rw_tables.proofs.KnownFacts.{lt-on, lt-off, same-on, same-off}
use Rattle.rw_tables.proofs.Tiles.{Tiles, tiles-end}
use Rattle.rw_words.proofs.WordLemmas.{and-second}
use Rattle.rw_probe.specs.Collecting.{begins_by}
use Rattle.rw_probe.specs.Leaders.{ends_at, ends_block, is_behind, is_behind_in, is_code, is_named, named_by}
use Rattle.rw_probe.proofs.Adding.{or-pairs}

-- ---- any of a list

pub any-or : {A : Type 0} (p q : A → Bool) (xs : List A) → list_any (λ x. p x || q x) xs ≡ (list_any p xs || list_any q xs)
any-or p q [] = refl
any-or p q (x ∷ xs) = ap (λ b. (p x || q x) || b) (any-or p q xs) ∙ or-pairs (p x) (q x) (list_any p xs) (list_any q xs)

and-true : (a : Bool) → (a && true) ≡ a
and-true true = refl
and-true false = refl

and-false : (a : Bool) → (a && false) ≡ false
and-false true = refl
and-false false = refl

any-and : {A : Type 0} (p : A → Bool) (b : Bool) (xs : List A) → list_any (λ x. p x && b) xs ≡ (list_any p xs && b)
any-and p b [] = refl
any-and p true (x ∷ xs) = ap (λ t. t || list_any (λ y. p y && true) xs) (and-true (p x)) ∙ ap (λ t. p x || t) (any-and p true xs ∙ and-true (list_any p xs)) ∙ sym (and-true (p x || list_any p xs))
any-and p false (x ∷ xs) = ap (λ t. t || list_any (λ y. p y && false) xs) (and-false (p x)) ∙ any-and p false xs ∙ and-false (list_any p xs) ∙ sym (and-false (p x || list_any p xs))

pub any-same : {A : Type 0} (p q : A → Bool) (xs : List A) (d : A) → ((k : ℕ) → k < length xs → p (get_or xs k d) ≡ q (get_or xs k d)) → list_any p xs ≡ list_any q xs
any-same p q [] d h = refl
any-same p q (x ∷ xs) d h =
    ap (λ b. b || list_any p xs) (h 0 (let n : 0 < length (x ∷ xs) = omega arith in n)) ∙ ap (λ b. q x || b) (any-same p q xs d (λ k low. h (suc k) (omega (arith, low))))

any-flat : {A T : Type 0} (p : T → Bool) (g : A → List T) (xs : List A) → list_any (λ x. list_any p (g x)) xs ≡ list_any p (flat_map g xs)
any-flat p g [] = refl
any-flat p g (x ∷ xs) = ap (λ b. list_any p (g x) || b) (any-flat p g xs) ∙ sym (list_any-append p (g x) (flat_map g xs))

-- ---- tiles

-- where a tile ends, another begins, unless it is the last
behind-tile : (a : ℕ) (ps : List Point) (e c : ℕ) → Tiles a ps e → list_any (ends_at c) ps ≡ true → (a < c) × (nat_lt c e ≡ is_point ps c)
behind-tile a [] e c t h = absurd (cc)
behind-tile a (p ∷ ps) e c t h = by_test (ends_at c p) refl h (behind-tile (a + p.len) ps e c t.2)
  where
    place : p.place ≡ a
    place = t.0

    next : (qs : List Point) → Tiles (a + p.len) qs e → c ≡ a + p.len → nat_lt c e ≡ is_point (p ∷ qs) c
    next [] u same =
        let some = t.1 in
        let here = t.0 in
        lt-off c e (omega (arith, u, same)) ∙ sym (ap (λ b. b || false) (same-off p.place c (λ f. omega (arith, f, here, same, some))))
    next (q ∷ qs) u same =
        let rest = tiles-end (a + p.len + q.len) qs e u.2 in
        let more = u.1 in
        let there = u.0 in
        let some = t.1 in
        let here = t.0 in
        lt-on c e (omega (arith, rest, more, same))
        ∙ sym (ap (λ b. b || is_point (q ∷ qs) c) (same-off p.place c (λ f. omega (arith, f, here, same, some))) ∙ ap (λ b. b || is_point qs c) (same-on q.place c (omega (arith, there, same))))

    by_test : (b : Bool) → ends_at c p ≡ b → (b || list_any (ends_at c) ps) ≡ true → (list_any (ends_at c) ps ≡ true → (a + p.len < c) × (nat_lt c e ≡ is_point ps c)) → (a < c) × (nat_lt c e ≡ is_point (p ∷ ps) c)
    by_test true ends h later =
        let end : p.place + p.len ≡ c = eqb-true _ _ (and-second (ends_block p.insn) (p.place + p.len == c) ends) in
        let some = t.1 in
        let here = t.0 in
        let same : c ≡ a + p.len = omega (arith, end, here) in
        (omega (arith, same, some), next ps t.2 same)
    by_test false ends h later =
        let found = later h in
        let low = found.0 in
        let some = t.1 in
        let here = t.0 in
        (omega (arith, low, some), found.1 ∙ sym (ap (λ b. b || is_point ps c) (same-off p.place c (λ f. omega (arith, f, here, low, some)))))

behind-tiles : (a : ℕ) (ps : List Point) (e c : ℕ) → Tiles a ps e → (list_any (ends_at c) ps && nat_lt c e) ≡ (is_point ps c && list_any (ends_at c) ps)
behind-tiles a ps e c t =
    elim (cases_Bool (list_any (ends_at c) ps)) as (λ _. (list_any (ends_at c) ps && nat_lt c e) ≡ (is_point ps c && list_any (ends_at c) ps)) [
      | inl yes_ ↦ ap (λ b. b && nat_lt c e) yes_ ∙ (behind-tile a ps e c t yes_).1 ∙ sym (and-true (is_point ps c)) ∙ ap (λ b. is_point ps c && b) (sym yes_)
      | inr no_ ↦ ap (λ b. b && nat_lt c e) no_ ∙ sym (and-false (is_point ps c)) ∙ ap (λ b. is_point ps c && b) (sym no_)
    ]

-- ---- what begins by the points of functions

begins-split : (bytes : List ℕ) (a : ℕ) (ps : List Point) (e c : ℕ) → Tiles a ps e → begins_by bytes e ps c ≡ (list_any (λ p. is_code c (named_by bytes p)) ps || (is_point ps c && list_any (ends_at c) ps))
begins-split bytes a ps e c t =
    any-or (λ p. is_code c (named_by bytes p)) (λ p. ends_at c p && nat_lt c e) ps
    ∙ ap (λ b. list_any (λ p. is_code c (named_by bytes p)) ps || b) (any-and (ends_at c) (nat_lt c e) ps ∙ behind-tiles a ps e c t)

-- those of all functions
pub begins-all : (bytes : List ℕ) (c : ℕ) → first (elf_rules bytes) ≡ None → first (found_rules bytes) ≡ None
    → list_any (λ f. begins_by bytes (end_of f) (points_of bytes f) c) (kept_functions bytes) ≡ (is_named bytes c || is_behind bytes c)
unfolding file_points
begins-all bytes c file found =
    any-same (λ f. begins_by bytes (end_of f) (points_of bytes f) c) (λ f. list_any (λ p. is_code c (named_by bytes p)) (points_of bytes f) || is_behind_in bytes c f) (kept_functions bytes) null_symbol
    (λ k low. begins-split bytes (get_or (kept_functions bytes) k null_symbol).value (points_of bytes (get_or (kept_functions bytes) k null_symbol)) (end_of (get_or (kept_functions bytes) k null_symbol)) c (function-tiles bytes k null_symbol file found low))
    ∙ any-or (λ f. list_any (λ p. is_code c (named_by bytes p)) (points_of bytes f)) (is_behind_in bytes c) (kept_functions bytes)
    ∙ ap (λ b. b || is_behind bytes c) (any-flat (λ p. is_code c (named_by bytes p)) (points_of bytes) (kept_functions bytes))
