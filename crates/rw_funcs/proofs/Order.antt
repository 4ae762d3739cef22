-- Functions by start and then end, where ties keep their order: one order.
use Rattle.std.proofs.Common.{◌≡◌, ℕ, ◌<◌, suc, Bool, true, false, not, ◌&&◌, cond, List, [], ◌∷◌, length, filter, get_or, refl, sym, ap, ◌∙◌, arith}
use Rattle.std.proofs.lemmas.Bool.{false≢true}
use Rattle.std.proofs.lemmas.Cmp.{nat_cmp_total, on_total, then_total}
use Rattle.std.proofs.lemmas.List.Sorted.{ranks_by, length_permutation}
use Rattle.std.specs.Cmp.{IsStrictWeakOrder}
use Rattle.std.specs.List.Sorted.{IsPermutation, IsSortedBy, IsStableBy, ties}
use Rattle.rw_base.specs.Order.{put_in_order, ordered}
use Rattle.rw_base.proofs.Ordered.{not_less, permutation-ordered, sorted-ordered}
use Rattle.rw_elf.specs.declared.symbol.Symbol.{Symbol}
use Rattle.rw_funcs.specs.Functions.{end_of, comes_before}

-- ---- the ordered list keeps the order of ties

-- of two items, the one below the other, not both tie with a third
not_both : {X : Type 0} (lt : X → X → Bool) → IsStrictWeakOrder lt → (x y z : X) → lt z y ≡ true → ties lt x y ≡ true → ties lt x z ≡ true → ⊥
not_both lt o x y z less with_y with_z =
    let low : lt z x ≡ false = second_false (lt x z) (lt z x) with_z in
    let high : lt x y ≡ false = first_false (lt x y) (lt y x) with_y in
    absurd (false≢true (sym (o.chain z x y low high) ∙ less))
  where
    first_false : (a b : Bool) → (not a && not b) ≡ true → a ≡ false
    first_false false b h = refl
    first_false true b h = absurd (false≢true h)

    second_false : (a b : Bool) → (not a && not b) ≡ true → b ≡ false
    second_false true b h = absurd (false≢true h)
    second_false false false h = refl
    second_false false true h = absurd (false≢true h)

-- the order of two items doesn't matter where one of them doesn't pass
swapped : {X : Type 0} (p : X → Bool) (y z : X) (zs : List X) → (p y ≡ true → p z ≡ true → ⊥) → filter p (z ∷ y ∷ zs) ≡ filter p (y ∷ z ∷ zs)
swapped p y z zs h = by_tests (p y) (p z) h
  where
    by_tests : (a b : Bool) → (a ≡ true → b ≡ true → ⊥) → cond b (z ∷ cond a (y ∷ filter p zs) (filter p zs)) (cond a (y ∷ filter p zs) (filter p zs)) ≡ cond a (y ∷ cond b (z ∷ filter p zs) (filter p zs)) (cond b (z ∷ filter p zs) (filter p zs))
    by_tests true true g = absurd (g refl refl)
    by_tests true false g = refl
    by_tests false true g = refl
    by_tests false false g = refl

one_more : {X : Type 0} (p : X → Bool) (x : X) (ys zs : List X) → filter p ys ≡ filter p zs → filter p (x ∷ ys) ≡ filter p (x ∷ zs)
one_more p x ys zs same = ap (λ l. cond (p x) (x ∷ l) l) same

put-stable : {X : Type 0} (lt : X → X → Bool) → IsStrictWeakOrder lt → (x y : X) (ys : List X) → filter (ties lt x) (put_in_order lt y ys) ≡ filter (ties lt x) (y ∷ ys)
put-stable lt o x y [] = refl
put-stable {X} lt o x y (z ∷ zs) = by_test (put-stable lt o x y zs) (lt z y) refl
  where
    by_test : filter (ties lt x) (put_in_order lt y zs) ≡ filter (ties lt x) (y ∷ zs) → (t : Bool) → lt z y ≡ t
        → filter (ties lt x) (cond t (z ∷ put_in_order lt y zs) (y ∷ z ∷ zs)) ≡ filter (ties lt x) (y ∷ z ∷ zs)
    by_test later true less =
        one_more (ties lt x) z (put_in_order lt y zs) (y ∷ zs) later
        ∙ swapped (ties lt x) y z zs (λ with_y with_z. not_both lt o x y z less with_y with_z)
    by_test later false level = refl

ordered-stable : {X : Type 0} (lt : X → X → Bool) → IsStrictWeakOrder lt → (xs : List X) → IsStableBy lt xs (ordered lt xs)
unfolding ordered
ordered-stable lt o [] x = refl
ordered-stable lt o (y ∷ ys) x = put-stable lt o x y (ordered lt ys) ∙ one_more (ties lt x) y (ordered lt ys) ys (ordered-stable lt o ys x)

-- ---- lists whose items tie place by place, with ties in the same order, are the same

abbrev TieByPlace : {X : Type 0} → (X → X → Bool) → List X → List X → Type 0
TieByPlace {X} lt ys zs = (k : ℕ) (d : X) → k < length ys → ties lt (get_or ys k d) (get_or zs k d) ≡ true

both_heads : {X : Type 0} (p : X → Bool) (y z : X) (ys zs : List X) → p y ≡ true → p z ≡ true → filter p (y ∷ ys) ≡ filter p (z ∷ zs) → y ≡ z
both_heads p y z ys zs py pz same =
    let heads : y ∷ filter p ys ≡ z ∷ filter p zs = sym (ap (λ t. cond t (y ∷ filter p ys) (filter p ys)) py) ∙ same ∙ ap (λ t. cond t (z ∷ filter p zs) (filter p zs)) pz in
    cc

same_rest : {X : Type 0} (p : X → Bool) (y : X) (ys zs : List X) → filter p (y ∷ ys) ≡ filter p (y ∷ zs) → filter p ys ≡ filter p zs
same_rest p y ys zs same = by_test (p y) same
  where
    by_test : (t : Bool) → cond t (y ∷ filter p ys) (filter p ys) ≡ cond t (y ∷ filter p zs) (filter p zs) → filter p ys ≡ filter p zs
    by_test true h = cc
    by_test false h = h

ties-itself : {X : Type 0} (lt : X → X → Bool) → IsStrictWeakOrder lt → (x : X) → ties lt x x ≡ true
ties-itself lt o x = by_test (lt x x) refl
  where
    by_test : (t : Bool) → lt x x ≡ t → (not t && not t) ≡ true
    by_test false h = refl
    by_test true h = absurd (false≢true (sym (o.one_way x x h) ∙ h))

same_by_ties : {X : Type 0} (lt : X → X → Bool) → IsStrictWeakOrder lt → (ys zs : List X) → length ys ≡ length zs → TieByPlace lt ys zs → ((x : X) → filter (ties lt x) ys ≡ filter (ties lt x) zs) → ys ≡ zs
same_by_ties lt o [] [] size tie same = refl
same_by_ties lt o [] (z ∷ zs) size tie same = absurd (omega arith)
same_by_ties lt o (y ∷ ys) [] size tie same = absurd (omega arith)
same_by_ties {X} lt o (y ∷ ys) (z ∷ zs) size tie same =
    let head : y ≡ z = both_heads (ties lt y) y z ys zs (ties-itself lt o y) (tie 0 y (omega arith)) (same y) in
    let rest : (x : X) → filter (ties lt x) ys ≡ filter (ties lt x) zs = λ x. same_rest (ties lt x) y ys zs (same x ∙ ap (λ w. filter (ties lt x) (w ∷ zs)) (sym head)) in
    let tail : ys ≡ zs = same_by_ties lt o ys zs (omega arith) (λ k d within. tie (suc k) d (omega arith)) rest in
    ap (λ w. w ∷ ys) head ∙ ap (λ l. z ∷ l) tail

both_false : (a b : Bool) → a ≡ false → b ≡ false → (not a && not b) ≡ true
both_false false false h k = refl
both_false false true h k = absurd (false≢true (sym k))
both_false true b h k = absurd (false≢true (sym h))

-- what a stable sort leaves is the ordered list
pub ordered_from_stable_sort : {X : Type 0} (lt : X → X → Bool) → IsStrictWeakOrder lt → (xs ys : List X) → IsPermutation xs ys → IsSortedBy lt ys → IsStableBy lt xs ys → ys ≡ ordered lt xs
ordered_from_stable_sort lt o xs ys moved up stable =
    let moved_zs : IsPermutation xs (ordered lt xs) = permutation-ordered lt xs in
    let up_zs : IsSortedBy lt (ordered lt xs) = sorted-ordered lt o xs in
    let same_ys : length ys ≡ length xs = length_permutation xs ys moved in
    let same_zs : length (ordered lt xs) ≡ length xs = length_permutation xs (ordered lt xs) moved_zs in
    same_by_ties lt o ys (ordered lt xs) (omega arith)
    (λ k d within. both_false _ _ (not_less lt o xs ys (ordered lt xs) moved moved_zs up up_zs k d (omega arith)) (not_less lt o xs (ordered lt xs) ys moved_zs moved up_zs up k d (omega arith)))
    (λ x. stable x ∙ sym (ordered-stable lt o xs x))

pub comes_before-is_order : IsStrictWeakOrder comes_before
comes_before-is_order =
    ranks_by (then_total (on_total (λ (f : Symbol). f.value) nat_cmp_total) (on_total (λ (f : Symbol). end_of f) nat_cmp_total)) (λ (f : Symbol). f)

pub comes_before-sort : (xs ys : List Symbol) → IsPermutation xs ys → IsSortedBy comes_before ys → IsStableBy comes_before xs ys → ys ≡ ordered comes_before xs
comes_before-sort xs ys moved up stable = ordered_from_stable_sort comes_before comes_before-is_order xs ys moved up stable
