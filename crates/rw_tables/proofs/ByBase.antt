-- Tables by base, and of one base the one with the most words first: one order.
use Rattle.std.proofs.Common.{◌≡◌, ℕ, ◌+◌, ◌<◌, ◌==◌, Bool, true, false, cond, nat_lt, List, [], ◌∷◌, length, get_or, Contains, refl, arith}
use Rattle.std.specs.List.{AllPairs, dedup}
use Rattle.std.specs.Ordering.{eq_by_cmp, is_eq, is_lt, nat_cmp, ordering_then}
use Rattle.std.specs.declared.cmp.Ordering.{Ordering}
use Rattle.std.specs.declared.cmp.Ordering.TheVariants.{Less, Equal, Greater}
use Rattle.std.proofs.lemmas.Bool.Decides.{nat_tests}
use Rattle.std.proofs.lemmas.List.Elements.{All-from_recursion, All-weaker, Contains-get_or}
use Rattle.std.proofs.lemmas.List.Kept.{AllPairs-cons, Contains-from_dedup, IsStrictlySortedBy-dedup}
use Rattle.std.proofs.lemmas.Cmp.{nat_cmp_total, on_total, then_total}
use Rattle.std.proofs.lemmas.List.Sorted.{Contains-permutation, IsPermutation-sym, ranks_by}
use Rattle.std.specs.Cmp.{IsStrictWeakOrder}
use Rattle.std.specs.List.Sorted.{IsPermutation, IsSorted, IsSortedBy, IsStableBy, IsStrictlySortedBy}
use Rattle.rw_base.specs.Order.{ordered}
use Rattle.rw_base.proofs.Ordered.{permutation-ordered, sorted-ordered}
use Rattle.rw_funcs.proofs.Order.{ordered_from_stable_sort}
use Rattle.rw_tables.specs.declared.table.Table.{Table}
use Rattle.rw_tables.specs.Known.{AreApart}
use Rattle.rw_tables.specs.Tables.{EndsBefore, comes_before, lacking, same_base}
use Rattle.rw_tables.proofs.Compared.{less-than}
use Rattle.rw_tables.proofs.KnownFacts.{above-apart}

comes_before-is_order : IsStrictWeakOrder comes_before
comes_before-is_order =
    ranks_by (then_total (on_total (λ (t : Table). t.base) nat_cmp_total) (on_total (λ (t : Table). lacking t) nat_cmp_total)) (λ (t : Table). t)

pub comes_before-sort : (xs ys : List Table) → IsPermutation xs ys → IsSortedBy comes_before ys → IsStableBy comes_before xs ys → ys ≡ ordered comes_before xs
comes_before-sort xs ys moved up stable = ordered_from_stable_sort comes_before comes_before-is_order xs ys moved up stable

-- ---- one table of each base, by ascending base

abbrev by_base : Table → Table → Ordering
by_base t u = nat_cmp t.base u.base

first-compared : (a b : Ordering) → is_lt (ordering_then a b) ≡ false → is_lt a ≡ false
first-compared Less b h = absurd (cc)
first-compared Equal b h = refl
first-compared Greater b h = refl

ascending : (xs : List Table) → IsSortedBy comes_before xs → IsSorted by_base xs
ascending xs up = λ k d low within. first-compared (by_base (get_or xs (k + 1) d) (get_or xs k d)) (nat_cmp (lacking (get_or xs (k + 1) d)) (lacking (get_or xs k d))) (up k d low within)

strictly : (ts : List Table) → IsStrictlySortedBy by_base ts → AllPairs (λ t u. t.base < u.base) ts
unfolding IsStrictlySortedBy
strictly [] up = λ i j d low within. absurd (omega (arith, within))
strictly (t ∷ ts) up =
    AllPairs-cons (λ t u. t.base < u.base) t ts
    (All-weaker (λ u. by_base t u ≡ Less) (λ u. t.base < u.base) (λ u h. less-than t.base u.base h) ts (All-from_recursion (λ u. by_base t u ≡ Less) ts up.0))
    (strictly ts up.1)

less-other : (a b : ℕ) → nat_lt a b ≡ true → (a == b) ≡ true → ⊥
less-other a b low same =
    let less : a < b = grind (arith, nat_tests) in
    let level : a ≡ b = grind (arith, nat_tests) in
    omega (arith, less, level)

same-tied : (t u : Table) → same_base t u ≡ eq_by_cmp by_base t u
same-tied t u = tied (nat_lt t.base u.base) (t.base == u.base) refl refl
  where
    tied : (a b : Bool) → nat_lt t.base u.base ≡ a → (t.base == u.base) ≡ b → b ≡ is_eq (cond a Less (cond b Equal Greater))
    tied true true low same = absurd (less-other t.base u.base low same)
    tied true false low same = refl
    tied false true low same = refl
    tied false false low same = refl

-- where none overlaps another, each ends at or below where those behind it begin
pub tables-apart : (xs : List Table) → AreApart xs → AllPairs EndsBefore (dedup same_base (ordered comes_before xs))
tables-apart xs apart = λ i j d low within.
    let ys : List Table = ordered comes_before xs in
    let first : i < length (dedup same_base ys) = omega arith in
    let up = strictly (dedup same_base ys) (IsStrictlySortedBy-dedup (on_total (λ (t : Table). t.base) nat_cmp_total) same-tied ys (ascending ys (sorted-ordered comes_before comes_before-is_order xs))) i j d low within in
    let from : (t : Table) → Contains (dedup same_base ys) t → Contains xs t = λ t here. Contains-permutation ys xs t (IsPermutation-sym _ _ (permutation-ordered comes_before xs)) (Contains-from_dedup same_base ys t here) in
    above-apart (get_or (dedup same_base ys) i d) (get_or (dedup same_base ys) j d) up
    (apart _ _ (from _ (Contains-get_or (dedup same_base ys) i d first)) (from _ (Contains-get_or (dedup same_base ys) j d within)))
