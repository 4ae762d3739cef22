-- The map of known tables with a table more.
use Rattle.std.proofs.Common.{◌≡◌, ◌≢◌, ℕ, ◌+◌, ◌*◌, ◌<◌, ◌≤◌, ◌==◌, Bool, true, false, ◌&&◌, not, nat_lt, cond, max, List, [], ◌∷◌, ◌++◌, Option, Some, None, Contains, refl, sym, ap, subst, true≢false, ◌∙◌, arith, inl, inr}
use Rattle.std.specs.List.{list_all, list_any, range_with_len, cons_option}
use Rattle.std.specs.BTreeMap.{BTreeMap}
use Rattle.std.specs.Ordering.{is_eq, nat_cmp}
use Rattle.std.specs.declared.cmp.Ordering.TheVariants.{Less, Equal, Greater}
use Rattle.std.proofs.lemmas.Bool.{cases_eq, cases_lt, cases_Bool}
use Rattle.std.proofs.lemmas.List.Elements.{Contains-append_left, Contains-push, Contains-push_cases}
use Rattle.rw_base.specs.Rules.{when}
use Rattle.rw_base.specs.declared.fault.Fault.TheVariants.{BadTable}
use Rattle.rw_tables.specs.declared.table.Table.{Table}
use Rattle.rw_tables.specs.Tables.{leads, all_lead, overlaps, is_constant, table_fault}
use Rattle.rw_tables.specs.Known.{AddsTable, Adds, AreLed, Knows, count_of, grown, number_or_zero}
use Rattle.rw_tables.proofs.TableFacts.{one-leads_not}
use Rattle.rw_tables.proofs.KnownFacts.{lt-off, same-on, same-off, same-table, same-count, none-any, apart-back, apart-same}

-- ---- a table more

eq-here : (a b : ℕ) → a ≡ b → is_eq (nat_cmp a b) ≡ true
eq-here a b e =
    let low = lt-off a b (omega (arith, e)) in
    let same = same-on a b e in
    ap (λ t. is_eq (cond t Less (cond (a == b) Equal Greater))) low ∙ ap (λ t. is_eq (cond t Equal Greater)) same

eq-other : (a b : ℕ) → a ≢ b → is_eq (nat_cmp a b) ≡ false
eq-other a b e =
    let other = same-off a b e in
    ap (λ t. is_eq (cond (nat_lt a b) Less (cond t Equal Greater))) other ∙ either (nat_lt a b)
  where
    either : (t : Bool) → is_eq (cond t Less Greater) ≡ false
    either true = refl
    either false = refl

module _ (old new : BTreeMap ℕ ℕ) (t : Table) (adds : AddsTable old new t) where
  at-same : (b : ℕ) → t.base ≡ b → count_of new b ≡ Some (grown t.count (count_of old t.base))
  at-same b e = adds b ∙ ap (λ c. cond c (Some (grown t.count (count_of old t.base))) (count_of old b)) (eq-here t.base b e)

  at-other : (b : ℕ) → t.base ≢ b → count_of new b ≡ count_of old b
  at-other b e = adds b ∙ ap (λ c. cond c (Some (grown t.count (count_of old t.base))) (count_of old b)) (eq-other t.base b e)

grown-new : (n : ℕ) (o : Option ℕ) → n ≤ grown n o
grown-new n None = omega arith
grown-new n (Some k) = omega arith

grown-old : (n k : ℕ) (o : Option ℕ) → o ≡ Some k → k ≤ grown n o
grown-old n k o e = let is = ap (grown n) e in let high : k ≤ max k n = omega arith in omega (arith, is, high)

pub knows-more : (tables : List Table) (old new : BTreeMap ℕ ℕ) (t : Table) → Knows tables old → AddsTable old new t → list_any (overlaps t) tables ≡ false → Knows (tables ++ t ∷ []) new
knows-more tables old new t knows adds none = record {
  listed = λ u here.
      elim (Contains-push_cases tables t u here) [
        | inl before ↦
            let listed = knows.listed u before in
            let few = listed.2 in
            elim (cases_eq t.base u.base) [
              | inl same ↦
                  let more = grown-old t.count listed.0 (count_of old t.base) (ap (count_of old) same ∙ listed.1) in
                  (grown t.count (count_of old t.base), at-same old new t adds u.base same, omega (arith, more, few))
              | inr other ↦ (listed.0, at-other old new t adds u.base other ∙ listed.1, few)
            ]
        | inr is ↦
            let size = ap (λ (x : Table). x.count) is in
            let more = grown-new t.count (count_of old t.base) in
            (grown t.count (count_of old t.base), at-same old new t adds u.base (ap (λ (x : Table). x.base) is), omega (arith, size, more))
      ];
  from = λ u at.
      elim (cases_eq t.base u.base) [
        | inl same ↦ by_old u same (count_of old t.base) refl (same-count (grown t.count (count_of old t.base)) u.count (sym (at-same old new t adds u.base same) ∙ at))
        | inr other ↦ Contains-append_left tables (t ∷ []) u (knows.from u (sym (at-other old new t adds u.base other) ∙ at))
      ];
  apart = λ u v in_u in_v.
      elim (Contains-push_cases tables t u in_u) [
        | inl u_old ↦
            elim (Contains-push_cases tables t v in_v) [
              | inl v_old ↦ knows.apart u v u_old v_old
              | inr v_is ↦ ap (overlaps u) (sym v_is) ∙ apart-back t u (none-any tables t u none u_old)
            ]
        | inr u_is ↦
            elim (Contains-push_cases tables t v in_v) [
              | inl v_old ↦ ap (λ x. overlaps x v) (sym u_is) ∙ none-any tables t v none v_old
              | inr v_is ↦ apart-same u v (ap (λ (x : Table). x.base) (sym u_is ∙ v_is))
            ]
      ];
}
  where
    by_old : (u : Table) → t.base ≡ u.base → (o : Option ℕ) → count_of old t.base ≡ o → grown t.count o ≡ u.count → Contains (tables ++ t ∷ []) u
    by_old u same None is size = subst (Contains (tables ++ t ∷ [])) (same-table t u same size) (Contains-push tables t)
    by_old u same (Some n) is size =
        elim (cases_lt t.count n) [
          | inl less ↦
              let count : n ≡ u.count = omega (arith, size, less) in
              Contains-append_left tables (t ∷ []) u (knows.from u (ap (count_of old) (sym same) ∙ is ∙ ap Some count))
          | inr more ↦
              let count : t.count ≡ u.count = omega (arith, size, more) in
              subst (Contains (tables ++ t ∷ [])) (same-table t u same count) (Contains-push tables t)
        ]

-- ---- words that lead

pub all-each : (p : ℕ → Bool) (n : ℕ) → list_all p (range_with_len 0 n) ≡ true → (j : ℕ) → j < n → p j ≡ true
all-each p n all j low =
    elim (cases_Bool (p j)) as (λ _. p j ≡ true) [
      | inl on ↦ on
      | inr off ↦ let none = one-leads_not p n j low off in absurd (true≢false (sym all ∙ none))
    ]

pub led-more : (bytes : List ℕ) (old new : BTreeMap ℕ ℕ) (t : Table) → AreLed bytes old → AddsTable old new t → all_lead bytes t ≡ true → AreLed bytes new
led-more bytes old new t led adds all = λ b n at k low.
    elim (cases_eq t.base b) [
      | inl same ↦ by_old b same n k low (count_of old t.base) refl (same-count (grown t.count (count_of old t.base)) n (sym (at-same old new t adds b same) ∙ at))
      | inr other ↦ led b n (sym (at-other old new t adds b other) ∙ at) k low
    ]
  where
    own : (b : ℕ) → t.base ≡ b → (k : ℕ) → k < t.count → leads bytes b (b + 4 * k) ≡ true
    own b same k low = subst (λ x. leads bytes x (x + 4 * k) ≡ true) same (all-each (λ j. leads bytes t.base (t.base + 4 * j)) t.count all k low)

    by_old : (b : ℕ) → t.base ≡ b → (n k : ℕ) → k < n → (o : Option ℕ) → count_of old t.base ≡ o → grown t.count o ≡ n → leads bytes b (b + 4 * k) ≡ true
    by_old b same n k low None is size = own b same k (omega (arith, size, low))
    by_old b same n k low (Some old_n) is size =
        elim (cases_lt k t.count) [
          | inl inside ↦ own b same k inside
          | inr past ↦ led b old_n (ap (count_of old) (sym same) ∙ is) k (omega (arith, size, low, past))
        ]

pub led-first : (bytes : List ℕ) (m : BTreeMap ℕ ℕ) (b : ℕ) → AreLed bytes m → (o : Option ℕ) → count_of m b ≡ o → (k : ℕ) → k < number_or_zero o → leads bytes b (b + 4 * k) ≡ true
led-first bytes m b led None is k low = absurd (omega (arith, low))
led-first bytes m b led (Some n) is k low = led b n is k low

-- ---- a jump more

pub step : (bytes : List ℕ) (tables : List Table) (old new : BTreeMap ℕ ℕ) (a : ℕ) (o : Option Table) → table_fault bytes tables a o ≡ None → Knows tables old → AreLed bytes old → Adds old new o
    → Knows (tables ++ cons_option o []) new × AreLed bytes new
step bytes tables old new a None none knows led adds = absurd (cc)
step bytes tables old new a (Some t) none knows led adds = by_tests (is_constant bytes t) (all_lead bytes t) (list_any (overlaps t) tables) refl refl none
  where
    by_tests : (b c d : Bool) → all_lead bytes t ≡ c → list_any (overlaps t) tables ≡ d → when (not (b && (c && not d))) (BadTable a) ≡ None → Knows (tables ++ t ∷ []) new × AreLed bytes new
    by_tests true true false all off h = (knows-more tables old new t knows adds off, led-more bytes old new t led adds all)
    by_tests true true true all off h = absurd (cc)
    by_tests true false d all off h = absurd (cc)
    by_tests false c d all off h = absurd (cc)
