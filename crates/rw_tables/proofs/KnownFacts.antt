-- What the map of known tables tells of all tables found so far.
use Rattle.std.proofs.Common.{◌≡◌, ◌≢◌, ℕ, ◌+◌, ◌*◌, ◌<◌, ◌≤◌, ◌==◌, Bool, true, false, ◌||◌, ◌&&◌, not, nat_lt, List, Option, Some, None, Contains, refl, sym, ap, true≢false, ◌∙◌, arith, inl, inr}
use Rattle.std.specs.Prelude.{IfSome, IfNone}
use Rattle.std.specs.List.{list_any}
use Rattle.std.specs.Option.{option_map_or}
use Rattle.std.specs.BTreeMap.{BTreeMap}
use Rattle.std.proofs.lemmas.Bool.{cases_eq, cases_lt, cases_Bool}
use Rattle.std.proofs.lemmas.Bool.Decides.{nat_tests}
use Rattle.std.proofs.lemmas.List.Folds.{list_any_at}
use Rattle.rw_tables.specs.declared.table.Table.{Table}
use Rattle.rw_tables.specs.Tables.{overlaps}
use Rattle.rw_tables.specs.Known.{HasNoneAbove, HasNoneBelow, IsFirstAbove, IsLastBelow, Knows, count_of, number_or_zero}
use Rattle.rw_tables.proofs.TableFacts.{some-item}

-- ---- two tables

pub lt-on : (a b : ℕ) → a < b → nat_lt a b ≡ true
lt-on a b h = grind (arith, nat_tests)

pub lt-off : (a b : ℕ) → b ≤ a → nat_lt a b ≡ false
lt-off a b h = grind (arith, nat_tests)

lt-past : (a b : ℕ) → nat_lt a b ≡ false → b ≤ a
lt-past a b h = grind (arith, nat_tests)

pub same-on : (a b : ℕ) → a ≡ b → (a == b) ≡ true
same-on a b h = grind (arith, nat_tests)

pub same-off : (a b : ℕ) → a ≢ b → (a == b) ≡ false
same-off a b h = grind (arith, nat_tests)

-- of three tests
last-off : (x y z : Bool) → x ≡ false → y ≡ true → (not x && (y && z)) ≡ false → z ≡ false
last-off false true z e f h = h
last-off true y z e f h = absurd (cc)
last-off false false z e f h = absurd (cc)

middle-off : (x y z : Bool) → x ≡ false → z ≡ true → (not x && (y && z)) ≡ false → y ≡ false
middle-off false false z e f h = refl
middle-off false true true e f h = absurd (cc)
middle-off false true false e f h = absurd (cc)
middle-off true y z e f h = absurd (cc)

off-first : (x y z : Bool) → x ≡ true → (not x && (y && z)) ≡ false
off-first true y z e = refl
off-first false y z e = absurd (cc)

off-middle : (x y z : Bool) → y ≡ false → (not x && (y && z)) ≡ false
off-middle true y z e = refl
off-middle false false z e = refl
off-middle false true z e = absurd (cc)

off-last : (x y z : Bool) → z ≡ false → (not x && (y && z)) ≡ false
off-last true y z e = refl
off-last false true false e = refl
off-last false false z e = refl
off-last false true true e = absurd (cc)

below-apart : (t u : Table) → u.base < t.base → overlaps t u ≡ false → u.base + 4 * u.count ≤ t.base
below-apart t u low h =
    lt-past t.base (u.base + 4 * u.count) (last-off (t.base == u.base) (nat_lt u.base (t.base + 4 * t.count)) (nat_lt t.base (u.base + 4 * u.count)) (same-off t.base u.base (λ e. omega (arith, e, low))) (lt-on u.base (t.base + 4 * t.count) (omega (arith, low))) h)

pub above-apart : (t u : Table) → t.base < u.base → overlaps t u ≡ false → t.base + 4 * t.count ≤ u.base
above-apart t u low h =
    lt-past u.base (t.base + 4 * t.count) (middle-off (t.base == u.base) (nat_lt u.base (t.base + 4 * t.count)) (nat_lt t.base (u.base + 4 * u.count)) (same-off t.base u.base (λ e. omega (arith, e, low))) (lt-on t.base (u.base + 4 * u.count) (omega (arith, low))) h)

apart-below : (t u : Table) → u.base + 4 * u.count ≤ t.base → overlaps t u ≡ false
apart-below t u low = off-last (t.base == u.base) (nat_lt u.base (t.base + 4 * t.count)) (nat_lt t.base (u.base + 4 * u.count)) (lt-off t.base (u.base + 4 * u.count) low)

apart-above : (t u : Table) → t.base + 4 * t.count ≤ u.base → overlaps t u ≡ false
apart-above t u low = off-middle (t.base == u.base) (nat_lt u.base (t.base + 4 * t.count)) (nat_lt t.base (u.base + 4 * u.count)) (lt-off u.base (t.base + 4 * t.count) low)

pub apart-same : (t u : Table) → t.base ≡ u.base → overlaps t u ≡ false
apart-same t u same = off-first (t.base == u.base) (nat_lt u.base (t.base + 4 * t.count)) (nat_lt t.base (u.base + 4 * u.count)) (same-on t.base u.base same)

pub apart-back : (t u : Table) → overlaps t u ≡ false → overlaps u t ≡ false
apart-back t u h =
    elim (cases_lt t.base u.base) [
      | inl low ↦ apart-below u t (above-apart t u low h)
      | inr high ↦
          elim (cases_eq t.base u.base) [
            | inl same ↦ apart-same u t (sym same)
            | inr other ↦ apart-above u t (below-apart t u (omega (arith, high, other)) h)
          ]
    ]

abbrev pub made : ℕ → ℕ → Table
made b n = record { base = b; count = n }

pub same-table : (t u : Table) → t.base ≡ u.base → t.count ≡ u.count → t ≡ u
same-table t u b n = ap (λ x. made x t.count) b ∙ ap (λ x. made u.base x) n

pub same-count : (n k : ℕ) → ◌≡◌ {A = Option ℕ} (Some n) (Some k) → n ≡ k
same-count n k e = ap (λ o. number_or_zero o) e

pub none-any : (tables : List Table) (t u : Table) → list_any (overlaps t) tables ≡ false → Contains tables u → overlaps t u ≡ false
none-any tables t u none here =
    elim (cases_Bool (overlaps t u)) as (λ _. overlaps t u ≡ false) [
      | inl yes_ ↦ let on = list_any_at (overlaps t) tables here.0 u here.1 (ap (overlaps t) here.2 ∙ yes_) in absurd (true≢false (sym on ∙ none))
      | inr no_ ↦ no_
    ]

one-any : (tables : List Table) (t u : Table) → Contains tables u → overlaps t u ≡ true → list_any (overlaps t) tables ≡ true
one-any tables t u here on = list_any_at (overlaps t) tables here.0 u here.1 (ap (overlaps t) here.2 ∙ on)

-- ---- the neighbours of a table

clear-of : (tables : List Table) (m : BTreeMap ℕ ℕ) (t : Table) (lo hi : Option Table) → Knows tables m
    → IfSome lo (IsLastBelow m t.base) → IfNone lo (HasNoneBelow m t.base) → IfSome hi (IsFirstAbove m t.base) → IfNone hi (HasNoneAbove m t.base)
    → option_map_or (overlaps t) lo false ≡ false → option_map_or (overlaps t) hi false ≡ false → (u : Table) → Contains tables u → overlaps t u ≡ false
clear-of tables m t lo hi knows lo_is lo_none hi_is hi_none lo_off hi_off u here =
    elim (cases_eq u.base t.base) [
      | inl same ↦ apart-same t u (sym same)
      | inr other ↦
          elim (cases_lt u.base t.base) [
            | inl low ↦ below lo lo_is lo_none lo_off low
            | inr high ↦ above hi hi_is hi_none hi_off (omega (arith, other))
          ]
    ]
  where
    below : (lo : Option Table) → IfSome lo (IsLastBelow m t.base) → IfNone lo (HasNoneBelow m t.base) → option_map_or (overlaps t) lo false ≡ false → u.base < t.base → overlaps t u ≡ false
    below None is none off low = let listed = knows.listed u here in let past = none u.base listed.0 listed.1 in absurd (omega (arith, past, low))
    below (Some g) is none off low =
        let listed = knows.listed u here in
        let most = is.2 u.base listed.0 listed.1 low in
        let few = listed.2 in
        let under = is.1 in
        let end = below-apart t g under off in
        elim (cases_eq u.base g.base) [
          | inl same ↦
              let n = same-count listed.0 g.count (sym listed.1 ∙ ap (count_of m) same ∙ is.0) in
              apart-below t u (omega (arith, n, few, end, same))
          | inr other ↦
              let next = above-apart u g (omega (arith, most, other)) (knows.apart u g here (knows.from g is.0)) in
              apart-below t u (omega (arith, next, under))
        ]

    above : (hi : Option Table) → IfSome hi (IsFirstAbove m t.base) → IfNone hi (HasNoneAbove m t.base) → option_map_or (overlaps t) hi false ≡ false → t.base < u.base → overlaps t u ≡ false
    above None is none off low = let listed = knows.listed u here in let past = none u.base listed.0 listed.1 in absurd (omega (arith, past, low))
    above (Some g) is none off low =
        let listed = knows.listed u here in
        let least = is.2 u.base listed.0 listed.1 low in
        let end = above-apart t g is.1 off in
        apart-above t u (omega (arith, least, end))

pub near : (tables : List Table) (m : BTreeMap ℕ ℕ) (t : Table) (lo hi : Option Table) → Knows tables m
    → IfSome lo (IsLastBelow m t.base) → IfNone lo (HasNoneBelow m t.base) → IfSome hi (IsFirstAbove m t.base) → IfNone hi (HasNoneAbove m t.base)
    → (option_map_or (overlaps t) lo false || option_map_or (overlaps t) hi false) ≡ list_any (overlaps t) tables
near tables m t lo hi knows lo_is lo_none hi_is hi_none = by_tests (option_map_or (overlaps t) lo false) (option_map_or (overlaps t) hi false) refl refl
  where
    low-found : (o : Option Table) → IfSome o (IsLastBelow m t.base) → option_map_or (overlaps t) o false ≡ true → list_any (overlaps t) tables ≡ true
    low-found None is h = absurd (cc)
    low-found (Some g) is h = one-any tables t g (knows.from g is.0) h

    high-found : (o : Option Table) → IfSome o (IsFirstAbove m t.base) → option_map_or (overlaps t) o false ≡ true → list_any (overlaps t) tables ≡ true
    high-found None is h = absurd (cc)
    high-found (Some g) is h = one-any tables t g (knows.from g is.0) h

    clear : option_map_or (overlaps t) lo false ≡ false → option_map_or (overlaps t) hi false ≡ false → (b : Bool) → list_any (overlaps t) tables ≡ b → false ≡ list_any (overlaps t) tables
    clear a b false is = sym is
    clear a b true is =
        let found = some-item (overlaps t) tables is in
        let off = clear-of tables m t lo hi knows lo_is lo_none hi_is hi_none a b found.0 found.1 in
        absurd (true≢false (sym found.2 ∙ off))

    by_tests : (a b : Bool) → option_map_or (overlaps t) lo false ≡ a → option_map_or (overlaps t) hi false ≡ b → (a || b) ≡ list_any (overlaps t) tables
    by_tests true b e f = sym (low-found lo lo_is e)
    by_tests false true e f = sym (high-found hi hi_is f)
    by_tests false false e f = clear e f (list_any (overlaps t) tables) refl
