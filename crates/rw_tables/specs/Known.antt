-- The greatest count of each base among tables, as a map from base to count.
use Rattle.std.specs.Prelude.{◌≡◌, ℕ, ◌+◌, ◌*◌, ◌<◌, ◌≤◌, List, true, false, Contains, Option, Some, None, max, cond}
use Rattle.std.specs.BTreeMap.{BTreeMap, get}
use Rattle.std.specs.Ordering.{is_eq, nat_cmp}
use Rattle.rw_tables.specs.declared.table.Table.{Table}
use Rattle.rw_tables.specs.Tables.{leads, overlaps}

abbrev pub count_of : BTreeMap ℕ ℕ → ℕ → Option ℕ
count_of m b = get nat_cmp m b

-- how many words of a base are known
abbrev pub number_or_zero : Option ℕ → ℕ
number_or_zero None = 0
number_or_zero (Some n) = n

abbrev pub grown : ℕ → Option ℕ → ℕ
grown n None = n
grown n (Some old) = max old n

-- the table of the greatest base below an address
abbrev pub IsLastBelow : BTreeMap ℕ ℕ → ℕ → Table → Type 0
IsLastBelow m a t = (count_of m t.base ≡ Some t.count) × (t.base < a) × ((q n : ℕ) → count_of m q ≡ Some n → q < a → q ≤ t.base)

abbrev pub HasNoneBelow : BTreeMap ℕ ℕ → ℕ → Type 0
HasNoneBelow m a = (q n : ℕ) → count_of m q ≡ Some n → a ≤ q

-- the table of the least base above an address
abbrev pub IsFirstAbove : BTreeMap ℕ ℕ → ℕ → Table → Type 0
IsFirstAbove m a t = (count_of m t.base ≡ Some t.count) × (a < t.base) × ((q n : ℕ) → count_of m q ≡ Some n → a < q → t.base ≤ q)

abbrev pub HasNoneAbove : BTreeMap ℕ ℕ → ℕ → Type 0
HasNoneAbove m a = (q n : ℕ) → count_of m q ≡ Some n → q ≤ a

-- the new map has a table more
abbrev pub AddsTable : BTreeMap ℕ ℕ → BTreeMap ℕ ℕ → Table → Type 0
AddsTable old new t = (q : ℕ) → count_of new q ≡ cond (is_eq (nat_cmp t.base q)) (Some (grown t.count (count_of old t.base))) (count_of old q)

abbrev pub Adds : BTreeMap ℕ ℕ → BTreeMap ℕ ℕ → Option Table → Type 0
Adds old new None = new ≡ old
Adds old new (Some t) = AddsTable old new t

-- none of the tables overlaps another
abbrev pub AreApart : List Table → Type 0
AreApart tables = (t u : Table) → Contains tables t → Contains tables u → overlaps t u ≡ false

-- the map has the greatest count of each base of the tables, none of which overlaps another
pub record Knows (tables : List Table) (m : BTreeMap ℕ ℕ) : Type 0 where
  pub listed : (t : Table) → Contains tables t → (n : ℕ) × (count_of m t.base ≡ Some n) × (t.count ≤ n)
  pub from : (t : Table) → count_of m t.base ≡ Some t.count → Contains tables t
  pub apart : AreApart tables

-- the words of these tables lead to points
abbrev pub AreLed : List ℕ → BTreeMap ℕ ℕ → Type 0
AreLed bytes m = (b n : ℕ) → count_of m b ≡ Some n → (k : ℕ) → k < n → leads bytes b (b + 4 * k) ≡ true
