-- The words of tables, as a map from the addresses at which they start.
use Rattle.std.specs.Prelude.{◌≡◌, ℕ, ◌==◌, List, Option, None, if◌then◌else◌}
use Rattle.std.specs.BTreeMap.{BTreeMap, get}
use Rattle.std.specs.List.{AllPairs}
use Rattle.std.specs.Option.{option_or}
use Rattle.std.specs.Ordering.{nat_cmp}
use Rattle.rw_base.specs.Rules.{first}
use Rattle.rw_tables.specs.declared.table.Table.{Table}
use Rattle.rw_tables.specs.Tables.{EndsBefore, entry_among, table_rules, tables_of, word_at}

abbrev pub entry_in : BTreeMap ℕ (ℕ × ℕ) → ℕ → Option (ℕ × ℕ)
entry_in m a = get nat_cmp m a

-- the new map has an entry more, unless the old one has one at that address
abbrev pub AddsEntry : BTreeMap ℕ (ℕ × ℕ) → BTreeMap ℕ (ℕ × ℕ) → ℕ → Option (ℕ × ℕ) → Type 0
AddsEntry old new a entry = (q : ℕ) → entry_in new q ≡ option_or (entry_in old q) (if a == q then entry else None)

-- the same of each word of a table
abbrev pub AddsWords : List ℕ → Table → BTreeMap ℕ (ℕ × ℕ) → BTreeMap ℕ (ℕ × ℕ) → Type 0
AddsWords bytes t old new = (q : ℕ) → entry_in new q ≡ option_or (entry_in old q) (word_at bytes q t)

-- the map has the words of these tables
abbrev pub AreEntriesOf : List ℕ → List Table → BTreeMap ℕ (ℕ × ℕ) → Type 0
AreEntriesOf bytes tables m = (q : ℕ) → entry_in m q ≡ entry_among bytes tables q

-- what is kept of the tables of a file
pub record AreTablesOf (bytes : List ℕ) (tables : List Table) (entries : BTreeMap ℕ (ℕ × ℕ)) : Type 0 where
  pub clean : first (table_rules bytes) ≡ None
  pub list : tables ≡ tables_of bytes
  pub apart : AllPairs EndsBefore tables
  pub words : AreEntriesOf bytes tables entries
