-- The words of the jump tables of a file.
use Rattle.std.specs.Prelude.{◌≡◌, ℕ, ◌+◌, ◌*◌, List, true, Some}
use Rattle.rw_words.specs.declared.atom.Atom.TheVariants.{Ptr}
use Rattle.rw_funcs.specs.Points.{file_points, is_point}
use Rattle.rw_tables.specs.declared.table.Table.{Table}
use Rattle.rw_tables.specs.Tables.{entry_at}
use Rattle.rw_refs.specs.References.{reference_at}

-- the word of a table with a number leads to a point, and the base of the table is a place in data
pub record IsWord (bytes : List ℕ) (t : Table) (k : ℕ) : Type 0 where
  pub point : ℕ
  pub region : ℕ
  pub offset : ℕ
  pub leads_to : entry_at bytes (t.base + 4 * k) ≡ Some (point, t.base)
  pub is_one : is_point (file_points bytes) point ≡ true
  pub base_is : reference_at bytes t.base ≡ Some (Ptr region offset)
