use Rattle.std.proofs.Common.{rules}
use Rattle.std.proofs.lemmas.Fn.{dedup_same}
use Rattle.rw_tables.specs.Tables.{same_base}
use Rattle.rw_tables.proofs.tables.keep_first_of_base.Goals as goal

pub returns : goal.returns
returns c = dedup_same _ same_base _ (λ x y b f' x' y' k. search rules) _ _ c.dedup_by_key.ensures.filtered
