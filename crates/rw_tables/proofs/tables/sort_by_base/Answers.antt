use Rattle.std.proofs.Common.{rules}
use Rattle.std.proofs.lemmas.List.Sorted.{answers_always}
use Rattle.rw_tables.specs.declared.table.Table.{Table}
use Rattle.rw_tables.specs.Tables.{lacking}
use Rattle.rw_tables.proofs.ByBase.{comes_before-sort}
use Rattle.rw_tables.proofs.tables.sort_by_base.Goals as goal

pub returns : goal.returns
returns c =
    comes_before-sort _ _ c.in_ok-sort_by_key.ensures.permutation
    (c.in_ok-sort_by_key.ensures.sorted (λ (t : Table). (t.base, lacking t)) (answers_always _ _ _ (λ f a r g h. search rules)))
    (c.in_ok-sort_by_key.ensures.stable (λ (t : Table). (t.base, lacking t)) (answers_always _ _ _ (λ f a r g h. search rules)))
