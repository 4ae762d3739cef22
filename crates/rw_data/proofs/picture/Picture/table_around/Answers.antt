use Rattle.std.proofs.Common.{ap, ◌∙◌}
use Rattle.std.specs.List.{find}
use Rattle.rw_data.specs.FirstCells.{has_address, table_around}
use Rattle.rw_tables.specs.Tables.{tables_of}
use Rattle.rw_data.proofs.picture.Picture.table_around.Goals as goal

pub returns-clause-table : goal.returns-clause-table
unfolding table_around
returns-clause-table c = c.around.ensures.table ∙ ap (find (has_address c.args.address)) (c.list.ensures.list ∙ ap tables_of c.tables.ensures.file)
