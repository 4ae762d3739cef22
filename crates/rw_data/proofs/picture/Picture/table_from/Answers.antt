use Rattle.std.proofs.Common.{get_or, ap, ◌∙◌, arith}
use Rattle.std.proofs.lemmas.Option.{slice_get-get_or}
use Rattle.rw_tables.specs.Tables.{tables_of}
use Rattle.rw_data.proofs.Around.{null_table}
use Rattle.rw_data.proofs.Ahead.{tables-none, tables-some}
use Rattle.rw_data.proofs.picture.Picture.table_from.Goals as goal
use Rattle.rw_data.proofs.picture.Picture.table_from.Goals.{else-next-tables-via-then-next-tables+else-tables-next, else-next-tables-via-else-next-tables}

pub returns-then-tables-next : goal.returns-then-tables-next
returns-then-tables-next c =
    tables-some c.args.self.now c.args.section.now c.args.address c.list-tables.result.now c.list-tables.ensures.apart c.tables_below-next.result c.tables_below-next.ensures.before c.tables_below-next.ensures.after
    (omega arith) c.requires (omega arith) (c.list-tables.ensures.list ∙ ap tables_of c.tables.ensures.file)

pub returns-else-next-tables : goal.returns-else-next-tables
returns-else-next-tables c =
    tables-none c.args.self.now c.args.section.now c.args.address c.list-tables.result.now c.list-tables.ensures.apart c.tables_below-next.result c.tables_below-next.ensures.before c.tables_below-next.ensures.after
    (λ within.
    let first = c.tables_below-next.ensures.after c.tables_below-next.result (get_or c.list-tables.result.now c.tables_below-next.result null_table) (omega arith) (slice_get-get_or c.list-tables.result.now c.tables_below-next.result null_table within) in
    elim c.else-next-tables.branch [
      | else-next-tables-via-then-next-tables+else-tables-next w ↦ omega (arith, first)
      | else-next-tables-via-else-next-tables w ↦ absurd (omega arith)
    ])
    (c.list-tables.ensures.list ∙ ap tables_of c.tables.ensures.file)
