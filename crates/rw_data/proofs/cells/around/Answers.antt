use Rattle.std.proofs.Common.{◌-◌, get_or, sym, arith}
use Rattle.std.proofs.lemmas.Option.{slice_get-get_or}
use Rattle.rw_elf.proofs.Search.{find-at, find-none, search-none, search-last, search-past}
use Rattle.rw_tables.specs.declared.table.Table.{Table}
use Rattle.rw_tables.specs.Tables.{end_of}
use Rattle.rw_data.specs.FirstCells.{has_address}
use Rattle.rw_data.proofs.Around.{null_table}
use Rattle.rw_data.proofs.cells.around.Goals as goal

pub returns-then-next-eq0-clause-table : goal.returns-then-next-eq0-clause-table
returns-then-next-eq0-clause-table c =
    sym (find-none (has_address c.args.address) c.args.tables.now (search-none (λ (t : Table). t.base) (λ (t : Table). end_of t) c.args.tables.now c.requires c.args.address c.count_up_to-next.result c.count_up_to-next.ensures (omega arith)))

pub overflow_sub-address : goal.overflow_sub-address
overflow_sub-address c =
    let bound = c.count_up_to-next.ensures.within in
    c.count_up_to-next.ensures.below (c.count_up_to-next.result - 1) (get_or c.args.tables.now (c.count_up_to-next.result - 1) null_table) (omega arith) (slice_get-get_or c.args.tables.now (c.count_up_to-next.result - 1) null_table (omega arith))

pub returns-then-address-table-clause-from : goal.returns-then-address-table-clause-from
returns-then-address-table-clause-from c =
    let bound = c.count_up_to-next.ensures.within in
    c.count_up_to-next.ensures.below (c.count_up_to-next.result - 1) (get_or c.args.tables.now (c.count_up_to-next.result - 1) null_table) (omega arith) (slice_get-get_or c.args.tables.now (c.count_up_to-next.result - 1) null_table (omega arith))

pub returns-then-address-table-clause-table : goal.returns-then-address-table-clause-table
returns-then-address-table-clause-table c =
    sym (find-at (has_address c.args.address) c.args.tables.now (c.count_up_to-next.result - 1) null_table (search-last (λ (t : Table). t.base) (λ (t : Table). end_of t) c.args.tables.now c.requires c.args.address c.count_up_to-next.result c.count_up_to-next.ensures null_table (omega arith) (omega arith)))

pub returns-else-address-table-clause-table : goal.returns-else-address-table-clause-table
returns-else-address-table-clause-table c =
    let bound = c.count_up_to-next.ensures.within in
    let low = c.count_up_to-next.ensures.below (c.count_up_to-next.result - 1) (get_or c.args.tables.now (c.count_up_to-next.result - 1) null_table) (omega arith) (slice_get-get_or c.args.tables.now (c.count_up_to-next.result - 1) null_table (omega arith)) in
    sym (find-none (has_address c.args.address) c.args.tables.now (search-past (λ (t : Table). t.base) (λ (t : Table). end_of t) c.args.tables.now c.requires c.args.address c.count_up_to-next.result c.count_up_to-next.ensures null_table (omega arith) (omega (arith, low))))
