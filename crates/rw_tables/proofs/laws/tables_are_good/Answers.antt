use Rattle.rw_tables.proofs.GoodTables.{table-good, tables-follow}
use Rattle.rw_tables.proofs.laws.tables_are_good.Goals as goal

pub returns-clause-some : goal.returns-clause-some
returns-clause-some c = λ bytes t clean here. (table-good bytes t clean here).some

pub returns-clause-constant : goal.returns-clause-constant
returns-clause-constant c = λ bytes t clean here. (table-good bytes t clean here).constant

pub returns-clause-leading : goal.returns-clause-leading
returns-clause-leading c = λ bytes t clean here. (table-good bytes t clean here).leading

pub returns-clause-apart : goal.returns-clause-apart
returns-clause-apart c = λ bytes clean. tables-follow bytes clean
