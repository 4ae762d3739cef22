use Rattle.std.proofs.Common.{ap, ◌∙◌}
use Rattle.rw_tables.proofs.Greatest.{greatest, none-passes}
use Rattle.rw_tables.proofs.laws.nearest_is_the_greatest.Goals as goal

pub returns-clause-greatest : goal.returns-clause-greatest
returns-clause-greatest c test ps p up h = greatest test ps p up h

pub returns-clause-none : goal.returns-clause-none
returns-clause-none c test ps p h here pass = none-passes test ps h here.0 p here.1 (ap test here.2 ∙ pass)
