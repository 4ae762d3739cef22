use Rattle.std.proofs.Common.{sym, ◌∙◌}
use Rattle.rw_layout.proofs.KeyFacts.{none-there}
use Rattle.rw_layout.proofs.definitions.add.Goals as goal

pub returns-in-Ok : goal.returns-in-Ok
returns-in-Ok c = record { known = none-there _ (sym c.contains_key.ensures ∙ c.if-contains_key.false); found = λ e other. c.in-Ok.ensures.updates.0 other }
