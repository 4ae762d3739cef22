use Rattle.rw_layout.proofs.RuleLaid.{program-small, rule-gives-layouts}
use Rattle.rw_layout.proofs.laws.rule_gives_layouts.Goals as goal

pub returns-clause-layouts : goal.returns-clause-layouts
returns-clause-layouts c = rule-gives-layouts

pub returns-clause-programs : goal.returns-clause-programs
returns-clause-programs c = program-small
