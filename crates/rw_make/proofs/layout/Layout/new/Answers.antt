use Rattle.std.proofs.Common.{rules}
use Rattle.rw_make.proofs.Holding.{holds_none}
use Rattle.rw_make.proofs.layout.Layout.new.Goals as goal

pub returns : goal.returns
returns c = holds_none _ (search rules) (search rules) (search rules)
