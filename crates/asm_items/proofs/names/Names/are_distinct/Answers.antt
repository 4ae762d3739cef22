use Rattle.std.proofs.Common.{subst}
use Rattle.asm_items.specs.Names.{AreDistinct}
use Rattle.asm_items.proofs.names.Names.are_distinct.Goals as goal

pub returns : goal.returns
returns c = subst AreDistinct c.self.view_is c.self.invariant.2
