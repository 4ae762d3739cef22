use Rattle.std.proofs.Common.{ℕ, List, IfOk, subst}
use Rattle.rw_layout.specs.Places.{IsLaidBy}
use Rattle.rw_layout.specs.Program.{shown}
use Rattle.rw_layout.specs.Rule.{layout_of}
use Rattle.rw_layout.proofs.laying.Layout.of.Goals as goal

pub returns : goal.returns
returns c =
    subst (λ t. IfOk c.laid_out.result (λ laid. (sizes : List ℕ) → IsLaidBy (shown t) t.names (layout_of (shown t) c.args.order c.args.gap sizes) laid)) c.text.ensures.text c.laid_out.ensures
