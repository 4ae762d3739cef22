use Rattle.std.proofs.Common.{sym, subst}
use Rattle.rw_layout.specs.Checks.{Nowhere}
use Rattle.rw_layout.specs.Keys.{KeyTwice}
use Rattle.rw_layout.proofs.Defined.{repeated}
use Rattle.rw_layout.proofs.program.Program.lines.Goals as goal

pub lines_by_key-requires-clause-once : goal.lines_by_key-requires-clause-once
lines_by_key-requires-clause-once c =
    let text = c.self.inside.text in
    subst (λ items. Nowhere (KeyTwice items)) (sym c.deref.ensures.value) (λ line twice. c.self.invariant.1.once line (repeated text.names text.items.items line twice))
