use Rattle.rw_live.specs.Nodes.{AreOffsets, points_in}
use Rattle.rw_live.proofs.nodes.offsets.Given as goal

abbrev pub invariant-loop-offset : goal.invariant-loop-offset
invariant-loop-offset l = AreOffsets (points_in l.funcs l.function.span) l.function.span.start l.offset l.list.items
