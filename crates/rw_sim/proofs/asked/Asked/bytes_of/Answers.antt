use Rattle.std.proofs.Common.{◌∙◌, ◌++◌, ◌∷◌, [], sym, ap}
use Rattle.rw_machine.specs.Running.{range_at}
use Rattle.rw_sim.specs.Asked.{memory_of}
use Rattle.rw_sim.proofs.RangeBytes.{front-more, range-whole}
use Rattle.rw_sim.proofs.asked.Asked.bytes_of.Goals as goal

pub loop-i-preserved : goal.loop-i-preserved
loop-i-preserved g c =
    c.in_ok-push.ensures.items
    ∙ ap (λ xs. xs ++ c.byte_of.result ∷ []) c.loop-i.invariant
    ∙ sym (front-more (range_at (memory_of c.args.self.now) c.args.start c.args.len) c.loop-i.i c.byte_of.result c.byte_of.ensures)

pub returns : goal.returns
returns g c = c.loop-i.invariant ∙ range-whole (memory_of c.args.self.now) c.args.start c.args.len c.loop-i.i c.loop-i-test.false
