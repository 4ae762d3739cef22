use Rattle.rw_machine.specs.Views.{running_of, rows_of}
use Rattle.rw_machine.proofs.NextOperation.{after_next}
use Rattle.rw_machine.proofs.context.Context.run_all.Goals as goal

pub loop-m-preserved : goal.loop-m-preserved
loop-m-preserved g c =
    let ops = g.D.Domain.over (g.D.Domain.placed c.args.self.now.domain.now) in
    let rows = rows_of c.args.self.now.memory.now in
    rw c.after.ensures (after_next ops rows c.args.self.now.here c.args.list.now c.loop-m.m-index _ (running_of c.loop-m.run) _ c.loop-m-test.true c.loop-m.invariant)
