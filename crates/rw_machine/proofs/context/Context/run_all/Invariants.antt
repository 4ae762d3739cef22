use Rattle.std.proofs.Common.{◌≡◌, drop}
use Rattle.rw_machine.specs.Running.{after_all}
use Rattle.rw_machine.specs.Views.{running_of, rows_of}
use Rattle.rw_machine.proofs.context.Context.run_all.Given as goal

abbrev pub invariant-loop-m : goal.invariant-loop-m
invariant-loop-m g l =
    let ops = g.D.Domain.over (g.D.Domain.placed l.self.domain.now) in
    let rows = rows_of l.self.memory.now in
    after_all ops rows l.self.here (drop l.m-index l.list) (running_of l.run) ≡ after_all ops rows l.self.here l.list (running_of l.initial.run)
