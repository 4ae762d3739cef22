use Rattle.std.proofs.Common.{◌≡◌, ◌-◌}
use Rattle.rw_machine.specs.Running as Runs
use Rattle.rw_machine.proofs.strings.elements_permitted.Given as goal

abbrev pub invariant-loop-i : goal.invariant-loop-i
invariant-loop-i g l =
    let ops = g.D.Domain.over (g.D.Domain.placed l.domain) in
    Runs.elements_permitted ops l.fn.step (l.count - l._i) l.source l.target ≡ Runs.elements_permitted ops l.fn.step l.fn.count l.fn.source l.fn.target
