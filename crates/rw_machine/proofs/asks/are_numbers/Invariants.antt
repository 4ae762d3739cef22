use Rattle.std.proofs.Common.{◌≡◌, drop}
use Rattle.std.specs.Option.{is_some}
use Rattle.rw_machine.specs.Events.{known_bytes}
use Rattle.rw_machine.proofs.asks.are_numbers.Given as goal

abbrev pub invariant-loop-b : goal.invariant-loop-b
invariant-loop-b g l =
    is_some (known_bytes (g.D.Domain.over (g.D.Domain.placed l.domain)) (drop l.b-index l.bytes)) ≡ is_some (known_bytes (g.D.Domain.over (g.D.Domain.placed l.domain)) l.bytes)
