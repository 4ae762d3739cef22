use Rattle.std.proofs.Common.{◌≡◌, map, take, replicate}
use Rattle.rw_machine.specs.Step.{filling}
use Rattle.rw_machine.proofs.first.first_rows.Given as goal

abbrev pub invariant-loop-region : goal.invariant-loop-region
invariant-loop-region g l =
    map (λ row. row.items) l.rows.items ≡ map (λ region. replicate region.size (filling (g.D.Domain.over (g.D.Domain.placed l.domain)) region)) (take l.region-index l.region-items)
