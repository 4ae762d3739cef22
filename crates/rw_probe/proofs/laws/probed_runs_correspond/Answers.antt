use Rattle.std.specs.Prelude.{◌≡◌, true}
use Rattle.rw_probe.proofs.ProbedRuns.{probed-runs-stand}
use Rattle.rw_probe.proofs.laws.probed_runs_correspond.Goals as goal

pub returns : goal.returns
returns g c l known named label prog other counter probe_at around at is_there leaders region m o answers replies n run programs functions probed tests starts counters first fits stand small is =
    probed-runs-stand l known (λ i j. named i j ≡ true) (λ p q. label p q ≡ true) prog other counter probe_at around at is_there leaders region m o answers replies first.placed.0.atoms first.placed.0.known_canary programs functions probed tests starts counters
    first.placed.1 (record { registers = first.registers; flags = first.flags; memory = first.memory; placed = first.placed.0.laid; point = first.point }) fits
    (λ k run event reply is goes asks there. let q = stand k run event reply is goes asks there in (q.0, q.1, q.2, q.3.0.laid)) n run small is
