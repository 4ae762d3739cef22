use Rattle.rw_machine.specs.Domains.{symbols}
use Rattle.rw_runs.proofs.Used.{made-used}
use Rattle.rw_runs.proofs.Counts.{total-counts}
use Rattle.rw_runs.proofs.laws.steps_count.Goals as goal

pub returns-clause-used : goal.returns-clause-used
returns-clause-used g c p m answers n run e = made-used symbols p m answers n run e

pub returns-clause-cost : goal.returns-clause-cost
returns-clause-cost g c p is_there k n run last e = total-counts symbols p is_there k run n last e
