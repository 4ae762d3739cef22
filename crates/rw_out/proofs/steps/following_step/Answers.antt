use Rattle.std.proofs.Common.{◌++◌, ap}
use Rattle.rw_out.specs.Positions.{points_on}
use Rattle.rw_out.proofs.steps.following_step.Goals as goal

pub returns-in-Some : goal.returns-in-Some
returns-in-Some c = λ file probes past. (ap (λ xs. xs ++ points_on file probes c.args.k c.args.next) c.in-Some.ensures.0, (past, c.in-Some.ensures.1), c.requires)

pub returns-in-None : goal.returns-in-None
returns-in-None c = λ file probes past. (ap (λ xs. xs ++ points_on file probes c.args.k c.args.next) c.in-None.ensures, past, c.requires)
