use Rattle.rw_machine.specs.Views.{rows_of}
use Rattle.rw_machine.proofs.plan.close_at.Goals as goal

pub returns-then-stack_fits-clause-plan : goal.returns-then-stack_fits-clause-plan
returns-then-stack_fits-clause-plan g c reply fits = (fits, c.lost_place.ensures.reached (rows_of c.args.state.now.memory) c.args.state.now.laid_out)
