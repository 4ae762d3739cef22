use Rattle.rw_machine.specs.Views.{rows_of}
use Rattle.rw_machine.proofs.replies.follow_call.Goals as goal

pub returns-clause-changes : goal.returns-clause-changes
returns-clause-changes g c = (c.requires.placed, c.requires.words, c.lost_place-frame.ensures.reached (rows_of c.args.state.now.memory) c.args.state.now.laid_out)
