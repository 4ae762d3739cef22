use Rattle.rw_out.proofs.NearLeader.{none-there}
use Rattle.rw_out.proofs.probes.is_between.Goals as goal

pub returns-then-are_below : goal.returns-then-are_below
returns-then-are_below c = λ test. none-there c.args.leaders.now c.args.number c.args.address (c.are_below.ensures c.if-are_below.true) (c.are_above.ensures test)
