use Rattle.rw_out.proofs.NearLeader.{above}
use Rattle.rw_out.proofs.probes.are_above.Goals as goal

pub returns-in-Some : goal.returns-in-Some
returns-in-Some c = above c.args.leaders.now c.requires c.args.number c.in-Some.leader.now c.args.address c.in-Some.ensures.lookup.3.0 c.in-Some.ensures.lookup.1
