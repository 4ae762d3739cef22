use Rattle.rw_out.proofs.NearLeader.{number-is}
use Rattle.rw_out.proofs.probes.is_number_of.Goals as goal

pub returns-in-Some : goal.returns-in-Some
returns-in-Some c = number-is c.args.leaders.now c.requires c.args.number c.in-Some.leader.now c.args.address c.in-Some.ensures.lookup.3.0 c.in-Some.ensures.lookup.1
