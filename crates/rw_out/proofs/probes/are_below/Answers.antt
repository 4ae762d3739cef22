use Rattle.std.proofs.Common.{◌-◌, arith}
use Rattle.rw_out.proofs.NearLeader.{below}
use Rattle.rw_out.proofs.probes.are_below.Goals as goal

pub returns-in-Some : goal.returns-in-Some
returns-in-Some c = λ test k d low inside. below c.args.leaders.now c.requires (c.args.number - 1) c.in-Some.leader.now c.args.address c.in-Some.ensures.lookup.3.0 c.in-Some.ensures.lookup.1 test k d (omega arith) inside
