-- Facts on plans.
use Rattle.std.proofs.Common.{List, Option, Some, None, IfSome, arith}
use Rattle.rw_domain.specs.declared.place.Region.{Region}
use Rattle.rw_machine.specs.Replying.{HaveRoom}
use Rattle.rw_machine.specs.Events.{Reply}
use Rattle.rw_machine.specs.Plans.{IsFit, writes_in}

-- the writes of a reply that fits have room
pub room-given : {V C : Type 0} (regions : List Region) (rows : List (List C)) (reply : Option (Reply V C)) → IfSome reply (IsFit regions rows) → HaveRoom rows (writes_in reply)
room-given regions rows None fit = λ k d lt. omega (arith, lt)
room-given regions rows (Some reply) fit = fit.writes
