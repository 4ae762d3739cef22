use Rattle.rw_probe.proofs.Room.{has-room}
use Rattle.rw_probe.proofs.laws.swept_stacks_have_room.Goals as goal

pub returns : goal.returns
returns g c m number stack has fit = has-room m number stack has fit
