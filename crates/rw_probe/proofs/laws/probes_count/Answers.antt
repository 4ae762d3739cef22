use Rattle.rw_probe.proofs.Counted.{probe-leaves}
use Rattle.rw_probe.proofs.laws.probes_count.Goals as goal

pub returns : goal.returns
returns g c prog probe counter place saved behind run stand going at has room = probe-leaves prog probe counter place saved behind run stand going at has room
