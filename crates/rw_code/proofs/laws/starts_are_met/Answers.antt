use Rattle.rw_code.proofs.Begun.{starts}
use Rattle.rw_code.proofs.laws.starts_are_met.Goals as goal

pub returns : goal.returns
returns g c l file_ground start laid first contents is = starts file_ground start is l laid first contents
