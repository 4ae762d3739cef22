use Rattle.rw_machine.specs.Views.{rows_of}
use Rattle.rw_machine.proofs.Ranges.{has_range}
use Rattle.rw_machine.proofs.state.State.put.Goals as goal

pub write_byte-requires : goal.write_byte-requires
write_byte-requires g c =
    has_range (g.D.Domain.placed c.args.self.now.domain).regions (rows_of c.args.self.now.memory) c.args.at 1 c.args.self.now.laid_out c.requires
