use Rattle.std.proofs.Common.{sym, map}
use Rattle.std.specs.Prelude.{string_bytes}
use Rattle.rw_machine.specs.State.{machine_of}
use Rattle.rw_sim.specs.Start.{file_ground, start_with}
use Rattle.rw_sim.proofs.StartPuts.{stack-is}
use Rattle.rw_sim.proofs.StartRegisters.{own-set}
use Rattle.rw_sim.proofs.start.set_own.Goals as goal

pub returns : goal.returns
returns c =
    own-set (file_ground c.args.picture.now) (start_with c.args.args.now) (machine_of c.args.state.now) c.requires.unknown (machine_of c.set_reg.new.self) c.count-stack.result c.first_offset-offset.result c.atom.result
    c.count-stack.ensures.count (c.first_offset-offset.ensures (start_with c.args.args.now) (stack-is (map string_bytes c.args.args.now)) (sym c.count.ensures.count)) c.atom.ensures c.set_reg.ensures.machine
