use Rattle.std.proofs.Common.{length, get_or}
use Rattle.rw_machine.specs.State.{reply_value}
use Rattle.rw_machine.specs.Views.{rows_of}
use Rattle.rw_machine.proofs.Ranges.{has_range}
use Rattle.rw_machine.proofs.steps.reply.Goals as goal

pub make_step-requires : goal.make_step-requires
make_step-requires g c =
    let ws = (reply_value c.args.reply.now).writes in
    record {
      fresh = c.requires.fresh;
      writes = λ k d lt. has_range (g.D.Domain.placed c.args.state.now.domain).regions (rows_of c.args.state.now.memory) (get_or ws k d).0 (length (get_or ws k d).1) c.args.state.now.laid_out (c.requires.writes k d lt);
    }
