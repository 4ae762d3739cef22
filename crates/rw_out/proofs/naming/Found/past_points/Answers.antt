use Rattle.std.proofs.Common.{ap}
use Rattle.std.specs.List.{fold}
use Rattle.asm_items.specs.Names.{with_name}
use Rattle.rw_out.proofs.NoNames.{past-fewer, past-names, past-used}
use Rattle.rw_out.proofs.naming.Found.past_points.Goals as goal

pub returns-then-nameless : goal.returns-then-nameless
returns-then-nameless c =
    let file = c.args.picture.now in
    let nothing = c.requires.nameless c.if-nameless.true in
    record {
      at = c.requires.past.number;
      all = λ probes. ap (fold with_name c.args.self.now.all) (past-names file nothing probes c.args.k c.args.from);
      used = λ probes. ap (fold with_name c.args.self.now.used) (past-used file nothing probes c.args.k c.args.from);
      fewer = λ probes. past-fewer file nothing probes c.args.k c.args.from;
    }
