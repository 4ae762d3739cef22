use Rattle.std.proofs.Common.{sym, map}
use Rattle.std.specs.Prelude.{string_bytes}
use Rattle.rw_sim.specs.Start.{start_with}
use Rattle.rw_sim.proofs.StartPuts.{regions-pushed, stack-is}
use Rattle.rw_sim.proofs.start.regions.all.Goals as goal

pub returns : goal.returns
returns c =
    regions-pushed c.args.picture.now (start_with c.args.args.now) c.in_ok-regions.regions.items c.push.new.self.items c.push-2.new.self.items c.push-3.new.self.items c.push-4.new.self.items 1048576 c.arguments_size.result
    (sym (stack-is (map string_bytes c.args.args.now))) c.arguments_size.ensures c.in_ok-regions.ensures c.in_ok-push.ensures.items c.in_ok-push-2.ensures.items c.in_ok-push-3.ensures.items c.in_ok-push-4.ensures.items
