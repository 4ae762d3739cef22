use Rattle.std.proofs.Common.{sym, ap, ◌∙◌}
use Rattle.std.specs.Prelude.{string_bytes, map}
use Rattle.rw_funcs.specs.Functions.{is_hosted}
use Rattle.rw_sim.specs.Start.{start_with}
use Rattle.rw_sim.proofs.StartPuts.{offset-hosted, offset-own, stack-is}
use Rattle.rw_sim.proofs.start.stack_offset.Goals as goal

pub returns-then-hosted : goal.returns-then-hosted
returns-then-hosted c = offset-hosted c.args.picture.now c.args.args.now (ap is_hosted (sym c.funcs.ensures.file) ∙ sym c.hosted.ensures ∙ c.if-hosted.true)

pub returns-else-hosted : goal.returns-else-hosted
returns-else-hosted c =
    c.first_offset.ensures (start_with c.args.args.now) (stack-is (map string_bytes c.args.args.now)) (sym c.count.ensures.count)
    ∙ offset-own c.args.picture.now c.args.args.now (ap is_hosted (sym c.funcs.ensures.file) ∙ sym c.hosted.ensures ∙ c.if-hosted.false)
