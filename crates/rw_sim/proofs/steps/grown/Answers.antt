use Rattle.std.proofs.Common.{sym, subst}
use Rattle.rw_sim.specs.FreshRegions.{Grows}
use Rattle.rw_sim.proofs.steps.grown.Goals as goal

pub returns-in-Some : goal.returns-in-Some
returns-in-Some c = subst (λ r. Grows c.args.fresh c.with.result r) (sym c.in-Some.is) (c.with.ensures.bytes, c.with.ensures.counts)
