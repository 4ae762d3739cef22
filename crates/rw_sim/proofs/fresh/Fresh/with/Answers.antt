use Rattle.std.proofs.Common.{◌+◌, ◌∷◌, [], ◌∙◌, sym, ap}
use Rattle.rw_sim.specs.Fresh.{first_fresh_base, base_behind}
use Rattle.rw_sim.proofs.FreshBases.{from-append, sum-one}
use Rattle.rw_sim.proofs.fresh.Fresh.with.Goals as goal

pub returns-clause-counts : goal.returns-clause-counts
returns-clause-counts c sizes counts = record {
  bytes = ap (λ n. n + c.args.size) counts.bytes ∙ sym (sum-one sizes c.args.size);
  base = c.next_multiple_of.ensures.value ∙ ap (λ base. base_behind base c.args.size) counts.base ∙ sym (from-append first_fresh_base sizes (c.args.size ∷ []));
}
