use Rattle.rw_sim.proofs.FreshBases.{fresh-from, fresh-aligned, fresh-up_to, fresh-apart}
use Rattle.rw_sim.proofs.laws.fresh_regions_lie.Goals as goal

pub returns-clause-from : goal.returns-clause-from
returns-clause-from c = fresh-from

pub returns-clause-aligned : goal.returns-clause-aligned
returns-clause-aligned c = fresh-aligned

pub returns-clause-up_to : goal.returns-clause-up_to
returns-clause-up_to c = fresh-up_to

pub returns-clause-apart : goal.returns-clause-apart
returns-clause-apart c = fresh-apart
