use Rattle.std.proofs.Common.{ap, is_some}
use Rattle.rw_tables.proofs.Compared.{less-than, than-less, at-most}
use Rattle.rw_tables.proofs.known.last_below.Goals as goal

pub returns-in-Some-clause-some : goal.returns-in-Some-clause-some
returns-in-Some-clause-some c =
    let range = c.range.ensures.in_range tt in
    let one = range.3 _ _ c.in-Some.ensures.steps in
    (one.1, less-than _ _ one.0.1, λ q n at low. at-most _ _ (range.4 _ _ c.in-Some.ensures.steps q (tt, than-less _ _ low) (ap is_some at)))
