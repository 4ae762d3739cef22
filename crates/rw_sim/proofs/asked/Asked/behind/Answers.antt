use Rattle.std.proofs.Common.{arith}
use Rattle.rw_sim.proofs.asked.Asked.behind.Goals as goal

pub returns-clause-offset : goal.returns-clause-offset
returns-clause-offset g c =
    let size = c.size_of-size.ensures c.requires.range.0 c.requires.range.1 in
    let fits = c.requires.range.2 in
    let near = c.requires.near in
    let small = c.size_of-size.type_inv in
    let added = c.saturating_add.ensures in
    let least = c.min.ensures in
    omega (arith, size, fits, near, small, added, least)
