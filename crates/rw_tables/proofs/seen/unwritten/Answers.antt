use Rattle.rw_tables.proofs.Touched.{has-kept}
use Rattle.rw_tables.proofs.seen.unwritten.Goals as goal

pub returns : goal.returns
returns c = λ r. has-kept c.args.insn.now c.args.set.0 c.touches.result.0 c.without.result.0 r c.touches.ensures (c.without.ensures r)
