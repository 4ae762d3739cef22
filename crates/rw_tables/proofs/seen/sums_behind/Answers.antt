use Rattle.std.proofs.Common.{rules}
use Rattle.rw_tables.proofs.Touched.{sums-some, sums-none}
use Rattle.rw_tables.proofs.seen.sums_behind.Goals as goal

pub returns-in-Some : goal.returns-in-Some
returns-in-Some c = λ r. sums-some c.args.insn.now c.args.sums.0 c.unwritten-kept.result.0 c.with.result.0 c.in-Some.r r (search rules) (search rules) (c.unwritten-kept.ensures r) c.with.ensures

pub returns-in-None : goal.returns-in-None
returns-in-None c = λ r. sums-none c.args.insn.now c.args.sums.0 c.unwritten-kept.result.0 r (search rules) (search rules) (c.unwritten-kept.ensures r)
