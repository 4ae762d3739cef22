use Rattle.std.proofs.Common.{◌∙◌, arith}
use Rattle.rw_funcs.proofs.FunctionsOf.{nth-count}
use Rattle.rw_tables.proofs.Walk.{jumps-all}
use Rattle.rw_tables.proofs.jump.jumps_of.Goals as goal

pub returns : goal.returns
returns c =
    let size = nth-count c.args.functions.now c.list-number-end.result.now c.list-number-end.ensures.list in
    let past = c.loop-number-test.false in
    c.loop-number.invariant ∙ jumps-all c.args.functions.now c.loop-number.number (omega (arith, size, past))
