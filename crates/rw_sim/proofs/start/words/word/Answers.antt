use Rattle.rw_sim.proofs.WordCells.{argument-word}
use Rattle.std.proofs.Common.{sym, ap, ◌∙◌, arith, Some}
use Rattle.rw_sim.proofs.start.words.word.Goals as goal

pub returns-else-number-eq0 : goal.returns-else-number-eq0
returns-else-number-eq0 c = argument-word c.args.args.now c.args.number c.index-args-number.result (omega arith) (omega arith) c.index-args-number.is ∙ ap Some (sym c.as_bytes-else-number-eq0.ensures.value)
