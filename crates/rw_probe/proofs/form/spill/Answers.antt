use Rattle.std.proofs.Common.{◌∙◌, arith}
use Rattle.rw_probe.proofs.Instructions.{inner}
use Rattle.rw_probe.proofs.form.spill.Goals as goal

pub returns-in-2-to-4 : goal.returns-in-2-to-4
returns-in-2-to-4 g c = c.through.ensures ∙ inner c.args.counter c.args.k (omega arith) (omega arith)
