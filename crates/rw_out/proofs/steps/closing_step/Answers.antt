use Rattle.std.proofs.Common.{refl, arith}
use Rattle.rw_out.specs.Items.{with_symbols}
use Rattle.rw_out.proofs.steps.closing_step.Goals as goal

pub returns : goal.returns
unfolding with_symbols
returns c = λ probes. let low = c.requires in (refl, omega (arith, low), refl)
