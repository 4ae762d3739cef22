use Rattle.std.specs.Prelude.{Some, None}
use Rattle.std.proofs.Common.{refl}
use Rattle.rw_machine.specs.Domains.{symbols}
use Rattle.rw_machine.proofs.FlagUse.{symbols-use}
use Rattle.rw_live.proofs.Enough.{live-same}
use Rattle.rw_live.proofs.laws.live_is_enough.Goals as goal

pub returns-clause-step : goal.returns-clause-step
returns-clause-step g c points at prog m o a p formed has there is h = live-same symbols symbols-use (λ d. refl) points at prog formed has m o a p there is h None

pub returns-clause-reply : goal.returns-clause-reply
returns-clause-reply g c points at prog m o a p r formed has there is h = live-same symbols symbols-use (λ d. refl) points at prog formed has m o a p there is h (Some r)
