-- A stop that is handed on.
use Rattle.std.proofs.Common.{◌≡◌, Result, Ok, Err, ◌∙◌, sym, ap}
use Rattle.std.specs.Result.{IsErrAnd}
use Rattle.rw_domain.specs.declared.cause.Cause.{Cause}
use Rattle.rw_sim.specs.declared.answer.Refused.{Refused}
use Rattle.rw_sim.specs.declared.answer.Refused.TheVariants.{Stops, Memory}
use Rattle.rw_sim.specs.Answers.{Meets}

pub meets-stop : {T U : Type 0} (view : T → U) (expected : Result U Cause) (c : Cause) (r : Result T Refused) → expected ≡ Err c → IsErrAnd r (λ refused. refused ≡ Stops c) → Meets view expected r
meets-stop view expected c (Ok t) e h = absurd h
meets-stop view expected c (Err (Stops d)) e h = cc
meets-stop view expected c (Err Memory) e h = tt

pub same-stop : {T : Type 0} (expected : Result T Cause) (c : Cause) (r : Result T Cause) → expected ≡ Err c → IsErrAnd r (λ d. d ≡ c) → r ≡ expected
same-stop expected c (Ok t) e h = absurd h
same-stop expected c (Err d) e h = ap Err h ∙ sym e
