use Rattle.std.proofs.Common.{List, All, take}
use Rattle.rw_funcs.specs.Points.{Point}
use Rattle.rw_live.specs.Liveness.{IsFlagLive}
use Rattle.rw_live.specs.Lives.{IsLiveOf}
use Rattle.rw_probe.specs.Probes.{counting_flags}
use Rattle.rw_probe.proofs.choice.some_flag_lives.Given as goal

abbrev pub invariant-loop-flag : goal.invariant-loop-flag
invariant-loop-flag l = (points : List Point) → IsLiveOf points l.live → All (λ x. ¬ IsFlagLive points l.c x) (take l.flag-index counting_flags)
