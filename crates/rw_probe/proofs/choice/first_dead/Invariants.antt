use Rattle.std.proofs.Common.{List, All, take}
use Rattle.rw_funcs.specs.Points.{Point}
use Rattle.rw_live.specs.Liveness.{IsLive}
use Rattle.rw_live.specs.Lives.{IsLiveOf}
use Rattle.rw_probe.specs.Probes.{counting_registers}
use Rattle.rw_probe.proofs.choice.first_dead.Given as goal

abbrev pub invariant-loop-r : goal.invariant-loop-r
invariant-loop-r l = (points : List Point) → IsLiveOf points l.live → All (IsLive points l.c) (take l.r-index counting_registers)
