-- What is found of the flags and registers that are live at a point.
use Rattle.std.specs.Prelude.{ℕ, List, All, Any, Bool, true, false, Option, Some, None}
use Rattle.x86_insn.specs.declared.kinds.Reg.{Reg}
use Rattle.rw_funcs.specs.Points.{Point}
use Rattle.rw_live.specs.Liveness.{IsLive, IsFlagLive}
use Rattle.rw_probe.specs.Probes.{counting_flags, counting_registers, IsFirstDead}

-- some flag that incq sets is live, or none is
abbrev pub SomeFlagLives : List Point → ℕ → Bool → Type 0
SomeFlagLives points c true = Any (IsFlagLive points c) counting_flags
SomeFlagLives points c false = All (λ x. ¬ IsFlagLive points c x) counting_flags

-- the first register that isn't live, or all are
abbrev pub IsChosen : List Point → ℕ → Option Reg → Type 0
IsChosen points c (Some r) = IsFirstDead points c counting_registers r
IsChosen points c None = All (IsLive points c) counting_registers
