-- What is found at the leaders of a file, one after another.
use Rattle.std.specs.Prelude.{◌≡◌, ℕ, List, length, map, Option, Some, None, slice_get}
use Rattle.rw_funcs.specs.declared.function.Function.{Function}
use Rattle.rw_funcs.specs.Functions.{functions_of}
use Rattle.rw_live.specs.Lives.{IsLiveOf}
use Rattle.rw_live.specs.Nodes.{points_in}
use Rattle.rw_probe.specs.Probes.{IsProbe}
use Rattle.rw_probe.specs.declared.form.Probe.{Probe}
use Rattle.rw_out.specs.declared.choosing.OfFunction.{OfFunction}
use Rattle.rw_out.specs.Kept.{forms_of, probe_byte}
use Rattle.rw_out.specs.Probed.{points_around}

-- what is kept is live in the function with its number
abbrev pub IsLiveIn : List ℕ → Option OfFunction → Type 0
IsLiveIn file None = Unit {0}
IsLiveIn file (Some kept) = (f : Function) → slice_get (functions_of file) kept.number ≡ Some f → IsLiveOf (points_in file f.span) kept.live

-- one byte for each of some leaders: that of the probe by what is live there in its function
pub record AreBytesOf (file leaders bytes : List ℕ) : Type 0 where
  pub count : length bytes ≡ length leaders
  pub each : (k a : ℕ) (form : Probe) → slice_get leaders k ≡ Some a → slice_get (forms_of bytes) k ≡ Some form → IsProbe (points_around file a) a form
  pub kept : bytes ≡ map probe_byte (forms_of bytes)
