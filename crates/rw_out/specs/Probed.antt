-- The probes of a file in a mode: one at each leader, by what is live there.
use Rattle.std.specs.Prelude.{◌≡◌, ◌==◌, ℕ, List, [], length, find, position, slice_get, Option, Some, option_and_then, option_map}
use Rattle.std.specs.Option.{option_map_or}
use Rattle.asm_items.specs.Lines.{Items}
use Rattle.rw_funcs.specs.Functions.{functions_of, has_address}
use Rattle.rw_funcs.specs.Points.{Point}
use Rattle.rw_live.specs.Nodes.{points_in}
use Rattle.rw_probe.specs.declared.form.Probe.{Probe}
use Rattle.rw_probe.specs.declared.leaders.Mode.{Mode}
use Rattle.rw_probe.specs.Leaders.{leaders_of}
use Rattle.rw_probe.specs.Probes.{IsProbe}
use Rattle.rw_out.specs.Items.{Probes, items_with}

-- the points of the function whose range has an address
abbrev pub points_around : List ℕ → ℕ → List Point
points_around file a = option_map_or (λ f. points_in file f.span) (find (has_address a) (functions_of file)) []

-- one form for each leader of the mode, by ascending address: the probe by what is live there in its function
pub record AreProbes (file : List ℕ) (mode : Mode) (forms : List Probe) : Type 0 where
  pub count : length forms ≡ length (leaders_of file mode)
  pub each : (k a : ℕ) (form : Probe) → slice_get (leaders_of file mode) k ≡ Some a → slice_get forms k ≡ Some form → IsProbe (points_around file a) a form

-- the probe with a number, and that number
abbrev pub counted : List Probe → ℕ → Option (ℕ × Probe)
counted forms k = option_map (λ form. (k, form)) (slice_get forms k)

-- a leader counts in the counter that has its number among the leaders
abbrev pub probes_of : List ℕ → Mode → List Probe → Probes
probes_of file mode forms = record {
  counters = length (leaders_of file mode);
  at = λ a. option_and_then (counted forms) (position (λ leader. leader == a) (leaders_of file mode));
}

-- The items are those of the file in this mode. There is one such list, since each leader has one probe.
pub record AreItemsOf (file : List ℕ) (mode : Mode) (items : Items) : Type 0 where
  pub forms : List Probe
  pub are_probes : AreProbes file mode forms
  pub are_items : items ≡ items_with file (probes_of file mode forms)
