-- The original and the printed program do what the symbolic machine does, as long as it doesn't stop.
use Rattle.std.specs.Prelude.{◌==◌, ℕ, List, ◌++◌, map, Bool, false, Option, Some, None}
use Rattle.asm_items.specs.Lines.{Items, used_names}
use Rattle.asm_items.specs.Layout.{Layout, IsLayout}
use Rattle.rw_words.specs.declared.atom.Cell.{Cell}
use Rattle.rw_words.specs.Addresses.{Addresses}
use Rattle.rw_domain.specs.RegionsLaidOut.{RegionsAreLaidOut}
use Rattle.rw_domain.specs.LaidOut.{WordStands, KnownByteStands}
use Rattle.rw_machine.specs.Events.{Reply}
use Rattle.rw_runs.specs.Runs.{first_run}
use Rattle.rw_runs.specs.Correspond.{NumbersRun}
use Rattle.rw_code.specs.declared.point.FilePoint.{FilePoint}
use Rattle.rw_code.specs.declared.point.FilePoint.TheVariants.{At, Past}
use Rattle.rw_code.specs.Ground.{Ground, ground_of}
use Rattle.rw_data.specs.Regions.{start_contents}
use Rattle.rw_code.specs.Imports.{imports_of, import_name}
use Rattle.rw_code.specs.Known.{has_address}
use Rattle.rw_code.specs.File.{labels_of, symbolic}
use Rattle.rw_code.specs.Start.{Start, IsStart, counters_number, words_start}
use Rattle.rw_code.specs.Mirrors.{SymbolicRun, Alike, Mirrors, OriginalMirrors}
use Rattle.rw_code.specs.Printed.{printed, text_extents, PrintedBegins, layout_addresses, IsNamed, IsLabelOf}
use Rattle.rw_probe.specs.declared.form.Probe.{Probe}
use Rattle.rw_probe.specs.declared.leaders.Mode.{Mode}
use Rattle.rw_probe.specs.declared.leaders.Mode.TheVariants.{Nothing}
use Rattle.rw_probe.specs.Forgetting.{counter_bytes}
use Rattle.rw_probe.specs.Leaders.{leaders_of}
use Rattle.rw_probe.specs.ProbedRuns.{ProbedRunStands, entries, probe_cost}
use Rattle.rw_out.specs.Items.{Probes}
use Rattle.rw_out.specs.Probed.{AreProbes, points_around, probes_of}

-- the names that have addresses: those that a line uses, and those of the symbols that the file imports
abbrev pub names_of : List ℕ → Items → List (List ℕ)
names_of file items = used_names items ++ map (import_name file) (imports_of file)

-- a layout of the text for the run from a start
abbrev pub IsTextLayout : List ℕ → Items → Start → Layout → Type 0
IsTextLayout file items start layout = IsLayout items (text_extents items layout start) (names_of file items) layout

abbrev pub text_addresses : List ℕ → Layout → Addresses
text_addresses file layout = layout_addresses (import_name file) layout

-- ---- probes along a run

-- the probe at a point, and whether a point is the one at an address
abbrev pub probe_at : Probes → FilePoint → Option (ℕ × Probe)
probe_at probes (At a) = probes.at a
probe_at probes (Past start) = None

abbrev pub is_there : ℕ → FilePoint → Bool
is_there a (At b) = b == a
is_there a (Past start) = false

-- how often each leader was entered in n steps from a start
abbrev pub counts_of : List ℕ → Ground → Mode → Start → List (Reply (List Cell) Cell) → ℕ → List ℕ
counts_of file file_ground mode start answers n = entries is_there (leaders_of file mode) (symbolic file) n (first_run (words_start file_ground start) answers)

-- What is the same of a run of the file, n steps from a start with some answers, and of one of its text at a layout. In a text
-- without probes all registers and flags stand; in one with probes %rsp and those that are live at the point, in its
-- function, do, and the counters hold how often each leader was entered, eight bytes each. Memory, events and ends stand in
-- both, and the printed program is at the label of the point.
abbrev pub AreSame : List ℕ → Ground → Items → Start → Layout → Mode → List (Reply (List Cell) Cell) → ℕ → SymbolicRun → NumbersRun ℕ → Type 0
AreSame file file_ground items start layout Nothing answers n run other =
    Alike (text_addresses file layout) (labels_of file file_ground) None (IsNamed (import_name file) (names_of file items)) (IsLabelOf items) run other
AreSame file file_ground items start layout mode answers n run other =
    let l = text_addresses file layout in
    let known = has_address (labels_of file file_ground) in
    ProbedRunStands (WordStands l known) (KnownByteStands l known) (Some (counters_number file_ground, counter_bytes (counts_of file file_ground mode start answers n)))
    (IsNamed (import_name file) (names_of file items)) (RegionsAreLaidOut l) (IsLabelOf items) (points_around file) At run other

-- ---- the whole

-- The items simulate the file, of which this is the ground, with probes of these forms at the leaders of a mode: for each start,
-- each lawful list of answers, each placing, each layout and each n below 2 ^ 64. The printed program makes n steps and, for each
-- of these that is at a leader, the instructions of its probe.
pub record SimulatesFrom (file_ground : Ground) (file : List ℕ) (mode : Mode) (forms : List Probe) (items : Items) : Type 0 where
  pub original : OriginalMirrors file file_ground
  pub printed : (start : Start) (layout : Layout) → IsStart start → IsTextLayout file items start layout →
      Mirrors file file_ground start (probe_cost (probe_at (probes_of file mode forms))) (printed items (names_of file items) layout) (text_addresses file layout)
      (PrintedBegins (text_addresses file layout) items layout start)
      (AreSame file file_ground items start layout mode)

-- The same of the ground of the file by its first contents, with the probes of the mode. Of these there is one list.
pub record Simulates (file : List ℕ) (mode : Mode) (items : Items) : Type 0 where
  pub forms : List Probe
  pub are_probes : AreProbes file mode forms
  pub simulates : SimulatesFrom (ground_of file (start_contents file)) file mode forms items
