-- Where the symbolic machine of a file exits, its printed program with probes at its blocks does, and counts them, by the theorem.
use Rattle.std.proofs.Common.{◌≡◌, ℕ, suc, ◌^◌, ◌<◌, List, [], ◌∷◌, All, Some, None, sym, ap, subst, ◌∙◌}
use Rattle.std.specs.Prelude.{slice_get}
use Rattle.asm_items.specs.Lines.{Items}
use Rattle.asm_items.specs.Layout.{Layout}
use Rattle.rw_domain.specs.Placed.{Placed}
use Rattle.rw_domain.specs.RegionsLaidOut.{RegionsAreLaidOut}
use Rattle.rw_machine.specs.Step.{Machine}
use Rattle.rw_machine.specs.Domains.{numbers, symbols}
use Rattle.rw_runs.specs.Runs.{first_run, made, total}
use Rattle.rw_probe.specs.declared.form.Probe.{Probe}
use Rattle.rw_probe.specs.declared.leaders.Mode.TheVariants.{Blocks}
use Rattle.rw_probe.specs.Forgetting.{counter_bytes}
use Rattle.rw_probe.specs.ProbedRuns.{probe_cost}
use Rattle.rw_code.specs.Imports.{import_name}
use Rattle.rw_code.specs.Known.{has_address}
use Rattle.rw_code.specs.File.{labels_of, symbolic}
use Rattle.rw_code.specs.Printed.{printed, PrintedBegins, IsNamed}
use Rattle.rw_code.specs.Start.{IsStart, Start, counters_number, words_placed, words_start}
use Rattle.rw_data.specs.FirstFault.{first_fault}
use Rattle.rw_data.proofs.Clean.{each_clean}
use Rattle.rw_out.specs.Items.{items_with}
use Rattle.rw_out.specs.Probed.{AreProbes, probes_of}
use Rattle.rw_out.specs.Simulates.{AreSame, IsTextLayout, counts_of, names_of, probe_at, text_addresses}
use Rattle.rw_out_examples.specs.DataExample.{exits_too_with, exits_with}
use Rattle.rw_out_examples.specs.BlocksExample.{CountsWith}
use Rattle.rw_out_examples.proofs.OneExit.{ExitsAfter, mirrored, one-event}
use Rattle.rw_out.proofs.FileLaw.{file_ground, simulates-from, text-regions}

module _ (file : List ℕ) (forms : List Probe) (no_fault : first_fault file ≡ None) (bytes : All (λ b. b < 256) file) (are : AreProbes file Blocks forms) (start : Start) (is_start : IsStart start)
    (layout : Layout) (is : IsTextLayout file (items_with file (probes_of file Blocks forms)) start layout) (n v steps : ℕ) (counts : List ℕ) (small : v < 256) (few : suc n < 2 ^ 64)
    (exits : ExitsAfter (symbolic file) (words_start (file_ground file) start) n v) (first : counters_number (file_ground file) ≡ 0)
    (counted : counts_of file (file_ground file) Blocks start (exits_with v ∷ []) (suc n) ≡ counts)
    (makes : total symbols (symbolic file) (probe_cost (probe_at (probes_of file Blocks forms))) (suc n) (first_run (words_start (file_ground file) start) (exits_with v ∷ [])) ≡ steps) where
  abbrev items : Items
  items = items_with file (probes_of file Blocks forms)

  pub printed-counts : (machine : Machine Placed ℕ ℕ ℕ) → PrintedBegins (text_addresses file layout) items layout start machine
      → CountsWith steps v counts (printed items (names_of file items) layout) machine
  printed-counts machine begins =
      let l = text_addresses file layout in
      let g = file_ground file in
      let program = printed items (names_of file items) layout in
      let laid = subst (RegionsAreLaidOut l (words_placed g start)) (sym begins.placed) (text-regions file (probes_of file Blocks forms) no_fault bytes start layout is) in
      let found =
      mirrored file g start n v small few exits (probe_cost (probe_at (probes_of file Blocks forms))) program l (PrintedBegins l items layout start) (AreSame file g items start layout Blocks)
      ((simulates-from file bytes (each_clean file no_fault) Blocks forms are).printed start layout is_start is) machine begins laid in (
        found.other,
        subst (λ k. made numbers program k (first_run machine (exits_too_with v ∷ [])) ≡ Some found.other) makes found.makes,
        one-event l (has_address (labels_of file g)) (IsNamed (import_name file) (names_of file items)) v found.run.events found.other.events found.same.events found.asked,
        sym found.same.ending ∙ found.ending,
        subst (λ r. slice_get found.other.machine.memory r ≡ Some (counter_bytes counts)) first (found.same.machine.memory.kept ∙ ap (λ numbers. Some (counter_bytes numbers)) counted),
      )
