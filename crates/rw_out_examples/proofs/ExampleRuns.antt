-- The printed program of the example exits with 0, by the theorem.
use Rattle.std.proofs.Common.{◌≡◌, ℕ, None, ap, sym, subst, ◌∙◌}
use Rattle.rw_domain.specs.Placed.{Placed}
use Rattle.rw_domain.specs.RegionsLaidOut.{RegionsAreLaidOut}
use Rattle.rw_machine.specs.Step.{Machine}
use Rattle.rw_code.specs.Ground.{ground_of}
use Rattle.rw_code.specs.Imports.{import_name}
use Rattle.rw_code.specs.File.{labels_of}
use Rattle.rw_code.specs.Start.{words_placed}
use Rattle.rw_code.specs.Mirrors.{Alike, Mirrors, no_cost}
use Rattle.rw_code.specs.Printed.{printed, PrintedBegins, IsNamed, IsLabelOf}
use Rattle.rw_code.specs.Example.{exit_file, exit_ground, exit_start, Exits}
use Rattle.rw_code.proofs.Example.{fits-file, is-start}
use Rattle.rw_code.proofs.ExampleRuns.{mirror-exits}
use Rattle.rw_data.specs.Regions.{start_contents}
use Rattle.rw_out.specs.Items.{no_probes, items_of}
use Rattle.rw_out.specs.Simulates.{names_of, text_addresses}
use Rattle.rw_out_examples.specs.Example.{exit_layout}
use Rattle.rw_out_examples.proofs.Example.{exit-bytes, no-contents, no-fault}
use Rattle.rw_out_examples.proofs.ExampleLayout.{is-layout}
use Rattle.rw_out.proofs.FileLaw.{plain-mirrors, text-regions}

ground-is : ground_of exit_file (start_contents exit_file) ≡ exit_ground
ground-is = ap (ground_of exit_file) no-contents ∙ sym fits-file.is_ground

pub printed-exits : (machine : Machine Placed ℕ ℕ ℕ) → PrintedBegins (text_addresses exit_file exit_layout) (items_of exit_file) exit_layout exit_start machine
    → Exits (printed (items_of exit_file) (names_of exit_file (items_of exit_file)) exit_layout) machine
printed-exits machine begins =
    let l = text_addresses exit_file exit_layout in
    let items = items_of exit_file in
    let names = names_of exit_file items in
    let Named : ℕ → ℕ → Type 0 = IsNamed (import_name exit_file) names in
    let laid = text-regions exit_file no_probes no-fault exit-bytes exit_start exit_layout is-layout in
    mirror-exits (printed items names exit_layout) l (PrintedBegins l items exit_layout exit_start) Named (IsLabelOf items)
    (subst (λ g. Mirrors exit_file g exit_start no_cost (printed items names exit_layout) l (PrintedBegins l items exit_layout exit_start) (λ answers n. Alike l (labels_of exit_file g) None Named (IsLabelOf items))) ground-is
    (plain-mirrors exit_file no-fault exit-bytes exit_start exit_layout is-start is-layout))
    (λ m h. subst (λ g. RegionsAreLaidOut l (words_placed g exit_start) m.placed) ground-is
    (subst (RegionsAreLaidOut l (words_placed (ground_of exit_file (start_contents exit_file)) exit_start)) (sym h.placed) laid)) machine begins
