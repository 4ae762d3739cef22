-- The items of a file are items of a text, so its text is that of these alone.
use Rattle.std.proofs.Common.{◌≡◌, ◌<◌, ℕ, List, All, None, refl, sym, subst}
use Rattle.asm_items.specs.Formed.{AreItems}
use Rattle.asm_print.specs.Text.{text_of}
use Rattle.asm_print.proofs.Unique.{texts-apart}
use Rattle.rw_data.specs.FirstFault.{first_fault}
use Rattle.rw_data.proofs.Clean.{IsClean, each_clean}
use Rattle.rw_probe.specs.declared.form.Probe.{Probe}
use Rattle.rw_probe.specs.declared.leaders.Mode.{Mode}
use Rattle.rw_out.specs.Items.{items_with}
use Rattle.rw_out.specs.Probed.{AreProbes, probes_of}
use Rattle.rw_out.specs.Simulates.{Simulates}
use Rattle.rw_out.specs.Rewritten.{IsRewritten}
use Rattle.rw_out.proofs.FileLaw.{simulates-file}
use Rattle.rw_out.proofs.Kept.{few-probes}
use Rattle.rw_out.proofs.WholeData.{whole-fine}

-- whatever items a text of the file is the text of, they are its items
pub is-rewritten : (file : List ℕ) (mode : Mode) (forms : List Probe) → first_fault file ≡ None → All (λ b. b < 256) file → AreProbes file mode forms → IsRewritten file mode (text_of (items_with file (probes_of file mode forms)))
is-rewritten file mode forms no_fault bytes are =
    let clean : IsClean file = each_clean file no_fault in
    let its_items = items_with file (probes_of file mode forms) in
    let formed : AreItems (items_with file (probes_of file mode forms)) = (whole-fine file clean bytes (probes_of file mode forms) (few-probes file mode clean forms)).0 in
    record {
      written = (its_items, formed, refl);
      simulates = λ items its same. subst (Simulates file mode) (sym (texts-apart items its_items its formed same)) (simulates-file file mode forms no_fault bytes are);
    }
