use Rattle.std.proofs.Common.{◌≡◌, ◌<◌, ◌≤◌, ◌++◌, [], length, map, take, drop, slice_get, get_or, Some, sym, ap, subst, ◌∙◌, arith}
use Rattle.std.proofs.lemmas.Option.{slice_get-get_or, slice_get_within}
use Rattle.rw_elf.specs.Section.{null_section}
use Rattle.rw_elf.specs.Tables.{kept_sections}
use Rattle.rw_machine.specs.Running.{written_at}
use Rattle.rw_machine.specs.State.{machine_of}
use Rattle.rw_machine.specs.Views.{HasRange}
use Rattle.rw_code.specs.Ground.{kept_region}
use Rattle.rw_data.specs.Regions.{start_cells}
use Rattle.rw_sim.proofs.FileRows.{section-region, start-length}
use Rattle.rw_sim.proofs.StartPuts.{with_rows, written}
use Rattle.rw_sim.proofs.WrittenRows.{next-row, range-at, row-at, row-length, whole-written}
use Rattle.rw_sim.proofs.start.sections.put.Goals as goal

pub put_section-requires-clause-inside : goal.put_section-requires-clause-inside
put_section-requires-clause-inside c =
    let file = c.args.picture.now in
    let k = c.loop-number.number in
    let s = get_or c.kept-kept.result.now k null_section in
    let low : k < length c.kept-kept.result.now = omega arith in
    let got : slice_get (kept_sections file) k ≡ Some s = ap (λ l. slice_get l k) (sym (c.kept-kept.ensures.list ∙ ap kept_sections c.elf.ensures.file)) ∙ slice_get-get_or c.kept-kept.result.now k null_section low in
    (kept_region s, ap (λ m. slice_get m.placed.regions k) c.loop-number.invariant ∙ ap (λ rs. slice_get rs k) c.requires.regions.1 ∙ section-region file c.requires.regions.0 k s got, omega arith)

pub put_section-requires-clause-range : goal.put_section-requires-clause-range
put_section-requires-clause-range c =
    let file = c.args.picture.now in
    let k = c.loop-number.number in
    let s = get_or c.kept-kept.result.now k null_section in
    let low : k < length c.kept-kept.result.now = omega arith in
    let got : slice_get (kept_sections file) k ≡ Some s = ap (λ l. slice_get l k) (sym (c.kept-kept.ensures.list ∙ ap kept_sections c.elf.ensures.file)) ∙ slice_get-get_or c.kept-kept.result.now k null_section low in
    let within = slice_get_within (kept_sections file) k s got in
    let row = row-length (machine_of c.args.state.now).placed.regions (machine_of c.args.state.now).memory k (kept_region s) c.requires.rows (ap (λ rs. slice_get rs k) c.requires.regions.1 ∙ section-region file c.requires.regions.0 k s got) in
    let size = row.1 in
    subst (λ rows. HasRange rows (record { region = k; offset = 0 }) s.size) (sym (ap (λ m. m.memory) c.loop-number.invariant))
    (range-at (start_cells file) (kept_sections file) (machine_of c.args.state.now).memory k s.size (omega (arith, within)) (record { region = row.0; bytes = omega (arith, size) }))

pub loop-number-preserved : goal.loop-number-preserved
loop-number-preserved c =
    let file = c.args.picture.now in
    let k = c.loop-number.number in
    let old = machine_of c.args.state.now in
    let s = get_or c.kept-kept.result.now k null_section in
    let low : k < length c.kept-kept.result.now = omega arith in
    let got : slice_get (kept_sections file) k ≡ Some s = ap (λ l. slice_get l k) (sym (c.kept-kept.ensures.list ∙ ap kept_sections c.elf.ensures.file)) ∙ slice_get-get_or c.kept-kept.result.now k null_section low in
    let within = slice_get_within (kept_sections file) k s got in
    let row = row-length old.placed.regions old.memory k (kept_region s) c.requires.rows (ap (λ rs. slice_get rs k) c.requires.regions.1 ∙ section-region file c.requires.regions.0 k s got) in
    c.in_ok-put_section.ensures
    ∙ ap (written (record { region = k; offset = 0 }) (start_cells file s)) c.loop-number.invariant
    ∙ ap (with_rows old)
    (whole-written (map (start_cells file) (take k (kept_sections file)) ++ drop k old.memory) k (start_cells file s)
    (ap length (row-at (start_cells file) (kept_sections file) old.memory k (omega (arith, within))) ∙ row.1 ∙ sym (start-length file s))
    ∙ next-row (start_cells file) (kept_sections file) old.memory k s got row.0)
