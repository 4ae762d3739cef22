use Rattle.std.proofs.Common.{◌≡◌, ◌<◌, ◌≤◌, length, get_or, Some, sym, ap, subst, ◌∙◌, arith}
use Rattle.rw_elf.specs.Places.{kept_around}
use Rattle.rw_elf.specs.Section.{null_section}
use Rattle.rw_elf.specs.Tables.{kept_sections}
use Rattle.rw_refs.proofs.Data.{around-place}
use Rattle.rw_sim.proofs.Holes.{copy-low, hole-there}
use Rattle.rw_sim.proofs.start.regions.hole_of.Goals as goal

pub bounds-kept-number : goal.bounds-kept-number
bounds-kept-number c =
    let file = c.args.picture.now in
    let found : kept_around file c.args.copy.now.address ≡ Some c.in_ok-number.number = ap (λ f. kept_around f c.args.copy.now.address) (sym c.elf.ensures.file) ∙ sym c.kept_around.ensures ∙ c.in_ok-number.was in
    let list = c.kept.ensures.list ∙ ap kept_sections c.elf-2.ensures.file in
    subst (λ l. c.in_ok-number.number < length l) (sym list) (around-place file c.args.copy.now.address c.in_ok-number.number found).within

pub overflow_sub-start : goal.overflow_sub-start
overflow_sub-start c =
    let file = c.args.picture.now in
    let found : kept_around file c.args.copy.now.address ≡ Some c.in_ok-number.number = ap (λ f. kept_around f c.args.copy.now.address) (sym c.elf.ensures.file) ∙ sym c.kept_around.ensures ∙ c.in_ok-number.was in
    let list = c.kept.ensures.list ∙ ap kept_sections c.elf-2.ensures.file in
    subst (λ l. (get_or l c.in_ok-number.number null_section).addr ≤ c.args.copy.now.address) (sym list) (around-place file c.args.copy.now.address c.in_ok-number.number found).low

pub overflow_add-result : goal.overflow_add-result
overflow_add-result c =
    let low = copy-low c.args.picture.now c.args.copy.now c.elf.ensures.clean c.requires in
    let size = c.size.ensures in
    omega (arith, low, size)

pub returns : goal.returns
returns c =
    let file = c.args.picture.now in
    let found : kept_around file c.args.copy.now.address ≡ Some c.in_ok-number.number = ap (λ f. kept_around f c.args.copy.now.address) (sym c.elf.ensures.file) ∙ sym c.kept_around.ensures ∙ c.in_ok-number.was in
    let list : c.kept.result.now ≡ kept_sections file = c.kept.ensures.list ∙ ap kept_sections c.elf-2.ensures.file in
    let size = c.size.ensures in
    rw (list, size) (sym (hole-there file c.args.copy.now c.in_ok-number.number null_section found (around-place file c.args.copy.now.address c.in_ok-number.number found).within))
