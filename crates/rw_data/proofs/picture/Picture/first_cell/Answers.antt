use Rattle.std.proofs.Common.{◌≡◌, ℕ, ◌+◌, ◌<◌, List, get_or, slice_get, Option, Some, None, Contains, refl, sym, ap, ◌∙◌, subst, arith, ◌^◌}
use Rattle.std.specs.Option.{IsSomeAnd, option_map_or}
use Rattle.std.proofs.lemmas.Option.{get_or_from_slice_get, slice_get_within}
use Rattle.rw_words.specs.declared.atom.Cell.TheVariants.{Undef}
use Rattle.rw_elf.specs.declared.section.Section.{Section}
use Rattle.rw_elf.specs.Section.{null_section}
use Rattle.rw_elf.specs.Tables.{kept_sections}
use Rattle.rw_data.specs.FirstCells.{cell_at, first_cell}
use Rattle.rw_data.specs.FirstFault.{first_fault}
use Rattle.rw_data.proofs.Clean.{each_clean, is-kept}
use Rattle.rw_data.proofs.picture.Picture.first_cell.Goals as goal

-- the section of a region
record IsRegion (bytes : List ℕ) (list : List Section) (region offset : ℕ) : Type 0 where
  pub found : slice_get (kept_sections bytes) region ≡ Some (get_or list region null_section)
  pub inside : offset < (get_or list region null_section).size
  pub kept : Contains (kept_sections bytes) (get_or list region null_section)
  pub low : (get_or list region null_section).addr + (get_or list region null_section).size < 2 ^ 64

some-parts : (o : Option Section) (offset : ℕ) → IsSomeAnd o (λ s. offset < s.size) → (s : Section) × (o ≡ Some s) × (offset < s.size)
some-parts None offset h = absurd h
some-parts (Some s) offset h = (s, refl, h)

is-region : (bytes : List ℕ) (list : List Section) (region offset : ℕ) → first_fault bytes ≡ None → list ≡ kept_sections bytes → IsSomeAnd (slice_get (kept_sections bytes) region) (λ s. offset < s.size) → IsRegion bytes list region offset
is-region bytes list region offset clean same h =
    let parts = some-parts (slice_get (kept_sections bytes) region) offset h in
    let s = parts.0 in
    let is : get_or list region null_section ≡ s = ap (λ (xs : List Section). get_or xs region null_section) same ∙ get_or_from_slice_get (kept_sections bytes) region s null_section parts.1 in
    let here : Contains (kept_sections bytes) s = (region, slice_get_within (kept_sections bytes) region s parts.1, get_or_from_slice_get (kept_sections bytes) region s s parts.1) in
    let kept = is-kept bytes s (each_clean bytes clean).elf here in
    let low = kept.low in
    record {
      found = parts.1 ∙ ap Some (sym is);
      inside = subst (λ (x : Section). offset < x.size) (sym is) parts.2;
      kept = subst (Contains (kept_sections bytes)) (sym is) here;
      low = subst (λ (x : Section). x.addr + x.size < 2 ^ 64) (sym is) (omega (arith, low));
    }

pub overflow_add-section : goal.overflow_add-section
overflow_add-section c =
    let r = is-region c.args.self.now c.kept.result.now c.args.region c.args.offset c.elf.ensures.clean (c.kept.ensures.list ∙ ap kept_sections c.elf.ensures.file) c.requires in
    let low = r.low in
    let inside = r.inside in
    omega (arith, low, inside)

pub cell_at-requires-clause-kept : goal.cell_at-requires-clause-kept
cell_at-requires-clause-kept c =
    (is-region c.args.self.now c.kept.result.now c.args.region c.args.offset c.elf.ensures.clean (c.kept.ensures.list ∙ ap kept_sections c.elf.ensures.file) c.requires).kept

pub cell_at-requires-clause-high : goal.cell_at-requires-clause-high
cell_at-requires-clause-high c =
    let r = is-region c.args.self.now c.kept.result.now c.args.region c.args.offset c.elf.ensures.clean (c.kept.ensures.list ∙ ap kept_sections c.elf.ensures.file) c.requires in
    let inside = r.inside in
    omega (arith, inside)

pub returns : goal.returns
unfolding first_cell
returns c =
    let r = is-region c.args.self.now c.kept.result.now c.args.region c.args.offset c.elf.ensures.clean (c.kept.ensures.list ∙ ap kept_sections c.elf.ensures.file) c.requires in
    c.cell_at.ensures ∙ sym (ap (λ o. option_map_or (λ (s : Section). cell_at c.args.self.now s (s.addr + c.args.offset)) o Undef) r.found)
