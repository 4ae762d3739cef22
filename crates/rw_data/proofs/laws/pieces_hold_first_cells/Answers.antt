use Rattle.std.proofs.Common.{slice_get, Some, Contains, ap, ◌∙◌}
use Rattle.std.proofs.lemmas.Option.{get_or_from_slice_get, slice_get_within}
use Rattle.rw_elf.specs.Tables.{kept_sections}
use Rattle.rw_data.specs.FirstCells.{cell_at}
use Rattle.rw_data.proofs.Clean.{each_clean}
use Rattle.rw_data.proofs.Contents.{cell-numbered, item-of-map, whole-contents}
use Rattle.rw_data.proofs.laws.pieces_hold_first_cells.Goals as goal

pub returns-clause-whole : goal.returns-clause-whole
returns-clause-whole c = λ bytes s clean here. whole-contents bytes s (each_clean bytes clean) here

pub returns-clause-cell : goal.returns-clause-cell
returns-clause-cell c = λ bytes region offset s clean found inside.
    let here : Contains (kept_sections bytes) s = (region, slice_get_within (kept_sections bytes) region s found, get_or_from_slice_get (kept_sections bytes) region s s found) in
    ap (λ cells. slice_get cells offset) (whole-contents bytes s (each_clean bytes clean) here)
    ∙ item-of-map (cell_at bytes s) s.addr s.size offset inside
    ∙ ap Some (cell-numbered bytes region offset s found)
