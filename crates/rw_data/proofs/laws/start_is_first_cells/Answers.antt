use Rattle.std.proofs.Common.{◌+◌, Some, ap, ◌∙◌}
use Rattle.std.proofs.Common.{cond}
use Rattle.rw_words.specs.declared.atom.Cell.TheVariants.{Undef}
use Rattle.std.specs.Prelude.{is_some}
use Rattle.rw_data.specs.FirstCells.{cell_at}
use Rattle.rw_data.specs.Regions.{start_cell, start_cells}
use Rattle.rw_data.proofs.Contents.{cell-numbered, item-of-map}
use Rattle.rw_data.proofs.laws.start_is_first_cells.Goals as goal

pub returns : goal.returns
unfolding start_cells
returns c = λ bytes region offset s found inside none.
    item-of-map (start_cell bytes s) s.addr s.size offset inside
    ∙ ap (λ o. Some (cond (is_some o) Undef (cell_at bytes s (s.addr + offset)))) none
    ∙ ap Some (cell-numbered bytes region offset s found)
