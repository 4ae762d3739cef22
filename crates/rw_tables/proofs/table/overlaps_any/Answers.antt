use Rattle.std.proofs.Common.{◌||◌, false, ap, ◌∙◌}
use Rattle.std.specs.Option.{option_map_or}
use Rattle.rw_tables.specs.Tables.{overlaps}
use Rattle.rw_tables.proofs.KnownFacts.{near}
use Rattle.rw_tables.proofs.table.overlaps_any.Goals as goal

pub returns : goal.returns
returns c = λ earlier knows.
    c.either.ensures ∙ ap (λ b. b || c.overlaps_some-above.result) c.overlaps_some-below.ensures ∙ ap (λ b. option_map_or (overlaps c.args.table.now) c.last_below-low.result false || b) c.overlaps_some-above.ensures ∙ near earlier c.args.known.now c.args.table.now c.last_below-low.result c.first_above-high.result knows c.last_below-low.ensures.some c.last_below-low.ensures.none c.first_above-high.ensures.some c.first_above-high.ensures.none
