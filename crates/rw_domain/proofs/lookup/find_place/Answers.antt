use Rattle.std.proofs.Common.{arith, sym, ◌∙◌, length}
use Rattle.rw_base.proofs.First.{clean_more, none_found}
use Rattle.rw_domain.specs.NumberPlaces.{place_at}
use Rattle.rw_domain.proofs.PlaceLemmas.{null_region, place-here, first-found, none-here}
use Rattle.rw_domain.proofs.lookup.find_place.Goals as goal

pub returns-then-is_some : goal.returns-then-is_some
returns-then-is_some c =
    first-found (place_at c.args.regions.now c.args.bases.now c.args.holes.now c.args.address c.args.len) (length c.args.regions.now) c.loop-number.number _
    c.loop-number-test.true c.loop-number.invariant
    (place-here c.args.regions.now c.args.bases.now c.args.holes.now c.args.address c.args.len c.loop-number.number null_region c.place_at_base-place.result c.loop-number-test.true c.place_at_base-place.ensures)
    (sym c.is_some.ensures ∙ c.if-is_some.true)

pub loop-number-preserved : goal.loop-number-preserved
loop-number-preserved c =
    let finding = place_at c.args.regions.now c.args.bases.now c.args.holes.now c.args.address c.args.len in
    clean_more finding c.loop-number.number c.loop-number.invariant
    (none-here finding c.loop-number.number c.place_at_base-place.result
    (place-here c.args.regions.now c.args.bases.now c.args.holes.now c.args.address c.args.len c.loop-number.number null_region c.place_at_base-place.result c.loop-number-test.true c.place_at_base-place.ensures)
    (sym c.is_some.ensures ∙ c.if-is_some.false))

pub returns : goal.returns
returns c =
    none_found (place_at c.args.regions.now c.args.bases.now c.args.holes.now c.args.address c.args.len) _ c.loop-number.number (omega arith) c.loop-number.invariant
