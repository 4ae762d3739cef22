use Rattle.std.proofs.Common.{◌<◌, ◌++◌, ◌∷◌, [], length, get_or, sym, ap, ◌∙◌, arith}
use Rattle.std.specs.List.{filter_map}
use Rattle.rw_reloc.specs.Slots.{null_slot}
use Rattle.rw_sim.proofs.Holes.{hole_for, holes-more}
use Rattle.rw_sim.proofs.start.regions.holes.Goals as goal

pub loop-copy-preserved : goal.loop-copy-preserved
loop-copy-preserved c =
    let copies = c.copies-copy-items.result.now in
    let k = c.loop-copy.copy-index in
    let low : k < length copies = omega arith in
    c.in_ok-push_hole.ensures
    ∙ ap (λ hs. hs ++ filter_map (hole_for c.args.picture.now) (get_or copies k null_slot ∷ [])) c.loop-copy.invariant
    ∙ sym (holes-more (hole_for c.args.picture.now) copies k null_slot low)
