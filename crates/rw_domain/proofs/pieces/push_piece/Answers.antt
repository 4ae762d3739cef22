use Rattle.std.proofs.Common.{get_or, sym, subst, arith}
use Rattle.std.proofs.lemmas.Option.{slice_get-get_or}
use Rattle.std.specs.List.{All}
use Rattle.rw_domain.specs.Pieces.{IsPiece, HoldsRange}
use Rattle.rw_domain.proofs.PlaceLemmas.{null_region}
use Rattle.rw_domain.proofs.PiecesPushed.{pushed-sound, pushed-held, unpushed-held, end-within}
use Rattle.rw_domain.proofs.pieces.push_piece.Goals as goal

pub overflow_add-base-then-from-end : goal.overflow_add-base-then-from-end
overflow_add-base-then-from-end c =
    let region = get_or c.args.regions.now c.args.number null_region in
    let size = (end-within c.args.holes.now region c.args.number c.args.from c.free_end-end.result c.if-from-end.true c.free_end-end.ensures).1 in
    let fit = c.requires.fit c.args.number region (slice_get-get_or c.args.regions.now c.args.number null_region c.requires.there) in
    omega (arith, size, fit)

pub returns-in_ok-push-clause-sound : goal.returns-in_ok-push-clause-sound
returns-in_ok-push-clause-sound c = λ before.
    subst (All (IsPiece c.args.regions.now c.args.bases.now c.args.holes.now)) (sym c.in_ok-push.ensures.items)
    (pushed-sound c.args.regions.now c.args.bases.now c.args.holes.now c.args.pieces.now.items c.args.number c.args.from c.free_end-end.result (get_or c.args.regions.now c.args.number null_region)
    (slice_get-get_or c.args.regions.now c.args.number null_region c.requires.there) c.free_end-end.ensures c.if-from-end.true before)

pub returns-in_ok-push-clause-held : goal.returns-in_ok-push-clause-held
returns-in_ok-push-clause-held c = λ end.
    subst (λ list. HoldsRange c.args.regions.now c.args.bases.now c.args.holes.now list c.args.number c.args.from end) (sym c.in_ok-push.ensures.items)
    (pushed-held c.args.regions.now c.args.bases.now c.args.holes.now c.args.pieces.now.items c.args.number c.args.from c.free_end-end.result (get_or c.args.regions.now c.args.number null_region)
    (slice_get-get_or c.args.regions.now c.args.number null_region c.requires.there) c.free_end-end.ensures end)

pub returns-else-from-end-clause-held : goal.returns-else-from-end-clause-held
returns-else-from-end-clause-held c =
    unpushed-held c.args.regions.now c.args.bases.now c.args.holes.now c.args.pieces.now.items c.args.number c.args.from c.free_end-end.result (get_or c.args.regions.now c.args.number null_region)
    (slice_get-get_or c.args.regions.now c.args.number null_region c.requires.there) c.free_end-end.ensures c.if-from-end.false
