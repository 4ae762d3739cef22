use Rattle.std.proofs.Common.{◌+◌, length, sym, subst, arith}
use Rattle.std.proofs.lemmas.Option.{slice_get_within}
use Rattle.rw_domain.proofs.HolesAscend.{null_hole}
use Rattle.rw_domain.proofs.PiecesPushed.{After, starts-more, starts-kept, ends-more}
use Rattle.rw_domain.proofs.PiecesCut.{cut-whole}
use Rattle.rw_domain.proofs.pieces.cut.Goals as goal
use Rattle.rw_domain.proofs.pieces.cut.Goals.{then-hole-regions+in_ok-push_piece-2, else-hole-regions}

pub loop-number-preserved : goal.loop-number-preserved
loop-number-preserved c = record {
  sound = c.in_ok-push_piece.ensures.sound c.loop-number.invariant.sound;
  starts = starts-more c.args.regions.now c.args.bases.now c.args.holes.now c.loop-number.pieces.items c.push_piece.new.pieces.items c.loop-number.number c.in_ok-push_piece.ensures.kept c.loop-number.invariant.starts c.in_ok-push_piece.ensures.held;
}

pub loop-hole-preserved : goal.loop-hole-preserved
loop-hole-preserved c =
    elim c.if-hole-regions.branch [
      | then-hole-regions+in_ok-push_piece-2 w ↦
          let pushed = w.push_piece-then-hole-regions.new.pieces.items in
          let kept = w.in_ok-push_piece-2.ensures.kept in
          subst (λ v. After c.args.regions.now c.args.bases.now c.args.holes.now v.items (c.loop-hole.hole-index + 1)) (sym w.pieces-is) (record {
            sound = w.in_ok-push_piece-2.ensures.sound c.loop-hole.invariant.sound;
            starts = starts-kept c.args.regions.now c.args.bases.now c.args.holes.now c.loop-hole.pieces.items pushed (length c.args.regions.now) kept c.loop-hole.invariant.starts;
            ends = ends-more c.args.regions.now c.args.bases.now c.args.holes.now c.loop-hole.pieces.items pushed c.loop-hole.hole-index null_hole c.loop-hole-test.true kept c.loop-hole.invariant.ends (λ _. w.in_ok-push_piece-2.ensures.held);
          })
      | else-hole-regions w ↦
          subst (λ v. After c.args.regions.now c.args.bases.now c.args.holes.now v.items (c.loop-hole.hole-index + 1)) (sym w.pieces-is) (record {
            sound = c.loop-hole.invariant.sound;
            starts = c.loop-hole.invariant.starts;
            ends = ends-more c.args.regions.now c.args.bases.now c.args.holes.now c.loop-hole.pieces.items c.loop-hole.pieces.items c.loop-hole.hole-index null_hole c.loop-hole-test.true (λ p among. among) c.loop-hole.invariant.ends (λ inside. absurd (let other = w.if-hole-regions.false in omega (arith, inside, other)));
          })
    ]

pub returns : goal.returns
returns c = record {
  sound = c.loop-hole.invariant.sound;
  whole = cut-whole c.args.regions.now c.args.bases.now c.args.holes.now c.loop-hole.pieces.items c.loop-hole.invariant.starts (λ k h at within end. c.loop-hole.invariant.ends k h (let z = slice_get_within c.args.holes.now k h at in omega (arith, z)) at within end);
}
