use Rattle.std.proofs.Common.{◌≤◌, ◌<◌, refl, sym, subst}
use Rattle.std.specs.List.{All, AllPairs}
use Rattle.rw_domain.specs.Pieces.{AreCut}
use Rattle.rw_domain.proofs.PiecesPushed.{cut-permuted}
use Rattle.rw_domain.proofs.PiecesAscend.{some-pieces}
use Rattle.rw_domain.proofs.pieces.order.Goals as goal

pub are_apart-requires : goal.are_apart-requires
are_apart-requires c =
    let sorted = c.sort_unstable_by_key.new.self.items in
    let moved = cut-permuted c.args.regions.now c.args.bases.now c.in-Some.holes.now c.in_ok-pieces.pieces.items sorted c.sort_unstable_by_key.ensures.permutation c.in_ok-pieces.ensures in
    subst (All (λ p. p.start < p.end)) (sym c.deref.ensures.value) (some-pieces c.args.regions.now c.args.bases.now c.in-Some.holes.now sorted moved.sound)

pub returns-then-are_apart : goal.returns-then-are_apart
returns-then-are_apart c =
    let sorted = c.sort_unstable_by_key.new.self.items in
    let moved = cut-permuted c.args.regions.now c.args.bases.now c.in-Some.holes.now c.in_ok-pieces.pieces.items sorted c.sort_unstable_by_key.ensures.permutation c.in_ok-pieces.ensures in
    ∣ record {
      cut = subst (λ holes. AreCut c.args.regions.now c.args.bases.now holes sorted) c.in-Some.ensures.0 moved;
      ascend = subst (AllPairs (λ p q. p.end ≤ q.start)) c.deref.ensures.value (c.if-are_apart.ensures refl);
    } ∣₁
