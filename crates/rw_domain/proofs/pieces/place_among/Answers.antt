use Rattle.std.proofs.Common.{arith, inl, inr, get_or, ◌-◌}
use Rattle.std.proofs.lemmas.Option.{slice_get-get_or, slice_get_within}
use Rattle.std.proofs.Props.{props}
use Rattle.std.proofs.Math.Logic.{∥∥₁_elim}
use Rattle.rw_domain.specs.Pieces.{IsPiece}
use Rattle.rw_domain.proofs.PiecesAscend.{some-pieces, starts-ascend}
use Rattle.rw_domain.proofs.PiecesFound.{null_piece, in-piece, in-none, last-only}
use Rattle.rw_domain.proofs.pieces.place_among.Goals as goal

pub count_up_to-next-requires : goal.count_up_to-next-requires
count_up_to-next-requires c =
    ∥∥₁_elim c.requires.ordered (hlevel props) (λ ordered.
    starts-ascend c.args.pieces.now (some-pieces c.args.regions.now c.args.bases.now c.args.holes.now c.args.pieces.now ordered.cut.sound) ordered.ascend)

pub returns-then-next-eq0 : goal.returns-then-next-eq0
returns-then-next-eq0 c =
    ∥∥₁_elim c.requires.ordered (hlevel props) (λ ordered.
    in-none c.args.regions.now c.args.bases.now c.args.holes.now c.args.pieces.now ordered c.args.address c.args.len (omega arith)
    (λ i p at low high. let z = c.count_up_to-next.ensures.above i p (omega arith) at in omega (arith, z, low)))

pub returns-then-piece-address : goal.returns-then-piece-address
returns-then-piece-address c =
    ∥∥₁_elim c.requires.ordered (hlevel props) (λ ordered.
    let pieces = c.args.pieces.now in
    let next = c.count_up_to-next.result in
    let at = slice_get-get_or pieces (next - 1) null_piece (omega arith) in
    last-only c.args.regions.now c.args.bases.now c.args.holes.now pieces ordered c.args.address c.args.len (omega arith) next (get_or pieces (next - 1) null_piece) at (omega arith)
    (c.count_up_to-next.ensures.below (next - 1) (get_or pieces (next - 1) null_piece) (omega arith) at) c.count_up_to-next.ensures.above (inl c.if-piece-address.true))

pub returns-then-piece-address-2 : goal.returns-then-piece-address-2
returns-then-piece-address-2 c =
    ∥∥₁_elim c.requires.ordered (hlevel props) (λ ordered.
    let pieces = c.args.pieces.now in
    let next = c.count_up_to-next.result in
    let at = slice_get-get_or pieces (next - 1) null_piece (omega arith) in
    last-only c.args.regions.now c.args.bases.now c.args.holes.now pieces ordered c.args.address c.args.len (omega arith) next (get_or pieces (next - 1) null_piece) at (omega arith)
    (c.count_up_to-next.ensures.below (next - 1) (get_or pieces (next - 1) null_piece) (omega arith) at) c.count_up_to-next.ensures.above (inr c.if-piece-address-2.true))

pub bounds-bases-piece : goal.bounds-bases-piece
bounds-bases-piece c =
    ∥∥₁_elim c.requires.ordered (hlevel props) (λ ordered.
    let sound : IsPiece c.args.regions.now c.args.bases.now c.args.holes.now (get_or c.args.pieces.now (c.count_up_to-next.result - 1) null_piece) = ordered.cut.sound (c.count_up_to-next.result - 1) null_piece (omega arith) in
    let within = slice_get_within c.args.regions.now (get_or c.args.pieces.now (c.count_up_to-next.result - 1) null_piece).region sound.region sound.at in
    omega (arith, within))

pub overflow_sub-result : goal.overflow_sub-result
overflow_sub-result c =
    ∥∥₁_elim c.requires.ordered (hlevel props) (λ ordered.
    let pieces = c.args.pieces.now in
    let next = c.count_up_to-next.result in
    let sound : IsPiece c.args.regions.now c.args.bases.now c.args.holes.now (get_or c.args.pieces.now (c.count_up_to-next.result - 1) null_piece) = ordered.cut.sound (c.count_up_to-next.result - 1) null_piece (omega arith) in
    let low = sound.low in
    let from = c.count_up_to-next.ensures.below (next - 1) (get_or pieces (next - 1) null_piece) (omega arith) (slice_get-get_or pieces (next - 1) null_piece (omega arith)) in
    omega (arith, low, from))

pub returns : goal.returns
returns c =
    ∥∥₁_elim c.requires.ordered (hlevel props) (λ ordered.
    let pieces = c.args.pieces.now in
    let next = c.count_up_to-next.result in
    let at = slice_get-get_or pieces (next - 1) null_piece (omega arith) in
    let from = c.count_up_to-next.ensures.below (next - 1) (get_or pieces (next - 1) null_piece) (omega arith) at in
    in-piece c.args.regions.now c.args.bases.now c.args.holes.now pieces ordered c.args.address c.args.len (omega arith) (next - 1) (get_or pieces (next - 1) null_piece) at from (omega arith))
