use Rattle.std.proofs.Common.{◌≡◌, ◌+◌, ◌≤◌, ◌<◌, ℕ, [], ◌∷◌, ◌++◌, length, false, refl, sym, ap, subst, ◌∙◌, get_or, arith}
use Rattle.std.specs.List.{All, AllPairs, insert}
use Rattle.std.specs.List.Sorted.{IsNonDecreasingBy}
use Rattle.std.proofs.Props.{props}
use Rattle.std.proofs.Math.Logic.{∥∥₁_map, ∥∥₁_elim}
use Rattle.std.proofs.lemmas.Bool.{not-true}
use Rattle.rw_domain.specs.declared.pieces.Piece.{Piece}
use Rattle.rw_domain.specs.NumberPlaces.{touches_hole}
use Rattle.rw_domain.specs.Pieces.{AreOrdered}
use Rattle.rw_domain.proofs.PiecesAscend.{some-pieces, starts-ascend}
use Rattle.rw_domain.proofs.PiecesGrown.{grown-empty, grown-ordered}
use Rattle.rw_domain.proofs.pieces.grow.Goals as goal

pub count_up_to-next-requires : goal.count_up_to-next-requires
count_up_to-next-requires c =
    subst (IsNonDecreasingBy (λ p. p.start)) (sym c.deref.ensures.value) (∥∥₁_elim c.requires.ordered (hlevel props) (λ ordered. starts-ascend c.args.pieces.items (some-pieces c.args.regions.now c.args.bases.now c.args.holes.now c.args.pieces.items ordered.cut.sound) ordered.ascend))

pub end_by-requires : goal.end_by-requires
end_by-requires c =
    let some : All (λ p. p.start < p.end) c.args.pieces.items = ∥∥₁_elim c.requires.ordered (hlevel props) (λ ordered. some-pieces c.args.regions.now c.args.bases.now c.args.holes.now c.args.pieces.items ordered.cut.sound) in
    let apart : AllPairs (λ p q. p.end ≤ q.start) c.args.pieces.items = ∥∥₁_elim c.requires.ordered (hlevel props) (λ ordered. ordered.ascend) in
    record {
      within = subst (λ list. c.count_up_to-next.result ≤ length list) (c.deref.ensures.value ∙ sym c.deref-2.ensures.value) c.count_up_to-next.ensures.within;
      some = subst (All (λ p. p.start < p.end)) (sym c.deref-2.ensures.value) some;
      apart = subst (AllPairs (λ p q. p.end ≤ q.start)) (sym c.deref-2.ensures.value) apart;
    }

pub begin_from-requires : goal.begin_from-requires
begin_from-requires c =
    let some : All (λ p. p.start < p.end) c.args.pieces.items = ∥∥₁_elim c.requires.ordered (hlevel props) (λ ordered. some-pieces c.args.regions.now c.args.bases.now c.args.holes.now c.args.pieces.items ordered.cut.sound) in
    let apart : AllPairs (λ p q. p.end ≤ q.start) c.args.pieces.items = ∥∥₁_elim c.requires.ordered (hlevel props) (λ ordered. ordered.ascend) in
    record {
      some = subst (All (λ p. p.start < p.end)) (sym c.deref-3.ensures.value) some;
      apart = subst (AllPairs (λ p q. p.end ≤ q.start)) (sym c.deref-3.ensures.value) apart;
    }

pub returns-then-region-eq0 : goal.returns-then-region-eq0
returns-then-region-eq0 c =
    ∥∥₁_map c.requires.ordered (λ ordered.
    grown-empty c.args.regions.now c.args.bases.now c.args.holes.now c.requires.based c.args.region c.args.base c.args.pieces.items ordered.cut ordered.ascend c.if-region-eq0.true)

pub returns-in-Ok : goal.returns-in-Ok
returns-in-Ok c =
    let regions = c.args.regions.now in
    let pieces = c.args.pieces.items in
    let next = c.count_up_to-next.result in
    let within : c.count_up_to-next.result ≤ length c.args.pieces.items = rw c.deref.ensures.value at c.count_up_to-next.ensures.within in
    let last : c.in_ok-end.end ≡ c.args.base + c.args.region.size = c.in_ok-end.ensures.1 in
    let before : (k : ℕ) (d : Piece) → k < c.count_up_to-next.result → (get_or c.args.pieces.items k d).end ≤ c.args.base =
    subst (λ list. (k : ℕ) (d : Piece) → k < c.count_up_to-next.result → (get_or list k d).end ≤ c.args.base) c.deref-2.ensures.value (c.if-not-end_by.ensures refl) in
    let behind : (k : ℕ) (d : Piece) → c.count_up_to-next.result ≤ k → k < length c.args.pieces.items → c.args.base + c.args.region.size ≤ (get_or c.args.pieces.items k d).start =
    subst (λ e. (k : ℕ) (d : Piece) → c.count_up_to-next.result ≤ k → k < length c.args.pieces.items → e ≤ (get_or c.args.pieces.items k d).start) last
    (subst (λ list. (k : ℕ) (d : Piece) → c.count_up_to-next.result ≤ k → k < length list → c.in_ok-end.end ≤ (get_or list k d).start) c.deref-3.ensures.value (c.if-not-begin_from.ensures refl)) in
    let free : touches_hole c.args.holes.now (length c.args.regions.now) 0 c.args.region.size ≡ false = not-true (touches_hole c.args.holes.now (length c.args.regions.now) 0 c.args.region.size) (sym c.if-not-are_clear_of.ensures) in
    let is : insert c.args.pieces.items c.count_up_to-next.result (record { start = c.args.base; end = c.args.base + c.args.region.size; region = length c.args.regions.now }) ≡ c.insert.new.self.items =
    sym (c.in-Ok.ensures.items ∙ ap (λ e. insert c.args.pieces.items c.count_up_to-next.result (record { start = c.args.base; end = e; region = length c.args.regions.now })) last) in
    ∥∥₁_map c.requires.ordered (λ ordered.
    subst (AreOrdered (c.args.regions.now ++ c.args.region ∷ []) (c.args.bases.now ++ c.args.base ∷ []) c.args.holes.now) is
    (grown-ordered regions c.args.bases.now c.args.holes.now c.requires.based c.args.region c.args.base pieces ordered.cut next within ordered.ascend before behind (omega arith) free))
