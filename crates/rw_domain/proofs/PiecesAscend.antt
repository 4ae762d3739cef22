-- Pieces none of which goes on where the next has begun.
use Rattle.std.proofs.Common.{◌≡◌, ℕ, zero, suc, ◌+◌, ◌-◌, ◌<◌, ◌≤◌, List, length, inl, inr, get_or, subst, arith}
use Rattle.std.specs.List.{All, AllPairs}
use Rattle.std.specs.List.Sorted.{IsNonDecreasingBy}
use Rattle.std.proofs.lemmas.Bool.{cases_lt}
use Rattle.std.proofs.lemmas.Option.{slice_get-get_or, get_or_from_slice_get}
use Rattle.rw_domain.specs.declared.pieces.Piece.{Piece}
use Rattle.rw_domain.specs.declared.place.Region.{Region}
use Rattle.rw_domain.specs.declared.place.Hole.{Hole}
use Rattle.rw_domain.specs.Pieces.{IsPiece}

pub some-pieces : (regions : List Region) (bases : List ℕ) (holes : List Hole) (pieces : List Piece) → All (IsPiece regions bases holes) pieces → All (λ p. p.start < p.end) pieces
some-pieces regions bases holes pieces h k d within = let p : IsPiece regions bases holes (get_or pieces k d) = h k d within in p.some

abbrev pub AdjacentApart : List Piece → ℕ → Type 0
AdjacentApart pieces n = (k : ℕ) (d : Piece) → k + 1 < n → (get_or pieces k d).end ≤ (get_or pieces (k + 1) d).start

all-apart : (pieces : List Piece) → All (λ p. p.start < p.end) pieces → AdjacentApart pieces (length pieces) → (gap i : ℕ) (d : Piece) → i + gap + 1 < length pieces → (get_or pieces i d).end ≤ (get_or pieces (i + gap + 1) d).start
all-apart pieces some next zero i d within =
    let same : i + 1 ≡ i + zero + 1 = omega arith in
    subst (λ j. (get_or pieces i d).end ≤ (get_or pieces j d).start) same (next i d (omega arith))
all-apart pieces some next (suc gap) i d within =
    let same : (i + gap + 1) + 1 ≡ i + suc gap + 1 = omega arith in
    let earlier : (get_or pieces i d).end ≤ (get_or pieces (i + gap + 1) d).start = all-apart pieces some next gap i d (omega arith) in
    let full : (get_or pieces (i + gap + 1) d).start < (get_or pieces (i + gap + 1) d).end = some (i + gap + 1) d (omega arith) in
    let last : (get_or pieces (i + gap + 1) d).end ≤ (get_or pieces (i + suc gap + 1) d).start = subst (λ j. (get_or pieces (i + gap + 1) d).end ≤ (get_or pieces j d).start) same (next (i + gap + 1) d (omega arith)) in
    omega (arith, earlier, full, last)

pub pieces-apart : (pieces : List Piece) → All (λ p. p.start < p.end) pieces → AdjacentApart pieces (length pieces) → AllPairs (λ p q. p.end ≤ q.start) pieces
pieces-apart pieces some next i j d less within =
    let same : i + (j - i - 1) + 1 ≡ j = omega arith in
    subst (λ k. (get_or pieces i d).end ≤ (get_or pieces k d).start) same (all-apart pieces some next (j - i - 1) i d (omega arith))

pub starts-ascend : (pieces : List Piece) → All (λ p. p.start < p.end) pieces → AllPairs (λ p q. p.end ≤ q.start) pieces → IsNonDecreasingBy (λ p. p.start) pieces
starts-ascend pieces some apart i j d low within =
    elim (cases_lt i j) [
      | inl less ↦ let a = some i d (omega arith) in let b = apart i j d less within in omega (arith, a, b)
      | inr up ↦ let same : i ≡ j = omega arith in subst (λ k. (get_or pieces i d).start ≤ (get_or pieces k d).start) same (omega arith)
    ]

pub adjacent-more : (pieces : List Piece) (i : ℕ) (e : Piece) → AdjacentApart pieces i → 0 < i → i < length pieces → (get_or pieces (i - 1) e).end ≤ (get_or pieces i e).start → AdjacentApart pieces (i + 1)
adjacent-more pieces i e h some within here k d low =
    elim (cases_lt (k + 1) i) [
      | inl below ↦ h k d below
      | inr up ↦
          let same : i ≡ k + 1 = omega arith in
          let before : i - 1 ≡ k = omega arith in
          let is : get_or pieces i e ≡ get_or pieces i d = get_or_from_slice_get pieces i (get_or pieces i d) e (slice_get-get_or pieces i d within) in
          let was : get_or pieces (i - 1) e ≡ get_or pieces (i - 1) d = get_or_from_slice_get pieces (i - 1) (get_or pieces (i - 1) d) e (slice_get-get_or pieces (i - 1) d (omega arith)) in
          let it : (get_or pieces (i - 1) d).end ≤ (get_or pieces i d).start = subst (λ x. x.end ≤ (get_or pieces i d).start) was (subst (λ y. (get_or pieces (i - 1) e).end ≤ y.start) is here) in
          subst (λ j. (get_or pieces k d).end ≤ (get_or pieces j d).start) same (subst (λ m. (get_or pieces m d).end ≤ (get_or pieces i d).start) before it)
    ]

-- ---- where a piece may go

pub ends-by : (pieces : List Piece) (place address : ℕ) (e : Piece) → place ≤ length pieces → All (λ p. p.start < p.end) pieces → AllPairs (λ p q. p.end ≤ q.start) pieces → (0 < place → (get_or pieces (place - 1) e).end ≤ address) → (k : ℕ) (d : Piece) → k < place → (get_or pieces k d).end ≤ address
ends-by pieces place address e within some apart last k d low =
    let is : get_or pieces (place - 1) e ≡ get_or pieces (place - 1) d = get_or_from_slice_get pieces (place - 1) (get_or pieces (place - 1) d) e (slice_get-get_or pieces (place - 1) d (omega arith)) in
    let it : (get_or pieces (place - 1) d).end ≤ address = subst (λ x. x.end ≤ address) is (last (omega arith)) in
    elim (cases_lt k (place - 1)) [
      | inl before ↦
          let a = apart k (place - 1) d before (omega arith) in
          let b = some (place - 1) d (omega arith) in
          omega (arith, a, b, it)
      | inr up ↦ let same : place - 1 ≡ k = omega arith in subst (λ j. (get_or pieces j d).end ≤ address) same it
    ]

pub begins-from : (pieces : List Piece) (place address : ℕ) (e : Piece) → All (λ p. p.start < p.end) pieces → AllPairs (λ p q. p.end ≤ q.start) pieces → (place < length pieces → address ≤ (get_or pieces place e).start) → (k : ℕ) (d : Piece) → place ≤ k → k < length pieces → address ≤ (get_or pieces k d).start
begins-from pieces place address e some apart first k d low within =
    let is : get_or pieces place e ≡ get_or pieces place d = get_or_from_slice_get pieces place (get_or pieces place d) e (slice_get-get_or pieces place d (omega arith)) in
    let it : address ≤ (get_or pieces place d).start = subst (λ x. address ≤ x.start) is (first (omega arith)) in
    elim (cases_lt place k) [
      | inl behind ↦
          let a = apart place k d behind within in
          let b = some place d (omega arith) in
          omega (arith, a, b, it)
      | inr up ↦ let same : place ≡ k = omega arith in subst (λ j. address ≤ (get_or pieces j d).start) same it
    ]
