-- What pieces have, where one is pushed, and in any order.
use Rattle.std.proofs.Common.{◌≡◌, ◌≢◌, ℕ, ◌+◌, ◌-◌, ◌<◌, ◌≤◌, List, [], ◌∷◌, ◌++◌, length, Some, Bool, true, false, ◌&&◌, inl, inr, not, nat_eq, nat_lt, nat_le, get_or, refl, sym, ap, ◌∙◌, subst, arith}
use Rattle.std.specs.Prelude.{slice_get, slice_index, min}
use Rattle.std.specs.List.{All, Contains}
use Rattle.std.specs.List.Sorted.{IsPermutation}
use Rattle.std.proofs.lemmas.Bool.{cases_lt, leb-true, le-leb}
use Rattle.std.proofs.lemmas.Bool.Decides.{nat_tests}
use Rattle.std.proofs.lemmas.Option.{get_or_from_slice_get}
use Rattle.std.proofs.lemmas.List.Elements.{All-push, Contains-push}
use Rattle.std.proofs.lemmas.List.Sorted.{All-permutation, Contains-permutation}
use Rattle.rw_domain.specs.declared.pieces.Piece.{Piece}
use Rattle.rw_domain.specs.declared.place.Region.{Region}
use Rattle.rw_domain.specs.declared.place.Hole.{Hole}
use Rattle.rw_domain.specs.NumberPlaces.{touches_hole, is_inside}
use Rattle.rw_domain.specs.Pieces.{IsPiece, Holds, HoldsRange, AreCut}
use Rattle.rw_domain.proofs.RegionBytes.{inside-parts}

pub holds-among : (pieces qs : List Piece) (r start end : ℕ) → ((p : Piece) → Contains pieces p → Contains qs p) → Holds pieces r start end → Holds qs r start end
holds-among pieces qs r start end kept h = record { piece = h.piece; among = kept h.piece h.among; is = h.is; low = h.low; high = h.high }

pub ranges-among : (regions : List Region) (bases : List ℕ) (holes : List Hole) (pieces qs : List Piece) (r start end : ℕ) → ((p : Piece) → Contains pieces p → Contains qs p) → HoldsRange regions bases holes pieces r start end → HoldsRange regions bases holes qs r start end
ranges-among regions bases holes pieces qs r start end kept h region at some inside = holds-among pieces qs r (slice_index bases r + start) (slice_index bases r + end) kept (h region at some inside)

pub cut-permuted : (regions : List Region) (bases : List ℕ) (holes : List Hole) (pieces qs : List Piece) → IsPermutation pieces qs → AreCut regions bases holes pieces → AreCut regions bases holes qs
cut-permuted regions bases holes pieces qs moves h = record {
  sound = All-permutation (IsPiece regions bases holes) pieces qs moves h.sound;
  whole = λ r start end. ranges-among regions bases holes pieces qs r start end (λ p among. Contains-permutation pieces qs p moves among) (h.whole r start end);
}

pub made-piece : (regions : List Region) (bases : List ℕ) (holes : List Hole) (number from end : ℕ) (region : Region) → slice_get regions number ≡ Some region → from < end → is_inside holes region number from end ≡ true
    → IsPiece regions bases holes (record { start = slice_index bases number + from; end = slice_index bases number + end; region = number })
made-piece regions bases holes number from end region at some inside =
    let first : slice_index bases number + from - slice_index bases number ≡ from = omega arith in
    let last : slice_index bases number + end - slice_index bases number ≡ end = omega arith in
    record {
      region = region;
      at = at;
      low = omega arith;
      some = omega (arith, some);
      inside = subst (λ z. is_inside holes region number z (slice_index bases number + end - slice_index bases number) ≡ true) (sym first) (subst (λ z. is_inside holes region number from z ≡ true) (sym last) inside);
    }

-- ---- how far a range may go

pub end-of-size : (holes : List Hole) (region : Region) (r o end : ℕ) → touches_hole holes r o end ≡ false → is_inside holes region r o end ≡ nat_le end region.size
end-of-size holes region r o end free = by_test (nat_le end region.size) refl
  where
    by_test : (t : Bool) → nat_le end region.size ≡ t → (nat_le end region.size && not (touches_hole holes r o end)) ≡ nat_le end region.size
    by_test true e = rw (e, free) refl
    by_test false e = rw e refl

pub end-of-other : (holes : List Hole) (region : Region) (r o end : ℕ) (h : Hole) → h.region ≢ r → touches_hole holes r o end ≡ (nat_eq h.region r && nat_lt h.start end) → is_inside holes region r o end ≡ nat_le end region.size
end-of-other holes region r o end h other first = end-of-size holes region r o end (first ∙ (let e : (nat_eq h.region r && nat_lt h.start end) ≡ false = grind (arith, nat_tests) in e))

pub end-of-hole : (holes : List Hole) (region : Region) (r o end least : ℕ) (h : Hole) → h.region ≡ r → least ≡ min region.size h.start → touches_hole holes r o end ≡ (nat_eq h.region r && nat_lt h.start end) → is_inside holes region r o end ≡ nat_le end least
end-of-hole holes region r o end least h same is first =
    ap (λ t. nat_le end region.size && not t) first ∙ (let e : (nat_le end region.size && not (nat_eq h.region r && nat_lt h.start end)) ≡ nat_le end least = grind (arith, nat_tests) in e)

pub end-within : (holes : List Hole) (region : Region) (r o end : ℕ) → o < end → ((e : ℕ) → o < e → is_inside holes region r o e ≡ nat_le e end) → (is_inside holes region r o end ≡ true) × (end ≤ region.size)
end-within holes region r o end some h =
    let inside : is_inside holes region r o end ≡ true = h end some ∙ le-leb end end (omega arith) in
    (inside, (inside-parts holes region r o end inside).0)

-- ---- a piece that is pushed

pub pushed-held : (regions : List Region) (bases : List ℕ) (holes : List Hole) (pieces : List Piece) (r from end : ℕ) (region : Region) → slice_get regions r ≡ Some region → ((e : ℕ) → from < e → is_inside holes region r from e ≡ nat_le e end)
    → (e : ℕ) → HoldsRange regions bases holes (pieces ++ record { start = slice_index bases r + from; end = slice_index bases r + end; region = r } ∷ []) r from e
pushed-held regions bases holes pieces r from end region at ends e a at' some inside =
    let same : Some region ≡ Some a = sym at ∙ at' in
    let is : region ≡ a = cc in
    let low : e ≤ end = leb-true e end (sym (ends e some) ∙ subst (λ x. is_inside holes x r from e ≡ true) (sym is) inside) in
    record { piece = record { start = slice_index bases r + from; end = slice_index bases r + end; region = r }; among = Contains-push pieces (record { start = slice_index bases r + from; end = slice_index bases r + end; region = r }); is = refl; low = omega arith; high = omega (arith, low) }

pub unpushed-held : (regions : List Region) (bases : List ℕ) (holes : List Hole) (pieces : List Piece) (r from end : ℕ) (region : Region) → slice_get regions r ≡ Some region → ((e : ℕ) → from < e → is_inside holes region r from e ≡ nat_le e end) → end ≤ from
    → (e : ℕ) → HoldsRange regions bases holes pieces r from e
unpushed-held regions bases holes pieces r from end region at ends none e a at' some inside =
    let same : Some region ≡ Some a = sym at ∙ at' in
    let is : region ≡ a = cc in
    let low : e ≤ end = leb-true e end (sym (ends e some) ∙ subst (λ x. is_inside holes x r from e ≡ true) (sym is) inside) in
    absurd (omega (arith, low, none, some))

pub pushed-sound : (regions : List Region) (bases : List ℕ) (holes : List Hole) (pieces : List Piece) (r from end : ℕ) (region : Region) → slice_get regions r ≡ Some region → ((e : ℕ) → from < e → is_inside holes region r from e ≡ nat_le e end) → from < end
    → All (IsPiece regions bases holes) pieces → All (IsPiece regions bases holes) (pieces ++ record { start = slice_index bases r + from; end = slice_index bases r + end; region = r } ∷ [])
pushed-sound regions bases holes pieces r from end region at ends some h =
    All-push (IsPiece regions bases holes) pieces (record { start = slice_index bases r + from; end = slice_index bases r + end; region = r }) h
    (made-piece regions bases holes r from end region at some (end-within holes region r from end some ends).0)

-- ---- the loops that cut

pub starts-kept : (regions : List Region) (bases : List ℕ) (holes : List Hole) (pieces qs : List Piece) (n : ℕ) → ((p : Piece) → Contains pieces p → Contains qs p)
    → ((r end : ℕ) → r < n → HoldsRange regions bases holes pieces r 0 end) → (r end : ℕ) → r < n → HoldsRange regions bases holes qs r 0 end
starts-kept regions bases holes pieces qs n kept h r end within = ranges-among regions bases holes pieces qs r 0 end kept (h r end within)

pub starts-more : (regions : List Region) (bases : List ℕ) (holes : List Hole) (pieces qs : List Piece) (n : ℕ) → ((p : Piece) → Contains pieces p → Contains qs p)
    → ((r end : ℕ) → r < n → HoldsRange regions bases holes pieces r 0 end) → ((end : ℕ) → HoldsRange regions bases holes qs n 0 end) → (r end : ℕ) → r < n + 1 → HoldsRange regions bases holes qs r 0 end
starts-more regions bases holes pieces qs n kept h here r end within =
    elim (cases_lt r n) [
      | inl before ↦ starts-kept regions bases holes pieces qs n kept h r end before
      | inr up ↦ let same : n ≡ r = omega arith in subst (λ i. HoldsRange regions bases holes qs i 0 end) same (here end)
    ]

-- pieces that begin where each of the first holes ends
abbrev pub HoldEnds : List Region → List ℕ → List Hole → List Piece → ℕ → Type 0
HoldEnds regions bases holes pieces n = (k : ℕ) (h : Hole) → k < n → slice_get holes k ≡ Some h → h.region < length regions → (end : ℕ) → HoldsRange regions bases holes pieces h.region h.end end

-- what the second loop has come to, after some holes
pub record After (regions : List Region) (bases : List ℕ) (holes : List Hole) (pieces : List Piece) (n : ℕ) : Type 0 where
  pub sound : All (IsPiece regions bases holes) pieces
  pub starts : (r end : ℕ) → r < length regions → HoldsRange regions bases holes pieces r 0 end
  pub ends : HoldEnds regions bases holes pieces n

pub ends-more : (regions : List Region) (bases : List ℕ) (holes : List Hole) (pieces qs : List Piece) (n : ℕ) (d : Hole) → n < length holes → ((p : Piece) → Contains pieces p → Contains qs p)
    → HoldEnds regions bases holes pieces n → ((get_or holes n d).region < length regions → (end : ℕ) → HoldsRange regions bases holes qs (get_or holes n d).region (get_or holes n d).end end) → HoldEnds regions bases holes qs (n + 1)
ends-more regions bases holes pieces qs n d within kept h here k g low at inside end =
    elim (cases_lt k n) [
      | inl before ↦ ranges-among regions bases holes pieces qs g.region g.end end kept (h k g before at inside end)
      | inr up ↦
          let same : k ≡ n = omega arith in
          let is : get_or holes n d ≡ g = get_or_from_slice_get holes n g d (subst (λ i. slice_get holes i ≡ Some g) same at) in
          subst (λ x. HoldsRange regions bases holes qs x.region x.end end) is (here (subst (λ x. x.region < length regions) (sym is) inside) end)
    ]
