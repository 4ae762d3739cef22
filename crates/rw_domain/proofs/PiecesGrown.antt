-- Pieces in order stay so where a region is added, with its own piece among them.
use Rattle.std.proofs.Common.{◌≡◌, ℕ, zero, suc, ◌+◌, ◌-◌, ◌<◌, ◌≤◌, List, [], ◌∷◌, ◌++◌, length, Some, true, false, ◌⊎◌, inl, inr, get_or, refl, sym, ap, ◌∙◌, subst, arith}
use Rattle.std.specs.Prelude.{slice_get, slice_index}
use Rattle.std.specs.List.{All, AllPairs, Contains, insert}
use Rattle.std.specs.List.Sorted.{IsPermutation}
use Rattle.std.proofs.Math.ListN.{get_or-append}
use Rattle.std.proofs.Math.Seq.{get_or-append_seam}
use Rattle.std.proofs.lemmas.Bool.{cases_lt}
use Rattle.std.proofs.lemmas.Option.{slice_get_within}
use Rattle.std.proofs.lemmas.List.Elements.{All-cons}
use Rattle.std.proofs.lemmas.List.Edits.{length-insert, get_or-insert_below, get_or-insert_at, get_or-insert_above}
use Rattle.std.proofs.lemmas.List.Sorted.{All-permutation, Contains-permutation, IsPermutation-insert}
use Rattle.rw_base.proofs.Lists.{slice_get-append_left}
use Rattle.rw_domain.specs.declared.pieces.Piece.{Piece}
use Rattle.rw_domain.specs.declared.place.Region.{Region}
use Rattle.rw_domain.specs.declared.place.Hole.{Hole}
use Rattle.rw_domain.specs.NumberPlaces.{touches_hole, is_inside}
use Rattle.rw_domain.specs.Pieces.{IsPiece, Holds, HoldsRange, AreCut, AreOrdered}
use Rattle.rw_domain.proofs.RegionBytes.{inside-parts, inside-from}
use Rattle.rw_domain.proofs.PiecesPushed.{holds-among}

get-last : {X : Type 0} (xs : List X) (y : X) → slice_get (xs ++ y ∷ []) (length xs) ≡ Some y
get-last [] y = refl
get-last (a ∷ xs) y = get-last xs y

get-cases : {X : Type 0} (xs : List X) (y : X) (r : ℕ) (x : X) → slice_get (xs ++ y ∷ []) r ≡ Some x → (slice_get xs r ≡ Some x) ⊎ ((r ≡ length xs) × (y ≡ x))
get-cases [] y zero x e = inr (refl, cc)
get-cases [] y (suc r) x e = cc
get-cases (a ∷ xs) y zero x e = inl e
get-cases (a ∷ xs) y (suc r) x e =
    elim (get-cases xs y r x e) [ inl before ↦ inl before | inr last ↦ inr (ap suc last.0, last.1) ]

module _ (regions : List Region) (bases : List ℕ) (holes : List Hole) (based : length bases ≡ length regions) (region : Region) (base : ℕ) where
  old-base : (r : ℕ) → r < length regions → slice_index bases r ≡ slice_index (bases ++ base ∷ []) r
  old-base r within = sym (get_or-append bases (base ∷ []) 0 r (omega arith))

  new-base : slice_index (bases ++ base ∷ []) (length regions) ≡ base
  new-base = ap (slice_index (bases ++ base ∷ [])) (sym based) ∙ get_or-append_seam bases base [] 0

  old-piece : (p : Piece) → IsPiece regions bases holes p → IsPiece (regions ++ region ∷ []) (bases ++ base ∷ []) holes p
  old-piece p h =
      let same : slice_index bases p.region ≡ slice_index (bases ++ base ∷ []) p.region = old-base p.region (slice_get_within regions p.region h.region h.at) in
      record {
        region = h.region;
        at = slice_get-append_left regions (region ∷ []) p.region h.region h.at;
        low = subst (λ z. z ≤ p.start) same h.low;
        some = h.some;
        inside = subst (λ z. is_inside holes h.region p.region (p.start - z) (p.end - z) ≡ true) same h.inside;
      }

  module _ (pieces : List Piece) (cut : AreCut regions bases holes pieces) where
    -- the pieces have the ranges of the new region too, or another list has
    grown-whole : (qs : List Piece) → ((p : Piece) → Contains pieces p → Contains qs p)
        → ((start end : ℕ) → start < end → end ≤ region.size → Holds qs (length regions) (base + start) (base + end))
        → (r start end : ℕ) → HoldsRange (regions ++ region ∷ []) (bases ++ base ∷ []) holes qs r start end
    grown-whole qs kept last r start end a at some inside = by_place (get-cases regions region r a at)
      where
        by_place : (slice_get regions r ≡ Some a) ⊎ ((r ≡ length regions) × (region ≡ a)) → Holds qs r (slice_index (bases ++ base ∷ []) r + start) (slice_index (bases ++ base ∷ []) r + end)
        by_place (inl old) =
            let same : slice_index bases r ≡ slice_index (bases ++ base ∷ []) r = old-base r (slice_get_within regions r a old) in
            subst (λ z. Holds qs r (z + start) (z + end)) same (holds-among pieces qs r (slice_index bases r + start) (slice_index bases r + end) kept (cut.whole r start end a old some inside))
        by_place (inr (number, is)) =
            let size : end ≤ a.size = (inside-parts holes a r start end inside).0 in
            let same : a.size ≡ region.size = ap (λ x. x.size) (sym is) in
            let there : slice_index (bases ++ base ∷ []) r ≡ base = ap (slice_index (bases ++ base ∷ [])) number ∙ new-base in
            subst (λ z. Holds qs r (z + start) (z + end)) (sym there) (subst (λ n. Holds qs n (base + start) (base + end)) (sym number) (last start end some (omega arith)))

    grown-sound : All (IsPiece (regions ++ region ∷ []) (bases ++ base ∷ []) holes) pieces
    grown-sound k d within = old-piece (get_or pieces k d) (cut.sound k d within)

    pub grown-empty : AllPairs (λ p q. p.end ≤ q.start) pieces → region.size ≡ 0 → AreOrdered (regions ++ region ∷ []) (bases ++ base ∷ []) holes pieces
    grown-empty apart empty = record {
      cut = record { sound = grown-sound; whole = grown-whole pieces (λ p h. h) (λ start end some small. absurd (omega arith)) };
      ascend = apart;
    }

    abbrev new_piece : Piece
    new_piece = record { start = base; end = base + region.size; region = length regions }

    new-sound : 1 ≤ region.size → touches_hole holes (length regions) 0 region.size ≡ false → IsPiece (regions ++ region ∷ []) (bases ++ base ∷ []) holes new_piece
    new-sound some free =
        let first : base - slice_index (bases ++ base ∷ []) (length regions) ≡ 0 = let e = new-base in omega (arith, e) in
        let last : base + region.size - slice_index (bases ++ base ∷ []) (length regions) ≡ region.size = let e = new-base in omega (arith, e) in
        record {
          region = region;
          at = get-last regions region;
          low = let e = new-base in omega (arith, e);
          some = omega arith;
          inside = subst (λ z. is_inside holes region (length regions) z (base + region.size - slice_index (bases ++ base ∷ []) (length regions)) ≡ true) (sym first)
              (subst (λ z. is_inside holes region (length regions) 0 z ≡ true) (sym last) (inside-from holes region (length regions) 0 region.size (omega arith) free));
        }

    -- the piece goes where those before it end at its start or below, and those behind begin at its end or above
    pub grown-ordered : (next : ℕ) → next ≤ length pieces → AllPairs (λ p q. p.end ≤ q.start) pieces
        → ((k : ℕ) (d : Piece) → k < next → (get_or pieces k d).end ≤ base) → ((k : ℕ) (d : Piece) → next ≤ k → k < length pieces → base + region.size ≤ (get_or pieces k d).start)
        → 1 ≤ region.size → touches_hole holes (length regions) 0 region.size ≡ false → AreOrdered (regions ++ region ∷ []) (bases ++ base ∷ []) holes (insert pieces next new_piece)
    grown-ordered next within apart before behind some free = record {
      cut = record {
        sound = All-permutation (IsPiece (regions ++ region ∷ []) (bases ++ base ∷ []) holes) (new_piece ∷ pieces) (insert pieces next new_piece) moves
            (All-cons (IsPiece (regions ++ region ∷ []) (bases ++ base ∷ []) holes) new_piece pieces (new-sound some free) grown-sound);
        whole = grown-whole (insert pieces next new_piece) kept (λ start end less small. record { piece = new_piece; among = new_among; is = refl; low = omega arith; high = omega arith });
      };
      ascend = ascend;
    }
      where
        moves : IsPermutation (new_piece ∷ pieces) (insert pieces next new_piece)
        moves = IsPermutation-insert pieces next new_piece

        kept : (p : Piece) → Contains pieces p → Contains (insert pieces next new_piece) p
        kept p h = Contains-permutation (new_piece ∷ pieces) (insert pieces next new_piece) p moves (suc h.0, omega (arith, h.1), h.2)

        new_among : Contains (insert pieces next new_piece) new_piece
        new_among = Contains-permutation (new_piece ∷ pieces) (insert pieces next new_piece) new_piece moves (0, omega arith, refl)

        size : length (insert pieces next new_piece) ≡ length pieces + 1
        size = length-insert pieces next new_piece within

        -- the element at a place of the longer list
        place-of : (k : ℕ) (d : Piece) → k < next → get_or (insert pieces next new_piece) k d ≡ get_or pieces k d
        place-of k d less = get_or-insert_below pieces next new_piece d k less within

        place-at : (d : Piece) → get_or (insert pieces next new_piece) next d ≡ new_piece
        place-at d = get_or-insert_at pieces next new_piece d within

        place-behind : (k : ℕ) (d : Piece) → next < k → get_or (insert pieces next new_piece) k d ≡ get_or pieces (k - 1) d
        place-behind k d more =
            let e : k - 1 + 1 ≡ k = omega arith in
            ap (λ i. get_or (insert pieces next new_piece) i d) (sym e) ∙ get_or-insert_above pieces next new_piece d (k - 1) (omega arith) within

        tied : (i j : ℕ) (d p q : Piece) → get_or (insert pieces next new_piece) i d ≡ p → get_or (insert pieces next new_piece) j d ≡ q → p.end ≤ q.start → (get_or (insert pieces next new_piece) i d).end ≤ (get_or (insert pieces next new_piece) j d).start
        tied i j d p q e f h = subst (λ x. x.end ≤ (get_or (insert pieces next new_piece) j d).start) (sym e) (subst (λ y. p.end ≤ y.start) (sym f) h)

        ascend : AllPairs (λ p q. p.end ≤ q.start) (insert pieces next new_piece)
        ascend i j d less short =
            elim (cases_lt j next) [
              | inl before_j ↦ tied i j d (get_or pieces i d) (get_or pieces j d) (place-of i d (omega arith)) (place-of j d before_j) (apart i j d less (omega arith))
              | inr from_j ↦
                  elim (cases_lt next j) [
                    | inr up ↦
                        let same : next ≡ j = omega arith in
                        tied i j d (get_or pieces i d) new_piece (place-of i d (omega arith)) (subst (λ k. get_or (insert pieces next new_piece) k d ≡ new_piece) same (place-at d)) (before i d (omega arith))
                    | inl behind_j ↦
                        elim (cases_lt i next) [
                          | inl before_i ↦ tied i j d (get_or pieces i d) (get_or pieces (j - 1) d) (place-of i d before_i) (place-behind j d behind_j) (apart i (j - 1) d (omega arith) (let s = size in omega (arith, s)))
                          | inr from_i ↦
                              elim (cases_lt next i) [
                                | inr up ↦
                                    let same : next ≡ i = omega arith in
                                    tied i j d new_piece (get_or pieces (j - 1) d) (subst (λ k. get_or (insert pieces next new_piece) k d ≡ new_piece) same (place-at d)) (place-behind j d behind_j) (behind (j - 1) d (omega arith) (let s = size in omega (arith, s)))
                                | inl behind_i ↦ tied i j d (get_or pieces (i - 1) d) (get_or pieces (j - 1) d) (place-behind i d behind_i) (place-behind j d behind_j) (apart (i - 1) (j - 1) d (omega arith) (let s = size in omega (arith, s)))
                              ]
                        ]
                  ]
            ]
