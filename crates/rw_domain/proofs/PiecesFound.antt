-- Where pieces are in order, the place of a range is in the last that begins at its start or below it, if in any.
use Rattle.std.proofs.Common.{◌≡◌, ℕ, ◌+◌, ◌-◌, ◌<◌, ◌≤◌, List, length, Option, Some, None, Bool, true, false, cond, ◌⊎◌, inl, inr, nat_le, get_or, refl, sym, ap, ◌∙◌, subst, arith}
use Rattle.std.specs.Prelude.{slice_get, slice_index, option_and_then}
use Rattle.std.specs.List.{AllPairs}
use Rattle.std.proofs.lemmas.Bool.{cases_lt, leb-true, le-leb}
use Rattle.std.proofs.lemmas.Option.{slice_get-get_or, slice_get_within, get_or_from_slice_get}
use Rattle.rw_base.proofs.First.{some_ahead, none_ahead}
use Rattle.rw_domain.specs.declared.pieces.Piece.{Piece}
use Rattle.rw_domain.specs.declared.place.Place.{Place}
use Rattle.rw_domain.specs.declared.place.Region.{Region}
use Rattle.rw_domain.specs.declared.place.Hole.{Hole}
use Rattle.rw_domain.specs.NumberPlaces.{is_inside, place_inside, place_in, place_at, first_place}
use Rattle.rw_domain.specs.Pieces.{IsPiece, Holds, AreOrdered}
use Rattle.rw_domain.proofs.RegionBytes.{range-inside}

-- the piece that stands for one past the end of a list
abbrev pub null_piece : Piece
null_piece = record { start = 0; end = 0; region = 0 }

-- two pieces that have an address are one
one-piece : (pieces : List Piece) → AllPairs (λ p q. p.end ≤ q.start) pieces → (i j address : ℕ) (p q : Piece) → slice_get pieces i ≡ Some p → slice_get pieces j ≡ Some q → p.start ≤ address → address < p.end → q.start ≤ address → address < q.end → p ≡ q
one-piece pieces apart i j address p q at_i at_j p_low p_high q_low q_high =
    let is_p : get_or pieces i p ≡ p = get_or_from_slice_get pieces i p p at_i in
    let is_p' : get_or pieces i q ≡ p = get_or_from_slice_get pieces i p q at_i in
    let is_q : get_or pieces j q ≡ q = get_or_from_slice_get pieces j q q at_j in
    let is_q' : get_or pieces j p ≡ q = get_or_from_slice_get pieces j q p at_j in
    elim (cases_lt i j) [
      | inl less ↦
          let far : p.end ≤ q.start = subst (λ z. z.end ≤ q.start) is_p (subst (λ z. (get_or pieces i p).end ≤ z.start) is_q' (apart i j p less (slice_get_within pieces j q at_j))) in
          absurd (omega (arith, far, p_high, q_low))
      | inr up ↦
          elim (cases_lt j i) [
            | inl less ↦
                let far : q.end ≤ p.start = subst (λ z. z.end ≤ p.start) is_q (subst (λ z. (get_or pieces j q).end ≤ z.start) is_p' (apart j i q less (slice_get_within pieces i p at_i))) in
                absurd (omega (arith, far, q_high, p_low))
            | inr same ↦ sym is_p ∙ (ap (λ k. get_or pieces k p) (let e : i ≡ j = omega (arith, up, same) in e) ∙ is_q')
          ]
    ]

-- ---- a region has a place at an address, or it has none

-- the whole range is inside the region with this number
record HasPlace (regions : List Region) (bases : List ℕ) (holes : List Hole) (address len r : ℕ) : Type 0 where
  region : Region
  at : slice_get regions r ≡ Some region
  low : slice_index bases r ≤ address
  inside : is_inside holes region r (address - slice_index bases r) (address - slice_index bases r + len) ≡ true

place_or-none : (regions : List Region) (bases : List ℕ) (holes : List Hole) (address len r : ℕ) → (place_at regions bases holes address len r ≡ None) ⊎ HasPlace regions bases holes address len r
place_or-none regions bases holes address len r = by_region (slice_get regions r) refl
  where
    by_region : (x : Option Region) → slice_get regions r ≡ x → (option_and_then (λ region. place_in holes r region (slice_index bases r) address len) x ≡ None) ⊎ HasPlace regions bases holes address len r
    by_region None e = inl refl
    by_region (Some region) e = by_base (nat_le (slice_index bases r) address) refl
      where
        by_inside : (t : Bool) → slice_index bases r ≤ address → is_inside holes region r (address - slice_index bases r) (address - slice_index bases r + len) ≡ t → ((cond t (Some (let p : Place = record { region = r; offset = address - slice_index bases r } in p)) None) ≡ None) ⊎ HasPlace regions bases holes address len r
        by_inside true low f = inr (record { region = region; at = e; low = low; inside = f })
        by_inside false low f = inl refl

        by_base : (t : Bool) → nat_le (slice_index bases r) address ≡ t → (cond t (place_inside holes r region (address - slice_index bases r) len) None ≡ None) ⊎ HasPlace regions bases holes address len r
        by_base true f = by_inside (is_inside holes region r (address - slice_index bases r) (address - slice_index bases r + len)) (leb-true (slice_index bases r) address f) refl
        by_base false f = inl refl

has-place : (regions : List Region) (bases : List ℕ) (holes : List Hole) (address len r : ℕ) → HasPlace regions bases holes address len r → place_at regions bases holes address len r ≡ Some (record { region = r; offset = address - slice_index bases r })
has-place regions bases holes address len r h =
    let above : nat_le (slice_index bases r) address ≡ true = le-leb (slice_index bases r) address h.low in
    ap (option_and_then (λ region. place_in holes r region (slice_index bases r) address len)) h.at
    ∙ (ap (λ t. cond t (place_inside holes r h.region (address - slice_index bases r) len) None) above
    ∙ ap (λ t. cond t (Some (let p : Place = record { region = r; offset = address - slice_index bases r } in p)) None) h.inside)

module _ (regions : List Region) (bases : List ℕ) (holes : List Hole) (pieces : List Piece) (ordered : AreOrdered regions bases holes pieces) (address len : ℕ) (some : 1 ≤ len) where
  -- a region that has the range has a piece with it
  abbrev Found : ℕ → Type 0
  Found r = (i : ℕ) × (p : Piece) × (slice_get pieces i ≡ Some p) × (p.region ≡ r) × (p.start ≤ address) × (address + len ≤ p.end)

  found-piece : (r : ℕ) → HasPlace regions bases holes address len r → Found r
  found-piece r h =
      let low : slice_index bases r ≤ address = h.low in
      let it : Holds pieces r (slice_index bases r + (address - slice_index bases r)) (slice_index bases r + (address - slice_index bases r + len)) =
      ordered.cut.whole r (address - slice_index bases r) (address - slice_index bases r + len) h.region h.at (omega (arith, some)) h.inside in
      let first : it.piece.start ≤ slice_index bases r + (address - slice_index bases r) = it.low in
      let last : slice_index bases r + (address - slice_index bases r + len) ≤ it.piece.end = it.high in
      (it.among.0, it.piece, slice_get-get_or pieces it.among.0 it.piece it.among.1 ∙ ap (λ x. Some x) it.among.2, it.is, omega arith, omega arith)

  -- the piece that has the range has its place
  pub in-piece : (i : ℕ) (p : Piece) → slice_get pieces i ≡ Some p → p.start ≤ address → address + len ≤ p.end → Some (record { region = p.region; offset = address - slice_index bases p.region }) ≡ first_place regions bases holes address len
  in-piece i p at low high =
      sym (some_ahead (place_at regions bases holes address len) 0 (length regions) p.region _ (omega arith) (let w = within in omega (arith, w))
      (λ j from below. earlier j below (place_or-none regions bases holes address len j)) (has-place regions bases holes address len p.region its_place))
    where
      sound : IsPiece regions bases holes p
      sound =
          let is : get_or pieces i p ≡ p = get_or_from_slice_get pieces i p p at in
          subst (IsPiece regions bases holes) is (ordered.cut.sound i p (slice_get_within pieces i p at))

      within : p.region < length regions
      within = slice_get_within regions p.region sound.region sound.at

      its_place : HasPlace regions bases holes address len p.region
      its_place =
          let base : slice_index bases p.region ≤ p.start = sound.low in
          record {
            region = sound.region;
            at = sound.at;
            low = omega arith;
            inside = range-inside holes sound.region p.region (p.start - slice_index bases p.region) (p.end - slice_index bases p.region) (address - slice_index bases p.region) (address - slice_index bases p.region + len) (omega arith) (omega (arith, some)) (omega arith) sound.inside;
          }

      earlier : (j : ℕ) → j < p.region → (place_at regions bases holes address len j ≡ None) ⊎ HasPlace regions bases holes address len j → place_at regions bases holes address len j ≡ None
      earlier j below (inl none) = none
      earlier j below (inr h) =
          let other : Found j = found-piece j h in
          let same : p ≡ other.1 = one-piece pieces ordered.ascend i other.0 address p other.1 at other.2 low (omega (arith, some)) other.4 (let z = other.5 in omega (arith, some, z)) in
          absurd (let e : p.region ≡ j = ap (λ x. x.region) same ∙ other.3 in omega (arith, below, e))

  -- where no piece has the range, no region has
  pub in-none : ((i : ℕ) (p : Piece) → slice_get pieces i ≡ Some p → p.start ≤ address → address + len ≤ p.end → ⊥) → None ≡ first_place regions bases holes address len
  in-none missing =
      sym (none_ahead (place_at regions bases holes address len) 0 (length regions) (λ j from below. nowhere j (place_or-none regions bases holes address len j)))
    where
      nowhere : (j : ℕ) → (place_at regions bases holes address len j ≡ None) ⊎ HasPlace regions bases holes address len j → place_at regions bases holes address len j ≡ None
      nowhere j (inl none) = none
      nowhere j (inr h) = let it : Found j = found-piece j h in absurd (missing it.0 it.1 it.2 it.4 it.5)

  -- only the last piece that begins at the address or below it can have the range
  pub last-only : (next : ℕ) (last : Piece) → slice_get pieces (next - 1) ≡ Some last → 0 < next → last.start ≤ address → ((k : ℕ) (p : Piece) → next ≤ k → slice_get pieces k ≡ Some p → address < p.start) → (last.end ≤ address) ⊎ (last.end - address < len) → None ≡ first_place regions bases holes address len
  last-only next last at positive low above short = in-none missing
    where
      not_last : (p : Piece) → p ≡ last → address + len ≤ p.end → (last.end ≤ address) ⊎ (last.end - address < len) → ⊥
      not_last p same high (inl past) = let e : p.end ≡ last.end = ap (λ x. x.end) same in omega (arith, some, high, past, e)
      not_last p same high (inr less) = let e : p.end ≡ last.end = ap (λ x. x.end) same in omega (arith, some, high, less, e)

      missing : (i : ℕ) (p : Piece) → slice_get pieces i ≡ Some p → p.start ≤ address → address + len ≤ p.end → ⊥
      missing i p at_i p_low p_high =
          elim (cases_lt i (next - 1)) [
            | inl earlier ↦
                let is_p : get_or pieces i p ≡ p = get_or_from_slice_get pieces i p p at_i in
                let is_last : get_or pieces (next - 1) p ≡ last = get_or_from_slice_get pieces (next - 1) last p at in
                let far : p.end ≤ last.start = subst (λ z. z.end ≤ last.start) is_p (subst (λ z. (get_or pieces i p).end ≤ z.start) is_last (ordered.ascend i (next - 1) p earlier (slice_get_within pieces (next - 1) last at))) in
                omega (arith, far, low, p_high, some)
            | inr later ↦
                elim (cases_lt i next) [
                  | inl here ↦
                      let e : i ≡ next - 1 = omega (arith, later, here) in
                      let same : Some p ≡ Some last = sym at_i ∙ (ap (slice_get pieces) e ∙ at) in
                      not_last p (let s : p ≡ last = cc in s) p_high short
                  | inr beyond ↦ let z = above i p beyond at_i in omega (arith, z, p_low)
                ]
          ]
