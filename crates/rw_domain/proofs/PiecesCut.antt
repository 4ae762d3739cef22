-- The pieces that begin where a region does or where a hole ends have each range that is inside a region.
use Rattle.std.proofs.Common.{◌≡◌, ℕ, suc, ◌+◌, ◌<◌, ◌≤◌, List, [], ◌∷◌, length, Some, Bool, true, false, ◌&&◌, ◌⊎◌, inl, inr, nat_eq, nat_lt, nat_le, refl, sym, ◌∙◌, subst, arith}
use Rattle.std.specs.Prelude.{slice_get, slice_index}
use Rattle.std.proofs.lemmas.Bool.{cases_lt}
use Rattle.std.proofs.lemmas.Bool.Decides.{nat_tests}
use Rattle.std.proofs.lemmas.Option.{slice_get_within}
use Rattle.rw_domain.specs.declared.pieces.Piece.{Piece}
use Rattle.rw_domain.specs.declared.place.Region.{Region}
use Rattle.rw_domain.specs.declared.place.Hole.{Hole}
use Rattle.rw_domain.specs.NumberPlaces.{touches, touches_hole, is_inside}
use Rattle.rw_domain.specs.Pieces.{Holds, HoldsRange}
use Rattle.rw_domain.proofs.RegionBytes.{inside-parts, inside-from, or-first, or-second}

-- ---- the last hole that ends at an offset or before it

-- no hole of the region ends between x and an offset
abbrev NoneBetween : List Hole → ℕ → ℕ → ℕ → Type 0
NoneBetween [] r x o = Unit {0}
NoneBetween (h ∷ holes) r x o = (h.region ≡ r → h.end ≤ o → h.end ≤ x) × NoneBetween holes r x o

none-later : (holes : List Hole) (r x y o : ℕ) → x ≤ y → NoneBetween holes r x o → NoneBetween holes r y o
none-later [] r x y o le h = tt
none-later (a ∷ holes) r x y o le h = ((λ same ends. let z = h.0 same ends in omega (arith, z, le)), none-later holes r x y o le h.1)

-- where a piece begins that has the offset, if one has: at the region's start, or where a hole ends
record Begins (holes : List Hole) (r o : ℕ) : Type 0 where
  from : ℕ
  low : from ≤ o
  none : NoneBetween holes r from o
  at : (from ≡ 0) ⊎ ((k : ℕ) × (h : Hole) × (slice_get holes k ≡ Some h) × (h.region ≡ r) × (h.end ≡ from))

behind : (h : Hole) (holes : List Hole) (r o from : ℕ) → (from ≡ 0) ⊎ ((k : ℕ) × (g : Hole) × (slice_get holes k ≡ Some g) × (g.region ≡ r) × (g.end ≡ from)) → (from ≡ 0) ⊎ ((k : ℕ) × (g : Hole) × (slice_get (h ∷ holes) k ≡ Some g) × (g.region ≡ r) × (g.end ≡ from))
behind h holes r o from (inl e) = inl e
behind h holes r o from (inr (k, g, at, is, end)) = inr (suc k, g, at, is, end)

begins-more : (h : Hole) (holes : List Hole) (r o : ℕ) → Begins holes r o → Begins (h ∷ holes) r o
begins-more h holes r o rest = by_test (nat_eq h.region r && nat_le h.end o && nat_lt rest.from h.end) refl
  where
    by_test : (t : Bool) → (nat_eq h.region r && nat_le h.end o && nat_lt rest.from h.end) ≡ t → Begins (h ∷ holes) r o
    by_test true e = record {
      from = h.end;
      low = grind (arith, nat_tests);
      none = ((λ same ends. omega arith), none-later holes r rest.from h.end o (grind (arith, nat_tests)) rest.none);
      at = inr (0, h, refl, let same : h.region ≡ r = grind (arith, nat_tests) in same, refl);
    }
    by_test false e = record {
      from = rest.from;
      low = rest.low;
      none = ((λ same ends. grind (arith, nat_tests)), rest.none);
      at = behind h holes r o rest.from rest.at;
    }

begins : (holes : List Hole) (r o : ℕ) → Begins holes r o
begins [] r o = record { from = 0; low = omega arith; none = tt; at = inl refl }
begins (h ∷ holes) r o = begins-more h holes r o (begins holes r o)

-- from there to the offset nothing is touched
untouched : (h : Hole) (r x o e : ℕ) → x ≤ o → o < e → (h.region ≡ r → h.end ≤ o → h.end ≤ x) → touches r o e h ≡ false → touches r x e h ≡ false
untouched h r x o e low some none free = by_region (nat_eq h.region r) refl
  where
    by_end : nat_eq h.region r ≡ true → touches r x e h ≡ false
    by_end same =
        elim (cases_lt o h.end) [
          | inl above ↦ grind (arith, nat_tests)
          | inr ends ↦ let z : h.end ≤ x = none (grind (arith, nat_tests)) ends in grind (arith, nat_tests)
        ]

    by_region : (t : Bool) → nat_eq h.region r ≡ t → touches r x e h ≡ false
    by_region true same = by_end same
    by_region false other = grind (arith, nat_tests)

longer-free : (holes : List Hole) (r x o e : ℕ) → x ≤ o → o < e → NoneBetween holes r x o → touches_hole holes r o e ≡ false → touches_hole holes r x e ≡ false
longer-free [] r x o e low some none free = refl
longer-free (h ∷ holes) r x o e low some none free =
    let a : touches r x e h ≡ false = untouched h r x o e low some none.0 (or-first (touches r o e h) _ free) in
    let b : touches_hole holes r x e ≡ false = longer-free holes r x o e low some none.1 (or-second (touches r o e h) _ free) in
    rw (a, b) refl

holds-more : (pieces : List Piece) (r s start from end : ℕ) → Holds pieces r from end → r ≡ s → from ≤ start → Holds pieces s start end
holds-more pieces r s start from end h same le = record {
  piece = h.piece;
  among = h.among;
  is = h.is ∙ same;
  low = let z : h.piece.start ≤ from = h.low in omega arith;
  high = h.high;
}

pub cut-whole : (regions : List Region) (bases : List ℕ) (holes : List Hole) (pieces : List Piece)
    → ((r end : ℕ) → r < length regions → HoldsRange regions bases holes pieces r 0 end)
    → ((k : ℕ) (h : Hole) → slice_get holes k ≡ Some h → h.region < length regions → (end : ℕ) → HoldsRange regions bases holes pieces h.region h.end end)
    → (r start end : ℕ) → HoldsRange regions bases holes pieces r start end
cut-whole regions bases holes pieces starts ends r start end region at some inside = by_begin it.at
  where
    it : Begins holes r start
    it = begins holes r start

    within : r < length regions
    within = slice_get_within regions r region at

    parts : (end ≤ region.size) × (touches_hole holes r start end ≡ false)
    parts = inside-parts holes region r start end inside

    longer : is_inside holes region r it.from end ≡ true
    longer = inside-from holes region r it.from end parts.0 (longer-free holes r it.from start end it.low some it.none parts.1)

    less : it.from < end
    less = let z : it.from ≤ start = it.low in omega arith

    by_begin : (it.from ≡ 0) ⊎ ((k : ℕ) × (h : Hole) × (slice_get holes k ≡ Some h) × (h.region ≡ r) × (h.end ≡ it.from)) → Holds pieces r (slice_index bases r + start) (slice_index bases r + end)
    by_begin (inl e) =
        let whole : is_inside holes region r 0 end ≡ true = subst (λ z. is_inside holes region r z end ≡ true) e longer in
        holds-more pieces r r (slice_index bases r + start) (slice_index bases r + 0) (slice_index bases r + end) (starts r end within region at (omega arith) whole) refl (omega arith)
    by_begin (inr (k, h, there, same, is)) =
        let low : it.from ≤ start = it.low in
        let at' : slice_get regions h.region ≡ Some region = subst (λ z. slice_get regions z ≡ Some region) (sym same) at in
        let whole : is_inside holes region h.region h.end end ≡ true = subst (λ z. is_inside holes region z h.end end ≡ true) (sym same) (subst (λ z. is_inside holes region r z end ≡ true) (sym is) longer) in
        let found : Holds pieces h.region (slice_index bases h.region + h.end) (slice_index bases h.region + end) = ends k h there (subst (λ z. z < length regions) (sym same) within) end region at' (omega (arith, is, less)) whole in
        let moved : Holds pieces h.region (slice_index bases r + h.end) (slice_index bases r + end) = subst (λ z. Holds pieces h.region (slice_index bases z + h.end) (slice_index bases z + end)) same found in
        holds-more pieces h.region r (slice_index bases r + start) (slice_index bases r + h.end) (slice_index bases r + end) moved same (omega (arith, is, low))
