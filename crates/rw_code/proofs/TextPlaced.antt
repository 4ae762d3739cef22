-- The regions of a text are placed where a layout has them.
use Rattle.std.proofs.Common.{◌≡◌, ◌⊎◌, inr, subst, ℕ, ◌+◌, List, [], ◌∷◌, ◌++◌, map, All, Some, Bool, true, false, nat_eq, refl, ap, ◌∙◌, arith}
use Rattle.std.specs.Prelude.{slice_get, option_map}
use Rattle.std.specs.Int.{IsPowerOfTwo}
use Rattle.std.proofs.lemmas.Bool.{eqb-true, eqb-false}
use Rattle.std.proofs.lemmas.Option.{slice_get-map, slice_get_within, get_or_from_slice_get}
use Rattle.std.proofs.lemmas.List.Elements.{All-nil, All-cons, All-append}
use Rattle.asm_items.specs.declared.item.Item.TheVariants.{Align}
use Rattle.asm_items.specs.Lines.{Items, DataSection, sections_of, copies_of, align_of}
use Rattle.asm_items.specs.Layout.{Layout, AreRegionsLaid}
use Rattle.rw_domain.specs.declared.place.Region.{Region}
use Rattle.rw_domain.specs.declared.place.Hole.{Hole}
use Rattle.rw_domain.specs.RegionsLaidOut.{ArePlaced}
use Rattle.rw_domain.specs.NumberPlaces.{is_byte_of}
use Rattle.rw_domain.proofs.RegionBytes.{byte-of}
use Rattle.rw_code.specs.Start.{Start, start_regions, regions_of}
use Rattle.rw_code.specs.Printed.{section_region, copy_region, text_ground, extent_of, text_extents}

-- ---- alignments

abbrev IsAlignment : Region → Type 0
IsAlignment a = (a.align ≡ 0) ⊎ IsPowerOfTwo a.align

lines-power : (lines : Items) → IsPowerOfTwo (align_of lines)
lines-power [] = (0, refl)
lines-power (Align k ∷ lines) = (k, refl)
lines-power (_ ∷ lines) = lines-power lines

sections-aligned : (sections : List DataSection) → All IsAlignment (map section_region sections)
sections-aligned [] = All-nil IsAlignment
sections-aligned (s ∷ sections) = All-cons IsAlignment (section_region s) (map section_region sections) (inr (lines-power s.lines)) (sections-aligned sections)

copies-aligned : (copies : List (List ℕ × ℕ)) → All IsAlignment (map copy_region copies)
copies-aligned [] = All-nil IsAlignment
copies-aligned (copy ∷ copies) = All-cons IsAlignment (copy_region copy) (map copy_region copies) (inr (4, refl)) (copies-aligned copies)

four : (a b c d : Region) → IsAlignment a → IsAlignment b → IsAlignment c → IsAlignment d → All IsAlignment (a ∷ b ∷ c ∷ d ∷ [])
four a b c d g h i j =
    All-cons IsAlignment a (b ∷ c ∷ d ∷ []) g (All-cons IsAlignment b (c ∷ d ∷ []) h (All-cons IsAlignment c (d ∷ []) i (All-cons IsAlignment d [] j (All-nil IsAlignment))))

abbrev text_regions : Items → Layout → Start → List Region
text_regions items layout start = regions_of (text_ground items layout) start

regions-aligned : (items : Items) (layout : Layout) (start : Start) → All IsAlignment (text_regions items layout start)
regions-aligned items layout start =
    All-append IsAlignment (map section_region (sections_of items) ++ map copy_region (copies_of items)) (start_regions (text_ground items layout) start)
    (All-append IsAlignment (map section_region (sections_of items)) (map copy_region (copies_of items)) (sections-aligned (sections_of items)) (copies-aligned (copies_of items)))
    (four _ _ _ _ (inr (3, refl)) (inr (12, refl)) (inr (4, refl)) (inr (3, refl)))

-- ---- places

pub text-placed : (items : Items) (layout : Layout) (start : Start) (holes : List Hole) → AreRegionsLaid (text_extents items layout start) layout.region → ArePlaced (regions_of (text_ground items layout) start) holes layout.region
text-placed items layout start holes laid = record {
  each = λ r a e. record {
    least = laid.least r (extent_of a) (extent-at r a e);
    most = laid.most r (extent_of a) (extent-at r a e);
    power = aligned-at r a e;
    aligned = laid.aligned r (extent_of a) (extent-at r a e);
  };
  apart = λ r s o p g h e. by_test r s o p g h e (nat_eq r s) refl;
}
  where
    extent-at : (r : ℕ) (a : Region) → slice_get (text_regions items layout start) r ≡ Some a → slice_get (text_extents items layout start) r ≡ Some (extent_of a)
    extent-at r a e = slice_get-map extent_of (text_regions items layout start) r ∙ ap (option_map extent_of) e

    aligned-at : (r : ℕ) (a : Region) → slice_get (text_regions items layout start) r ≡ Some a → IsAlignment a
    aligned-at r a e =
        let all = regions-aligned items layout start in
        subst IsAlignment (get_or_from_slice_get (text_regions items layout start) r a a e) (all r a (slice_get_within (text_regions items layout start) r a e))

    by_test : (r s o p : ℕ) → is_byte_of (text_regions items layout start) holes r o ≡ true → is_byte_of (text_regions items layout start) holes s p ≡ true → layout.region r + o ≡ layout.region s + p
        → (t : Bool) → nat_eq r s ≡ t → r ≡ s
    by_test r s o p g h e true u = eqb-true r s u
    by_test r s o p g h e false u =
        let one = byte-of (text_regions items layout start) holes r o g in
        let two = byte-of (text_regions items layout start) holes s p h in
        let low = one.within in
        let high = two.within in
        absurd (laid.apart r s (extent_of one.region) (extent_of two.region) (eqb-false r s u) (extent-at r one.region one.at) (extent-at s two.region two.at) o p (omega (arith, low)) (omega (arith, high)) e)
