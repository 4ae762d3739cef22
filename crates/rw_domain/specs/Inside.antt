-- The places that the operators give are inside their regions.
use Rattle.std.proofs.Common.{ℕ, ◌+◌, ◌≡◌, refl, subst, ◌-◌, Bool, true, false, cond, ◌&&◌, not, List, length, Option, Some, None, Result, Ok, Err}
use Rattle.std.specs.Prelude.{nat_le, slice_get, slice_index}
use Rattle.std.specs.Option.{option_and_then}
use Rattle.std.proofs.lemmas.Bool.{leb-true}
use Rattle.rw_base.proofs.First.{first_from-some}
use Rattle.rw_words.specs.declared.atom.Atom.TheVariants.{Ptr, Code, Past, Import, End, Diff}
use Rattle.rw_words.specs.declared.kind.Kind.{Kind}
use Rattle.rw_words.specs.declared.kind.Kind.TheVariants.{Number, Whole, Mixed}
use Rattle.rw_words.specs.Kinds.{kind_of}
use Rattle.rw_domain.specs.declared.cause.Cause.{Cause}
use Rattle.rw_domain.specs.declared.cause.Cause.TheVariants.{NotWritable}
use Rattle.rw_domain.specs.declared.place.Access.{Access}
use Rattle.rw_domain.specs.declared.place.Access.TheVariants.{Read, Write}
use Rattle.rw_domain.specs.declared.place.Place.{Place}
use Rattle.rw_domain.specs.declared.place.Region.{Region}
use Rattle.rw_domain.specs.declared.place.Hole.{Hole}
use Rattle.rw_domain.specs.Placed.{Placed}
use Rattle.rw_domain.specs.Operators.{IsInside, PlacesInside}
use Rattle.rw_domain.specs.NumberPlaces.{touches_hole, place_inside, place_in, place_at, place_of, bases_of, is_writable, accessed_place, pointed_place, numbers_over}
use Rattle.rw_domain.specs.Symbols.{kind_place, symbols_over}

abbrev Inside : List Region → ℕ → Option Place → Type 0
Inside regions len o = (place : Place) → o ≡ Some place → IsInside regions place len

some-place : {a b : Place} → Some a ≡ Some b → a ≡ b
some-place e = cc

in-region : (regions : List Region) (holes : List Hole) (number : ℕ) (region : Region) (offset len : ℕ) → slice_get regions number ≡ Some region → Inside regions len (place_inside holes number region offset len)
in-region regions holes number region offset len there place e = by_size (nat_le (offset + len) region.size) refl e
  where
    by_size : (t : Bool) → nat_le (offset + len) region.size ≡ t → cond (t && not (touches_hole holes number offset (offset + len))) (Some (record { region = number; offset = offset })) None ≡ Some place → IsInside regions place len
    by_size false small e = cc
    by_size true small e = by_holes (touches_hole holes number offset (offset + len)) e
      where
        by_holes : (t : Bool) → cond (not t) (Some (record { region = number; offset = offset })) None ≡ Some place → IsInside regions place len
        by_holes true e = cc
        by_holes false e = subst (λ z. IsInside regions z len) (some-place e) (region, there, leb-true _ _ small)

accessed-inside : (regions : List Region) (access : Access) (len : ℕ) (o : Option Place) → Inside regions len o → (place : Place) → accessed_place regions access o ≡ Ok place → IsInside regions place len
accessed-inside regions access len None inside place e = cc
accessed-inside regions Read len (Some p) inside place e = inside place cc
accessed-inside regions Write len (Some p) inside place e = by_test (is_writable regions p.region) e
  where
    by_test : (t : Bool) → cond {A = Result Place Cause} t (Ok p) (Err NotWritable) ≡ Ok place → IsInside regions place len
    by_test true e = inside place cc
    by_test false e = cc

pointed-inside : (regions : List Region) (holes : List Hole) (r o len : ℕ) → Inside regions len (pointed_place regions holes r o len)
pointed-inside regions holes r o len = by_region (slice_get regions r) refl
  where
    by_region : (found : Option Region) → slice_get regions r ≡ found → Inside regions len (option_and_then (λ region. place_inside holes r region o len) found)
    by_region None there place e = cc
    by_region (Some region) there place e = in-region regions holes r region o len there place e

at-base : (regions : List Region) (holes : List Hole) (number : ℕ) (region : Region) (base address len : ℕ) → slice_get regions number ≡ Some region → Inside regions len (place_in holes number region base address len)
at-base regions holes number region base address len there place e = by_test (nat_le base address) e
  where
    by_test : (t : Bool) → cond t (place_inside holes number region (address - base) len) None ≡ Some place → IsInside regions place len
    by_test true e = in-region regions holes number region (address - base) len there place e
    by_test false e = cc

at-number : (regions : List Region) (bases : List ℕ) (holes : List Hole) (address len number : ℕ) → Inside regions len (place_at regions bases holes address len number)
at-number regions bases holes address len number = by_region (slice_get regions number) refl
  where
    by_region : (found : Option Region) → slice_get regions number ≡ found → Inside regions len (option_and_then (λ region. place_in holes number region (slice_index bases number) address len) found)
    by_region None there place e = cc
    by_region (Some region) there place e = at-base regions holes number region (slice_index bases number) address len there place e

pub numbers-inside : (placed : Placed) → PlacesInside (numbers_over placed)
numbers-inside placed a len access place e =
    accessed-inside placed.regions access len (place_of placed a len)
    (λ p found. let first = first_from-some (place_at placed.regions (bases_of placed.bases) placed.holes a len) 0 (length placed.regions) p found in at-number placed.regions (bases_of placed.bases) placed.holes a len first.0 p first.3)
    place e

pub symbols-inside : (placed : Placed) → PlacesInside (symbols_over placed)
symbols-inside placed a len access place e = of_kind (kind_of a) e
  where
    of_kind : (k : Kind) → kind_place placed.regions placed.holes k len access ≡ Ok place → IsInside placed.regions place len
    of_kind (Number n) e = cc
    of_kind Mixed e = cc
    of_kind (Whole (Ptr r o)) e = accessed-inside placed.regions access len (pointed_place placed.regions placed.holes r o len) (pointed-inside placed.regions placed.holes r o len) place e
    of_kind (Whole (Code c)) e = cc
    of_kind (Whole (Past c)) e = cc
    of_kind (Whole (Import c)) e = cc
    of_kind (Whole End) e = cc
    of_kind (Whole (Diff c r o)) e = cc
