-- What a domain permits to be written is inside a writable region and in none of its holes.
use Rattle.std.proofs.Common.{◌≡◌, ◌≤◌, ◌+◌, ◌-◌, ℕ, refl, sym, subst, ◌∙◌, ap, arith, Bool, true, false, cond, ◌&&◌, not, List, [], ◌∷◌, length, Option, Some, None, Result, Ok, Err}
use Rattle.std.specs.Prelude.{◌||◌, nat_eq, nat_le, nat_lt, min, max, slice_get, slice_index}
use Rattle.std.specs.List.{list_any}
use Rattle.std.specs.Option.{option_and_then, option_map, unwrap_or}
use Rattle.std.proofs.lemmas.Bool.{leb-true, le-leb, ltb-true, lt-ltb}
use Rattle.rw_base.proofs.First.{first_from-some}
use Rattle.rw_words.specs.declared.atom.Atom.TheVariants.{Ptr, Code, Past, Import, End, Diff}
use Rattle.rw_words.specs.declared.kind.Kind.{Kind}
use Rattle.rw_words.specs.declared.kind.Kind.TheVariants.{Number, Whole, Mixed}
use Rattle.rw_words.specs.Kinds.{kind_of}
use Rattle.rw_domain.specs.declared.cause.Cause.{Cause}
use Rattle.rw_domain.specs.declared.cause.Cause.TheVariants.{NotWritable}
use Rattle.rw_domain.specs.declared.place.Access.TheVariants.{Write}
use Rattle.rw_domain.specs.declared.place.Place.{Place}
use Rattle.rw_domain.specs.declared.place.Region.{Region}
use Rattle.rw_domain.specs.declared.place.Hole.{Hole}
use Rattle.rw_domain.specs.Placed.{Placed}
use Rattle.rw_domain.specs.NumberPlaces.{touches, touches_hole, is_inside, place_inside, place_in, place_at, place_of, bases_of, is_writable, accessed_place, pointed_place, numbers_over}
use Rattle.rw_domain.specs.Symbols.{kind_place, symbols_over}
use Rattle.rw_sim.specs.Lawful.{IsWritable}

some-place : {a b : Place} → Some a ≡ Some b → a ≡ b
some-place e = cc

some-region : {a b : Region} → Some a ≡ Some b → a ≡ b
some-region e = cc

-- ---- a place that is found

-- so many bytes from a place on are inside its region and in none of its holes
record IsFound (placed : Placed) (at : Place) (len : ℕ) : Type 0 where
  region : Region
  is_there : slice_get placed.regions at.region ≡ Some region
  inside : is_inside placed.holes region at.region at.offset (at.offset + len) ≡ true

abbrev Found : Placed → ℕ → Option Place → Type 0
Found placed len o = (place : Place) → o ≡ Some place → IsFound placed place len

in-region : (placed : Placed) (number : ℕ) (region : Region) (offset len : ℕ) → slice_get placed.regions number ≡ Some region → Found placed len (place_inside placed.holes number region offset len)
in-region placed number region offset len there place e = by (is_inside placed.holes region number offset (offset + len)) refl e
  where
    by : (t : Bool) → is_inside placed.holes region number offset (offset + len) ≡ t → cond t (Some (record { region = number; offset = offset })) None ≡ Some place → IsFound placed place len
    by true inside e = subst (λ z. IsFound placed z len) (some-place e) (record { region = region; is_there = there; inside = inside })
    by false inside e = cc

pointed-found : (placed : Placed) (r o len : ℕ) → Found placed len (pointed_place placed.regions placed.holes r o len)
pointed-found placed r o len = by_region (slice_get placed.regions r) refl
  where
    by_region : (found : Option Region) → slice_get placed.regions r ≡ found → Found placed len (option_and_then (λ region. place_inside placed.holes r region o len) found)
    by_region None there place e = cc
    by_region (Some region) there place e = in-region placed r region o len there place e

at-base : (placed : Placed) (number : ℕ) (region : Region) (base address len : ℕ) → slice_get placed.regions number ≡ Some region → Found placed len (place_in placed.holes number region base address len)
at-base placed number region base address len there place e = by_test (nat_le base address) e
  where
    by_test : (t : Bool) → cond t (place_inside placed.holes number region (address - base) len) None ≡ Some place → IsFound placed place len
    by_test true e = in-region placed number region (address - base) len there place e
    by_test false e = cc

at-number : (placed : Placed) (address len number : ℕ) → Found placed len (place_at placed.regions (bases_of placed.bases) placed.holes address len number)
at-number placed address len number = by_region (slice_get placed.regions number) refl
  where
    by_region : (found : Option Region) → slice_get placed.regions number ≡ found → Found placed len (option_and_then (λ region. place_in placed.holes number region (slice_index (bases_of placed.bases) number) address len) found)
    by_region None there place e = cc
    by_region (Some region) there place e = at-base placed number region (slice_index (bases_of placed.bases) number) address len there place e

address-found : (placed : Placed) (address len : ℕ) → Found placed len (place_of placed address len)
address-found placed address len place e =
    let first = first_from-some (place_at placed.regions (bases_of placed.bases) placed.holes address len) 0 (length placed.regions) place e in
    at-number placed address len first.0 place first.3

-- ---- a write that is permitted

writable : (placed : Placed) (place : Place) (len : ℕ) → IsFound placed place len → is_writable placed.regions place.region ≡ true → IsWritable placed place len
writable placed place len found e =
    record {
      region = found.region;
      is_there = found.is_there;
      writable = sym (ap (λ o. unwrap_or (option_map (λ region. region.writable) o) false) found.is_there) ∙ e;
      inside = found.inside;
    }

abbrev okay : Place → Result Place Cause
okay p = Ok p

ok-place : {a b : Place} → okay a ≡ okay b → a ≡ b
ok-place e = cc

written : (placed : Placed) (len : ℕ) (o : Option Place) → Found placed len o → (place : Place) → accessed_place placed.regions Write o ≡ Ok place → IsWritable placed place len
written placed len None found place e = cc
written placed len (Some p) found place e = by_test (is_writable placed.regions p.region) refl e
  where
    by_test : (t : Bool) → is_writable placed.regions p.region ≡ t → cond {A = Result Place Cause} t (Ok p) (Err NotWritable) ≡ Ok place → IsWritable placed place len
    by_test true w e = subst (λ z. IsWritable placed z len) (ok-place e) (writable placed p len (found p refl) w)
    by_test false w e = cc

pub numbers-permitted : (placed : Placed) (a len : ℕ) (place : Place) → (numbers_over placed).place a len Write ≡ Ok place → IsWritable placed place len
numbers-permitted placed a len place e = written placed len (place_of placed a len) (address-found placed a len) place e

pub words-permitted : (placed : Placed) (a : _) (len : ℕ) (place : Place) → (symbols_over placed).place a len Write ≡ Ok place → IsWritable placed place len
words-permitted placed a len place e = of_kind (kind_of a) e
  where
    of_kind : (k : Kind) → kind_place placed.regions placed.holes k len Write ≡ Ok place → IsWritable placed place len
    of_kind (Number n) e = cc
    of_kind Mixed e = cc
    of_kind (Whole (Ptr r o)) e = written placed len (pointed_place placed.regions placed.holes r o len) (pointed-found placed r o len) place e
    of_kind (Whole (Code c)) e = cc
    of_kind (Whole (Past c)) e = cc
    of_kind (Whole (Import c)) e = cc
    of_kind (Whole End) e = cc
    of_kind (Whole (Diff c r o)) e = cc

-- ---- fewer bytes

none-of : {A : Type 0} (p q : A → Bool) → ((x : A) → q x ≡ true → p x ≡ true) → (xs : List A) → list_any p xs ≡ false → list_any q xs ≡ false
none-of p q so [] e = refl
none-of p q so (x ∷ xs) e = by (p x) (q x) refl refl e (none-of p q so xs)
  where
    by : (s t : Bool) → p x ≡ s → q x ≡ t → s || list_any p xs ≡ false → (list_any p xs ≡ false → list_any q xs ≡ false) → t || list_any q xs ≡ false
    by true t ps qs e rest = cc
    by false true ps qs e rest = absurd (let no : false ≡ true = sym ps ∙ so x qs in cc)
    by false false ps qs e rest = rest e

touch-less : (region start less end : ℕ) (hole : Hole) → less ≤ end → touches region start less hole ≡ true → touches region start end hole ≡ true
touch-less region start less end hole le e = by (nat_eq hole.region region) e
  where
    by : (t : Bool) → (t && nat_lt (max hole.start start) (min hole.end less)) ≡ true → (t && nat_lt (max hole.start start) (min hole.end end)) ≡ true
    by true e = lt-ltb (max hole.start start) (min hole.end end) (let f = ltb-true (max hole.start start) (min hole.end less) e in omega (arith, f, le))
    by false e = cc

inside-less : (holes : List Hole) (region : Region) (number start less end : ℕ) → less ≤ end → is_inside holes region number start end ≡ true → is_inside holes region number start less ≡ true
inside-less holes region number start less end le e = by (nat_le end region.size) (touches_hole holes number start end) refl refl e
  where
    by : (s t : Bool) → nat_le end region.size ≡ s → touches_hole holes number start end ≡ t → (s && not t) ≡ true → is_inside holes region number start less ≡ true
    by true false fits misses e =
        let small : less ≤ region.size = (let f = leb-true end region.size fits in omega (arith, f, le)) in
        ap (λ s. s && not (touches_hole holes number start less)) (le-leb less region.size small)
        ∙ ap not (none-of (touches number start end) (touches number start less) (λ h. touch-less number start less end h le) holes misses)
    by true true fits misses e = cc
    by false t fits misses e = cc

pub writable-less : (placed : Placed) (place : Place) (less len : ℕ) → less ≤ len → IsWritable placed place len → IsWritable placed place less
writable-less placed place less len le w =
    record {
      region = w.region;
      is_there = w.is_there;
      writable = w.writable;
      inside = inside-less placed.holes w.region place.region place.offset (place.offset + less) (place.offset + len) (omega (arith, le)) w.inside;
    }
