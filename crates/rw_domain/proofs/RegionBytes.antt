-- Bytes of regions: a range that isn't empty is inside a region exactly where each of its bytes is one of the region.
use Rattle.std.proofs.Common.{◌≡◌, ℕ, ◌+◌, ◌-◌, ◌<◌, ◌≤◌, List, [], ◌∷◌, Option, Some, None, Bool, true, false, cond, not, ◌&&◌, ◌||◌, nat_eq, nat_le, nat_lt, refl, sym, ap, ◌∙◌, arith}
use Rattle.std.specs.Prelude.{slice_get, max, min}
use Rattle.std.specs.Option.{option_and_then, is_some}
use Rattle.std.proofs.lemmas.Bool.{leb-true, le-leb, not-true}
use Rattle.std.proofs.lemmas.Bool.Decides.{nat_tests}
use Rattle.rw_words.proofs.WordLemmas.{and-first, and-second}
use Rattle.rw_domain.specs.declared.place.Place.{Place}
use Rattle.rw_domain.specs.declared.place.Region.{Region}
use Rattle.rw_domain.specs.declared.place.Hole.{Hole}
use Rattle.rw_domain.specs.NumberPlaces.{touches, touches_hole, is_inside, place_inside, is_byte_of}

-- a region with this number, below whose size the offset is, and none of whose holes has the byte
pub record IsByte (regions : List Region) (holes : List Hole) (r o : ℕ) : Type 0 where
  pub region : Region
  pub at : slice_get regions r ≡ Some region
  pub within : o + 1 ≤ region.size
  pub free : touches_hole holes r o (o + 1) ≡ false

pub byte-of : (regions : List Region) (holes : List Hole) (r o : ℕ) → is_byte_of regions holes r o ≡ true → IsByte regions holes r o
byte-of regions holes r o h = by_region (slice_get regions r) refl h
  where
    by_tests : (region : Region) (b c : Bool) → nat_le (o + 1) region.size ≡ b → touches_hole holes r o (o + 1) ≡ c → is_some (cond (b && not c) (Some (let p : Place = record { region = r; offset = o } in p)) None) ≡ true → (o + 1 ≤ region.size) × (touches_hole holes r o (o + 1) ≡ false)
    by_tests region true false e f h = (leb-true (o + 1) region.size e, f)
    by_tests region true true e f h = cc
    by_tests region false c e f h = cc

    by_region : (x : Option Region) → slice_get regions r ≡ x → is_some (option_and_then (λ region. place_inside holes r region o 1) x) ≡ true → IsByte regions holes r o
    by_region (Some region) e h =
        let parts = by_tests region (nat_le (o + 1) region.size) (touches_hole holes r o (o + 1)) refl refl h in
        record { region = region; at = e; within = parts.0; free = parts.1 }
    by_region None e h = cc

pub is-byte : (regions : List Region) (holes : List Hole) (r o : ℕ) (region : Region) → slice_get regions r ≡ Some region → o + 1 ≤ region.size → touches_hole holes r o (o + 1) ≡ false → is_byte_of regions holes r o ≡ true
is-byte regions holes r o region at within free =
    let small : nat_le (o + 1) region.size ≡ true = le-leb (o + 1) region.size within in
    let inside : is_inside holes region r o (o + 1) ≡ true = rw (small, free) refl in
    ap (λ x. is_some (option_and_then (λ region. place_inside holes r region o 1) x)) at
    ∙ ap (λ b. is_some (cond b (Some (let p : Place = record { region = r; offset = o } in p)) None)) inside

-- ---- a range, and its bytes

pub or-first : (b c : Bool) → (b || c) ≡ false → b ≡ false
or-first true c h = h
or-first false c h = refl

pub or-second : (b c : Bool) → (b || c) ≡ false → c ≡ false
or-second true c h = cc
or-second false c h = h

-- a hole that touches no byte from o up to e doesn't touch byte p among them
byte_untouched : (hole : Hole) (r o e p : ℕ) → o ≤ p → p < e → touches r o e hole ≡ false → touches r p (p + 1) hole ≡ false
byte_untouched hole r o e p low high h = by_test (nat_eq hole.region r) h
  where
    by_test : (b : Bool) → (b && nat_lt (max hole.start o) (min hole.end e)) ≡ false → (b && nat_lt (max hole.start p) (min hole.end (p + 1))) ≡ false
    by_test true f = grind (arith, nat_tests)
    by_test false f = refl

byte-free : (holes : List Hole) (r o e p : ℕ) → o ≤ p → p < e → touches_hole holes r o e ≡ false → touches_hole holes r p (p + 1) ≡ false
byte-free [] r o e p low high h = refl
byte-free (hole ∷ holes) r o e p low high h =
    let a : touches r p (p + 1) hole ≡ false = byte_untouched hole r o e p low high (or-first (touches r o e hole) _ h) in
    let b : touches_hole holes r p (p + 1) ≡ false = byte-free holes r o e p low high (or-second (touches r o e hole) _ h) in
    rw (a, b) refl

-- a hole that touches none of the bytes touches nothing of the range: it would touch the later of the two starts
range_untouched : (hole : Hole) (r o e : ℕ) → ((p : ℕ) → o ≤ p → p < e → touches r p (p + 1) hole ≡ false) → touches r o e hole ≡ false
range_untouched hole r o e h = by_test (nat_eq hole.region r) refl
  where
    by_order : (b : Bool) → nat_eq hole.region r ≡ true → nat_lt (max hole.start o) (min hole.end e) ≡ b → b ≡ false
    by_order false same f = refl
    by_order true same f =
        let p : ℕ = max hole.start o in
        let at : touches r (max hole.start o) (max hole.start o + 1) hole ≡ false = h (max hole.start o) (grind (arith, nat_tests)) (grind (arith, nat_tests)) in
        let here : (nat_eq hole.region r && nat_lt (max hole.start (max hole.start o)) (min hole.end (max hole.start o + 1))) ≡ false = at in
        let there : nat_lt (max hole.start (max hole.start o)) (min hole.end (max hole.start o + 1)) ≡ true = grind (arith, nat_tests) in
        grind (arith, nat_tests)

    by_test : (b : Bool) → nat_eq hole.region r ≡ b → (nat_eq hole.region r && nat_lt (max hole.start o) (min hole.end e)) ≡ false
    by_test true f = rw f (by_order (nat_lt (max hole.start o) (min hole.end e)) f refl)
    by_test false f = rw f refl

range-free : (holes : List Hole) (r o e : ℕ) → ((p : ℕ) → o ≤ p → p < e → touches_hole holes r p (p + 1) ≡ false) → touches_hole holes r o e ≡ false
range-free [] r o e h = refl
range-free (hole ∷ holes) r o e h =
    let a : touches r o e hole ≡ false = range_untouched hole r o e (λ p low high. or-first (touches r p (p + 1) hole) _ (h p low high)) in
    let b : touches_hole holes r o e ≡ false = range-free holes r o e (λ p low high. or-second (touches r p (p + 1) hole) _ (h p low high)) in
    rw (a, b) refl

-- what it is that a range is inside a region
pub inside-parts : (holes : List Hole) (region : Region) (r o e : ℕ) → is_inside holes region r o e ≡ true → (e ≤ region.size) × (touches_hole holes r o e ≡ false)
inside-parts holes region r o e h = (leb-true e region.size (and-first (nat_le e region.size) _ h), not-true (touches_hole holes r o e) (and-second (nat_le e region.size) _ h))

pub inside-from : (holes : List Hole) (region : Region) (r o e : ℕ) → e ≤ region.size → touches_hole holes r o e ≡ false → is_inside holes region r o e ≡ true
inside-from holes region r o e within free = let small : nat_le e region.size ≡ true = le-leb e region.size within in rw (small, free) refl

-- so is a part of it
pub range-inside : (holes : List Hole) (region : Region) (r a b o e : ℕ) → a ≤ o → o < e → e ≤ b → is_inside holes region r a b ≡ true → is_inside holes region r o e ≡ true
range-inside holes region r a b o e low some high h =
    let parts = inside-parts holes region r a b h in
    inside-from holes region r o e (let z = parts.0 in omega (arith, z, high)) (range-free holes r o e (λ p from below. byte-free holes r a b p (omega arith) (omega arith) parts.1))

-- a range that is inside a region has only bytes of it
pub inside-bytes : (regions : List Region) (holes : List Hole) (r o len p : ℕ) (region : Region) → slice_get regions r ≡ Some region → is_inside holes region r o (o + len) ≡ true → o ≤ p → p < o + len → is_byte_of regions holes r p ≡ true
inside-bytes regions holes r o len p region at h low high =
    let parts = inside-parts holes region r o (o + len) h in
    is-byte regions holes r p region at (let z = parts.0 in omega (arith, z, high)) (byte-free holes r o (o + len) p low high parts.1)

-- a range that isn't empty, all of whose bytes are of a region, is inside it
pub bytes-inside : (regions : List Region) (holes : List Hole) (r o len : ℕ) (region : Region) → slice_get regions r ≡ Some region → 1 ≤ len → ((p : ℕ) → o ≤ p → p < o + len → is_byte_of regions holes r p ≡ true) → is_inside holes region r o (o + len) ≡ true
bytes-inside regions holes r o len region at some h =
    let last : IsByte regions holes r (o + len - 1) = byte-of regions holes r (o + len - 1) (h (o + len - 1) (omega arith) (omega arith)) in
    let same : Some last.region ≡ Some region = sym last.at ∙ at in
    let size : last.region.size ≡ region.size = let e : last.region ≡ region = cc in ap (λ a. a.size) e in
    let end : o + len - 1 + 1 ≤ last.region.size = last.within in
    inside-from holes region r o (o + len) (omega arith) (range-free holes r o (o + len) (λ p low high. let b : IsByte regions holes r p = byte-of regions holes r p (h p low high) in b.free))
