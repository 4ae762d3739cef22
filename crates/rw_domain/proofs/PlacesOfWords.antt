-- An access that is permitted over words is permitted over numbers, at the same place.
use Rattle.std.proofs.Common.{◌≡◌, ◌≢◌, ℕ, ◌+◌, ◌-◌, ◌%◌, ◌^◌, ◌<◌, ◌≤◌, length, Option, Some, None, Result, Ok, Err, Bool, true, false, cond, nat_le, refl, sym, ap, subst, ◌∙◌, arith}
use Rattle.std.specs.Prelude.{slice_get, option_and_then}
use Rattle.std.proofs.Math.Nat.{mod-eq_of_lt}
use Rattle.std.proofs.lemmas.Bool.{leb-true, le-leb}
use Rattle.std.proofs.lemmas.Option.{slice_get_within}
use Rattle.rw_base.proofs.First.{some_ahead}
use Rattle.rw_words.specs.declared.atom.Atom.{Atom}
use Rattle.rw_words.specs.declared.atom.Atom.TheVariants.{Ptr, Code, Past, Import, End, Diff}
use Rattle.rw_words.specs.Addresses.{Addresses}
use Rattle.rw_words.specs.declared.kind.Kind.{Kind}
use Rattle.rw_words.specs.declared.kind.Kind.TheVariants.{Number, Whole, Mixed}
use Rattle.rw_words.specs.Kinds.{KindStands}
use Rattle.rw_words.proofs.WordLemmas.{and-first}
use Rattle.rw_domain.specs.declared.cause.Cause.{Cause}
use Rattle.rw_domain.specs.declared.cause.Cause.TheVariants.{NotWritable}
use Rattle.rw_domain.specs.declared.place.Access.{Access}
use Rattle.rw_domain.specs.declared.place.Access.TheVariants.{Read, Write}
use Rattle.rw_domain.specs.declared.place.Place.{Place}
use Rattle.rw_domain.specs.declared.place.Region.{Region}
use Rattle.rw_domain.specs.Placed.{Placed}
use Rattle.rw_domain.specs.Stands.{ResultStands}
use Rattle.rw_domain.specs.NumberPlaces.{is_inside, bases_of, base_of, place_inside, is_byte_of, place_in, place_at, place_of, is_writable, permitted_place, accessed_place}
use Rattle.rw_domain.specs.Symbols.{kind_place}
use Rattle.rw_domain.specs.RegionsLaidOut.{IsPlacedAt}
use Rattle.rw_domain.specs.LaidOut.{DomainsAreLaidOut}
use Rattle.rw_domain.proofs.RegionBytes.{IsByte, byte-of, inside-bytes, bytes-inside}

abbrev pub SamePlace : Result Place Cause → Result Place Cause → Type 0
SamePlace a b = ResultStands {A = Place} {T = Place} (λ p q. p ≡ q) a b

module _ (l : Addresses) (known : Atom → Bool) (d t : Placed) (lie : DomainsAreLaidOut l known d t) where
  -- an address at a base, and a range that is inside the region there
  at_base : (region : Region) (base address r o len : ℕ) → address ≡ base + o → is_inside t.holes region r o (o + len) ≡ true → place_in t.holes r region base address len ≡ Some (record { region = r; offset = o })
  at_base region base address r o len at inside =
      let above : nat_le base address ≡ true = le-leb base address (omega arith) in
      let offset : address - base ≡ o = omega arith in
      rw above (subst (λ x. place_inside t.holes r region x len ≡ Some (record { region = r; offset = o })) (sym offset)
      (ap (λ c. cond c (Some (let p : Place = record { region = r; offset = o } in p)) None) inside))

  module _ (r o b len : ℕ) (region : Region) (found : slice_get d.regions r ≡ Some region) (stands : b ≡ (l.region r + o) % 2 ^ 64) (some : 1 ≤ len) (inside : is_inside d.holes region r o (o + len) ≡ true) where
    -- the address doesn't wrap
    there : b ≡ l.region r + o
    there =
        let placed : IsPlacedAt (l.region r) region = lie.laid.placed r region found in
        let most : l.region r + region.size ≤ 2 ^ 47 = placed.most in
        let within : o + len ≤ region.size = leb-true (o + len) region.size (and-first (nat_le (o + len) region.size) _ inside) in
        stands ∙ mod-eq_of_lt (omega arith)

    -- each byte of the range is one of the region, over words and over numbers
    its_byte : (p : ℕ) → o ≤ p → p < o + len → is_byte_of d.regions d.holes r p ≡ true
    its_byte p low high = inside-bytes d.regions d.holes r o len p region found inside low high

    number_byte : (p : ℕ) → o ≤ p → p < o + len → is_byte_of t.regions t.holes r p ≡ true
    number_byte p low high = lie.laid.bytes r p (its_byte p low high)

    first_byte : IsByte t.regions t.holes r o
    first_byte = byte-of t.regions t.holes r o (number_byte o (omega arith) (omega (arith, some)))

    its_place : place_at t.regions (bases_of t.bases) t.holes b len r ≡ Some (record { region = r; offset = o })
    its_place =
        let base : base_of t r ≡ l.region r = lie.laid.bases r (slice_get_within d.regions r region found) in
        let at : b ≡ base_of t r + o = there ∙ ap (λ z. z + o) (sym base) in
        ap (λ x. option_and_then (λ region. place_in t.holes r region (base_of t r) b len) x) first_byte.at
        ∙ at_base first_byte.region (base_of t r) b r o len at (bytes-inside t.regions t.holes r o len first_byte.region first_byte.at some number_byte)

    other_region : (s : ℕ) → s ≢ r → (x : Option Region) → slice_get t.regions s ≡ x → option_and_then (λ region. place_in t.holes s region (base_of t s) b len) x ≡ None
    other_region s other None e = refl
    other_region s other (Some a) e = by_base (nat_le (base_of t s) b) refl
      where
        clash : base_of t s ≤ b → is_inside t.holes a s (b - base_of t s) (b - base_of t s + len) ≡ true → ⊥
        clash low within =
            let byte : is_byte_of t.regions t.holes s (b - base_of t s) ≡ true = inside-bytes t.regions t.holes s (b - base_of t s) len (b - base_of t s) a e within (omega arith) (omega arith) in
            let at : b ≡ l.region r + o = there in
            let meet : l.region r + o ≡ base_of t s + (b - base_of t s) = omega arith in
            other (sym (lie.laid.apart r s o (b - base_of t s) (its_byte o (omega arith) (omega (arith, some))) byte meet))

        by_inside : (c : Bool) → base_of t s ≤ b → is_inside t.holes a s (b - base_of t s) (b - base_of t s + len) ≡ c → cond c (Some (let p : Place = record { region = s; offset = b - base_of t s } in p)) None ≡ None
        by_inside true low f = absurd (clash low f)
        by_inside false low f = refl

        by_base : (c : Bool) → nat_le (base_of t s) b ≡ c → cond c (place_inside t.holes s a (b - base_of t s) len) None ≡ None
        by_base true f = by_inside (is_inside t.holes a s (b - base_of t s) (b - base_of t s + len)) (leb-true (base_of t s) b f) refl
        by_base false f = refl

    place_of-stands : place_of t b len ≡ Some (record { region = r; offset = o })
    place_of-stands =
        let short : r < length t.regions = slice_get_within t.regions r first_byte.region first_byte.at in
        some_ahead (place_at t.regions (bases_of t.bases) t.holes b len) 0 (length t.regions) r _ (omega arith) (omega (arith, short))
        (λ j low high. other_region j (λ same. omega (arith, same, high)) (slice_get t.regions j) refl) its_place

    -- where a write is permitted over words it is so over numbers
    permitted-stands : (access : Access) → SamePlace (permitted_place d.regions access (record { region = r; offset = o })) (permitted_place t.regions access (record { region = r; offset = o }))
    permitted-stands Read = refl
    permitted-stands Write = by_test (is_writable d.regions r) refl
      where
        by_test : (c : Bool) → is_writable d.regions r ≡ c → SamePlace (cond c (Ok (let p : Place = record { region = r; offset = o } in p)) (Err NotWritable)) (permitted_place t.regions Write (record { region = r; offset = o }))
        by_test true f = rw (lie.laid.writable r f) refl
        by_test false f = tt

    accessed-stands : (access : Access) → SamePlace (permitted_place d.regions access (record { region = r; offset = o })) (accessed_place t.regions access (place_of t b len))
    accessed-stands access =
        subst (λ x. SamePlace (permitted_place d.regions access (record { region = r; offset = o })) (accessed_place t.regions access x)) (sym place_of-stands) (permitted-stands access)

  region-stands : (r o b len : ℕ) (access : Access) → b ≡ (l.region r + o) % 2 ^ 64 → 1 ≤ len → (x : Option Region) → slice_get d.regions r ≡ x → SamePlace (accessed_place d.regions access (option_and_then (λ region. place_inside d.holes r region o len) x)) (accessed_place t.regions access (place_of t b len))
  region-stands r o b len access h some None e = tt
  region-stands r o b len access h some (Some region) e = by_test (is_inside d.holes region r o (o + len)) refl
    where
      by_test : (c : Bool) → is_inside d.holes region r o (o + len) ≡ c → SamePlace (accessed_place d.regions access (cond c (Some (let p : Place = record { region = r; offset = o } in p)) None)) (accessed_place t.regions access (place_of t b len))
      by_test true f = accessed-stands r o b len region e h some f access
      by_test false f = tt

  pub place-stands : (k : Kind) (b len : ℕ) (access : Access) → KindStands l k b → 1 ≤ len → SamePlace (kind_place d.regions d.holes k len access) (accessed_place t.regions access (place_of t b len))
  place-stands (Number n) b len access h some = tt
  place-stands (Whole (Ptr r o)) b len access h some = region-stands r o b len access h some (slice_get d.regions r) refl
  place-stands (Whole (Code c)) b len access h some = tt
  place-stands (Whole (Past c)) b len access h some = tt
  place-stands (Whole (Import c)) b len access h some = tt
  place-stands (Whole End) b len access h some = tt
  place-stands (Whole (Diff c r o)) b len access h some = tt
  place-stands Mixed b len access h some = tt
