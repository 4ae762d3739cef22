-- The flags of cmp and sub over words are those over the numbers for which they stand.
use Rattle.std.proofs.Common.{ℕ, ◌+◌, ◌^◌, ◌<◌, ◌≤◌, ◌≡◌, Bool, true, false, ◌&&◌, cond, nat_eq, nat_le, nat_lt, List, Option, Some, None, refl, sym, ap, ◌∙◌, subst, arith}
use Rattle.std.specs.Prelude.{slice_get, unwrap_or}
use Rattle.std.specs.Option.{option_map}
use Rattle.std.proofs.Math.Nat.{mod-eq_of_lt}
use Rattle.std.proofs.lemmas.Bool.{eqb-true, eqb-false, leb-true, ltb-true}
use Rattle.rw_base.specs.declared.width.Width.TheVariants.{Q}
use Rattle.rw_words.specs.declared.atom.Atom.{Atom}
use Rattle.rw_words.specs.declared.atom.Atom.TheVariants.{Ptr, Code, Past, Import, End, Diff}
use Rattle.rw_words.specs.declared.kind.Kind.{Kind}
use Rattle.rw_words.specs.declared.kind.Kind.TheVariants.{Number, Whole, Mixed}
use Rattle.rw_words.specs.Addresses.{Addresses, address_of}
use Rattle.rw_words.specs.Kinds.{KindStands}
use Rattle.rw_words.proofs.WordLemmas.{and-first, and-second}
use Rattle.rw_domain.specs.declared.place.Region.{Region}
use Rattle.rw_domain.specs.declared.flags.Tri.TheVariants.{Yes, No}
use Rattle.rw_domain.specs.Placed.{Placed}
use Rattle.rw_domain.specs.Stands.{FlagsStand}
use Rattle.rw_domain.specs.Numbers.{difference_result, logic_result}
use Rattle.rw_domain.specs.NumberPlaces.{is_byte_of}
use Rattle.rw_domain.specs.Symbols.{is_at_most_size, is_below_size, no_flags, positive_flags, differ_flags, equal_flags, flags_if, place_with_number, place_with_place, code_with_code, atoms_compared, atom_with_number, comparison_flags, atom_flags}
use Rattle.rw_domain.specs.RegionsLaidOut.{IsPlacedAt}
use Rattle.rw_domain.specs.LaidOut.{DomainsAreLaidOut}
use Rattle.rw_domain.proofs.FlagRows.{unknown-stands, flags-themselves, if-stands, combined-stands, zero-stands, below-stands, differ-stands, equal-stands, offsets-stand}
use Rattle.rw_domain.proofs.KnownWords.{KnownKind}
use Rattle.rw_domain.proofs.RegionBytes.{byte-of}
use Rattle.rw_domain.proofs.RegionsLaidOut.{words-apart}

-- a region with this number, and a fact about it
record InRegion (regions : List Region) (r : ℕ) (fact : Region → Type 0) : Type 0 where
  region : Region
  at : slice_get regions r ≡ Some region
  within : fact region

at-most : (regions : List Region) (r o : ℕ) → is_at_most_size regions r o ≡ true → InRegion regions r (λ region. o ≤ region.size)
at-most regions r o h = by_region (slice_get regions r) refl h
  where
    by_region : (x : Option Region) → slice_get regions r ≡ x → unwrap_or (option_map (λ size. nat_le o size) (option_map (λ region. region.size) x)) false ≡ true → InRegion regions r (λ region. o ≤ region.size)
    by_region (Some region) e h = record { region = region; at = e; within = leb-true o region.size h }
    by_region None e h = cc

below-size : (regions : List Region) (r o : ℕ) → is_below_size regions r o ≡ true → InRegion regions r (λ region. o < region.size)
below-size regions r o h = by_region (slice_get regions r) refl h
  where
    by_region : (x : Option Region) → slice_get regions r ≡ x → unwrap_or (option_map (λ size. nat_lt o size) (option_map (λ region. region.size) x)) false ≡ true → InRegion regions r (λ region. o < region.size)
    by_region (Some region) e h = record { region = region; at = e; within = ltb-true o region.size h }
    by_region None e h = cc

module _ (l : Addresses) (known : Atom → Bool) (d t : Placed) (lie : DomainsAreLaidOut l known d t) where
  -- a place inside its region, with its end, has its address without wrapping
  address-of-place : (r o n : ℕ) (region : Region) → slice_get d.regions r ≡ Some region → o ≤ region.size → n ≡ address_of l (Ptr r o) → (n ≡ l.region r + o) × (4096 ≤ n) × (n ≤ 2 ^ 47)
  address-of-place r o n region at within e =
      let placed : IsPlacedAt (l.region r) region = lie.laid.placed r region at in
      let low' : 4096 ≤ l.region r = placed.least in
      let high : l.region r + region.size ≤ 2 ^ 47 = placed.most in
      let x : n ≡ l.region r + o = e ∙ mod-eq_of_lt (omega arith) in
      (x, omega arith, omega arith)

  address-of-code : (c n : ℕ) → known (Code c) ≡ true → n ≡ address_of l (Code c) → (n ≡ l.code c) × (4096 ≤ n) × (n ≤ 2 ^ 47)
  address-of-code c n h e =
      let low' : 4096 ≤ l.code c = (lie.atoms.code c h).0 in
      let high : l.code c ≤ 2 ^ 47 = (lie.atoms.code c h).1 in
      let x : n ≡ l.code c = e ∙ mod-eq_of_lt (omega arith) in
      (x, omega arith, omega arith)

  with-number : (r o v n m : ℕ) → m < 2 ^ 64 → n ≡ address_of l (Ptr r o) → m ≡ v → FlagsStand (place_with_number d.regions r o v) (difference_result Q n m false).1
  with-number r o v n m small e f = by_test (nat_eq v 0) refl
    where
      of_zero : m ≡ 0 → is_at_most_size d.regions r o ≡ true → FlagsStand positive_flags (difference_result Q n m false).1
      of_zero z h =
          let w = at-most d.regions r o h in
          let x = address-of-place r o n w.region w.at w.within e in
          subst (λ z. FlagsStand positive_flags (difference_result Q n z false).1) (sym z) (zero-stands n (omega (arith, x.1)) x.2)

      of_large : (nat_le (2 ^ 47) v && is_below_size d.regions r o) ≡ true → FlagsStand (record no_flags { cf = Yes; zf = No }) (difference_result Q n m false).1
      of_large h =
          let large : 2 ^ 47 ≤ v = leb-true (2 ^ 47) v (and-first (nat_le (2 ^ 47) v) _ h) in
          let w = below-size d.regions r o (and-second (nat_le (2 ^ 47) v) _ h) in
          let within : o ≤ w.region.size = let less : o < w.region.size = w.within in omega arith in
          let x = address-of-place r o n w.region w.at within e in
          let placed : IsPlacedAt (l.region r) w.region = lie.laid.placed r w.region w.at in
          let high : l.region r + w.region.size ≤ 2 ^ 47 = placed.most in
          let less : o < w.region.size = w.within in
          below-stands n m (omega (arith, x.0)) small

      by_test : (b : Bool) → nat_eq v 0 ≡ b → FlagsStand (cond b (flags_if (is_at_most_size d.regions r o) positive_flags) (flags_if (nat_le (2 ^ 47) v && is_below_size d.regions r o) (record no_flags { cf = Yes; zf = No }))) (difference_result Q n m false).1
      by_test true z = if-stands _ positive_flags _ (of_zero (f ∙ eqb-true v 0 z))
      by_test false z = if-stands _ (record no_flags { cf = Yes; zf = No }) _ of_large

  with-place : (r o s p n m : ℕ) → n < 2 ^ 64 → m < 2 ^ 64 → n ≡ address_of l (Ptr r o) → m ≡ address_of l (Ptr s p) → FlagsStand (place_with_place d.regions d.holes r o s p) (difference_result Q n m false).1
  with-place r o s p n m small small' e f = by_test (nat_eq r s) refl
    where
      in_one : r ≡ s → (is_at_most_size d.regions r o && is_at_most_size d.regions r p) ≡ true → FlagsStand (difference_result Q o p false).1 (difference_result Q n m false).1
      in_one same h =
          let w = at-most d.regions r o (and-first (is_at_most_size d.regions r o) _ h) in
          let w' = at-most d.regions r p (and-second (is_at_most_size d.regions r o) _ h) in
          let f' : m ≡ address_of l (Ptr r p) = f ∙ ap (λ z. address_of l (Ptr z p)) (sym same) in
          let x = address-of-place r o n w.region w.at w.within e in
          let y = address-of-place r p m w'.region w'.at w'.within f' in
          let first : l.region r + o ≤ 2 ^ 47 = omega (arith, x.0, x.2) in
          let second : l.region r + p ≤ 2 ^ 47 = omega (arith, y.0, y.2) in
          subst (λ z. FlagsStand (difference_result Q o p false).1 (difference_result Q z m false).1) (sym x.0)
          (subst (λ z. FlagsStand (difference_result Q o p false).1 (difference_result Q (l.region r + o) z false).1) (sym y.0) (offsets-stand (l.region r) o p first second))

      in_two : (r ≡ s → ⊥) → (is_byte_of d.regions d.holes r o && is_byte_of d.regions d.holes s p) ≡ true → FlagsStand differ_flags (difference_result Q n m false).1
      in_two differ h =
          let g = and-first (is_byte_of d.regions d.holes r o) _ h in
          let g' = and-second (is_byte_of d.regions d.holes r o) _ h in
          let w = byte-of d.regions d.holes r o g in
          let w' = byte-of d.regions d.holes s p g' in
          let within : o ≤ w.region.size = let less : o + 1 ≤ w.region.size = w.within in omega arith in
          let within' : p ≤ w'.region.size = let less : p + 1 ≤ w'.region.size = w'.within in omega arith in
          let x = address-of-place r o n w.region w.at within e in
          let y = address-of-place s p m w'.region w'.at within' f in
          differ-stands n m (λ same. differ (words-apart l d t lie.laid r s o p g g' (sym x.0 ∙ (same ∙ y.0)))) small small'

      by_test : (b : Bool) → nat_eq r s ≡ b → FlagsStand (cond b (flags_if (is_at_most_size d.regions r o && is_at_most_size d.regions r p) (difference_result Q o p false).1) (flags_if (is_byte_of d.regions d.holes r o && is_byte_of d.regions d.holes s p) differ_flags)) (difference_result Q n m false).1
      by_test true z = if-stands _ (difference_result Q o p false).1 _ (in_one (eqb-true r s z))
      by_test false z = if-stands _ differ_flags _ (in_two (eqb-false r s z))

  with-code : (c e n m : ℕ) → n < 2 ^ 64 → m < 2 ^ 64 → known (Code c) ≡ true → known (Code e) ≡ true → n ≡ address_of l (Code c) → m ≡ address_of l (Code e) → FlagsStand (code_with_code c e) (difference_result Q n m false).1
  with-code c e n m small small' g h x y = by_test (nat_eq c e) refl
    where
      by_test : (b : Bool) → nat_eq c e ≡ b → FlagsStand (cond b equal_flags differ_flags) (difference_result Q n m false).1
      by_test true z =
          let same : m ≡ n = y ∙ (ap (λ z. address_of l (Code z)) (sym (eqb-true c e z)) ∙ sym x) in
          subst (λ z. FlagsStand equal_flags (difference_result Q n z false).1) (sym same) (equal-stands n small)
      by_test false z =
          let a = address-of-code c n g x in
          let b = address-of-code e m h y in
          differ-stands n m (λ same. eqb-false c e z (lie.atoms.codes_apart c e g h (sym a.0 ∙ (same ∙ b.0)))) small small'

  atom-number : (a : Atom) (v n m : ℕ) → m < 2 ^ 64 → known a ≡ true → n ≡ address_of l a → m ≡ v → FlagsStand (atom_with_number d.regions a v) (difference_result Q n m false).1
  atom-number (Ptr r o) v n m small h e f = with-number r o v n m small e f
  atom-number (Code c) v n m small h e f =
      if-stands (nat_eq v 0) positive_flags _
      (λ z. let x = address-of-code c n h e in
      subst (λ z. FlagsStand positive_flags (difference_result Q n z false).1) (sym (f ∙ eqb-true v 0 z)) (zero-stands n (omega (arith, x.1)) x.2))
  atom-number (Past c) v n m small h e f = unknown-stands _
  atom-number (Import i) v n m small h e f = unknown-stands _
  atom-number End v n m small h e f = unknown-stands _
  atom-number (Diff c r o) v n m small h e f = unknown-stands _

  atoms-compared : (a b : Atom) (n m : ℕ) → n < 2 ^ 64 → m < 2 ^ 64 → known a ≡ true → known b ≡ true → n ≡ address_of l a → m ≡ address_of l b → FlagsStand (atoms_compared d.regions d.holes a b) (difference_result Q n m false).1
  atoms-compared (Ptr r o) (Ptr s p) n m small small' g h e f = with-place r o s p n m small small' e f
  atoms-compared (Code c) (Code b) n m small small' g h e f = with-code c b n m small small' g h e f
  atoms-compared _ _ n m small small' g h e f = unknown-stands _

  pub compared-stands : (a b : Kind) (n m : ℕ) → n < 2 ^ 64 → m < 2 ^ 64 → KindStands l a n → KindStands l b m → KnownKind l known a → KnownKind l known b → FlagsStand (comparison_flags d.regions d.holes a b) (difference_result Q n m false).1
  compared-stands (Number x) (Number y) n m small small' e f g h =
      subst (λ z. FlagsStand (difference_result Q z y false).1 (difference_result Q n m false).1) e
      (subst (λ z. FlagsStand (difference_result Q n z false).1 (difference_result Q n m false).1) f (flags-themselves _))
  compared-stands (Whole a) (Number v) n m small small' e f g h = atom-number a v n m small' g e f
  compared-stands (Whole a) (Whole b) n m small small' e f g h = atoms-compared a b n m small small' g h e f
  compared-stands (Whole a) Mixed n m small small' e f g h = unknown-stands _
  compared-stands (Number x) (Whole b) n m small small' e f g h = unknown-stands _
  compared-stands (Number x) Mixed n m small small' e f g h = unknown-stands _
  compared-stands Mixed b n m small small' e f g h = unknown-stands _

  -- ---- an atom that is the result of a logical operation

  pub atom-combined : (a : Atom) (n : ℕ) → known a ≡ true → n ≡ address_of l a → FlagsStand (atom_flags d.regions a) (logic_result Q n).1
  atom-combined (Ptr r o) n h e =
      if-stands (is_at_most_size d.regions r o) positive_flags _
      (λ w. let q = at-most d.regions r o w in let x = address-of-place r o n q.region q.at q.within e in combined-stands n (omega (arith, x.1)) x.2)
  atom-combined (Code c) n h e = let x = address-of-code c n h e in combined-stands n (omega (arith, x.1)) x.2
  atom-combined (Past c) n h e = unknown-stands _
  atom-combined (Import i) n h e = unknown-stands _
  atom-combined End n h e = unknown-stands _
  atom-combined (Diff c r o) n h e = unknown-stands _
