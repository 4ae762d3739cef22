-- The references of counters lead to them also where answers have brought more regions.
use Rattle.std.proofs.Common.{◌≡◌, ℕ, zero, suc, ◌+◌, ◌-◌, ◌<◌, ◌≤◌, List, [], ◌∷◌, ◌++◌, length, slice_get, Option, Some, None, Ok, Err, Bool, true, false, nat_le, if◌then◌else◌, refl, sym, ap, subst, ◌∙◌, arith, length-append}
use Rattle.std.specs.Prelude.{option_and_then, slice_index}
use Rattle.std.specs.Option.{option_map, unwrap_or}
use Rattle.std.proofs.lemmas.List.{get_or_append_left}
use Rattle.rw_base.specs.Rules.{first_from}
use Rattle.rw_base.proofs.First.{first_from-some, some_ahead}
use Rattle.rw_domain.specs.declared.cause.Cause.TheVariants.{NotWritable}
use Rattle.rw_domain.specs.declared.place.Access.TheVariants.{Write}
use Rattle.rw_domain.specs.declared.place.Hole.{Hole}
use Rattle.rw_domain.specs.declared.place.Place.{Place}
use Rattle.rw_domain.specs.declared.place.Region.{Region}
use Rattle.rw_domain.specs.Placed.{Placed, base_added, with_region}
use Rattle.rw_domain.specs.NumberPlaces.{accessed_place, bases_of, is_inside, is_writable, numbers_over, place_at, place_in, place_inside, place_of}
use Rattle.rw_machine.specs.Domains.{numbers}
use Rattle.rw_machine.specs.Events.{Reply}
use Rattle.rw_machine.specs.Program.{Program}
use Rattle.rw_machine.specs.Step.{placed_with}
use Rattle.rw_runs.specs.Runs.{all_added}
use Rattle.rw_probe.specs.Forgetting.{counter_place}
use Rattle.rw_probe.specs.ProbedPrograms.{HasCounters}

get-left : {A : Type 0} (xs ys : List A) (i : ℕ) → i < length xs → slice_get (xs ++ ys) i ≡ slice_get xs i
get-left [] ys i h = absurd (omega (arith, h))
get-left (x ∷ xs) ys zero h = refl
get-left (x ∷ xs) ys (suc i) h = get-left xs ys i (omega (arith, h))

base-left : (o : Option (List ℕ)) (b i : ℕ) → i < length (bases_of o) → slice_index (bases_of (base_added o b)) i ≡ slice_index (bases_of o) i
base-left None b i h = absurd (omega (arith, h))
base-left (Some bases) b i h = get_or_append_left bases (b ∷ []) 0 i h

more-bases : (o : Option (List ℕ)) (b i : ℕ) → i < length (bases_of o) → i < length (bases_of (base_added o b))
more-bases None b i h = absurd (omega (arith, h))
more-bases (Some bases) b i h = let size = length-append bases (b ∷ []) in omega (arith, size, h)

-- the place in a region has its number
its-number : (holes : List Hole) (k : ℕ) (base address len : ℕ) (p : Place) (o : Option Region) → option_and_then (λ region. place_in holes k region base address len) o ≡ Some p → p.region ≡ k
its-number holes k base address len p None e = cc
its-number holes k base address len p (Some region) e = by_base (nat_le base address) e
  where
    by_inside : (t : Bool) → (if t then Some (let q : Place = record { region = k; offset = address - base } in q) else None) ≡ Some p → p.region ≡ k
    by_inside true f = let same : record { region = k; offset = address - base } ≡ p = cc in sym (ap (λ (q : Place). q.region) same)
    by_inside false f = cc

    by_base : (t : Bool) → (if t then place_inside holes k region (address - base) len else None) ≡ Some p → p.region ≡ k
    by_base true f = by_inside (is_inside holes region k (address - base) (address - base + len)) f
    by_base false f = cc

written-place : (regions : List Region) (o : Option Place) (p : Place) → accessed_place regions Write o ≡ Ok p → (o ≡ Some p) × (is_writable regions p.region ≡ true)
written-place regions None p e = cc
written-place regions (Some q) p e = by (is_writable regions q.region) refl e
  where
    by : (t : Bool) → is_writable regions q.region ≡ t → (if t then Ok q else Err NotWritable) ≡ Ok p → (Some q ≡ Some p) × (is_writable regions p.region ≡ true)
    by true w f = let same : q ≡ p = cc in (ap (λ x. Some x) same, subst (λ x. is_writable regions x.region ≡ true) same w)
    by false w f = cc

module _ (placed : Placed) (fresh : Region) (base address len : ℕ) (p : Place) (within : p.region < length (bases_of placed.bases)) where
  abbrev before : ℕ → Option Place
  before k = place_at placed.regions (bases_of placed.bases) placed.holes address len k

  abbrev after : ℕ → Option Place
  after k = place_at (placed.regions ++ fresh ∷ []) (bases_of (base_added placed.bases base)) placed.holes address len k

  same-at : (k : ℕ) → k < length placed.regions → k ≤ p.region → after k ≡ before k
  same-at k low near =
      ap (λ x. option_and_then (λ region. place_in placed.holes k region (slice_index (bases_of (base_added placed.bases base)) k) address len) x) (get-left placed.regions (fresh ∷ []) k low)
      ∙ ap (λ b. option_and_then (λ region. place_in placed.holes k region b address len) (slice_get placed.regions k)) (base-left placed.bases base k (omega (arith, near, within)))

  place-left : (numbers_over placed).place address len Write ≡ Ok p → (numbers_over (with_region placed fresh base)).place address len Write ≡ Ok p
  place-left e =
      let is = written-place placed.regions (place_of placed address len) p e in
      let found = first_from-some before 0 (length placed.regions) p is.0 in
      let low : found.0 < length placed.regions = let l = found.2 in omega (arith, l) in
      let number : p.region ≡ found.0 = its-number placed.holes found.0 (slice_index (bases_of placed.bases) found.0) address len p (slice_get placed.regions found.0) found.3 in
      let size = length-append placed.regions (fresh ∷ []) in
      let there : first_from after 0 (length (placed.regions ++ fresh ∷ [])) ≡ Some p =
      some_ahead after 0 (length (placed.regions ++ fresh ∷ [])) found.0 p found.1 (omega (arith, low, size))
      (λ j least less. same-at j (omega (arith, less, low)) (omega (arith, less, number)) ∙ found.4 j least less) (same-at found.0 low (omega (arith, number)) ∙ found.3) in
      let writable : is_writable (placed.regions ++ fresh ∷ []) p.region ≡ true =
      ap (λ x. unwrap_or (option_map (λ region. region.writable) x) false) (get-left placed.regions (fresh ∷ []) p.region (omega (arith, number, low))) ∙ is.1 in
      ap (accessed_place (placed.regions ++ fresh ∷ []) Write) there ∙ ap (λ t. if t then Ok p else Err NotWritable) writable

module _ {O R : Type 0} (d : Program O R ℕ) (counter : ℕ → R) (region count : ℕ) where
  with-one : (placed : Placed) (fresh : Option (Region × ℕ)) → HasCounters d counter region count placed → HasCounters d counter region count (placed_with numbers placed fresh)
  with-one placed None h = h
  with-one placed (Some f) h = record {
    base = more-bases placed.bases f.1 region h.base;
    places = λ k low. place-left placed f.0 f.1 (d.resolve (counter k) false) 8 (counter_place region k) h.base (h.places k low);
  }

  pub with-all : (placed : Placed) (taken : List (Reply ℕ ℕ)) → HasCounters d counter region count placed → HasCounters d counter region count (all_added numbers placed taken)
  with-all placed [] h = h
  with-all placed (reply ∷ taken) h = with-all (placed_with numbers placed reply.fresh) taken (with-one placed reply.fresh h)
