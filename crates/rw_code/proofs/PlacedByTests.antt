-- A place for a file that passes these tests is a placing: for the places of worked files, by computing.
use Rattle.std.proofs.Common.{◌≡◌, ◌⊎◌, inl, inr, ℕ, zero, suc, ◌+◌, ◌%◌, ◌^◌, ◌<◌, ◌≤◌, List, [], ◌∷◌, ◌++◌, length, Option, Some, None, Bool, true, false, cond, ◌&&◌, nat_eq, nat_le, nat_lt, refl, sym, ap, subst, ◌∙◌, arith}
use Rattle.std.specs.Prelude.{slice_get, Contains, not, ◌||◌, max, min}
use Rattle.std.specs.Int.{IsPowerOfTwo}
use Rattle.std.specs.List.{list_all}
use Rattle.std.specs.Option.{option_map_or}
use Rattle.std.specs.Str.{bytes_eq}
use Rattle.std.proofs.lemmas.Bool.{eqb-true, eqb-false, leb-true, ltb-true, and_parts}
use Rattle.std.proofs.lemmas.Bool.Decides.{nat_tests}
use Rattle.std.proofs.lemmas.List.Sums.{AllPass-from_list_all}
use Rattle.std.proofs.lemmas.Slice.Eq.{bytes_eq-Decides}
use Rattle.asm_items.proofs.LaidByTests.{all_from, test-at}
use Rattle.rw_words.specs.declared.atom.Cell.{Cell}
use Rattle.rw_domain.specs.declared.place.Region.{Region}
use Rattle.rw_domain.specs.declared.place.Hole.{Hole}
use Rattle.rw_domain.specs.RegionsLaidOut.{Apart, IsPlacedAt, ArePlaced}
use Rattle.rw_domain.specs.NumberPlaces.{is_byte_of, touches, touches_hole}
use Rattle.rw_domain.proofs.RegionBytes.{byte-of, or-first, or-second}
use Rattle.rw_elf.specs.declared.section.Section.{Section}
use Rattle.rw_elf.specs.declared.symbol.Symbol.{Symbol}
use Rattle.rw_elf.specs.Section.{sections}
use Rattle.rw_elf.specs.Sections.{is_placed}
use Rattle.rw_reloc.specs.Slots.{copies_of}
use Rattle.rw_reloc.specs.Targets.{is_undefined}
use Rattle.rw_code.specs.Ground.{Ground, ground_of}
use Rattle.rw_code.specs.Imports.{import_name, is_outside}
use Rattle.rw_code.specs.Start.{Start, regions_of, start_regions}
use Rattle.rw_code.specs.Placing.{Placing, IsElsewhere, IsPlacing}
use Rattle.rw_code.proofs.KnownTables.{KnownTables, file_holes, file_places, file_regions, holes-are, import_in, name_in, outside_in, places-are, regions-are}

-- ---- tests

or-other : (a b : Bool) → a ≡ false → (a || b) ≡ true → b ≡ true
or-other true b e h = cc
or-other false b e h = h

not-true : (b : Bool) → not b ≡ true → b ≡ false
not-true true h = cc
not-true false h = refl

-- where a condition holds, its test is passed
if-so : (a b : Bool) → a ≡ true → (not a || b) ≡ true → b ≡ true
if-so true b e h = h
if-so false b e h = cc

test-in : {A : Type 0} (test : A → Bool) (xs : List A) (x : A) → list_all test xs ≡ true → Contains xs x → test x ≡ true
test-in test xs x h at = subst (λ z. test z ≡ true) at.2 (AllPass-from_list_all test xs h at.0 x at.1)

-- 2 to a power up to one
abbrev is_power : ℕ → ℕ → Bool
is_power zero n = nat_eq n 1
is_power (suc k) n = nat_eq n (2 ^ suc k) || is_power k n

power-of : (k n : ℕ) → is_power k n ≡ true → IsPowerOfTwo n
power-of zero n h = (0, eqb-true n 1 h)
power-of (suc k) n h = by (nat_eq n (2 ^ suc k)) refl (λ e. power-of k n e)
  where
    by : (t : Bool) → nat_eq n (2 ^ suc k) ≡ t → (is_power k n ≡ true → IsPowerOfTwo n) → IsPowerOfTwo n
    by true e more = (suc k, eqb-true n (2 ^ suc k) e)
    by false e more = more (or-other (nat_eq n (2 ^ suc k)) (is_power k n) e h)

-- ---- the bytes of a region that are in none of its holes

-- they begin behind a hole at its start, and end before one at its end
abbrev free_from : List Hole → ℕ → ℕ
free_from [] r = 0
free_from (hole ∷ holes) r = cond (nat_eq hole.region r && nat_le hole.start (free_from holes r)) (max hole.end (free_from holes r)) (free_from holes r)

abbrev free_to : List Hole → ℕ → ℕ → ℕ
free_to [] r size = size
free_to (hole ∷ holes) r size = cond (nat_eq hole.region r && nat_le (free_to holes r size) hole.end) (min hole.start (free_to holes r size)) (free_to holes r size)

not-in : (start end o : ℕ) → nat_lt (max start o) (min end (o + 1)) ≡ false → (o < start) ⊎ (end ≤ o)
not-in start end o h = grind (arith, nat_tests)

behind-start : (t : Bool) (hole : Hole) (low o : ℕ) → (t ≡ true → (o < hole.start) ⊎ (hole.end ≤ o)) → low ≤ o → cond (t && nat_le hole.start low) (max hole.end low) low ≤ o
behind-start false hole low o h e = e
behind-start true hole low o h e = by (nat_le hole.start low) refl (h refl)
  where
    by : (t : Bool) → nat_le hole.start low ≡ t → (o < hole.start) ⊎ (hole.end ≤ o) → cond t (max hole.end low) low ≤ o
    by false f g = e
    by true f (inl g) = let before = leb-true hole.start low f in absurd (omega (arith, before, g, e))
    by true f (inr g) = grind arith

before-end : (t : Bool) (hole : Hole) (high o : ℕ) → (t ≡ true → (o < hole.start) ⊎ (hole.end ≤ o)) → o < high → o < cond (t && nat_le high hole.end) (min hole.start high) high
before-end false hole high o h e = e
before-end true hole high o h e = by (nat_le high hole.end) refl (h refl)
  where
    by : (t : Bool) → nat_le high hole.end ≡ t → (o < hole.start) ⊎ (hole.end ≤ o) → o < cond t (min hole.start high) high
    by false f g = e
    by true f (inl g) = grind arith
    by true f (inr g) = let behind = leb-true high hole.end f in absurd (omega (arith, behind, g, e))

free-range : (holes : List Hole) (r o size : ℕ) → touches_hole holes r o (o + 1) ≡ false → o < size → (free_from holes r ≤ o) × (o < free_to holes r size)
free-range [] r o size h low = (omega arith, low)
free-range (hole ∷ holes) r o size h low =
    let rest = free-range holes r o size (or-second (touches r o (o + 1) hole) (touches_hole holes r o (o + 1)) h) low in
    let here : touches r o (o + 1) hole ≡ false = or-first (touches r o (o + 1) hole) (touches_hole holes r o (o + 1)) h in
    let missed : nat_eq hole.region r ≡ true → (o < hole.start) ⊎ (hole.end ≤ o) = λ e. not-in hole.start hole.end o (subst (λ t. (t && nat_lt (max hole.start o) (min hole.end (o + 1))) ≡ false) e here) in
    (behind-start (nat_eq hole.region r) hole (free_from holes r) o missed rest.0, before-end (nat_eq hole.region r) hole (free_to holes r size) o missed rest.1)

-- ---- regions

module _ (regions : List Region) (holes : List Hole) (base : ℕ → ℕ) where
  abbrev is_region_at : ℕ → Region → Bool
  is_region_at r a = nat_le 4096 (base r) && (nat_le (base r + a.size) (2 ^ 47) && (is_power 16 a.align && nat_eq (base r % max 1 a.align) 0))

  abbrev ends_before : ℕ → Region → ℕ → Bool
  ends_before r a s = nat_le (base r + free_to holes r a.size) (base s + free_from holes s)

  abbrev is_clear_of : ℕ → Region → ℕ → Region → Bool
  is_clear_of r a s b = nat_eq r s || (ends_before r a s || ends_before s b r)

  abbrev are_clear : ℕ → Region → Bool
  are_clear r a = all_from (is_clear_of r a) 0 regions

  abbrev regions_pass : Bool
  regions_pass = all_from is_region_at 0 regions && all_from are_clear 0 regions

  placed-at : (r : ℕ) (a : Region) → is_region_at r a ≡ true → IsPlacedAt (base r) a
  placed-at r a h =
      let least = and_parts (nat_le 4096 (base r)) _ h in
      let most = and_parts (nat_le (base r + a.size) (2 ^ 47)) _ least.1 in
      let power = and_parts (is_power 16 a.align) _ most.1 in
      record { least = leb-true 4096 (base r) least.0; most = leb-true (base r + a.size) (2 ^ 47) most.0; power = inr (power-of 16 a.align power.0); aligned = eqb-true (base r % max 1 a.align) 0 power.1 }

  record IsFree (r o : ℕ) : Type 0 where
    region : Region
    at : slice_get regions r ≡ Some region
    least : free_from holes r ≤ o
    most : o < free_to holes r region.size

  free : (r o : ℕ) → is_byte_of regions holes r o ≡ true → IsFree r o
  free r o h =
      let byte = byte-of regions holes r o h in
      let within = byte.within in
      let range = free-range holes r o byte.region.size byte.free (omega (arith, within)) in
      record { region = byte.region; at = byte.at; least = range.0; most = range.1 }

  same-region : (r s o p : ℕ) → all_from are_clear 0 regions ≡ true → IsFree r o → IsFree s p → base r + o ≡ base s + p → r ≡ s
  same-region r s o p h one two e =
      let clear : is_clear_of r one.region s two.region ≡ true = test-at (is_clear_of r one.region) regions (test-at are_clear regions h r one.region one.at) s two.region two.at in
      by (nat_eq r s) (ends_before r one.region s) (ends_before s two.region r) refl refl refl clear
    where
      by : (t u v : Bool) → nat_eq r s ≡ t → ends_before r one.region s ≡ u → ends_before s two.region r ≡ v → (t || (u || v)) ≡ true → r ≡ s
      by true u v f g i k = eqb-true r s f
      by false true v f g i k =
          let ends = leb-true (base r + free_to holes r one.region.size) (base s + free_from holes s) g in
          let low = two.least in
          let high = one.most in
          absurd (omega (arith, e, ends, low, high))
      by false false true f g i k =
          let ends = leb-true (base s + free_to holes s two.region.size) (base r + free_from holes r) i in
          let low = one.least in
          let high = two.most in
          absurd (omega (arith, e, ends, low, high))
      by false false false f g i k = cc

  regions-placed : regions_pass ≡ true → ArePlaced regions holes base
  regions-placed h =
      let parts = and_parts (all_from is_region_at 0 regions) (all_from are_clear 0 regions) h in
      record {
        each = λ r a e. placed-at r a (test-at is_region_at regions parts.0 r a e);
        apart = λ r s o p f g e. same-region r s o p parts.1 (free r o f) (free s p g) e;
      }

-- ---- the file

abbrev are_apart : ℕ → ℕ → ℕ → ℕ → Bool
are_apart a n b m = nat_le (min (a + n) (b + m)) (max a b)

apart-by : (a n b m : ℕ) → are_apart a n b m ≡ true → Apart a n b m
apart-by a n b m h = leb-true (min (a + n) (b + m)) (max a b) h

module _ (file : List ℕ) (tables : KnownTables file) (contents : List (List Cell)) (start : Start) (placing : Placing) where
  abbrev file_ground : Ground
  file_ground = ground_of file contents

  abbrev known_regions : List Region
  known_regions = file_regions file tables ++ start_regions file_ground start

  -- ---- the tests

  abbrev misses_image : ℕ → ℕ → Section → Bool
  misses_image a n s = not (is_placed s) || are_apart a n (placing.base + s.addr) s.size

  abbrev is_elsewhere : ℕ → Bool
  is_elsewhere q =
      nat_lt q (2 ^ 64) && (all_from (λ r (a : Region). are_apart q 1 (placing.region r) a.size) 0 known_regions && list_all (misses_image q 1) tables.all)

  abbrev is_aligned : Section → Bool
  is_aligned s = nat_eq (placing.base % max 1 s.align) 0

  abbrev ends_in_reach : Section → Bool
  ends_in_reach s = not (is_placed s) || nat_le (placing.base + s.addr + s.size) (2 ^ 47)

  abbrev is_outside_image : ℕ → Region → Bool
  is_outside_image r a = nat_lt r (length (file_regions file tables)) || list_all (misses_image (placing.region r) a.size) tables.all

  abbrev is_at : ℕ → ℕ → Bool
  is_at r a = nat_eq (placing.region r) (placing.base + a)

  abbrev name_of : ℕ → List ℕ
  name_of i = name_in file tables.symbols i

  abbrev lies_outside : ℕ → Bool
  lies_outside i = outside_in file tables.symbols tables.copies i

  abbrev are_others : ℕ → ℕ → Bool
  are_others i j = bytes_eq (name_of i) (name_of j) || not (nat_eq (placing.name (name_of i)) (placing.name (name_of j)))

  abbrev is_name : ℕ → Symbol → Bool
  is_name i s =
      not (lies_outside i)
      || (is_elsewhere (placing.name (name_of i))
      && (not (nat_eq (placing.name (name_of i)) placing.finish) && all_from (λ j t. not (lies_outside j) || are_others i j) 0 tables.symbols))

  abbrev pub passes : Bool
  passes =
      nat_le 4096 placing.base && (nat_eq (placing.base % 4096) 0 && (list_all is_aligned tables.kept && (list_all ends_in_reach tables.all
      && (all_from is_at 0 (file_places file tables) && (regions_pass known_regions (file_holes file tables) placing.region
      && (all_from is_outside_image 0 known_regions && (is_elsewhere placing.finish && all_from is_name 0 tables.symbols)))))))

  -- ---- what they say

  known-are : regions_of file_ground start ≡ known_regions
  known-are = ap (λ regions. regions ++ start_regions file_ground start) (regions-are file tables contents)

  region-at : (r : ℕ) (a : Region) → slice_get (regions_of file_ground start) r ≡ Some a → slice_get known_regions r ≡ Some a
  region-at r a e = ap (λ regions. slice_get regions r) (sym known-are) ∙ e

  section-in : (test : Section → Bool) → list_all test tables.all ≡ true → (s : Section) → Contains (sections file) s → test s ≡ true
  section-in test h s at = test-in test tables.all s h (subst (λ xs. Contains xs s) tables.sections_are at)

  image-missed : (a n : ℕ) → list_all (misses_image a n) tables.all ≡ true → (s : Section) → Contains (sections file) s → is_placed s ≡ true → Apart a n (placing.base + s.addr) s.size
  image-missed a n h s at placed = apart-by a n (placing.base + s.addr) s.size (if-so (is_placed s) _ placed (section-in (misses_image a n) h s at))

  elsewhere : (q : ℕ) → is_elsewhere q ≡ true → IsElsewhere file file_ground start placing q
  elsewhere q h =
      let first = and_parts (nat_lt q (2 ^ 64)) _ h in
      let rest = and_parts (all_from (λ r (a : Region). are_apart q 1 (placing.region r) a.size) 0 known_regions) (list_all (misses_image q 1) tables.all) first.1 in
      record {
        fits = ltb-true q (2 ^ 64) first.0;
        regions = λ r a e. apart-by q 1 (placing.region r) a.size (test-at (λ r (a : Region). are_apart q 1 (placing.region r) a.size) known_regions rest.0 r a (region-at r a e));
        image = image-missed q 1 rest.1;
      }

  name-is : (i : ℕ) → import_name file i ≡ name_of i
  name-is i = ap (λ symbols. name_in file symbols i) tables.symbols_are

  outside-is : (i : ℕ) → is_outside file i ≡ lies_outside i
  outside-is i = ap (λ symbols. outside_in file symbols (copies_of file) i) tables.symbols_are ∙ ap (λ copies. outside_in file tables.symbols copies i) tables.copies_are

  -- a test of each symbol holds of an imported one
  tested-symbol : (test : ℕ → Symbol → Bool) → all_from test 0 tables.symbols ≡ true → (i : ℕ) → lies_outside i ≡ true → (s : Symbol) × (test i s ≡ true)
  tested-symbol test h i e = by (slice_get tables.symbols i) refl (and_parts (nat_lt 0 i) _ (and_parts (import_in tables.symbols i) _ e).0).1
    where
      by : (o : Option Symbol) → slice_get tables.symbols i ≡ o → option_map_or is_undefined o false ≡ true → (s : Symbol) × (test i s ≡ true)
      by (Some s) f g = (s, test-at test tables.symbols h i s f)
      by None f g = cc

  record IsName (i : ℕ) : Type 0 where
    elsewhere : is_elsewhere (placing.name (name_of i)) ≡ true
    finish : nat_eq (placing.name (name_of i)) placing.finish ≡ false
    others : all_from (λ j (t : Symbol). not (lies_outside j) || are_others i j) 0 tables.symbols ≡ true

  named : all_from is_name 0 tables.symbols ≡ true → (i : ℕ) → is_outside file i ≡ true → IsName i
  named h i outside =
      let lies = sym (outside-is i) ∙ outside in
      let tested = tested-symbol is_name h i lies in
      let first = and_parts (is_elsewhere (placing.name (name_of i))) _ (if-so (lies_outside i) _ lies tested.1) in
      let second = and_parts (not (nat_eq (placing.name (name_of i)) placing.finish)) _ first.1 in
      record { elsewhere = first.0; finish = not-true _ second.0; others = second.1 }

  names-apart : (i j : ℕ) → IsName i → is_outside file j ≡ true → placing.name (name_of i) ≡ placing.name (name_of j) → name_of i ≡ name_of j
  names-apart i j one outside e =
      let lies = sym (outside-is j) ∙ outside in
      let tested = tested-symbol (λ j t. not (lies_outside j) || are_others i j) one.others j lies in
      by (bytes_eq (name_of i) (name_of j)) refl (if-so (lies_outside j) (are_others i j) lies tested.1)
    where
      by : (t : Bool) → bytes_eq (name_of i) (name_of j) ≡ t → (t || not (nat_eq (placing.name (name_of i)) (placing.name (name_of j)))) ≡ true → name_of i ≡ name_of j
      by true f g = (bytes_eq-Decides (name_of i) (name_of j)).0 f
      by false f g = absurd (eqb-false (placing.name (name_of i)) (placing.name (name_of j)) (not-true _ g) e)

  -- ---- all together

  pub placed-by-tests : passes ≡ true → IsPlacing file file_ground start placing
  placed-by-tests h =
      let a = and_parts (nat_le 4096 placing.base) _ h in
      let b = and_parts (nat_eq (placing.base % 4096) 0) _ a.1 in
      let c = and_parts (list_all is_aligned tables.kept) _ b.1 in
      let d = and_parts (list_all ends_in_reach tables.all) _ c.1 in
      let e = and_parts (all_from is_at 0 (file_places file tables)) _ d.1 in
      let f = and_parts (regions_pass known_regions (file_holes file tables) placing.region) _ e.1 in
      let g = and_parts (all_from is_outside_image 0 known_regions) _ f.1 in
      let i = and_parts (is_elsewhere placing.finish) (all_from is_name 0 tables.symbols) g.1 in
      let regions = regions-placed known_regions (file_holes file tables) placing.region f.0 in
      let names = named i.1 in
      record {
        least = leb-true 4096 placing.base a.0;
        pages = eqb-true (placing.base % 4096) 0 b.0;
        aligned = λ s at. eqb-true (placing.base % max 1 s.align) 0 (test-in is_aligned tables.kept s c.0 (subst (λ xs. Contains xs s) tables.kept_are at));
        most = λ s at placed. leb-true (placing.base + s.addr + s.size) (2 ^ 47) (if-so (is_placed s) _ placed (section-in ends_in_reach d.0 s at));
        file_regions = λ r q at. eqb-true (placing.region r) (placing.base + q) (test-at is_at (file_places file tables) e.0 r q (ap (λ places. slice_get places r) (sym (places-are file tables contents)) ∙ at));
        regions = subst (λ rs. ArePlaced rs file_ground.holes placing.region) (sym known-are) (subst (λ holes. ArePlaced known_regions holes placing.region) (sym (holes-are file tables contents)) regions);
        outside = λ r q s own at. image-missed (placing.region r) q.size (or-other (nat_lt r (length (file_regions file tables))) _ (not-below r own) (test-at is_outside_image known_regions g.0 r q (region-at r q at))) s;
        end_elsewhere = elsewhere placing.finish i.0;
        names_elsewhere = λ k outside. subst (λ name. IsElsewhere file file_ground start placing (placing.name name)) (sym (name-is k)) (elsewhere (placing.name (name_of k)) (names k outside).elsewhere);
        names_apart = λ k l first second same.
            name-is k ∙ names-apart k l (names k first) second (ap placing.name (sym (name-is k)) ∙ same ∙ ap placing.name (name-is l)) ∙ sym (name-is l);
        no_name_at_end = λ k outside same. eqb-false (placing.name (name_of k)) placing.finish (names k outside).finish (ap placing.name (sym (name-is k)) ∙ same);
      }
    where
      not-below : (r : ℕ) → length file_ground.regions ≤ r → nat_lt r (length (file_regions file tables)) ≡ false
      not-below r own = let count : length file_ground.regions ≡ length (file_regions file tables) = ap length (regions-are file tables contents) in grind (arith, nat_tests)
