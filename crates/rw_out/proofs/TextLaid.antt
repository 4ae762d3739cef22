-- The regions of the ground of a file lie among those of its text, wherever that is laid out.
use Rattle.std.proofs.Common.{◌≡◌, ◌⊎◌, inl, inr, ℕ, zero, suc, ◌+◌, ◌%◌, ◌^◌, ◌<◌, ◌≤◌, List, [], ◌∷◌, ◌++◌, length, map, get_or, Option, Some, None, Bool, true, false, cond, ◌==◌, refl, sym, ap, subst, ◌∙◌, arith, length-append}
use Rattle.std.specs.Prelude.{Contains, flat_map, max, slice_get, option_map}
use Rattle.std.specs.Int.{IsPowerOfTwo}
use Rattle.std.specs.Int.Count.{count_trailing_zeros}
use Rattle.std.specs.List.{list_all, range_with_len}
use Rattle.std.specs.Option.{unwrap_or}
use Rattle.std.proofs.lemmas.Bool.{eqb-true}
use Rattle.std.proofs.lemmas.List.{length-map, length-replicate}
use Rattle.std.proofs.lemmas.List.FromFn.{get_or-range_with_len, length-range_with_len}
use Rattle.std.proofs.lemmas.List.Sums.{AllPass-from_list_all, sum_by-cons}
use Rattle.std.proofs.lemmas.Option.{slice_get-map, slice_get-get_or}
use Rattle.asm_items.specs.declared.item.Item.{Item}
use Rattle.asm_items.specs.declared.item.Item.TheVariants.{Bytes, Quad, LongDiff, Zero}
use Rattle.asm_items.specs.Lines as lines
use Rattle.asm_items.specs.Lines.{Items, sections_of, line_size, size_of, copies_of}
use Rattle.asm_items.specs.Layout.{Layout, line_bytes, section_bytes}
use Rattle.rw_words.specs.Addresses.{Addresses}
use Rattle.rw_domain.specs.declared.place.Region.{Region}
use Rattle.rw_domain.specs.Stands.{Both}
use Rattle.rw_domain.specs.RegionsLaidOut.{ByteStands, IsPlacedAt, RegionsAreLaidOut}
use Rattle.rw_domain.specs.NumberPlaces.{is_byte_of}
use Rattle.rw_domain.specs.NumberPlaces as places
use Rattle.rw_domain.proofs.RegionsLaidOut.{placed-laid}
use Rattle.rw_domain.proofs.RegionBytes.{byte-of, is-byte}
use Rattle.rw_elf.specs.declared.section.Section.{Section}
use Rattle.rw_elf.specs.Places.{IsAligned}
use Rattle.rw_elf.specs.Tables.{kept_sections}
use Rattle.rw_elf.proofs.Limits.{placed_aligned}
use Rattle.rw_reloc.specs.declared.slot.Slot.{Slot}
use Rattle.rw_reloc.specs.Slots as slots
use Rattle.rw_funcs.specs.Functions.{section_or}
use Rattle.rw_code.specs.Ground.{Ground, kept_region, copied_region, copy_alignment, ground_of}
use Rattle.rw_code.specs.Start.{Start, start_regions, regions_of, counters_number, words_placed, numbers_placed}
use Rattle.rw_code.specs.Printed.{section_region, copy_region, text_ground, extent_of}
use Rattle.rw_code.proofs.Mirrors.{bases-are}
use Rattle.rw_code.proofs.TextPlaced.{text-placed}
use Rattle.rw_data.specs.Regions.{start_cell, start_cells, start_contents}
use Rattle.rw_data.proofs.Clean.{IsClean, is-kept}
use Rattle.rw_out.specs.Items.{Probes, exponent, section_number, items_with}
use Rattle.rw_out.specs.Simulates.{IsTextLayout, text_addresses}
use Rattle.rw_out.proofs.TextLines.{sections-are, copies-are, text_section, section_lines, text_copy}

-- ---- lists

pub joined : {A B : Type 0} (R : A → B → Type 0) (xs : List A) (ys : List B) (us : List A) (vs : List B) → Both R xs ys → Both R us vs → Both R (xs ++ us) (ys ++ vs)
joined R [] [] us vs h k = k
joined R [] (y ∷ ys) us vs h k = absurd h
joined R (x ∷ xs) [] us vs h k = absurd h
joined R (x ∷ xs) (y ∷ ys) us vs h k = (h.0, joined R xs ys us vs h.1 k)

pub same-length : {A B : Type 0} (R : A → B → Type 0) (xs : List A) (ys : List B) → Both R xs ys → length xs ≡ length ys
same-length R [] [] h = refl
same-length R [] (y ∷ ys) h = absurd h
same-length R (x ∷ xs) [] h = absurd h
same-length R (x ∷ xs) (y ∷ ys) h = ap suc (same-length R xs ys h.1)

-- what is tied to the item with a number
record Tied {A B : Type 0} (R : A → B → Type 0) (r : ℕ) (x : A) (ys : List B) : Type 0 where
  item : B
  at : slice_get ys r ≡ Some item
  ties : R x item

tied : {A B : Type 0} (R : A → B → Type 0) (xs : List A) (ys : List B) → Both R xs ys → (r : ℕ) (x : A) → slice_get xs r ≡ Some x → Tied R r x ys
tied R [] ys h r x e = cc
tied R (a ∷ xs) [] h r x e = absurd h
tied R (a ∷ xs) (b ∷ ys) h zero x e = let same : a ≡ x = cc in record { item = b; at = refl; ties = subst (λ z. R z b) same h.0 }
tied R (a ∷ xs) (b ∷ ys) h (suc r) x e = let rest = tied R xs ys h.1 r x e in record { item = rest.item; at = rest.at; ties = rest.ties }

pub numbered : {A B : Type 0} (R : A → B → Type 0) (f : ℕ → A) (g : ℕ → B) (a n : ℕ) → ((k : ℕ) → a ≤ k → k < a + n → R (f k) (g k)) → Both R (map f (range_with_len a n)) (map g (range_with_len a n))
numbered R f g a zero each = tt
numbered R f g a (suc n) each = (each a (omega arith) (omega arith), numbered R f g (a + 1) n (λ k low high. each k (omega (arith, low)) (omega (arith, high))))

-- a list is that of its items by number
by-numbers : {A : Type 0} (f : ℕ → A) (xs : List A) (a : ℕ) → ((k : ℕ) (x : A) → slice_get xs k ≡ Some x → f (a + k) ≡ x) → xs ≡ map f (range_with_len a (length xs))
by-numbers f [] a h = refl
by-numbers f (x ∷ xs) a h =
    let first : f a ≡ x = (let z : a ≡ a + 0 = omega arith in ap f z) ∙ h 0 x refl in
    ap (λ y. y ∷ xs) (sym first) ∙ ap (λ ys. f a ∷ ys) (by-numbers f xs (a + 1) (λ k y e. (let z : a + 1 + k ≡ a + suc k = omega arith in ap f z) ∙ h (suc k) y e))

-- the kept sections of a file by their numbers
pub kept-are : (file : List ℕ) → kept_sections file ≡ map (section_number file) (range_with_len 0 (length (kept_sections file)))
kept-are file = by-numbers (section_number file) (kept_sections file) 0 (λ k s e. ap (λ n. section_or (slice_get (kept_sections file) n)) (let z : 0 + k ≡ k = omega arith in z) ∙ ap section_or e)

pub kept-number : (file : List ℕ) (n : ℕ) → n < length (kept_sections file) → Contains (kept_sections file) (section_number file n)
kept-number file n low =
    let d = section_number file n in
    let here : section_number file n ≡ get_or (kept_sections file) n (section_number file n) = ap section_or (slice_get-get_or (kept_sections file) n d low) in
    (n, low, sym here)

pub map-map : {A B C : Type 0} (f : B → C) (g : A → B) (xs : List A) → map f (map g xs) ≡ map (λ x. f (g x)) xs
map-map f g [] = refl
map-map f g (x ∷ xs) = ap (λ ys. f (g x) ∷ ys) (map-map f g xs)

-- ---- alignments

exponents : list_all (λ k. exponent (2 ^ k) == k) (range_with_len 0 17) ≡ true
unfolding count_trailing_zeros
exponents = refl

exponent-of : (k : ℕ) → k ≤ 16 → exponent (2 ^ k) ≡ k
exponent-of k most =
    let all = AllPass-from_list_all (λ k. exponent (2 ^ k) == k) (range_with_len 0 17) exponents in
    let size = length-range_with_len 0 17 in
    let at : get_or (range_with_len 0 17) k 0 ≡ k = get_or-range_with_len 0 17 k 0 (omega (arith, most)) ∙ omega arith in
    let here : (exponent (2 ^ k) == k) ≡ true = subst (λ z. (exponent (2 ^ z) == z) ≡ true) at (all k 0 (omega (arith, most, size))) in
    eqb-true (exponent (2 ^ k)) k here

-- a region of the text serves as one of the file
pub record Serves (a n : Region) : Type 0 where
  pub size : a.size ≤ n.size
  pub aligned : (base : ℕ) → base % max 1 n.align ≡ 0 → base % max 1 a.align ≡ 0
  pub power : (a.align ≡ 0) ⊎ IsPowerOfTwo a.align
  pub writable : a.writable ≡ n.writable

itself : (a : Region) → IsPowerOfTwo a.align → Serves a a
itself a power = record { size = omega arith; aligned = λ base h. h; power = inr power; writable = refl }

section-aligned : (s : Section) → IsAligned s → (base : ℕ) → base % max 1 (2 ^ exponent s.align) ≡ 0 → base % max 1 s.align ≡ 0
section-aligned s is base h = by is.0
  where
    by : (s.align ≡ 0) ⊎ ((k : ℕ) × (k ≤ 16) × (s.align ≡ 2 ^ k)) → base % max 1 s.align ≡ 0
    by (inl none) = subst (λ z. base % max 1 z ≡ 0) (sym none) (omega arith)
    by (inr some) =
        let same : exponent s.align ≡ some.0 = ap exponent some.2 ∙ exponent-of some.0 some.1 in
        subst (λ z. base % max 1 z ≡ 0) (sym some.2) (subst (λ k. base % max 1 (2 ^ k) ≡ 0) same h)

copy-aligned : (a base : ℕ) → base % max 1 16 ≡ 0 → base % max 1 (copy_alignment a) ≡ 0
copy-aligned a base h = by (a % 16 == 0) (a % 8 == 0) (a % 4 == 0) (a % 2 == 0)
  where
    by : (s t u v : Bool) → base % max 1 (cond s 16 (cond t 8 (cond u 4 (cond v 2 1)))) ≡ 0
    by true t u v = h
    by false true u v = omega (arith, h)
    by false false true v = omega (arith, h)
    by false false false true = omega (arith, h)
    by false false false false = omega arith

copy-power : (a : ℕ) → IsPowerOfTwo (copy_alignment a)
copy-power a = by (a % 16 == 0) (a % 8 == 0) (a % 4 == 0) (a % 2 == 0)
  where
    by : (s t u v : Bool) → IsPowerOfTwo (cond s 16 (cond t 8 (cond u 4 (cond v 2 1))))
    by true t u v = (4, refl)
    by false true u v = (3, refl)
    by false false true v = (2, refl)
    by false false false true = (1, refl)
    by false false false false = (0, refl)

copies-serve : (file : List ℕ) (copies : List Slot) → Both Serves (map copied_region copies) (map copy_region (map (text_copy file) copies))
copies-serve file [] = tt
copies-serve file (c ∷ copies) = (record { size = omega arith; aligned = copy-aligned c.address; power = inr (copy-power c.address); writable = refl }, copies-serve file copies)

-- ---- sizes of lines

module _ (items : Items) (layout : Layout) where
  line-size : (line : Item (List ℕ)) → length (line_bytes items layout line) ≡ line_size line
  line-size (Bytes bytes) = refl
  line-size (Quad sym) = refl
  line-size (LongDiff code table) = refl
  line-size (Zero n) = length-replicate n 0
  line-size _ = refl

  lines-size : (lines : Items) → length (flat_map (line_bytes items layout) lines) ≡ size_of lines
  lines-size [] = refl
  lines-size (line ∷ lines) =
      let both = length-append (line_bytes items layout line) (flat_map (line_bytes items layout) lines) in
      let first = line-size line in
      let rest = lines-size lines in
      let sum : size_of (line ∷ lines) ≡ line_size line + size_of lines = sum_by-cons line_size line lines in
      omega (arith, both, first, rest, sum)

-- ---- the regions

module _ (file : List ℕ) (probes : Probes) (clean : IsClean file) (layout : Layout)
    (rows : (n : ℕ) → n < length (kept_sections file) → Both (ByteStands (text_addresses file layout)) (start_cells file (section_number file n)) (section_bytes (items_with file probes) layout (text_section file n))) where
  abbrev l : Addresses
  l = text_addresses file layout

  abbrev file_ground : Ground
  file_ground = ground_of file (start_contents file)

  abbrev shown : Ground
  shown = text_ground (items_with file probes) layout

  section-size : (n : ℕ) → n < length (kept_sections file) → (section_number file n).size ≡ size_of (section_lines file n)
  unfolding start_cells
  section-size n low =
      let both = same-length (ByteStands (text_addresses file layout)) (start_cells file (section_number file n)) (section_bytes (items_with file probes) layout (text_section file n)) (rows n low) in
      let lines = lines-size (items_with file probes) layout (section_lines file n) in
      let cells = length-map (range_with_len (section_number file n).addr (section_number file n).size) (λ a. start_cell file (section_number file n) a) in
      let count = length-range_with_len (section_number file n).addr (section_number file n).size in
      omega (arith, both, lines, cells, count)

  section-serves : (n : ℕ) → n < length (kept_sections file) → Serves (kept_region (section_number file n)) (section_region (text_section file n))
  section-serves n low =
      let s = section_number file n in
      let kept = is-kept file s clean.elf (kept-number file n low) in
      let is = placed_aligned file s clean.elf kept.listed kept.placed in
      let same = section-size n low in
      record { size = omega (arith, same); aligned = section-aligned (section_number file n) is; power = power is.0; writable = refl }
    where
      power : ((section_number file n).align ≡ 0) ⊎ ((k : ℕ) × (k ≤ 16) × ((section_number file n).align ≡ 2 ^ k)) → ((section_number file n).align ≡ 0) ⊎ IsPowerOfTwo (section_number file n).align
      power (inl none) = inl none
      power (inr some) = inr (some.0, some.2)

  sections-serve : Both Serves (map kept_region (kept_sections file)) (map section_region (sections_of (items_with file probes)))
  sections-serve =
      let n = length (kept_sections file) in
      subst (λ xs. Both Serves xs (map section_region (sections_of (items_with file probes)))) (sym (ap (map kept_region) (kept-are file) ∙ map-map kept_region (section_number file) (range_with_len 0 n)))
      (subst (λ ys. Both Serves (map (λ k. kept_region (section_number file k)) (range_with_len 0 n)) ys) (sym (ap (map section_region) (sections-are file probes) ∙ map-map section_region (text_section file) (range_with_len 0 n)))
      (numbered Serves (λ k. kept_region (section_number file k)) (λ k. section_region (text_section file k)) 0 n (λ k low high. section-serves k (omega (arith, high)))))

  pub data-serves : Both Serves (map kept_region (kept_sections file) ++ map copied_region (slots.copies_of file)) (map section_region (sections_of (items_with file probes)) ++ map copy_region (copies_of (items_with file probes)))
  data-serves =
      joined Serves (map kept_region (kept_sections file)) (map section_region (sections_of (items_with file probes))) (map copied_region (slots.copies_of file)) (map copy_region (copies_of (items_with file probes))) sections-serve
      (subst (λ cs. Both Serves (map copied_region (slots.copies_of file)) (map copy_region cs)) (sym (copies-are file probes)) (copies-serve file (slots.copies_of file)))

  -- the counters are one region over words and in the text
  pub counters-place : lines.counters_number (items_with file probes) ≡ counters_number file_ground
  counters-place =
      let sections = same-length Serves (map kept_region (kept_sections file)) (map section_region (sections_of (items_with file probes))) sections-serve in
      let first = length-map (sections_of (items_with file probes)) section_region in
      let second = length-map (copies_of (items_with file probes)) copy_region in
      let copies = ap length (copies-are file probes) ∙ length-map (slots.copies_of file) (text_copy file) in
      let third = length-map (slots.copies_of file) copied_region in
      let whole = length-append (map kept_region (kept_sections file)) (map copied_region (slots.copies_of file)) in
      omega (arith, sections, first, copies, third, whole)

  module _ (start : Start) where
    regions-serve : Both Serves (regions_of file_ground start) (regions_of shown start)
    regions-serve =
        joined Serves (map kept_region (kept_sections file) ++ map copied_region (slots.copies_of file)) (map section_region (sections_of (items_with file probes)) ++ map copy_region (copies_of (items_with file probes)))
        (start_regions file_ground start) (start_regions shown start) data-serves
        (record { size = omega arith; aligned = λ base h. h; power = inr (3, refl); writable = refl }, (itself _ (12, refl), (itself _ (4, refl), (itself _ (3, refl), tt))))

    pub regions-count : length file_ground.regions ≡ length shown.regions
    regions-count = same-length Serves (map kept_region (kept_sections file) ++ map copied_region (slots.copies_of file)) (map section_region (sections_of (items_with file probes)) ++ map copy_region (copies_of (items_with file probes))) data-serves

    pub text-laid : IsTextLayout file (items_with file probes) start layout → RegionsAreLaidOut l (words_placed file_ground start) (numbers_placed shown start layout.region)
    text-laid is =
        placed-laid l (words_placed file_ground start) (numbers_placed shown start layout.region) (text-placed (items_with file probes) layout start [] is.regions_laid)
        placed (λ r low. bases-are shown start layout.region r (omega (arith, low, count))) (λ r low. bases-are shown start layout.region r low)
        bytes writable (ap (λ n. n + 3) (sym regions-count)) (omega (arith, size))
      where
        count : length (regions_of file_ground start) ≡ length (regions_of shown start)
        count = same-length Serves (regions_of file_ground start) (regions_of shown start) regions-serve

        size : length (regions_of file_ground start) ≡ length file_ground.regions + length (start_regions file_ground start)
        size = length-append file_ground.regions (start_regions file_ground start)

        there : (r : ℕ) (a : Region) → slice_get (regions_of file_ground start) r ≡ Some a → Tied Serves r a (regions_of shown start)
        there r a e = tied Serves (regions_of file_ground start) (regions_of shown start) regions-serve r a e

        placed : (r : ℕ) (a : Region) → slice_get (regions_of file_ground start) r ≡ Some a → IsPlacedAt (layout.region r) a
        placed r a e =
            let other = there r a e in
            let at = slice_get-map extent_of (regions_of shown start) r ∙ ap (option_map extent_of) other.at in
            let same = other.ties.size in
            let most = is.regions_laid.most r (extent_of other.item) at in
            record { least = is.regions_laid.least r (extent_of other.item) at; most = omega (arith, most, same); power = other.ties.power; aligned = other.ties.aligned (layout.region r) (is.regions_laid.aligned r (extent_of other.item) at) }

        bytes : (r o : ℕ) → is_byte_of (regions_of file_ground start) file_ground.holes r o ≡ true → is_byte_of (regions_of shown start) [] r o ≡ true
        bytes r o h =
            let byte = byte-of (regions_of file_ground start) file_ground.holes r o h in
            let other = there r byte.region byte.at in
            let within = byte.within in
            let same = other.ties.size in
            is-byte (regions_of shown start) [] r o other.item other.at (omega (arith, within, same)) refl

        writable : (r : ℕ) → places.is_writable (regions_of file_ground start) r ≡ true → places.is_writable (regions_of shown start) r ≡ true
        writable r h = by_region (slice_get (regions_of file_ground start) r) refl h
          where
            by_region : (o : Option Region) → slice_get (regions_of file_ground start) r ≡ o → unwrap_or (option_map (λ (region : Region). region.writable) o) false ≡ true → unwrap_or (option_map (λ (region : Region). region.writable) (slice_get (regions_of shown start) r)) false ≡ true
            by_region None e g = cc
            by_region (Some a) e g =
                let other = there r a e in
                ap (λ o. unwrap_or (option_map (λ (region : Region). region.writable) o) false) other.at ∙ sym other.ties.writable ∙ g
