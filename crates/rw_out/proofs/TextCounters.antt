-- The counters of a text lie one after another in their region, where its lines refer to them.
use Rattle.std.proofs.Common.{◌≡◌, ℕ, ◌+◌, ◌*◌, ◌%◌, ◌^◌, ◌<◌, ◌≤◌, List, [], ◌∷◌, ◌++◌, length, Some, None, Result, Ok, Err, Bool, true, false, cond, refl, sym, ap, subst, ◌∙◌, arith, length-append}
use Rattle.std.specs.Prelude.{slice_get, option_and_then, option_map}
use Rattle.std.specs.Option.{unwrap_or}
use Rattle.std.proofs.lemmas.List.FromFn.{length-map-range_with_len}
use Rattle.asm_items.specs.declared.item.Sym.TheVariants as sym
use Rattle.asm_items.specs.Lines.{counters_size}
use Rattle.asm_items.specs.Layout.{Layout, section_bytes, symbol_at}
use Rattle.rw_words.specs.declared.atom.Atom.{Atom}
use Rattle.rw_words.specs.declared.atom.Atom.TheVariants.{Ptr}
use Rattle.rw_words.specs.declared.kind.Kind.TheVariants.{Whole}
use Rattle.rw_words.specs.Addresses.{Addresses}
use Rattle.rw_domain.specs.declared.cause.Cause.{Cause}
use Rattle.rw_domain.specs.declared.cause.Cause.TheVariants.{NotWritable}
use Rattle.rw_domain.specs.declared.place.Access.TheVariants.{Write}
use Rattle.rw_domain.specs.declared.place.Place.{Place}
use Rattle.rw_domain.specs.declared.place.Region.{Region}
use Rattle.rw_domain.specs.Placed.{Placed}
use Rattle.rw_domain.specs.Stands.{Both}
use Rattle.rw_domain.specs.NumberPlaces.{accessed_place, is_inside, is_writable, numbers_over, place_inside, place_of, pointed_place}
use Rattle.rw_domain.specs.RegionsLaidOut.{ByteStands}
use Rattle.rw_domain.specs.LaidOut.{DomainsAreLaidOut}
use Rattle.rw_domain.specs.Symbols.{kind_place}
use Rattle.rw_domain.proofs.RegionBytes.{inside-from}
use Rattle.rw_domain.proofs.PlacesOfWords.{SamePlace, place-stands}
use Rattle.rw_elf.specs.Tables.{kept_sections}
use Rattle.rw_probe.specs.Forgetting.{counter_place}
use Rattle.rw_probe.specs.ProbedPrograms.{HasCounters}
use Rattle.rw_code.specs.Ground.{Ground, ground_of}
use Rattle.rw_code.specs.Start.{Start, start_regions, regions_of, counters_number, words_placed, numbers_placed}
use Rattle.rw_code.specs.Printed.{printed, text_ground}
use Rattle.rw_code.proofs.Mirrors.{are-laid}
use Rattle.rw_code.proofs.TextPlaced.{text-placed}
use Rattle.rw_data.specs.Regions.{start_cells, start_contents}
use Rattle.rw_data.proofs.Clean.{IsClean}
use Rattle.rw_out.specs.Items.{Probes, section_number, items_with}
use Rattle.rw_out.specs.Simulates.{names_of, IsTextLayout, text_addresses}
use Rattle.rw_out.proofs.TextLines.{counters-are, text_section}
use Rattle.rw_out.proofs.TextLaid.{counters-place, regions-count}

-- the item behind a list
behind : {A : Type 0} (xs ys : List A) (y : A) → slice_get (xs ++ y ∷ ys) (length xs) ≡ Some y
behind [] ys y = refl
behind (x ∷ xs) ys y = behind xs ys y

-- of atoms, places alone
abbrev is_place : Atom → Bool
is_place (Ptr r o) = true
is_place _ = false

abbrev granted : Place → Bool → Result Place Cause
granted p b = cond b (Ok p) (Err NotWritable)

-- a place over words that a region has
region-place : (regions : List Region) (r o len : ℕ) (region : Region) → slice_get regions r ≡ Some region → o + len ≤ region.size → region.writable ≡ true
    → kind_place regions [] (Whole (Ptr r o)) len Write ≡ Ok (record { region = r; offset = o })
region-place regions r o len region at within writable =
    let inside : is_inside [] region r o (o + len) ≡ true = inside-from [] region r o (o + len) within refl in
    let placed : pointed_place regions [] r o len ≡ Some (record { region = r; offset = o }) =
    ap (option_and_then (λ a. place_inside [] r a o len)) at ∙ ap (λ b. cond b (Some (let p : Place = record { region = r; offset = o } in p)) None) inside in
    let writes : is_writable regions r ≡ true = ap (λ x. unwrap_or (option_map (λ (a : Region). a.writable) x) false) at ∙ writable in
    ap (accessed_place regions Write) placed ∙ ap (granted (record { region = r; offset = o })) writes

same-ok : (p : Place) (x : Result Place Cause) → SamePlace (Ok p) x → x ≡ Ok p
same-ok p (Ok q) h = ap Ok (sym h)
same-ok p (Err c) h = absurd h

module _ (file : List ℕ) (probes : Probes) (clean : IsClean file) (layout : Layout)
    (rows : (n : ℕ) → n < length (kept_sections file) → Both (ByteStands (text_addresses file layout)) (start_cells file (section_number file n)) (section_bytes (items_with file probes) layout (text_section file n)))
    (start : Start) (is : IsTextLayout file (items_with file probes) start layout) where
  abbrev l : Addresses
  l = text_addresses file layout

  abbrev file_ground : Ground
  file_ground = ground_of file (start_contents file)

  abbrev shown : Ground
  shown = text_ground (items_with file probes) layout

  abbrev laid : Placed
  laid = numbers_placed shown start layout.region

  count : length file_ground.regions ≡ length shown.regions
  count = regions-count file probes clean layout rows start

  -- the regions of the text are laid out among themselves
  lie : DomainsAreLaidOut l is_place (words_placed shown start) laid
  lie = record {
    atoms = record { moved = λ r o p h. refl; met = λ c r o h. cc; code = λ c h. absurd cc; codes_apart = λ c d h k e. absurd cc; near = λ c r o h. absurd cc };
    known_canary = refl;
    laid = are-laid l shown start (text-placed (items_with file probes) layout start [] is.regions_laid);
  }

  abbrev counters : Region
  counters = record { size = counters_size (items_with file probes); align = 8; writable = true; zero = true }

  counters-at : slice_get (regions_of shown start) (counters_number file_ground) ≡ Some counters
  counters-at = ap (slice_get (regions_of shown start)) count ∙ behind shown.regions _ counters

  counter-there : (k : ℕ) → k < probes.counters → (numbers_over laid).place (symbol_at (items_with file probes) layout (sym.Counter k)) 8 Write ≡ Ok (counter_place (counters_number file_ground) k)
  counter-there k low =
      let size = counters-are file probes in
      let r = counters_number file_ground in
      let over_words = region-place (regions_of shown start) r (8 * k) 8 counters counters-at (omega (arith, size, low)) refl in
      let address : symbol_at (items_with file probes) layout (sym.Counter k) ≡ (layout.region r + 8 * k) % 2 ^ 64 = ap (λ n. (layout.region n + 8 * k) % 2 ^ 64) (counters-place file probes clean layout rows) in
      let same = place-stands l is_place (words_placed shown start) laid lie (Whole (Ptr r (8 * k))) (symbol_at (items_with file probes) layout (sym.Counter k)) 8 Write address (omega arith) in
      same-ok (counter_place r k) (accessed_place laid.regions Write (place_of laid (symbol_at (items_with file probes) layout (sym.Counter k)) 8))
      (subst (λ x. SamePlace x (accessed_place laid.regions Write (place_of laid (symbol_at (items_with file probes) layout (sym.Counter k)) 8))) over_words same)

  pub counters-there : HasCounters (printed (items_with file probes) (names_of file (items_with file probes)) layout) sym.Counter (counters_number file_ground) probes.counters laid
  counters-there = record {
    base =
        let size = length-map-range_with_len layout.region 0 (length (regions_of shown start)) in
        let all = length-append shown.regions (start_regions shown start) in
        let same = count in
        omega (arith, size, all, same);
    places = counter-there;
  }
