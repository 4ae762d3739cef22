-- What the rule gives for a program is a layout.
use Rattle.std.proofs.Common.{◌≡◌, ◌≢◌, inl, inr, ℕ, suc, ◌+◌, ◌-◌, ◌*◌, ◌^◌, ◌<◌, ◌≤◌, Bool, true, false, not, ◌||◌, nat_lt, nat_le, List, [], ◌∷◌, ◌++◌, length, map, drop, Some, refl, sym, ap, subst, ◌∙◌, arith, slice_get, slice_index, option_map, Contains, if◌then◌else◌, ◌⊎◌}
use Rattle.std.specs.List.{position_or_len}
use Rattle.std.specs.Str.{bytes_eq}
use Rattle.std.proofs.lemmas.Bool.{leb-true, ltb-true}
use Rattle.std.proofs.lemmas.List.{length-map, get_or_append_left, get_or-append-add, length-append}
use Rattle.std.proofs.lemmas.List.Sums.{prefix_len-le-length, sum_by-append, sum_by-cons}
use Rattle.std.proofs.lemmas.Option.{slice_get_within}
use Rattle.std.proofs.lemmas.Slice.Eq.{bytes_eq-Decides}
use Rattle.x86_insn.specs.declared.instruction.Insn.{Insn}
use Rattle.x86_insn.specs.References.{reference_of}
use Rattle.asm_items.specs.declared.item.Sym.{Sym}
use Rattle.asm_items.specs.declared.item.Sym.TheVariants.{Code}
use Rattle.asm_items.specs.declared.item.Item.{Item}
use Rattle.asm_items.specs.declared.item.Item.TheVariants.{Label, Ins, LongDiff}
use Rattle.asm_items.specs.declared.item.Label as label_type
use Rattle.asm_items.specs.declared.item.Label.TheVariants as label
use Rattle.asm_items.specs.Lines.{Items, DataSection, copies_number, copies_of, is_copied, line_size, sections_of, size_of, used_names}
use Rattle.asm_items.specs.Layout.{AreDisjoint, Extent, IsInReach, IsLayout, IsOutside, Layout, distance, next_place, printed_insn, symbol_at, table_distance}
use Rattle.rw_layout.specs.declared.laying.Order.{Order}
use Rattle.rw_layout.specs.Checks.{IsProgram, IsRepeated, Nowhere}
use Rattle.rw_layout.specs.Program.{IsText, Numbered, shown}
use Rattle.asm_items.specs.Named.{named}
use Rattle.rw_layout.specs.Reach.{Distance, IsFar, is_in_reach}
use Rattle.rw_layout.specs.Rule.{behind_copies, behind_units, copy_bases, copy_extent, counters_base, finish_address, first_address, first_name_address, functions_number, label_line, layout_of, line_address, name_address, own_names, placed_size, placed_size_of, region_bases, run_bases, section_bases, stack_base, arguments_base, canary_base, fresh_bases, unit_bases}
use Rattle.rw_layout.specs.RunRegions.{RunRegions, HasRoom, IsSmallProgram, AreUsed, fresh_sizes, run_extents}
use Rattle.rw_layout.proofs.Lines.{item-formed}
use Rattle.rw_layout.proofs.Placed.{AreCrossApart, Laid, below-cross, more-laid, next-is, none-laid, turned-cross, wider}
use Rattle.rw_layout.proofs.UnitLines.{line-address, begun_before}
use Rattle.rw_layout.proofs.PartsOrder.{BeginsInUnits, are-text, begins-in-units, ordered}
use Rattle.rw_layout.proofs.UnitSizes.{section-sized}
use Rattle.rw_layout.proofs.Limits.{names-few, within-limits}
use Rattle.rw_layout.proofs.SectionLines.{section-line}
use Rattle.rw_layout.proofs.RegionsLaid.{IsSmall, copies-end, copies-from, copies-laid, counters-laid, early-cross, regions-laid, section-base, sections-laid, sections-length, text-cross, units-from}
use Rattle.rw_layout.proofs.InsnsLaid.{address-labels, insn-within, insns-laid, region-apart}
use Rattle.rw_layout.proofs.NamePlaces.{copy-at, copy-is-copied, first-of, label-at, own-any, own-le}

-- ---- sizes of the first lines of a section

size-le : (lines : Items) → size_of lines ≤ placed_size_of lines
size-le [] = omega arith
size-le (line ∷ lines) =
    let placed = sum_by-cons placed_size line lines in
    let sized = sum_by-cons line_size line lines in
    let one = line-le line in
    let rest = size-le lines in
    omega (arith, placed, sized, one, rest)
  where
    line-le : (line : Item (List ℕ)) → line_size line ≤ placed_size line
    line-le (Ins i) = omega arith
    line-le _ = omega arith

front-size : (before after : Items) → placed_size_of (before ++ after) ≡ size_of (before ++ after) → placed_size_of before ≡ size_of before
front-size before after same =
    let placed = sum_by-append placed_size before after in
    let sized = sum_by-append line_size before after in
    let front = size-le before in
    let rest = size-le after in
    omega (arith, same, placed, sized, front, rest)

-- ---- reach

near : (to from : ℕ) → is_in_reach (distance to from) ≡ true → IsInReach to from
near to from h = by_sign (nat_lt (distance to from) (2 ^ 31)) refl h
  where
    by_sign : (t : Bool) → nat_lt (distance to from) (2 ^ 31) ≡ t → (t || nat_le (2 ^ 64 - 2 ^ 31) (distance to from)) ≡ true → IsInReach to from
    by_sign true e h = inl (ltb-true (distance to from) (2 ^ 31) e)
    by_sign false e h = inr (leb-true (2 ^ 64 - 2 ^ 31) (distance to from) h)

-- ---- the layout

module _ (items : Items) (order : Order) (gap : ℕ) (small : IsSmall items) (close : gap ≤ 2 ^ 20) (begin : BeginsInUnits items) (once : Nowhere (IsRepeated items)) (run : RunRegions) (room : HasRoom run) where
  abbrev layout : Layout
  layout = layout_of items order gap (fresh_sizes run)

  abbrev address : ℕ → ℕ
  address q = line_address items order gap q

  abbrev base : ℕ → ℕ
  base r = slice_index (run_bases items order gap (fresh_sizes run)) r

  -- ---- bases of regions

  abbrev others : List ℕ
  others = stack_base ∷ arguments_base ∷ canary_base ∷ fresh_bases (fresh_sizes run)

  lengths : length (section_bases items order gap ++ copy_bases items order gap) ≡ copies_number items + length (copy_bases items order gap)
  lengths = length-append (section_bases items order gap) (copy_bases items order gap) ∙ ap (λ n. n + length (copy_bases items order gap)) (sections-length items order gap small close)

  front-base : (r : ℕ) → r < length (section_bases items order gap ++ copy_bases items order gap)
      → slice_index (run_bases items order gap (fresh_sizes run)) r ≡ slice_index (section_bases items order gap ++ copy_bases items order gap) r
  front-base r inside =
      let more : r < length (region_bases items order gap) = omega (arith, inside, length-append (section_bases items order gap ++ copy_bases items order gap) (counters_base items order gap ∷ [])) in
      get_or_append_left (region_bases items order gap) others 0 r more
      ∙ get_or_append_left (section_bases items order gap ++ copy_bases items order gap) (counters_base items order gap ∷ []) 0 r inside

  section-region : (k : ℕ) → k < copies_number items → slice_index (run_bases items order gap (fresh_sizes run)) k ≡ slice_index (unit_bases items order gap) (functions_number items + k)
  section-region k inside =
      let number = sections-length items order gap small close in
      front-base k (omega (arith, inside, lengths))
      ∙ get_or_append_left (section_bases items order gap) (copy_bases items order gap) 0 k (omega (arith, inside, number))
      ∙ section-base items order gap small close k inside

  copy-region : (k : ℕ) → k < length (copies_of items) → slice_index (run_bases items order gap (fresh_sizes run)) (copies_number items + k) ≡ slice_index (copy_bases items order gap) k
  copy-region k inside =
      let number = sections-length items order gap small close in
      let laid = copies-laid items order gap small close in
      let count : length (copy_bases items order gap) ≡ length (copies_of items) = laid.lengths ∙ length-map-copies (copies_of items) in
      front-base (copies_number items + k) (omega (arith, inside, lengths, count))
      ∙ ap (λ n. slice_index (section_bases items order gap ++ copy_bases items order gap) (n + k)) (sym number)
      ∙ get_or-append-add (section_bases items order gap) (copy_bases items order gap) k 0
    where
      length-map-copies : (copies : List (List ℕ × ℕ)) → length (map copy_extent copies) ≡ length copies
      length-map-copies [] = refl
      length-map-copies (copy ∷ copies) = ap suc (length-map-copies copies)

  -- ---- labels

  labels : (q : ℕ) (l : label_type.Label) (i : Insn (Sym (List ℕ))) → slice_get items q ≡ Some (Label l) → printed_insn (drop q items) ≡ Some i
      → line_address items order gap (label_line items l) ≡ line_address items order gap (next_place items q)
  labels q l i e f = ap address (label-at items q l once e) ∙ sym (address-labels items order gap small close begin q)

  data-labels : (k : ℕ) (s : DataSection) (before after : Items) (l : label_type.Label) → slice_get (sections_of items) k ≡ Some s → s.lines ≡ before ++ Label l ∷ after
      → line_address items order gap (label_line items l) ≡ slice_index (run_bases items order gap (fresh_sizes run)) k + size_of before
  data-labels k s before after l e f =
      let placed = section-line items small.text k s before after (Label l) 0 e f in
      let there : line_address items order gap (label_line items l) ≡ line_address items order gap placed.place = ap address (label-at items placed.place l once placed.here) in
      let at = line-address items order gap placed.place in
      let unit : slice_index (unit_bases items order gap) (begun_before items placed.place - 1) ≡ slice_index (unit_bases items order gap) (functions_number items + k) =
      ap (λ n. slice_index (unit_bases items order gap) n) (ap (λ n. n - 1) placed.unit ∙ omega arith) in
      let region = section-region k (slice_get_within (sections_of items) k s e) in
      let sized : placed_size_of (before ++ Label l ∷ after) ≡ size_of (before ++ Label l ∷ after) = subst (λ xs. placed_size_of xs ≡ size_of xs) f (section-sized items small.text k s e) in
      let front = front-size before (Label l ∷ after) sized in
      omega (arith, there, at, unit, region, front, placed.offset_is)

  -- ---- names

  copied : (k : ℕ) (copy : List ℕ × ℕ) → slice_get (copies_of items) k ≡ Some copy → name_address items order gap copy.0 ≡ slice_index (run_bases items order gap (fresh_sizes run)) (copies_number items + k)
  copied k copy e =
      ap (λ t. if t then slice_index (copy_bases items order gap) (position_or_len (λ c. bytes_eq c.0 copy.0) (copies_of items))
      else first_name_address items order gap + 16 * position_or_len (λ other. bytes_eq other copy.0) (own_names items)) (copy-is-copied items k copy e)
      ∙ ap (λ n. slice_index (copy_bases items order gap) n) (copy-at items k copy once e)
      ∙ sym (copy-region k (slice_get_within (copies_of items) k copy e))

  own-address : (name : List ℕ) → is_copied items name ≡ false → name_address items order gap name ≡ first_name_address items order gap + 16 * position_or_len (λ other. bytes_eq other name) (own_names items)
  own-address name none =
      ap (λ t. if t then slice_index (copy_bases items order gap) (position_or_len (λ c. bytes_eq c.0 name) (copies_of items))
      else first_name_address items order gap + 16 * position_or_len (λ other. bytes_eq other name) (own_names items)) none

  own-range : (name : List ℕ) → is_copied items name ≡ false → (behind_copies items order gap ≤ name_address items order gap name) × (name_address items order gap name + 1 ≤ 2 ^ 45)
  own-range name none =
      let at = own-address name none in
      let next = next-is (behind_copies items order gap) 16 (omega arith) in
      let place : position_or_len (λ other. bytes_eq other name) (own_names items) ≤ length (own_names items) = prefix_len-le-length (λ other. not (bytes_eq other name)) (own_names items) in
      let own = own-le items in
      let few = names-few items small.formed in
      let end = copies-end items order gap small close in
      (omega (arith, at, next.low), omega (arith, at, next.high, place, own, few, end, small.lines))

  abbrev byte_extent : Extent
  byte_extent = record { size = 1; align = 1 }

  byte-laid : (a low high : ℕ) → low ≤ a → a + 1 ≤ high → Laid (byte_extent ∷ []) (a ∷ []) low high
  byte-laid a low high from to = more-laid byte_extent a [] [] low high high from to (omega arith) (omega arith) (none-laid high high)

  outside : (a : ℕ) → a < 2 ^ 64 → AreCrossApart (byte_extent ∷ []) (a ∷ []) (run_extents items run) (run_bases items order gap (fresh_sizes run)) → (a < first_address) ⊎ (behind_units items order gap ≤ a)
      → IsOutside items (run_extents items run) (layout_of items order gap (fresh_sizes run)) a
  outside a fits cross beside = record {
    fits = fits;
    off_regions = λ r x e. cross.cross 0 r byte_extent x refl e;
    off_insns = λ q i e. off q i e beside;
  }
    where
      off : (q : ℕ) (i : Insn (Sym (List ℕ))) → slice_get items q ≡ Some (Ins i) → (a < first_address) ⊎ (behind_units items order gap ≤ a) → AreDisjoint a 1 (line_address items order gap q) 8
      off q i e (inl h) o p low high same = let is = (insn-within items order gap small close begin q i e).0 in omega (arith, is, h, low, same)
      off q i e (inr h) o p low high same = let is = (insn-within items order gap small close begin q i e).1 in omega (arith, is, h, high, same)

  own-outside : (name : List ℕ) → is_copied items name ≡ false → IsOutside items (run_extents items run) (layout_of items order gap (fresh_sizes run)) (name_address items order gap name)
  own-outside name none =
      let range = own-range name none in
      let from = copies-from items order gap small close in
      let start = units-from items order gap small close in
      let counters = counters-laid items order gap small close in
      let is = byte-laid (name_address items order gap name) (behind_copies items order gap) (2 ^ 45) range.0 range.1 in
      let cross = text-cross items order gap small close run room (byte_extent ∷ []) (name_address items order gap name ∷ [])
      (wider _ _ (behind_copies items order gap) (2 ^ 45) first_address (2 ^ 45) is (omega (arith, from, start)) (omega arith))
      (turned-cross _ _ _ _ (below-cross _ _ _ _ first_address (behind_units items order gap) (behind_copies items order gap) (2 ^ 45) (sections-laid items order gap small close) is from))
      (turned-cross _ _ _ _ (below-cross _ _ _ _ (behind_units items order gap) (behind_copies items order gap) (behind_copies items order gap) (2 ^ 45) (copies-laid items order gap small close) is (omega arith)))
      (turned-cross _ _ _ _ (below-cross _ _ _ _ first_address (behind_units items order gap) (behind_copies items order gap) (2 ^ 45) counters.laid is from)) in
      outside (name_address items order gap name) (omega (arith, range.1)) cross (inr (omega (arith, range.0, from)))

  finish-outside : IsOutside items (run_extents items run) (layout_of items order gap (fresh_sizes run)) finish_address
  finish-outside =
      outside finish_address (omega arith) (early-cross items order gap small close run room (byte_extent ∷ []) (finish_address ∷ []) (byte-laid finish_address 57352 first_address (omega arith) (omega arith))) (inl (omega arith))

  finish-apart : (name : List ℕ) → is_copied items name ≡ false → name_address items order gap name ≢ finish_address
  finish-apart name none same =
      let range = own-range name none in
      let from = copies-from items order gap small close in
      let start = units-from items order gap small close in
      omega (arith, range.0, from, start, same)

  -- names with one address are one name
  names-apart : (name other : List ℕ) → Contains (used_names items) name → is_copied items name ≡ false → Contains (used_names items) other → is_copied items other ≡ false
      → name_address items order gap name ≡ name_address items order gap other → name ≡ other
  names-apart name other used none used_too none_too same =
      let at = own-address name none in
      let its = own-address other none_too in
      let one = first-of (λ z. bytes_eq z name) (own_names items) (own-any items name used none) in
      let two = first-of (λ z. bytes_eq z other) (own_names items) (own-any items other used_too none_too) in
      let places : position_or_len (λ z. bytes_eq z name) (own_names items) ≡ position_or_len (λ z. bytes_eq z other) (own_names items) = omega (arith, at, its, same) in
      let found : Some one.0 ≡ Some two.0 = sym one.1 ∙ ap (slice_get (own_names items)) places ∙ two.1 in
      let is : one.0 ≡ name = (bytes_eq-Decides one.0 name).0 one.2 in
      let is_too : two.0 ≡ other = (bytes_eq-Decides two.0 other).0 two.2 in
      cc

  -- ---- the whole

  module _ (none_far : (q : ℕ) → IsFar items (layout_of items order gap (fresh_sizes run)) q → ⊥) where
    reaches : (q : ℕ) (i : Insn (Sym (List ℕ))) (r : Sym (List ℕ)) → slice_get items q ≡ Some (Ins i) → reference_of i ≡ Some r
        → IsInReach (symbol_at items (layout_of items order gap (fresh_sizes run)) r) (line_address items order gap q + 8)
    reaches q i r e f = by_test (is_in_reach (distance (symbol_at items layout r) (line_address items order gap q + 8))) refl
      where
        by_test : (t : Bool) → is_in_reach (distance (symbol_at items layout r) (line_address items order gap q + 8)) ≡ t → IsInReach (symbol_at items layout r) (line_address items order gap q + 8)
        by_test true h = near (symbol_at items layout r) (line_address items order gap q + 8) h
        by_test false h =
            let d : Distance = record { symbol = r; bytes = distance (symbol_at items layout r) (line_address items order gap q + 8) } in
            absurd (none_far q (d, (Ins i, e, ap (option_map (λ s. record { symbol = s; bytes = distance (symbol_at items layout s) (line_address items order gap q + 8) })) f), ap not h))

    table-reaches : (q code table : ℕ) → slice_get items q ≡ Some (LongDiff code table)
        → IsInReach (line_address items order gap (label_line items (label.Code code))) (line_address items order gap (label_line items (label.Table table)))
    table-reaches q code table e = by_test (is_in_reach (table_distance layout code table)) refl
      where
        by_test : (t : Bool) → is_in_reach (table_distance layout code table) ≡ t → IsInReach (line_address items order gap (label_line items (label.Code code))) (line_address items order gap (label_line items (label.Table table)))
        by_test true h = near (line_address items order gap (label_line items (label.Code code))) (line_address items order gap (label_line items (label.Table table))) h
        by_test false h = absurd (none_far q (record { symbol = Code code; bytes = table_distance layout code table }, (LongDiff code table, e, refl), ap not h))

    pub rule-laid : (names : List (List ℕ)) → AreUsed items names → IsLayout items (run_extents items run) names (layout_of items order gap (fresh_sizes run))
    rule-laid names used = record {
      regions_laid = regions-laid items order gap small close run room;
      insns_laid = insns-laid items order gap small close begin (fresh_sizes run);
      apart = region-apart items order gap small close begin run room;
      labels = labels;
      data_labels = data-labels;
      copies = copied;
      names_outside = λ name own. own-outside name own.1;
      names_apart = λ name other own own_too differ same. differ (names-apart name other (used name own.0) own.1 (used other own_too.0) own_too.1 same);
      finish_outside = finish-outside;
      finish_apart = λ name own. finish-apart name own.1;
      reach = reaches;
      table_reach = table-reaches;
    }

-- a program within the bounds of the rule is small
is-small : (items : Items) → IsSmallProgram items → IsSmall items
is-small items is = record {
  text = are-text items (ordered items is.program.ordered);
  formed = λ p item e. item-formed items p item is.formed e;
  limits = within-limits items is.program.fits;
  lines = is.lines;
  units = is.units;
}

pub rule-gives-layouts : (items : Items) (order : Order) (gap : ℕ) (run : RunRegions) (names : List (List ℕ)) → IsSmallProgram items → gap ≤ 2 ^ 20 → HasRoom run → AreUsed items names
    → Nowhere (IsFar items (layout_of items order gap (fresh_sizes run))) → IsLayout items (run_extents items run) names (layout_of items order gap (fresh_sizes run))
rule-gives-layouts items order gap run names is close room used none_far =
    rule-laid items order gap (is-small items is) close (begins-in-units items (ordered items is.program.ordered)) is.program.once run room none_far names used

pub program-small : (text : Numbered) → IsText text → IsProgram (shown text) → functions_number (shown text) + copies_number (shown text) < 2 ^ 24 → IsSmallProgram (shown text)
program-small text is program units =
    let same : length (shown text) ≡ length text.items = length-map text.items (named text.names) in
    record { program = program; formed = is.formed; lines = omega (arith, same, is.few); units = units }
