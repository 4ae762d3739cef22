-- What is known of a program that is laid out.
use Rattle.std.proofs.Common.{◌≡◌, ℕ, ◌+◌, ◌-◌, ◌*◌, ◌^◌, ◌<◌, ◌≤◌, Bool, true, false, List, [], ◌∷◌, ◌++◌, Option, Some, inl, inr, length, map, reverse, refl, sym, ap, subst, ◌∙◌, arith, All}
use Rattle.std.specs.Prelude.{Contains, if◌then◌else◌, option_and_then, option_map, slice_get, slice_index, slice_index_or}
use Rattle.std.specs.Int.{next_multiple_of}
use Rattle.std.specs.List.{position_or_len}
use Rattle.std.specs.Str.{bytes_eq}
use Rattle.std.proofs.lemmas.Bool.{cases_eq}
use Rattle.std.proofs.lemmas.Grind.{reverse_onto}
use Rattle.std.proofs.lemmas.List.{get_or_default, get_or_append_left, length-append, length-map, map-append}
use Rattle.std.proofs.lemmas.Option.{get_or_from_slice_get, slice_get-get_or, slice_get-map, slice_get_within}
use Rattle.asm_items.specs.Layout.{Extent}
use Rattle.asm_items.specs.declared.item.Item.{Item}
use Rattle.asm_items.specs.declared.item.Item.TheVariants.{Ins, Label}
use Rattle.asm_items.specs.declared.item.Label as label_type
use Rattle.asm_items.specs.declared.item.NameId.{NameId}
use Rattle.asm_items.specs.Lines.{Items, copies_number, copies_of, counters_number, is_copied, used_names}
use Rattle.asm_items.specs.Named.{name_of, named}
use Rattle.rw_layout.specs.Checks.{IsProgram}
use Rattle.rw_layout.specs.Program.{IsText, Numbered, shown}
use Rattle.rw_layout.specs.Keys.{Key, KeyAt, AreKeyed, key_of, label_key}
use Rattle.rw_layout.specs.NameTable.{IsTable, copy_name, listed_at, named_at, or_else, own_among, own_name}
use Rattle.rw_layout.specs.Places.{AreInsns, ArePlaced, HasAddress, IsFound, IsInsn, IsInsnAt, IsLaidBy, Laid, address_in, item_in}
use Rattle.rw_layout.specs.Rule.{arguments_base, behind_all, behind_copies, behind_units, canary_base, copy_bases, copy_extent, counters_base, first_address, first_name_address, fresh_bases, functions_number, in_order, label_line, layout_of, line_address, name_address, own_names, placed_size_of, region_bases, run_bases, section_bases, stack_base, unit_bases, units_of}
use Rattle.rw_layout.specs.declared.laying.Order.{Order}
use Rattle.rw_layout.specs.declared.laying.Order.TheVariants.{Forward, Reverse}
use Rattle.rw_layout.specs.declared.units.Room.{Room}
use Rattle.rw_layout.specs.Units.{extent_of}
use Rattle.rw_layout.proofs.Lines.{item-formed}
use Rattle.rw_layout.proofs.PartsOrder.{are-text, begins-in-units, ordered}
use Rattle.rw_layout.proofs.Limits.{within-limits}
use Rattle.rw_layout.proofs.Defined.{named-line}
use Rattle.rw_layout.proofs.InsnLines.{found-one, found-some}
use Rattle.rw_layout.proofs.InsnsLaid.{insns-laid}
use Rattle.rw_layout.proofs.NameFacts.{listed-no, listed-yes}
use Rattle.rw_layout.proofs.NamePlaces.{label-at, own-any}
use Rattle.rw_layout.proofs.Placed.{next-is, reversed-get}
use Rattle.rw_layout.proofs.Used.{at-contained, label-shown}
use Rattle.rw_layout.proofs.RegionsLaid.{IsSmall, copies-end, copies-laid, mapped-get, sections-length, units-end, units-laid, units-length}
use Rattle.rw_layout.proofs.UnitSizes.{text-size, unit-align}

pub small-text : (text : Numbered) → IsText text → IsProgram (shown text) → functions_number (shown text) + copies_number (shown text) < 2 ^ 24 → IsSmall (shown text)
small-text text is program few = record {
  text = are-text (shown text) (ordered (shown text) program.ordered);
  formed = λ p item e. item-formed (shown text) p item is.formed e;
  limits = within-limits (shown text) program.fits;
  lines = omega (arith, length-map text.items (named text.names), is.few);
  units = few;
}

pub text-room : (items : Items) → IsSmall items → placed_size_of items < 2 ^ 62
text-room items small = let most = text-size items small.text in omega (arith, most, small.lines, small.limits.sections, small.limits.counters)

module _ (items : Items) (small : IsSmall items) (order : Order) (gap : ℕ) (close : gap ≤ 2 ^ 20) (rooms : List Room) (are : map extent_of rooms ≡ in_order order (units_of items)) where
  some-aligned : (order : Order) (r : ℕ) (a : Extent) → slice_get (in_order order (units_of items)) r ≡ Some a → 0 < a.align
  some-aligned Forward r a e = (unit-align items small.formed r a e).0
  some-aligned Reverse r a e = (unit-align items small.formed (length (units_of items) - 1 - r) a (reversed-get (units_of items) r a e).1).0

  pub rooms-aligned : All (λ room. 0 < room.align) rooms
  rooms-aligned k d h =
      let at : slice_get (map extent_of rooms) k ≡ Some (extent_of (slice_index_or rooms k d)) = slice_get-map extent_of rooms k ∙ ap (option_map extent_of) (slice_get-get_or rooms k d h) in
      some-aligned order k (extent_of (slice_index_or rooms k d)) (subst (λ es. slice_get es k ≡ Some (extent_of (slice_index_or rooms k d))) are at)

  pub rooms-fit : behind_all gap first_address (map extent_of rooms) < 2 ^ 64
  rooms-fit = let end = units-end items order gap small close in let same = ap (behind_all gap first_address) are in omega (arith, end, same)

pub map-reverse : {A B : Type 0} (f : A → B) (xs : List A) → map f (reverse xs) ≡ reverse (map f xs)
map-reverse f [] = refl
map-reverse f (x ∷ xs) =
    ap (map f) (reverse_onto xs x []) ∙ map-append f (reverse xs) (x ∷ []) ∙ ap (λ ys. ys ++ f x ∷ []) (map-reverse f xs) ∙ sym (reverse_onto (map f xs) (f x) [])

-- ---- the copies, behind the units

pub copies-aligned : (items : Items) (rooms : List Room) → map extent_of rooms ≡ map copy_extent (copies_of items) → All (λ room. 0 < room.align) rooms
copies-aligned items rooms are k d h =
    let at : slice_get (map extent_of rooms) k ≡ Some (extent_of (slice_index_or rooms k d)) = slice_get-map extent_of rooms k ∙ ap (option_map extent_of) (slice_get-get_or rooms k d h) in
    let copy = mapped-get copy_extent (copies_of items) k (extent_of (slice_index_or rooms k d)) (subst (λ es. slice_get es k ≡ Some (extent_of (slice_index_or rooms k d))) are at) in
    let align : 16 ≡ (slice_index_or rooms k d).align = ap (λ (e : Extent). e.align) copy.2 in
    omega (arith, align)

module _ (text : Numbered) (is : IsText text) (program : IsProgram (shown text)) (few : functions_number (shown text) + copies_number (shown text) < 2 ^ 24) (order : Order) (gap : ℕ) (close : gap ≤ 2 ^ 20) where
  abbrev items : Items
  items = shown text

  small : IsSmall items
  small = small-text text is program few

  pub copies-fit : (end : ℕ) (rooms : List Room) → end ≡ behind_units items order gap → map extent_of rooms ≡ map copy_extent (copies_of items) → behind_all 0 end (map extent_of rooms) ≡ behind_copies items order gap
  copies-fit end rooms e are = ap (behind_all 0 end) are ∙ ap (λ n. behind_all 0 n (map copy_extent (copies_of items))) e

  pub copies-low : behind_copies items order gap ≤ 2 ^ 44 + 2 ^ 43
  copies-low = copies-end items order gap small close

  pub name-low : next_multiple_of (behind_copies items order gap) 16 < 2 ^ 62
  name-low = let next = next-is (behind_copies items order gap) 16 (omega arith) in let low = copies-low in omega (arith, next.high, low)

  pub copies-count : length (copy_bases items order gap) ≡ length (copies_of items)
  copies-count = (copies-laid items order gap small close).lengths ∙ length-map (copies_of items) copy_extent

  pub units-count : length (unit_bases items order gap) ≡ length (units_of items)
  units-count = (units-laid items order gap small close).lengths

  pub bases-low : All (λ base. base < 2 ^ 62) (unit_bases items order gap)
  bases-low k d h =
      let laid = units-laid items order gap small close in
      let within : k < length (units_of items) = omega (arith, h, laid.lengths) in
      let unit : Extent = slice_index_or (units_of items) k (record { size = 0; align = 0 }) in
      let most = laid.most k unit (slice_get-get_or (units_of items) k (record { size = 0; align = 0 }) within) in
      let end = units-end items order gap small close in
      let same : slice_index_or (unit_bases items order gap) k d ≡ slice_index (unit_bases items order gap) k = get_or_default (unit_bases items order gap) k d 0 h in
      omega (arith, most, end, same)

  pub regions-fit : functions_number items + copies_number items ≤ length (unit_bases items order gap)
  regions-fit = let all = units-length items order gap small close in let count = units-count in omega (arith, all, count)

  pub lines-fit : placed_size_of items < 2 ^ 62
  lines-fit = text-room items small

  pub regions-count : length (region_bases items order gap) ≡ counters_number items + 1
  regions-count =
      let sections = sections-length items order gap small close in
      let copies = copies-count in
      let all = length-append (section_bases items order gap) (copy_bases items order gap) in
      let more = length-append (section_bases items order gap ++ copy_bases items order gap) (counters_base items order gap ∷ []) in
      omega (arith, sections, copies, all, more)

  module _ (entries : List (Key × ℕ)) (keyed : AreKeyed entries text.items (length text.items)) (addresses insns regions : List ℕ) (table : List (Option ℕ)) (placed : ArePlaced addresses (unit_bases items order gap) items (length text.items))
      (insns_are : AreInsns insns items (length text.items)) (regions_are : regions ≡ region_bases items order gap) (named_are : IsTable text.names table (named_at (copy_bases items order gap) (first_name_address items order gap) (copies_of items) (own_among items items))) (sizes : List ℕ) where
    abbrev laid : Laid
    laid = record { lines = entries; addresses = addresses; insns = insns; regions = regions; names = table }

    line-at : (q : ℕ) (item : Item (List ℕ)) → slice_get items q ≡ Some item → slice_get addresses q ≡ Some (line_address items order gap q)
    line-at q item e = placed q (let within = slice_get_within items q item e in omega (arith, within, length-map text.items (named text.names)))

    label-placed : (l : label_type.Label) → Contains items (Label l) → address_in laid l ≡ Some (line_address items order gap (label_line items l))
    label-placed l at =
        let p = at.0 in
        let here = at-contained items (Label l) at in
        let line = named-line text.names text.items p (Label l) here in
        let is_label : line.0 ≡ Label l = label-shown text.names line.0 l line.2 in
        let key : KeyAt text.items p (label_key l) = ap (option_and_then key_of) line.1 ∙ ap key_of is_label in
        let found = keyed.every (label_key l) p (slice_get_within text.items p line.0 line.1) key in
        ap (option_and_then (slice_get addresses)) found ∙ line-at p (Label l) here ∙ ap (λ q. Some (line_address items order gap q)) (sym (label-at items p l program.once here))

    region-placed : (r : ℕ) → r ≤ counters_number items → slice_get regions r ≡ Some (slice_index (run_bases items order gap sizes) r)
    region-placed r h =
        let within : r < length (region_bases items order gap) = let count = regions-count in omega (arith, h, count) in
        ap (λ rs. slice_get rs r) regions_are ∙ slice_get-get_or (region_bases items order gap) r 0 within
        ∙ ap Some (sym (get_or_append_left (region_bases items order gap) (stack_base ∷ arguments_base ∷ canary_base ∷ fresh_bases sizes) 0 r within))

    name-placed : (id : NameId) → id.0 < length text.names → HasAddress items (name_of text.names id) → slice_get table id.0 ≡ Some (Some (name_address items order gap (name_of text.names id)))
    name-placed id within has = named_are.entries id.0 within ∙ ap Some (by_copy (is_copied items name) refl has)
      where
        name : List ℕ
        name = name_of text.names id

        copied : Option ℕ
        copied = Some (slice_index (copy_bases items order gap) (position_or_len (λ copy. bytes_eq copy.0 name) (copies_of items)))

        other : List ℕ → ℕ
        other n = first_name_address items order gap + 16 * position_or_len (λ o. bytes_eq o n) (own_names items)

        pick : Bool → ℕ
        pick t = if t then slice_index (copy_bases items order gap) (position_or_len (λ copy. bytes_eq copy.0 name) (copies_of items)) else other name

        rest : Option ℕ
        rest = listed_at own_name (λ k. first_name_address items order gap + 16 * k) (own_names items) name

        uncopied : is_copied items name ≡ false → HasAddress items name → Contains (used_names items) name
        uncopied e (inl used) = used
        uncopied e (inr yes_copied) = cc

        by_copy : (t : Bool) → is_copied items name ≡ t → HasAddress items name → named_at (copy_bases items order gap) (first_name_address items order gap) (copies_of items) (own_names items) name ≡ Some (name_address items order gap name)
        by_copy true e h = ap (λ o. or_else o rest) (listed-yes copy_name (slice_index (copy_bases items order gap)) (copies_of items) name e) ∙ sym (ap (λ t. Some (pick t)) e)
        by_copy false e h =
            ap (λ o. or_else o rest) (listed-no copy_name (slice_index (copy_bases items order gap)) (copies_of items) name e)
            ∙ listed-yes own_name (λ k. first_name_address items order gap + 16 * k) (own_names items) name (own-any items name (uncopied e h) e) ∙ sym (ap (λ t. Some (pick t)) e)

    address-is : (q : ℕ) (is : IsInsn items q) → slice_index addresses q ≡ line_address items order gap q
    address-is q is = get_or_from_slice_get addresses q (line_address items order gap q) 0 (line-at q (Ins is.0) is.1)

    -- no two instructions have one address
    one-there : (p q : ℕ) → IsInsn items p → IsInsn items q → line_address items order gap p ≡ line_address items order gap q → p ≡ q
    one-there p q i j same = elim (cases_eq p q) as (λ _. p ≡ q) [
      | inl e ↦ e
      | inr other ↦
          (let begin = begins-in-units items (ordered items program.ordered) in
          let apart = (insns-laid items order gap small close begin sizes).apart p q i.0 j.0 other i.1 j.1 in
          absurd (apart 0 0 (omega arith) (omega arith) (omega (arith, same))))
    ]

    insn-found : (a : ℕ) → IsFound items (layout_of items order gap sizes) a (item_in laid a)
    insn-found a q = (is-there q, found)
      where
        is-there : (p : ℕ) → item_in laid a ≡ Some p → IsInsnAt items (layout_of items order gap sizes) a p
        is-there p e =
            let one = found-one insns addresses a p e in
            let is = insns_are.each p one.0 in
            (is, sym (address-is p is) ∙ one.1)

        found : IsInsnAt items (layout_of items order gap sizes) a q → item_in laid a ≡ Some q
        found at =
            let within = slice_get_within items q (Ins at.0.0) at.0.1 in
            let listed = insns_are.every q (omega (arith, within, length-map text.items (named text.names))) at.0 in
            let some = found-some insns addresses a q listed (address-is q at.0 ∙ at.1) in
            let there = is-there some.0 some.1 in
            some.1 ∙ ap Some (one-there some.0 q there.0 at.0 (there.1 ∙ sym at.1))

    pub is-laid : IsLaidBy items text.names (layout_of items order gap sizes) laid
    is-laid = record { labels = label-placed; count = ap length regions_are ∙ regions-count; regions = region-placed; names_at = name-placed; insns = λ q i e. line-at q (Ins i) e; found = insn-found }
