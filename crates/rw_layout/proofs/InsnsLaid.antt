-- The rule lays the instructions of a program: each in its function, one behind another, and apart from the regions.
use Rattle.std.proofs.Common.{◌≡◌, ◌≢◌, ℕ, zero, suc, ◌+◌, ◌-◌, ◌^◌, ◌<◌, ◌≤◌, Bool, true, false, cond, List, [], ◌∷◌, map, take, Some, nat_eq, nat_lt, refl, sym, ap, ◌∙◌, arith, slice_get, slice_index}
use Rattle.std.proofs.lemmas.Bool.{eqb-true, eqb-false, ltb-true, ltb-false}
use Rattle.std.proofs.lemmas.List.Sums.{sum_by-cons}
use Rattle.std.proofs.lemmas.Option.{slice_get_within}
use Rattle.x86_insn.specs.declared.instruction.Insn.{Insn}
use Rattle.asm_items.specs.declared.item.Sym.{Sym}
use Rattle.asm_items.specs.declared.item.Item.TheVariants.{TextHead, Ins, SectionHead, CountsHead, Tail}
use Rattle.asm_items.specs.Lines.{Items, DataSection, copies_of, counters_size, sections_of}
use Rattle.asm_items.specs.Layout.{AreDisjoint, AreInsnsLaid, Extent, next_place}
use Rattle.rw_layout.specs.declared.laying.Order.{Order}
use Rattle.rw_layout.specs.Rule.{behind_units, copy_extent, copy_bases, counters_base, first_address, functions_number, is_text_head, layout_of, line_address, run_bases, section_bases, unit_bases, units_of}
use Rattle.rw_layout.specs.RunRegions.{RunRegions, HasRoom, fresh_sizes, run_extents, section_extent}
use Rattle.rw_layout.proofs.Placed.{AreCrossApart, Laid, below-cross, disjoint-turned, more-laid, none-laid, wider}
use Rattle.rw_layout.proofs.UnitLines.{begun, begun-cons, begun-labels, begun-more, begun_before, in-unit, line-address, offset-apart, offset-labels, offset-more, offset_at}
use Rattle.rw_layout.proofs.PartsOrder.{AreData, AreLast, AreText, BeginsInUnits, section_unit, text-ends, none-at}
use Rattle.rw_layout.proofs.UnitSizes.{section-sized}
use Rattle.rw_layout.proofs.RegionsLaid.{IsSmall, copies-laid, counters-laid, mapped-get, one-get, section-base, section-unit, text-cross, units-end, units-laid}

-- ---- which units instructions stand in

begun-some : (items : Items) (q : ℕ) (i : Insn (Sym (List ℕ))) → BeginsInUnits items → slice_get items q ≡ Some (Ins i) → 1 ≤ begun (take q items)
begun-some [] q i is e = cc
begun-some (Ins j ∷ items) q i is e = absurd is
begun-some (TextHead ∷ items) zero i is e = cc
begun-some (TextHead ∷ items) (suc q) i is e = let one = begun-cons TextHead (take q items) in omega (arith, one)
begun-some (SectionHead n w b ∷ items) zero i is e = cc
begun-some (SectionHead n w b ∷ items) (suc q) i is e = let one = begun-cons (SectionHead n w b) (take q items) in omega (arith, one)
begun-some (CountsHead ∷ items) zero i is e = cc
begun-some (CountsHead ∷ items) (suc q) i is e = let one = begun-cons CountsHead (take q items) in omega (arith, one)
begun-some (Tail ∷ items) zero i is e = cc
begun-some (Tail ∷ items) (suc q) i is e = let one = begun-cons Tail (take q items) in omega (arith, one)
begun-some (x ∷ items) zero i is e = cc
begun-some (x ∷ items) (suc q) i is e = let one = begun-cons x (take q items) in let rest = begun-some items q i is e in omega (arith, one, rest)

no-last : (items : Items) (q : ℕ) (i : Insn (Sym (List ℕ))) → AreLast items → slice_get items q ≡ Some (Ins i) → ⊥
no-last [] q i is e = cc
no-last (TextHead ∷ items) q i is e = absurd is
no-last (Ins j ∷ items) q i is e = absurd is
no-last (SectionHead n w b ∷ items) q i is e = absurd is
no-last (CountsHead ∷ items) q i is e = absurd is
no-last (Tail ∷ items) zero i is e = cc
no-last (Tail ∷ items) (suc q) i is e = none-at items q (Ins i) is e
no-last (x ∷ items) zero i is e = cc
no-last (x ∷ items) (suc q) i is e = no-last items q i is e

no-data : (items : Items) (q : ℕ) (i : Insn (Sym (List ℕ))) → AreData items → slice_get items q ≡ Some (Ins i) → ⊥
no-data [] q i is e = cc
no-data (TextHead ∷ items) q i is e = absurd is
no-data (Ins j ∷ items) q i is e = absurd is
no-data (CountsHead ∷ items) zero i is e = cc
no-data (CountsHead ∷ items) (suc q) i is e = no-last items q i is e
no-data (Tail ∷ items) zero i is e = cc
no-data (Tail ∷ items) (suc q) i is e = none-at items q (Ins i) is e
no-data (x ∷ items) zero i is e = cc
no-data (x ∷ items) (suc q) i is e = no-data items q i is e

-- only functions begin before an instruction
begun-most : (items : Items) (q : ℕ) (i : Insn (Sym (List ℕ))) → AreText items → slice_get items q ≡ Some (Ins i) → begun (take q items) ≤ functions_number items
begun-most items zero i is e = omega arith
begun-most [] (suc q) i is e = cc
begun-most (TextHead ∷ items) (suc q) i is e =
    let one = begun-cons TextHead (take q items) in
    let head = sum_by-cons (λ x. cond (is_text_head x) 1 0) TextHead items in
    let rest = begun-most items q i is.1 e in
    omega (arith, one, head, rest)
begun-most (SectionHead n w b ∷ items) (suc q) i is e = absurd (no-data items q i is e)
begun-most (CountsHead ∷ items) (suc q) i is e = absurd (no-last items q i is e)
begun-most (Tail ∷ items) (suc q) i is e = absurd (none-at items q (Ins i) is e)
begun-most (x ∷ items) (suc q) i is e =
    let one = begun-cons x (take q items) in
    let head = sum_by-cons (λ x. cond (is_text_head x) 1 0) x items in
    let rest = begun-most items q i is.1 e in
    omega (arith, one, head, rest)

-- ---- addresses of instructions

module _ (items : Items) (order : Order) (gap : ℕ) (small : IsSmall items) (close : gap ≤ 2 ^ 20) (begin : BeginsInUnits items) where
  abbrev bases : List ℕ
  bases = unit_bases items order gap

  abbrev address : ℕ → ℕ
  address q = line_address items order gap q

  -- an instruction in the function of a number
  record IsInsnAt (q : ℕ) : Type 0 where
    number : ℕ
    begun_is : begun_before items q ≡ suc number
    function : number < functions_number items
    unit : Extent
    here : slice_get (units_of items) number ≡ Some unit
    fits : offset_at items q + 8 ≤ unit.size
    at : line_address items order gap q ≡ slice_index (unit_bases items order gap) number + offset_at items q

  insn-at : (q : ℕ) (i : Insn (Sym (List ℕ))) → slice_get items q ≡ Some (Ins i) → IsInsnAt q
  insn-at q i e =
      let some = begun-some items q i begin e in
      let most = begun-most items q i small.text e in
      let number : begun_before items q ≡ suc (begun_before items q - 1) = omega (arith, some) in
      let goes = in-unit 0 items q (Ins i) (begun_before items q - 1) (text-ends items small.text) e refl number in
      record {
        number = begun_before items q - 1;
        begun_is = number;
        function = omega (arith, some, most);
        unit = goes.unit;
        here = goes.here;
        fits = goes.fits;
        at = line-address items order gap q;
      }

  -- moves along labels keep the address
  pub address-labels : (q : ℕ) → line_address items order gap (next_place items q) ≡ line_address items order gap q
  address-labels q =
      let next = line-address items order gap (next_place items q) in
      let own = line-address items order gap q in
      let begun_same : begun_before items (next_place items q) ≡ begun_before items q = begun-labels items q in
      let offset_same : offset_at items (next_place items q) ≡ offset_at items q = offset-labels 0 items q in
      let bases_same = ap (λ n. slice_index (unit_bases items order gap) (n - 1)) begun_same in
      omega (arith, next, own, offset_same, bases_same)

  address-next : (q : ℕ) (i : Insn (Sym (List ℕ))) → slice_get items q ≡ Some (Ins i) → line_address items order gap (suc q) ≡ line_address items order gap q + 8
  address-next q i e =
      let next = line-address items order gap (suc q) in
      let own = line-address items order gap q in
      let more : begun_before items (suc q) ≡ begun_before items q = begun-more items q (Ins i) e ∙ omega arith in
      let offset : offset_at items (suc q) ≡ offset_at items q + 8 = offset-more items q (Ins i) e in
      let bases_same = ap (λ n. slice_index (unit_bases items order gap) (n - 1)) more in
      omega (arith, next, own, offset, bases_same)

  before-apart : (q p : ℕ) (i j : Insn (Sym (List ℕ))) → q < p → slice_get items q ≡ Some (Ins i) → slice_get items p ≡ Some (Ins j) → begun_before items q ≡ begun_before items p
      → line_address items order gap q + 8 ≤ line_address items order gap p
  before-apart q p i j before e f same =
      let apart = offset-apart 0 items q p (Ins i) before e refl same in
      let one = line-address items order gap q in
      let other = line-address items order gap p in
      let bases_same = ap (λ n. slice_index (unit_bases items order gap) (n - 1)) same in
      omega (arith, apart, one, other, bases_same)

  insns-apart : (q p : ℕ) (i j : Insn (Sym (List ℕ))) → q ≢ p → slice_get items q ≡ Some (Ins i) → slice_get items p ≡ Some (Ins j)
      → AreDisjoint (line_address items order gap q) 8 (line_address items order gap p) 8
  insns-apart q p i j other e f = by_unit (nat_eq (begun_before items q) (begun_before items p)) refl (nat_lt q p) refl
    where
      by_unit : (t : Bool) → nat_eq (begun_before items q) (begun_before items p) ≡ t → (u : Bool) → nat_lt q p ≡ u → AreDisjoint (line_address items order gap q) 8 (line_address items order gap p) 8
      by_unit true g true h o r low high same =
          let apart = before-apart q p i j (ltb-true q p h) e f (eqb-true (begun_before items q) (begun_before items p) g) in
          omega (arith, apart, low, high, same)
      by_unit true g false h o r low high same =
          let not_below = ltb-false q p h in
          let below : p < q = omega (arith, not_below, other) in
          let apart = before-apart p q j i below f e (sym (eqb-true (begun_before items q) (begun_before items p) g)) in
          omega (arith, apart, low, high, same)
      by_unit false g u h o r low high same =
          let one = insn-at q i e in
          let two = insn-at p j f in
          let differ : begun_before items q ≢ begun_before items p = eqb-false (begun_before items q) (begun_before items p) g in
          let is = units-laid items order gap small close in
          is.apart one.number two.number one.unit two.unit
          (λ z. differ (one.begun_is ∙ ap suc z ∙ sym two.begun_is)) one.here two.here
          (offset_at items q + o) (offset_at items p + r) (omega (arith, one.fits, low)) (omega (arith, two.fits, high)) (omega (arith, one.at, two.at, same))

  pub insns-laid : (sizes : List ℕ) → AreInsnsLaid items (layout_of items order gap sizes)
  insns-laid sizes = record {
    sizes = λ q i e. (omega arith, omega arith);
    bounds = λ q i e. bounds q i e;
    consecutive = λ q i j e f. address-labels (suc q) ∙ address-next q i e;
    apart = insns-apart;
  }
    where
      bounds : (q : ℕ) (i : Insn (Sym (List ℕ))) → slice_get items q ≡ Some (Ins i) → (4096 ≤ line_address items order gap q) × (line_address items order gap q + 8 ≤ 2 ^ 47)
      bounds q i e =
          let one = insn-at q i e in
          let is = units-laid items order gap small close in
          let least = is.least one.number one.unit one.here in
          let most = is.most one.number one.unit one.here in
          let end = units-end items order gap small close in
          (omega (arith, one.at, least), omega (arith, one.at, most, one.fits, end))

  -- ---- apart from the regions

  abbrev insn_extent : Extent
  insn_extent = record { size = 8; align = 1 }

  insn-laid : (q : ℕ) (i : Insn (Sym (List ℕ))) → slice_get items q ≡ Some (Ins i) → Laid (insn_extent ∷ []) (line_address items order gap q ∷ []) first_address (behind_units items order gap)
  insn-laid q i e =
      let one = insn-at q i e in
      let is = units-laid items order gap small close in
      let least = is.least one.number one.unit one.here in
      let most = is.most one.number one.unit one.here in
      more-laid insn_extent (line_address items order gap q) [] [] first_address (behind_units items order gap) (behind_units items order gap)
      (omega (arith, one.at, least)) (omega (arith, one.at, most, one.fits)) (omega arith) (omega arith) (none-laid (behind_units items order gap) (behind_units items order gap))

  sections-cross : (q : ℕ) (i : Insn (Sym (List ℕ))) → slice_get items q ≡ Some (Ins i)
      → AreCrossApart (insn_extent ∷ []) (line_address items order gap q ∷ []) (map section_extent (sections_of items)) (section_bases items order gap)
  sections-cross q i e = record { cross = λ r s a b f g. apart r s a b (one-get insn_extent r a f) (mapped-get section_extent (sections_of items) s b g) }
    where
      apart : (r s : ℕ) (a b : Extent) → (r ≡ 0) × (insn_extent ≡ a) → (x : DataSection) × (slice_get (sections_of items) s ≡ Some x) × (section_extent x ≡ b)
          → AreDisjoint (slice_index (line_address items order gap q ∷ []) r) a.size (slice_index (section_bases items order gap) s) b.size
      apart r s a b one found o p low high same =
          let own = insn-at q i e in
          let at : slice_index (line_address items order gap q ∷ []) r ≡ line_address items order gap q = ap (slice_index (line_address items order gap q ∷ [])) one.0 in
          let size = ap (λ x. x.size) one.1 in
          let inside = slice_get_within (sections_of items) s found.0 found.1 in
          let base = section-base items order gap small close s inside in
          let sized = section-sized items small.text s found.0 found.1 in
          let its = ap (λ x. x.size) found.2 in
          let is = units-laid items order gap small close in
          let differ : own.number ≢ functions_number items + s = λ z. omega (arith, z, own.function) in
          is.apart own.number (functions_number items + s) own.unit (section_unit found.0) differ own.here (section-unit items order gap small close s found.0 found.1)
          (offset_at items q + o) p (omega (arith, own.fits, low, size)) (omega (arith, high, its, sized)) (omega (arith, own.at, same, at, base))

  counters-cross : (q : ℕ) (i : Insn (Sym (List ℕ))) → slice_get items q ≡ Some (Ins i)
      → AreCrossApart (insn_extent ∷ []) (line_address items order gap q ∷ []) (record { size = counters_size items; align = 8 } ∷ []) (counters_base items order gap ∷ [])
  counters-cross q i e = record { cross = λ r s a b f g. apart r s a b (one-get insn_extent r a f) (one-get (record { size = counters_size items; align = 8 }) s b g) }
    where
      apart : (r s : ℕ) (a b : Extent) → (r ≡ 0) × (insn_extent ≡ a) → (s ≡ 0) × (record { size = counters_size items; align = 8 } ≡ b)
          → AreDisjoint (slice_index (line_address items order gap q ∷ []) r) a.size (slice_index (counters_base items order gap ∷ []) s) b.size
      apart r s a b one two o p low high same =
          let own = insn-at q i e in
          let at : slice_index (line_address items order gap q ∷ []) r ≡ line_address items order gap q = ap (slice_index (line_address items order gap q ∷ [])) one.0 in
          let its : slice_index (counters_base items order gap ∷ []) s ≡ counters_base items order gap = ap (slice_index (counters_base items order gap ∷ [])) two.0 in
          let size = ap (λ x. x.size) one.1 in
          let more = ap (λ x. x.size) two.1 in
          let is = counters-laid items order gap small close in
          is.other own.number own.unit (omega (arith, own.function)) own.here
          (offset_at items q + o) p (omega (arith, own.fits, low, size)) (omega (arith, high, more)) (omega (arith, own.at, same, at, its))

  pub insn-cross : (run : RunRegions) → HasRoom run → (q : ℕ) (i : Insn (Sym (List ℕ))) → slice_get items q ≡ Some (Ins i)
      → AreCrossApart (insn_extent ∷ []) (line_address items order gap q ∷ []) (run_extents items run) (run_bases items order gap (fresh_sizes run))
  insn-cross run room q i e =
      let end = units-end items order gap small close in
      let is = insn-laid q i e in
      text-cross items order gap small close run room (insn_extent ∷ []) (line_address items order gap q ∷ [])
      (wider _ _ first_address (behind_units items order gap) first_address (2 ^ 45) is (omega arith) (omega (arith, end)))
      (sections-cross q i e)
      (below-cross _ _ (map copy_extent (copies_of items)) (copy_bases items order gap) first_address (behind_units items order gap) (behind_units items order gap) _ is (copies-laid items order gap small close) (omega arith))
      (counters-cross q i e)

  -- no byte of a region is in an instruction
  pub region-apart : (run : RunRegions) → HasRoom run → (r q : ℕ) (a : Extent) (i : Insn (Sym (List ℕ))) → slice_get (run_extents items run) r ≡ Some a → slice_get items q ≡ Some (Ins i)
      → AreDisjoint (slice_index (run_bases items order gap (fresh_sizes run)) r) a.size (line_address items order gap q) 8
  region-apart run room r q a i f e =
      let cross = insn-cross run room q i e in
      disjoint-turned (line_address items order gap q) 8 (slice_index (run_bases items order gap (fresh_sizes run)) r) a.size (cross.cross 0 r insn_extent a refl f)

  -- the bytes of an instruction lie among the units
  pub insn-within : (q : ℕ) (i : Insn (Sym (List ℕ))) → slice_get items q ≡ Some (Ins i) → (first_address ≤ line_address items order gap q) × (line_address items order gap q + 8 ≤ behind_units items order gap)
  insn-within q i e = let is = insn-laid q i e in (is.least 0 insn_extent refl, is.most 0 insn_extent refl)
